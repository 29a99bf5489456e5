-- Why the program refuses.
use Rattle.std.specs.Prelude.{ℕ}
use Rattle.step_core.specs.declared.event.RunError.{RunError}
use Rattle.step_core.specs.declared.event.RunError.TheVariants as run
use Rattle.bw_shell.specs.declared.refusal.Refusal.{Refusal}
use Rattle.bw_shell.specs.declared.refusal.Refusal.TheVariants.{TooLong, BadLimits, NoActor, Unfinished, NoOperation, Memory, NotClosed, Malformed, NotOpened, NotRun, WrongResults}

-- the number that is printed for a refusal
abbrev pub code_of : Refusal → ℕ
code_of TooLong = 1
code_of BadLimits = 2
code_of NoActor = 4
code_of Unfinished = 5
code_of NoOperation = 6
code_of Memory = 7
code_of NotClosed = 10
code_of Malformed = 11
code_of NotOpened = 12
code_of NotRun = 14
code_of WrongResults = 15

-- what the core's refusal of a turn is to its line
abbrev pub refusal_by : RunError → Refusal
refusal_by (run.NoActor n) = NoActor
refusal_by (run.Unfinished n) = Unfinished
refusal_by (run.NoOperation n) = NoOperation
refusal_by (run.Memory n) = Memory
