-- What the example runs share: a key, records, and stretches of entries.
use Rattle.std.specs.Prelude.{codes, ℕ, zero, suc, List, [], ◌∷◌, true, None}
use Rattle.bw_model.specs.declared.command.Command.{Command}
use Rattle.bw_model.specs.declared.command.Command.TheVariants.{Get}
use Rattle.bw_model.specs.declared.step.Step.TheVariants.{Slot, Row, Epoch, Place, Exchange, TakePid, TakeRow, Enter}
use Rattle.bw_model.specs.declared.step.Answer.TheVariants.{Number, Content, Whether, Done}
use Rattle.deltas.specs.declared.record.Record.{Record}
use Rattle.deltas.specs.declared.record.Record.TheVariants as delta
use Rattle.traces.specs.declared.trace.Entry.{Entry}
use Rattle.traces.specs.declared.trace.Entry.TheVariants.{Begin, Step}
use Rattle.traces.specs.discipline.Discipline.{root_over}

abbrev pub a : List ℕ
a = codes "a"

abbrev pub get_a : Command
get_a = Get a

abbrev pub root_a : Record
root_a = root_over 1 1 a 2

abbrev pub hold_a : Record
hold_a = delta.Hold (record { level = 1; next = 5; separator = a; child = 2 })

abbrev pub remove_a : Record
remove_a = delta.Remove (record { level = 0; next = 3 })

-- an actor begins, reads the epoch, and enters
abbrev pub enters : ℕ → Command → List Entry
enters actor command = Begin actor command ∷ Step actor Epoch (Number 1) None ∷ Step actor (Enter 1) Done None ∷ []

-- the first actor takes n rows, from this one on
abbrev pub takes_rows : ℕ → ℕ → List Entry
takes_rows zero first = []
takes_rows (suc n) first = Step 0 (TakeRow first) (Whether true) None ∷ takes_rows n (suc first)

-- and places these records in rows, from this one on
abbrev pub places : ℕ → List Record → List Entry
places first [] = []
places first (content ∷ contents) = Step 0 (Place first content) Done None ∷ places (suc first) contents

-- It makes a root over the first leaf and its right, and reads it.
abbrev pub roots : List Entry
roots = Step 0 (TakePid 3) (Whether true) None
    ∷ Step 0 (Exchange 3 0 5) (Whether true) None
    ∷ Step 0 (Exchange 0 1 3) (Whether true) None
    ∷ Step 0 (Slot 0) (Number 3) None
    ∷ Step 0 (Slot 3) (Number 5) None
    ∷ Step 0 (Row 5) (Content root_a) None
    ∷ []
