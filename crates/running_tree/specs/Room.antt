-- How many numbers are free in a running tree, as the run that a seat has seen tells of them.
use Rattle.std.specs.Prelude.{◌≡◌, ℕ, suc, ◌+◌, ◌*◌, ◌/◌, Bool, List}
use Rattle.bw_model.specs.declared.step.Step.{Step as StepOf}
use Rattle.bw_model.specs.declared.step.Step.TheVariants.{PidBits, RowBits}
use Rattle.deltas.specs.declared.record.Record.{Record}
use Rattle.deltas.specs.Memory.{Memory, how_many}
use Rattle.traces.specs.declared.trace.Entry.{Entry}
use Rattle.traces.specs.discipline.Disciplined.{Extends}
use Rattle.traces.specs.trace.Trace.{memory_of}
use Rattle.tree_limits.specs.declared.limits.Limits.{Limits}
use Rattle.running_tree.specs.Seats.{Seat, unfinished_command}
use Rattle.change_machine.specs.declared.taking.Kind.{Kind}
use Rattle.change_machine.specs.declared.taking.Kind.TheVariants.{Pid, Row}
use Rattle.running_tree.specs.declared.room.Room.{Room}

-- whether a number of the kind is free in a memory
abbrev pub is_free : Kind → Memory → ℕ → Bool
is_free Pid memory = memory.free_pids
is_free Row memory = memory.free_rows

-- the step that reads a word of free bits
abbrev pub bits_step : Kind → ℕ → StepOf Record
bits_step Pid word = PidBits word
bits_step Row word = RowBits word

-- Of the 64 numbers of a word, so many are free in the memory after the run that the seat has seen now. That run goes on from what it had seen
-- by steps of others alone.
pub record HasWatched (kind : Kind) (word : ℕ) (old new : Seat) (count : ℕ) : Type 0 where
  pub extends : Extends old.actor old.seen new.seen
  pub counted : count ≡ how_many (λ bit. is_free kind (memory_of old.limits new.seen) (64 * word + bit)) 64

-- so many numbers are free, each in the memory after the run at which its word was read
abbrev pub free_among : Limits → Kind → (ℕ → List Entry) → ℕ → ℕ
free_among limits kind run_at n = how_many (λ number. is_free kind (memory_of limits (run_at (number / 64))) number) n

-- The free numbers below n were counted by words of 64, each of which was read once, after a run of its own. The first of these runs goes on
-- from what was seen, each other one from that of the word before, and the last run from each of them: all by steps of others alone.
pub record HasCounted (limits : Limits) (actor : ℕ) (kind : Kind) (n : ℕ) (seen later : List Entry) (count : ℕ) : Type 0 where
  pub run_at : ℕ → List Entry
  pub first : Extends actor seen (run_at 0)
  pub next : (word : ℕ) → Extends actor (run_at word) (run_at (suc word))
  pub last : (word : ℕ) → Extends actor (run_at word) later
  pub counted : count ≡ free_among limits kind run_at n

-- All free PIDs were counted, and then all free rows. The seat has taken no step, and its operation, if it has one, is as it was.
pub record HasSeenRoom (old : Seat) (room : Room) (new : Seat) : Type 0 where
  pub between : List Entry
  pub pids : HasCounted old.limits old.actor Pid old.limits.pids old.seen between room.free_pids
  pub rows : HasCounted old.limits old.actor Row old.limits.rows between new.seen room.free_rows
  pub extends : Extends old.actor old.seen new.seen
  pub command : unfinished_command new ≡ unfinished_command old
