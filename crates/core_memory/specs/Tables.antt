-- The shared memory as a program keeps it: numbers and records by place, free bits in words.
use Rattle.std.specs.Prelude.{◌≡◌, ◌<◌, ◌+◌, ◌*◌, ◌/◌, ◌%◌, ◌^◌, ◌==◌, ℕ, List, Bool, Option, None, IsSome, length, slice_index, slice_index_or}
use Rattle.std.specs.Int.{bit_at}
use Rattle.tree_limits.specs.declared.limits.Limits.{Limits}
use Rattle.bw_model.specs.declared.step.Step.{Step}
use Rattle.bw_model.specs.declared.step.Step.TheVariants.{Slot, Row, Epoch, Announce, PidBits, RowBits, Place, Exchange, TakePid, TakeRow, Enter, Leave, Retire, ReusePids, ReuseRows}
use Rattle.deltas.specs.declared.record.Record.{Record}
use Rattle.deltas.specs.Memory.{Memory}

-- a row in which nothing was placed has no record
pub record CoreTable : Type 0 where
  pub limits : Limits
  pub slots : List ℕ
  pub rows : List (Option Record)
  pub pid_bits : List ℕ
  pub row_bits : List ℕ
  pub epoch : ℕ
  pub announced : List ℕ

-- number n is bit n % 64 of word n / 64
abbrev pub is_bit_set : List ℕ → ℕ → Bool
is_bit_set words n = bit_at (slice_index words (n / 64)) (n % 64) == 1

-- the memory that the table has; what has no place is 0, or none
abbrev pub memory_in : CoreTable → Memory
memory_in table = record {
  slots = λ pid. slice_index table.slots pid;
  rows = λ row. slice_index_or table.rows row None;
  free_pids = λ pid. is_bit_set table.pid_bits pid;
  free_rows = λ row. is_bit_set table.row_bits row;
  epoch = table.epoch;
  announced = λ actor. slice_index table.announced actor;
}

-- There is a place for each number below the limits.
pub record HasPlaces (table : CoreTable) : Type 0 where
  pub slots : length table.slots ≡ table.limits.pids
  pub rows : length table.rows ≡ table.limits.rows
  pub pid_bits : 64 * length table.pid_bits ≡ table.limits.pids
  pub row_bits : 64 * length table.row_bits ≡ table.limits.rows
  pub announced : length table.announced ≡ table.limits.actors

-- The actor's step names numbers that have places, and reads a row only where a record was placed.
abbrev pub IsWithinTable : CoreTable → ℕ → Step Record → Type 0
IsWithinTable table actor (Slot pid) = pid < table.limits.pids
IsWithinTable table actor (Row row) = IsSome ((memory_in table).rows row)
IsWithinTable table actor Epoch = Unit {0}
IsWithinTable table actor (Announce other) = other < table.limits.actors
IsWithinTable table actor (PidBits word) = 64 * word < table.limits.pids
IsWithinTable table actor (RowBits word) = 64 * word < table.limits.rows
IsWithinTable table actor (Place row content) = row < table.limits.rows
IsWithinTable table actor (Exchange slot old new) = slot < table.limits.pids
IsWithinTable table actor (TakePid pid) = pid < table.limits.pids
IsWithinTable table actor (TakeRow row) = row < table.limits.rows
IsWithinTable table actor (Enter epoch) = actor < table.limits.actors
IsWithinTable table actor Leave = actor < table.limits.actors
IsWithinTable table actor (Retire epoch) = epoch + 1 < 2 ^ 64
IsWithinTable table actor (ReusePids word bits) = 64 * word < table.limits.pids
IsWithinTable table actor (ReuseRows word bits) = 64 * word < table.limits.rows
