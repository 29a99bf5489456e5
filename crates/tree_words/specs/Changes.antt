-- The steps that are one atomic operation on a word: which word that is, what it says, and what the step leaves in it.
use Rattle.std.specs.Prelude.{◌≡◌, ◌≢◌, ◌<◌, ℕ, ◌+◌, ◌/◌, ◌%◌, ◌^◌, ◌==◌, ⊤, not, if◌then◌else◌, List, length, slice_index, slice_set, bit_and, bit_or}
use Rattle.std.specs.Int.{bit_not, w64}
use Rattle.tree_limits.specs.declared.limits.Limits.{Limits}
use Rattle.tree_limits.specs.Limits.{most_large_actors}
use Rattle.bw_model.specs.declared.step.Answer.{Answer}
use Rattle.bw_model.specs.declared.step.Answer.TheVariants.{Number, Whether, Done}
use Rattle.bw_model.specs.declared.step.Step.{Step}
use Rattle.bw_model.specs.declared.step.Step.TheVariants.{Slot, Row, Epoch, Announce, PidBits, RowBits, Place, Exchange, TakePid, TakeRow, Enter, Leave, Retire, ReusePids, ReuseRows}
use Rattle.deltas.specs.declared.record.Record.{Record}
use Rattle.deltas.specs.Memory.{Memory}
use Rattle.traces.specs.trace.Steps.{IsAnswer, memory_after}
use Rattle.tree_words.specs.Layout.{slot_at, pid_bits_at, row_bits_at, epoch_at, announced_at, row_at, width, width_of}
use Rattle.tree_words.specs.Words.{SpellsWhere}
use Rattle.tree_words.specs.declared.operations.Operation.{Operation}
use Rattle.tree_words.specs.declared.operations.Operation.TheVariants as operation
use Rattle.tree_words.specs.declared.operations.Operation.TheVariants.{Load, Store, And, Or}

-- a step that is one atomic operation on a word, and has one
abbrev pub HasWord : Limits → Step Record → Type 0
HasWord limits (Slot pid) = pid < limits.pids
HasWord limits (Row row) = ⊥
HasWord limits Epoch = ⊤
HasWord limits (Announce actor) = actor < most_large_actors
HasWord limits (PidBits word) = word < limits.pids / 64
HasWord limits (RowBits word) = word < limits.rows / 64
HasWord limits (Place row content) = ⊥
HasWord limits (Exchange slot old new) = slot < limits.pids
HasWord limits (TakePid pid) = pid < limits.pids
HasWord limits (TakeRow row) = row < limits.rows
HasWord limits (Enter epoch) = ⊤
HasWord limits Leave = ⊤
HasWord limits (Retire epoch) = epoch < 2 ^ 62
HasWord limits (ReusePids word bits) = word < limits.pids / 64
HasWord limits (ReuseRows word bits) = word < limits.rows / 64

-- the bits that a step sets are those of one word
abbrev pub SetsBits : Step Record → Type 0
SetsBits (ReusePids word bits) = bits < 2 ^ 64
SetsBits (ReuseRows word bits) = bits < 2 ^ 64
SetsBits _ = ⊤

-- The place of the word of an actor's step. A record has no one word, but a row of them, from here on.
abbrev pub changed_word : Limits → ℕ → Step Record → ℕ
changed_word limits actor (Slot pid) = slot_at limits pid
changed_word limits actor (Row row) = row_at limits row 0
changed_word limits actor Epoch = epoch_at
changed_word limits actor (Announce other) = announced_at other
changed_word limits actor (PidBits word) = pid_bits_at limits word
changed_word limits actor (RowBits word) = row_bits_at limits word
changed_word limits actor (Place row content) = row_at limits row 0
changed_word limits actor (Exchange slot old new) = slot_at limits slot
changed_word limits actor (TakePid pid) = pid_bits_at limits (pid / 64)
changed_word limits actor (TakeRow row) = row_bits_at limits (row / 64)
changed_word limits actor (Enter epoch) = announced_at actor
changed_word limits actor Leave = announced_at actor
changed_word limits actor (Retire epoch) = epoch_at
changed_word limits actor (ReusePids word bits) = pid_bits_at limits word
changed_word limits actor (ReuseRows word bits) = row_bits_at limits word

-- the number that such a step found in its word, as its answer
abbrev pub answer_by : Step Record → ℕ → Answer Record
answer_by (Exchange slot old new) found = Whether (found == old)
answer_by (TakePid pid) found = Whether (not (bit_and found (2 ^ (pid % 64)) == 0))
answer_by (TakeRow row) found = Whether (not (bit_and found (2 ^ (row % 64)) == 0))
answer_by (Retire epoch) found = Whether (found == epoch)
answer_by (Enter epoch) found = Done
answer_by Leave found = Done
answer_by (Place row content) found = Done
answer_by (ReusePids word bits) found = Done
answer_by (ReuseRows word bits) found = Done
answer_by _ found = Number found

-- what the step leaves there
abbrev pub word_after : Step Record → ℕ → ℕ
word_after (Exchange slot old new) found = if found == old then new else found
word_after (TakePid pid) found = bit_and found (bit_not w64 (2 ^ (pid % 64)))
word_after (TakeRow row) found = bit_and found (bit_not w64 (2 ^ (row % 64)))
word_after (Enter epoch) found = epoch
word_after Leave found = 0
word_after (Retire epoch) found = if found == epoch then epoch + 1 else found
word_after (ReusePids word bits) found = bit_or found bits
word_after (ReuseRows word bits) found = bit_or found bits
word_after _ found = found

-- what an atomic operation leaves of the number that it finds
abbrev pub left_by : Operation → ℕ → ℕ
left_by Load found = found
left_by (Store word) found = word
left_by (operation.Exchange old new) found = if found == old then new else found
left_by (And bits) found = bit_and found bits
left_by (Or bits) found = bit_or found bits

-- the one atomic operation that a step is
abbrev pub operation_of : Step Record → Operation
operation_of (Exchange slot old new) = operation.Exchange old new
operation_of (TakePid pid) = And (bit_not w64 (2 ^ (pid % 64)))
operation_of (TakeRow row) = And (bit_not w64 (2 ^ (row % 64)))
operation_of (Enter epoch) = Store epoch
operation_of Leave = Store 0
operation_of (Retire epoch) = operation.Exchange epoch (epoch + 1)
operation_of (ReusePids word bits) = Or bits
operation_of (ReuseRows word bits) = Or bits
operation_of _ = Load

-- The operation that a step is leaves in the word what the step leaves there.
abbrev pub OperationsLeaveWords : Type 0
OperationsLeaveWords = (step : Step Record) (found : ℕ) → left_by (operation_of step) found ≡ word_after step found

-- A step that is a store tells nothing of what it finds.
abbrev pub TellsNothing : Step Record → Operation → Type 0
TellsNothing step (Store word) = (found : ℕ) → answer_by step found ≡ Done
TellsNothing step _ = ⊤

abbrev pub StoresTellNothing : Type 0
StoresTellNothing = (step : Step Record) → TellsNothing step (operation_of step)

-- the words once the step has changed its word
abbrev pub words_after : Limits → ℕ → Step Record → List ℕ → List ℕ
words_after limits actor step words = slice_set words (changed_word limits actor step) (word_after step (slice_index words (changed_word limits actor step)))

-- The words are those of the memory, but for the rows.
abbrev pub SpellsParts : Limits → List ℕ → Memory → Type 0
SpellsParts limits words memory = SpellsWhere limits words memory (λ row. ⊥)

-- Its word has the memory's answer, and once it is changed, the words are those of the memory after the step. No record is placed.
pub record ChangesOneWord (limits : Limits) (words : List ℕ) (memory : Memory) (actor : ℕ) (step : Step Record) : Type 0 where
  pub answers : IsAnswer memory step (answer_by step (slice_index words (changed_word limits actor step)))
  pub spells : SpellsParts limits (words_after limits actor step words) (memory_after actor step memory)
  pub records : (memory_after actor step memory).rows ≡ memory.rows

-- So does each such step, wherever the words are the memory's.
abbrev pub StepsChangeOneWord : Type 0
StepsChangeOneWord = (limits : Limits) (words : List ℕ) (memory : Memory) (actor : ℕ) (step : Step Record) → length words ≡ width limits → SpellsParts limits words memory
    → actor < most_large_actors → HasWord limits step → SetsBits step → ChangesOneWord limits words memory actor step

-- Each such step has a word that is there, and is none of a row.
pub record HasOwnWord (limits : Limits) (actor : ℕ) (step : Step Record) : Type 0 where
  pub there : changed_word limits actor step < width limits
  pub apart : (row j : ℕ) → row < limits.rows → j < width_of limits row → changed_word limits actor step ≢ row_at limits row j

abbrev pub WordsStandApart : Type 0
WordsStandApart = (limits : Limits) (actor : ℕ) (step : Step Record) → actor < most_large_actors → HasWord limits step → HasOwnWord limits actor step
