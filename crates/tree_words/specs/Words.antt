-- The words that spell a memory.
use Rattle.std.specs.Prelude.{◌≡◌, ◌<◌, ◌/◌, ℕ, if◌then◌else◌, List, length, slice_index, Option, None, Some, replicate, ⊤}
use Rattle.tree_limits.specs.declared.limits.Limits.{Limits}
use Rattle.tree_limits.specs.Limits.{most_large_actors}
use Rattle.deltas.specs.declared.record.Record.{Record}
use Rattle.deltas.specs.Memory.{Memory}
use Rattle.traces.specs.trace.Steps.{IsWordOf}
use Rattle.record_slots.specs.Layout.{row_size}
use Rattle.record_slots.specs.Spelling.{words_of}
use Rattle.compact_rows.specs.Spelling.{compact_words}
use Rattle.tree_words.specs.Layout.{slot_at, pid_bits_at, row_bits_at, epoch_at, announced_at, row_at, width, width_of, IsPad}

-- the words that a record has in a row of the tree: a large tree has compact rows
abbrev pub stored : Limits → Record → List ℕ
stored limits content = if limits.is_large then compact_words content else words_of content

-- the words of a row: all 0 where nothing was placed in it
abbrev pub words_in : Limits → Option Record → List ℕ
words_in limits None = replicate row_size 0
words_in limits (Some content) = stored limits content

-- how many words of a row say something: of a compact one no more than its record uses
abbrev pub used_in : Limits → Option Record → ℕ
used_in limits None = row_size
used_in limits (Some content) = if limits.is_large then length (compact_words content) else row_size

-- The words have the memory's numbers, its free bits, and the spellings of its records in the rows that are settled; each part
-- has words of its own, and the words between the parts are 0.
pub record SpellsWhere (limits : Limits) (words : List ℕ) (memory : Memory) (settled : ℕ → Type 0) : Type 0 where
  pub slots : (pid : ℕ) → pid < limits.pids → slice_index words (slot_at limits pid) ≡ memory.slots pid
  pub pid_bits : (word : ℕ) → word < limits.pids / 64 → IsWordOf memory.free_pids word (slice_index words (pid_bits_at limits word))
  pub row_bits : (word : ℕ) → word < limits.rows / 64 → IsWordOf memory.free_rows word (slice_index words (row_bits_at limits word))
  pub epoch : slice_index words epoch_at ≡ memory.epoch
  pub announced : (actor : ℕ) → actor < most_large_actors → slice_index words (announced_at actor) ≡ memory.announced actor
  pub pads : (i : ℕ) → IsPad i → slice_index words i ≡ 0
  pub rows : (row j : ℕ) → row < limits.rows → j < width_of limits row → j < used_in limits (memory.rows row) → settled row
      → slice_index words (row_at limits row j) ≡ slice_index (words_in limits (memory.rows row)) j

-- These are the words of the memory: one row of words for each memory.
pub record AreWordsOf (limits : Limits) (memory : Memory) (words : List ℕ) : Type 0 where
  pub wide : length words ≡ width limits
  pub spells : SpellsWhere limits words memory (λ row. ⊤)
