-- What each step answers, and what memory it leaves.
use Rattle.std.specs.Prelude.{◌≡◌, ◌<◌, ◌+◌, ◌*◌, ◌^◌, ◌==◌, ◌||◌, ℕ, Bool, false, if◌then◌else◌, Some, ⊤}
use Rattle.std.specs.Int.{bit_at}
use Rattle.tree_limits.specs.Words.{is_among}
use Rattle.bw_model.specs.declared.step.Step.{Step}
use Rattle.bw_model.specs.declared.step.Step.TheVariants.{Slot, Row, Epoch, Announce, PidBits, RowBits, Place, Exchange, TakePid, TakeRow, Enter, Leave, Retire, ReusePids, ReuseRows}
use Rattle.bw_model.specs.declared.step.Answer.{Answer}
use Rattle.bw_model.specs.declared.step.Answer.TheVariants.{Number, Content, Whether, Done}
use Rattle.deltas.specs.declared.record.Record.{Record}
use Rattle.deltas.specs.Memory.{Memory, replaced_at}

-- Bit i of the word says whether number 64 * word + i is free.
pub record IsWordOf (free : ℕ → Bool) (word bits : ℕ) : Type 0 where
  pub fits : bits < 2 ^ 64
  pub says : (i : ℕ) → i < 64 → bit_at bits i ≡ (if free (64 * word + i) then 1 else 0)

-- The step places a record, or reads one.
abbrev pub MovesRecord : Step Record → Type 0
MovesRecord (Place row content) = ⊤
MovesRecord (Row row) = ⊤
MovesRecord step = ⊥

abbrev pub IsAnswer : Memory → Step Record → Answer Record → Type 0
IsAnswer memory (Slot pid) answer = answer ≡ Number (memory.slots pid)
IsAnswer memory (Row row) answer = (content : Record) × (memory.rows row ≡ Some content) × (answer ≡ Content content)
IsAnswer memory Epoch answer = answer ≡ Number memory.epoch
IsAnswer memory (Announce actor) answer = answer ≡ Number (memory.announced actor)
IsAnswer memory (PidBits word) answer = (bits : ℕ) × IsWordOf memory.free_pids word bits × (answer ≡ Number bits)
IsAnswer memory (RowBits word) answer = (bits : ℕ) × IsWordOf memory.free_rows word bits × (answer ≡ Number bits)
IsAnswer memory (Place row content) answer = answer ≡ Done
IsAnswer memory (Exchange slot old new) answer = answer ≡ Whether (memory.slots slot == old)
IsAnswer memory (TakePid pid) answer = answer ≡ Whether (memory.free_pids pid)
IsAnswer memory (TakeRow row) answer = answer ≡ Whether (memory.free_rows row)
IsAnswer memory (Enter epoch) answer = answer ≡ Done
IsAnswer memory Leave answer = answer ≡ Done
IsAnswer memory (Retire epoch) answer = answer ≡ Whether (memory.epoch == epoch)
IsAnswer memory (ReusePids word bits) answer = answer ≡ Done
IsAnswer memory (ReuseRows word bits) answer = answer ≡ Done

-- the memory after an actor's step
abbrev pub memory_after : ℕ → Step Record → Memory → Memory
memory_after actor (Slot pid) memory = memory
memory_after actor (Row row) memory = memory
memory_after actor Epoch memory = memory
memory_after actor (Announce other) memory = memory
memory_after actor (PidBits word) memory = memory
memory_after actor (RowBits word) memory = memory
memory_after actor (Place row content) memory = record memory { rows = replaced_at row (Some content) memory.rows }
memory_after actor (Exchange slot old new) memory = record memory { slots = if memory.slots slot == old then replaced_at slot new memory.slots else memory.slots }
memory_after actor (TakePid pid) memory = record memory { free_pids = replaced_at pid false memory.free_pids }
memory_after actor (TakeRow row) memory = record memory { free_rows = replaced_at row false memory.free_rows }
memory_after actor (Enter epoch) memory = record memory { announced = replaced_at actor epoch memory.announced }
memory_after actor Leave memory = record memory { announced = replaced_at actor 0 memory.announced }
memory_after actor (Retire epoch) memory = record memory { epoch = if memory.epoch == epoch then epoch + 1 else memory.epoch }
memory_after actor (ReusePids word bits) memory = record memory { free_pids = λ pid. memory.free_pids pid || is_among word bits pid }
memory_after actor (ReuseRows word bits) memory = record memory { free_rows = λ row. memory.free_rows row || is_among word bits row }
