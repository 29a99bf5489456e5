-- What an operation has read, each at one of its own steps: the chains of pages, and leaves that stood.
use Rattle.std.specs.Prelude.{◌≡◌, ◌<◌, ℕ, List, [], length, Option, Some, IsTrue, take, true, false}
use Rattle.std.specs.List.{Contains}
use Rattle.tree_limits.specs.declared.limits.Limits.{Limits}
use Rattle.bw_model.specs.declared.step.Answer.TheVariants.{Number}
use Rattle.bw_model.specs.declared.step.Step.TheVariants.{Slot}
use Rattle.base_page.specs.declared.item.Content.TheVariants.{Value}
use Rattle.deltas.specs.declared.record.Record.{Record}
use Rattle.deltas.specs.Memory.{Memory}
use Rattle.traces.specs.declared.trace.Entry.{Entry}
use Rattle.traces.specs.chain.Chains.{IsChainFrom, IsChainOf, content_in, covers, is_removed, level_in, low_in, right_in}
use Rattle.traces.specs.discipline.Knowledge.{Readings}
use Rattle.traces.specs.chain.SideChain.{LivePage, IsLeaves, Spells}
use Rattle.traces.specs.trace.Trace.{command_of, memory_at}
use Rattle.linearization.specs.Operations.{Operation, IsOwnStep, TakesOwnStep}

-- The page is a leaf of the memory with this chain, and no other leaf has a key of its range; only page 1 begins at the empty key.
pub record IsLeafWith (memory : Memory) (page : LivePage) : Type 0 where
  pub leaves : List LivePage
  pub are : IsLeaves memory leaves
  pub among : Contains leaves page
  pub only : (key value : List ℕ) → IsTrue (covers page.chain key) → Spells memory key value → content_in page.chain key ≡ Some (Value value)
  pub first : low_in page.chain ≡ [] → page.pid ≡ 1

-- The page was such a leaf at an own step of the operation.
pub record WasLeafWith (limits : Limits) (entries : List Entry) (operation : Operation) (page : LivePage) : Type 0 where
  pub step : ℕ
  pub own : IsOwnStep entries operation step
  pub asked : command_of (take step entries) operation.actor ≡ Some operation.command
  pub stood : IsLeafWith (memory_at limits entries step) page

-- At an own step before this one the operation read the page's slot as this row, which then had this chain.
pub record WasRead (limits : Limits) (entries : List Entry) (operation : Operation) (n page row : ℕ) (chain : List Record) : Type 0 where
  pub step : ℕ
  pub before : step < n
  pub own : TakesOwnStep entries operation step (Slot page) (Number row)
  pub stood : IsChainOf (memory_at limits entries step) page chain

-- Before the step the operation read each page's slot as its head here, from which the page's chain then stood.
abbrev pub WereRead : Limits → List Entry → Operation → (ℕ → Option Record) → (ℕ → Option ℕ) → ℕ → Type 0
WereRead limits entries operation rows heads n = (page row : ℕ) (chain : List Record) → heads page ≡ Some row → IsChainFrom rows row chain → WasRead limits entries operation n page row chain

-- Each page, as the operation last read its slot; each leaf of these that is not removed, and, before it stood, each page whose
-- slot had been read before; and each removed leaf, as it was last read before the page was that has it as its right.
pub record HaveStood (limits : Limits) (entries : List Entry) (operation : Operation) (rows : ℕ → Option Record) (read : Readings) : Type 0 where
  pub reads : WereRead limits entries operation rows read.heads (length entries)
  pub heads : (page row : ℕ) (chain : List Record) → read.heads page ≡ Some row → IsChainFrom rows row chain → level_in chain ≡ 0 → is_removed chain ≡ false
      → (was : WasLeafWith limits entries operation (record { pid = page; chain = chain })) × WereRead limits entries operation rows (read.before page) was.step
  pub beside : (page head other row : ℕ) (basis chain : List Record) → read.heads page ≡ Some head → IsChainFrom rows head basis → is_removed basis ≡ false → right_in basis ≡ Some other
      → read.before page other ≡ Some row → IsChainFrom rows row chain → level_in chain ≡ 0 → is_removed chain ≡ true → WasLeafWith limits entries operation (record { pid = other; chain = chain })
