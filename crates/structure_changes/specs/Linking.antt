-- What linking a record does to the map that a memory has.
use Rattle.std.specs.Prelude.{◌≡◌, ◌<◌, ◌↔◌, ℕ, List, Option, Some, IsTrue}
use Rattle.std.specs.List.{AllByRecursion}
use Rattle.base_page.specs.declared.item.Content.{Content}
use Rattle.deltas.specs.declared.record.Record.{Record}
use Rattle.deltas.specs.Memory.{Memory, replaced_at}
use Rattle.traces.specs.chain.Chains.{IsChainFrom, IsOnChain, content_in, covers, level_in}
use Rattle.traces.specs.chain.SideChain.{LivePage, IsLeaves, IsWhole, Spells}
use Rattle.structure_changes.specs.Versions.{Version}

-- the memory with a record in a row, and that row in a page's slot
abbrev pub with_link : ℕ → ℕ → Record → Memory → Memory
with_link page row content memory = record memory { slots = replaced_at page row memory.slots; rows = replaced_at row (Some content) memory.rows }

-- the memory with another root
abbrev pub with_root : ℕ → Memory → Memory
with_root page memory = record memory { slots = replaced_at 0 page memory.slots }

-- The chain has the key in its range, and decides this content for it.
abbrev pub Decides : List Record → List ℕ → Option Content → Type 0
Decides chain key content = IsTrue (covers chain key) × (content_in chain key ≡ content)

-- The page stands in the memory as it was read.
pub record HasVersion (memory : Memory) (version : Version) : Type 0 where
  pub slot : memory.slots version.pid ≡ version.head
  pub chain : IsChainFrom memory.rows version.head version.chain

-- a row that is on no chain
pub record IsSpareRow (memory : Memory) (row : ℕ) : Type 0 where
  pub some : 0 < row
  pub unlinked : ¬ IsOnChain memory row

-- The side chain of PID 1 is whole, and of leaves alone.
pub record HasLeaves (memory : Memory) : Type 0 where
  pub pages : List LivePage
  pub leaves : IsLeaves memory pages
  pub whole : IsWhole pages
  pub level : AllByRecursion (λ page. level_in page.chain ≡ 0) pages

-- The leaves are whole still, and have the same values.
pub record KeepsMap (memory after : Memory) : Type 0 where
  pub leaves : HasLeaves after
  pub same : (key value : List ℕ) → Spells memory key value ↔ Spells after key value
