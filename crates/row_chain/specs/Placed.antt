-- Chains by the rows in which their records lie.
use Rattle.std.specs.Prelude.{◌≡◌, ℕ, List, Option, Some, map}
use Rattle.deltas.specs.declared.record.Record.{Record}
use Rattle.row_search.specs.Placed.{PlacedRecord}
use Rattle.traces.specs.chain.Chains.{IsChainFrom, chain_rows}

-- records, newest first, and the row of the first of them
pub record PlacedChain : Type 0 where
  pub head : ℕ
  pub records : List Record

-- the records of rows
abbrev pub contents : List PlacedRecord → List Record
contents rows = map (λ placed. placed.content) rows

-- They lie in the rows of a chain that begins at the row.
abbrev pub AreFrom : ℕ → List PlacedRecord → Type 0
AreFrom head rows = map (λ placed. placed.row) rows ≡ chain_rows head (contents rows)

-- A chain that was read: the records that were read lead along it from its first row on, and each of them is there.
pub record IsReadChain (is_there : ℕ → Record → Type 0) (chain : PlacedChain) : Type 0 where
  pub seen : ℕ → Option Record
  pub leads : IsChainFrom seen chain.head chain.records
  pub stand : (row : ℕ) (content : Record) → seen row ≡ Some content → is_there row content
