-- What the chains of linked rows are at every moment, and what a row is that a step links.
use Rattle.std.specs.Prelude.{◌≡◌, ℕ, List, Option, IfSome, Some}
use Rattle.deltas.specs.declared.record.Record.{Record}
use Rattle.deltas.specs.declared.record.Record.TheVariants as kind
use Rattle.deltas.specs.declared.record.Remove.{Remove}
use Rattle.deltas.specs.Records.{next_row}
use Rattle.traces.specs.chain.Chains.{IsChainFrom}
use Rattle.traces.specs.discipline.Discipline.{FitsOn}
use Rattle.traces.specs.chain.Fitted.{IsPageChain}
use Rattle.traces.specs.chain.Unheld.{IsUnheld}
use Rattle.tree_law.specs.Owners.{IsChain, Linked, Owners}

-- the chain from each linked row is a page's chain
abbrev pub AreFitted : Owners → (ℕ → Option Record) → Type 0
AreFitted o rows = (row : ℕ) → o.row row ≡ Linked → (chain : List Record) → IsChainFrom rows row chain → IsPageChain chain

-- a linked Remove stands over a chain of which no term is held
abbrev pub AreUnheld : Owners → (ℕ → Option Record) → Type 0
AreUnheld o rows = (row : ℕ) (remove : Remove) (under : List Record) → o.row row ≡ Linked → rows row ≡ Some (kind.Remove remove) → IsChainFrom rows remove.next under → IsUnheld under

-- The record of the row fits the chain of the linked row under it; a base has none under it. Under a Remove no term is held.
pub record IsAdded (o : Owners) (rows : ℕ → Option Record) (row : ℕ) : Type 0 where
  pub content : Record
  pub stands : rows row ≡ Some content
  pub under : List Record
  pub is_under : IsChain rows under (next_row content)
  pub next : IfSome (next_row content) (λ n. o.row n ≡ Linked)
  pub fits : FitsOn under content
  pub unheld : (remove : Remove) → content ≡ kind.Remove remove → IsUnheld under
