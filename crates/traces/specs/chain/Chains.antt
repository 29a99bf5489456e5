-- The chain of a page, and what it decides.
use Rattle.std.specs.Prelude.{◌≡◌, ◌<◌, ℕ, List, [], ◌∷◌, Bool, false, if◌then◌else◌, Option, None, Some, MatchOption, unwrap_or}
use Rattle.std.specs.List.{Contains}
use Rattle.bw_model.specs.Bytes.{is_in_range}
use Rattle.base_page.specs.declared.item.Content.{Content}
use Rattle.base_page.specs.declared.item.Item.{Item}
use Rattle.deltas.specs.declared.record.Record.{Record}
use Rattle.base_page.specs.Pages.{content_at, IsAscending}
use Rattle.deltas.specs.Records.{names, content_said, next_row, level_after, low_after, high_after, right_after, removed_after}
use Rattle.deltas.specs.Memory.{Memory}

-- The records stand one under another from the row on, each at the row that the one above it has as next, down to a base.
abbrev pub IsChainFrom : (ℕ → Option Record) → ℕ → List Record → Type 0
IsChainFrom rows row [] = ⊥
IsChainFrom rows row (newest ∷ under) = (rows row ≡ Some newest) × MatchOption (next_row newest) (under ≡ []) (λ next. IsChainFrom rows next under)

-- These records lead from a row to the next one to read.
abbrev pub IsFront : (ℕ → Option Record) → ℕ → List Record → ℕ → Type 0
IsFront rows row [] next = row ≡ next
IsFront rows row (newest ∷ under) next = (rows row ≡ Some newest) × MatchOption (next_row newest) ⊥ (λ below. IsFront rows below under next)

-- The chain of a page, newest record first. Slot 0 has none, nor has a slot that holds 0.
pub record IsChainOf (memory : Memory) (pid : ℕ) (chain : List Record) : Type 0 where
  pub page : 0 < pid
  pub linked : 0 < memory.slots pid
  pub records : IsChainFrom memory.rows (memory.slots pid) chain

-- the rows of the records of a chain that begins at the row
abbrev pub chain_rows : ℕ → List Record → List ℕ
chain_rows row [] = []
chain_rows row (newest ∷ under) = row ∷ chain_rows (unwrap_or (next_row newest) 0) under

abbrev pub IsOnChain : Memory → ℕ → Type 0
IsOnChain memory row = (pid : ℕ) × (chain : List Record) × IsChainOf memory pid chain × Contains (chain_rows (memory.slots pid) chain) row

-- The newest record that names the key decides it.
abbrev pub content_in : List Record → List ℕ → Option Content
content_in [] key = None
content_in (newest ∷ under) key = if names newest key then content_said newest key else content_in under key

abbrev pub level_in : List Record → ℕ
level_in [] = 0
level_in (newest ∷ under) = level_after newest (level_in under)

abbrev pub low_in : List Record → List ℕ
low_in [] = []
low_in (newest ∷ under) = low_after newest (low_in under)

abbrev pub high_in : List Record → Option (List ℕ)
high_in [] = None
high_in (newest ∷ under) = high_after newest (high_in under)

abbrev pub right_in : List Record → Option ℕ
right_in [] = None
right_in (newest ∷ under) = right_after newest (right_in under)

abbrev pub is_removed : List Record → Bool
is_removed [] = false
is_removed (newest ∷ under) = removed_after newest (is_removed under)

-- whether the key is in the page's range
abbrev pub covers : List Record → List ℕ → Bool
covers chain key = is_in_range (low_in chain) (high_in chain) key

-- the items that the chain decides, in order
pub record IsItemsOf (chain : List Record) (items : List Item) : Type 0 where
  pub ascending : IsAscending items
  pub contents : (key : List ℕ) → content_at items key ≡ content_in chain key
