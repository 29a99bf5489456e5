-- When a page may be split, and where.
use Rattle.std.specs.Prelude.{◌≡◌, ◌<◌, ◌≤◌, ◌+◌, ◌-◌, ◌/◌, ℕ, List, [], ◌∷◌, length, drop, false, IsTrue, IsFalse}
use Rattle.std.specs.List.{HoldsAt}
use Rattle.bw_model.specs.Bytes.{is_below, is_under}
use Rattle.base_page.specs.declared.item.Item.{Item}
use Rattle.base_page.specs.Pages.{content_at}
use Rattle.base_page.specs.Rules.{is_held}
use Rattle.deltas.specs.declared.record.Record.TheVariants as kind
use Rattle.deltas.specs.declared.record.Split.{Split}
use Rattle.deltas.specs.Spellable.{IsPid}
use Rattle.traces.specs.chain.Chains.{IsItemsOf, content_in, high_in, is_removed, low_in}
use Rattle.traces.specs.discipline.Discipline.{FitsOn, base_from}
use Rattle.traces.specs.chain.Fitted.{IsFitted}
use Rattle.structure_changes.specs.declared.split.SplitPlan.{SplitPlan}
use Rattle.structure_changes.specs.Versions.{Version}
use Rattle.structure_changes.specs.Sizes.{HasFewDeltas, HasManyItems}

-- The page isn't removed, has fewer than 8 deltas, and 16 items or more.
pub record CanSplit (page : Version) : Type 0 where
  pub alive : is_removed page.chain ≡ false
  pub short : HasFewDeltas page.chain
  pub wide : HasManyItems page.chain

-- the item at the place isn't held
abbrev pub IsUnheldAt : List Item → ℕ → Type 0
IsUnheldAt items place = HoldsAt (λ item. is_held item.content ≡ false) items place

-- how far the place is from the middle one
abbrev pub from_middle : List Item → ℕ → ℕ
from_middle items place = (place - length items / 2) + (length items / 2 - place)

-- Of the places whose item isn't held the nearest to the middle one; of two at one distance the higher.
pub record IsSplitPlace (items : List Item) (place : ℕ) : Type 0 where
  pub inside : place < length items
  pub unheld : IsUnheldAt items place
  pub nearest : (other : ℕ) → other < length items → IsUnheldAt items other → from_middle items place ≤ from_middle items other
  pub higher : (other : ℕ) → other < length items → IsUnheldAt items other → from_middle items other ≡ from_middle items place → other ≤ place

-- the split that names this page as the new one
abbrev pub split_to : SplitPlan → ℕ → Split
split_to plan right = record { level = plan.upper.level; next = plan.next; separator = plan.upper.low; page = right }

-- The page may be split. The upper page has its items from the place on, is a page's chain by itself, and begins inside; it
-- decides each key from there on as the page does. The split fits the page, whichever the new one is.
pub record IsSplitPlan (page : Version) (plan : SplitPlan) : Type 0 where
  pub can : CanSplit page
  pub items : List Item
  pub has : IsItemsOf page.chain items
  pub place : ℕ
  pub is_place : IsSplitPlace items place
  pub is_upper : plan.upper.items ≡ drop place items
  pub separator : HoldsAt (λ item. item.key ≡ plan.upper.low) items place
  pub base : kind.Base plan.upper ≡ base_from page.chain plan.upper.low plan.upper.items
  pub over : plan.next ≡ page.head
  pub above : IsTrue (is_below (low_in page.chain) plan.upper.low)
  pub below : IsTrue (is_under plan.upper.low (high_in page.chain))
  pub alike : (key : List ℕ) → IsFalse (is_below key plan.upper.low) → content_at plan.upper.items key ≡ content_in page.chain key
  pub stands : IsFitted (kind.Base plan.upper ∷ [])
  pub fits : (right : ℕ) → IsPid right → FitsOn page.chain (kind.Split (split_to plan right))
