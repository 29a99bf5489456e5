-- When a parent may hold the term of a page.
use Rattle.std.specs.Prelude.{◌≡◌, ◌≢◌, ◌<◌, ℕ, suc, List, length, Some, false}
use Rattle.std.specs.List.{HoldsAt}
use Rattle.base_page.specs.declared.item.Content.TheVariants.{Child}
use Rattle.base_page.specs.declared.item.Item.{Item}
use Rattle.base_page.specs.Rules.{held_count, is_held}
use Rattle.deltas.specs.declared.record.Hold.{Hold}
use Rattle.deltas.specs.declared.record.Record.TheVariants as kind
use Rattle.traces.specs.chain.Chains.{content_in, is_removed, level_in, low_in}
use Rattle.traces.specs.discipline.Discipline.{FitsOn}
use Rattle.structure_changes.specs.Versions.{Version}
use Rattle.structure_changes.specs.Sizes.{HasFewDeltas, HasItems}

-- The items at two places: where the one has the key, the other isn't held.
abbrev pub IsFreeBeside : List ℕ → List Item → ℕ → ℕ → Type 0
IsFreeBeside key items one other = HoldsAt (λ item. item.key ≡ key) items one → HoldsAt (λ item. is_held item.content ≡ false) items other

-- No neighbour of the key's item is held.
abbrev pub HasFreeNeighbours : List ℕ → List Item → Type 0
HasFreeNeighbours key items = (place : ℕ) → suc place < length items → IsFreeBeside key items place (suc place) × IsFreeBeside key items (suc place) place

-- The parent isn't removed, and has the page's term, which isn't held and isn't its first; it has fewer than 4 held terms, none of
-- them a neighbour of this one, and fewer than 8 deltas.
pub record CanHold (parent page : Version) : Type 0 where
  pub above : is_removed parent.chain ≡ false
  pub there : content_in parent.chain (low_in page.chain) ≡ Some (Child page.pid false)
  pub inner : low_in page.chain ≢ low_in parent.chain
  pub few : HasItems parent.chain (λ items. held_count items < 4)
  pub free : HasItems parent.chain (HasFreeNeighbours (low_in page.chain))
  pub short : HasFewDeltas parent.chain

-- the hold of the page's term, over the parent
abbrev pub hold_of : Version → Version → Hold
hold_of parent page = record { level = level_in parent.chain; next = parent.head; separator = low_in page.chain; child = page.pid }

-- The parent may get the hold, which fits it.
pub record IsHoldPlan (parent page : Version) (hold : Hold) : Type 0 where
  pub can : CanHold parent page
  pub is : hold ≡ hold_of parent page
  pub fits : FitsOn parent.chain (kind.Hold hold)
