-- When a removed page may come into its left page.
use Rattle.std.specs.Prelude.{◌≡◌, ◌≤◌, List, length, true, false}
use Rattle.base_page.specs.declared.item.Item.{Item}
use Rattle.deltas.specs.declared.record.Merge.{Merge}
use Rattle.deltas.specs.declared.record.Record.TheVariants as kind
use Rattle.traces.specs.chain.Chains.{IsItemsOf, high_in, is_removed, level_in, low_in, right_in}
use Rattle.traces.specs.discipline.Discipline.{FitsOn}
use Rattle.structure_changes.specs.Versions.{Version}
use Rattle.structure_changes.specs.Neighbours.{IsNextTo}
use Rattle.structure_changes.specs.Sizes.{HasFewDeltas, HasItems, HasMergeRoom, HasNoneHeld}

-- The left page isn't removed, and has fewer than 8 deltas and 16 items at most; the other is its right, begins at its high
-- key, is of its level and removed, and has at most 4 items, none of them held.
pub record CanMerge (left removed : Version) : Type 0 where
  pub alive : is_removed left.chain ≡ false
  pub next_to : IsNextTo left removed
  pub gone : is_removed removed.chain ≡ true
  pub level : level_in removed.chain ≡ level_in left.chain
  pub few : HasItems removed.chain (λ items. length items ≤ 4)
  pub unheld : HasNoneHeld removed.chain
  pub short : HasFewDeltas left.chain
  pub roomy : HasMergeRoom left.chain

-- the merge, over the left page, of the removed page that has these items
abbrev pub merge_of : Version → Version → List Item → Merge
merge_of left removed items = record { level = level_in left.chain; next = left.head; low = low_in removed.chain; high = high_in removed.chain; right = right_in removed.chain; items = items }

-- The left page may get the merge of what the removed page has, which fits it.
pub record IsMergePlan (left removed : Version) (merge : Merge) : Type 0 where
  pub can : CanMerge left removed
  pub has : IsItemsOf removed.chain merge.items
  pub is : merge ≡ merge_of left removed merge.items
  pub fits : FitsOn left.chain (kind.Merge merge)
