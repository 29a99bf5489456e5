-- When a page may be removed.
use Rattle.std.specs.Prelude.{◌≡◌, ◌≤◌, length, Some, true, false}
use Rattle.base_page.specs.declared.item.Content.TheVariants.{Child}
use Rattle.deltas.specs.declared.record.Record.TheVariants as kind
use Rattle.deltas.specs.declared.record.Remove.{Remove}
use Rattle.traces.specs.chain.Chains.{content_in, is_removed, level_in, low_in}
use Rattle.traces.specs.discipline.Discipline.{FitsOn}
use Rattle.structure_changes.specs.Versions.{Version}
use Rattle.structure_changes.specs.Sizes.{HasFewDeltas, HasItems, HasNoneHeld}

-- The parent has the page's term held; the page isn't removed, and has at most 4 items, none of them held, and fewer than 8 deltas.
pub record CanRemove (parent page : Version) : Type 0 where
  pub held : content_in parent.chain (low_in page.chain) ≡ Some (Child page.pid true)
  pub alive : is_removed page.chain ≡ false
  pub few : HasItems page.chain (λ items. length items ≤ 4)
  pub unheld : HasNoneHeld page.chain
  pub short : HasFewDeltas page.chain

-- the removal over the page
abbrev pub remove_of : Version → Remove
remove_of page = record { level = level_in page.chain; next = page.head }

-- The page may get the removal, which fits it.
pub record IsRemovePlan (parent page : Version) (remove : Remove) : Type 0 where
  pub can : CanRemove parent page
  pub is : remove ≡ remove_of page
  pub fits : FitsOn page.chain (kind.Remove remove)
