-- When a root may get a page over it.
use Rattle.std.specs.Prelude.{◌≡◌, ◌<◌, suc, [], false}
use Rattle.base_page.specs.Pages.{Page}
use Rattle.deltas.specs.declared.record.Record.TheVariants as kind
use Rattle.traces.specs.chain.Chains.{is_removed, level_in, low_in}
use Rattle.traces.specs.discipline.Discipline.{FitsOn, root_over}
use Rattle.structure_changes.specs.Versions.{Version}
use Rattle.structure_changes.specs.Neighbours.{IsNextTo}

-- The left page begins at the empty key and is below level 15; the other is its right, begins at its high key and isn't removed.
pub record CanRoot (left right : Version) : Type 0 where
  pub lowest : low_in left.chain ≡ []
  pub next_to : IsNextTo left right
  pub alive : is_removed right.chain ≡ false
  pub top : level_in left.chain < 15

-- The left page, which isn't removed, may get a root over it: one level up, with the two terms.
pub record IsRootPlan (left right : Version) (root : Page) : Type 0 where
  pub can : CanRoot left right
  pub stands : is_removed left.chain ≡ false
  pub is : kind.Base root ≡ root_over (suc (level_in left.chain)) left.pid (low_in right.chain) right.pid
  pub fits : FitsOn [] (kind.Base root)
