-- What is done first at a small page: its term is held, and then it is removed.
use Rattle.std.specs.Prelude.{◌≡◌, ◌≢◌, ◌≤◌, ◌⊎◌, length}
use Rattle.deltas.specs.declared.record.Hold.{Hold}
use Rattle.deltas.specs.declared.record.Record.TheVariants as kind
use Rattle.deltas.specs.declared.record.Remove.{Remove}
use Rattle.structure_changes.specs.Holds.{CanHold, IsHoldPlan}
use Rattle.structure_changes.specs.Removals.{CanRemove, IsRemovePlan}
use Rattle.structure_changes.specs.Sizes.{HasItems, HasNoneHeld}
use Rattle.structure_changes.specs.declared.plan.Plan.{Plan}
use Rattle.structure_changes.specs.Plans.{over}
use Rattle.structure_changes.specs.Versions.{Version}

-- A page may be removed that isn't page 1 and has at most 4 items, none of them held.
pub record IsSmall (page : Version) : Type 0 where
  pub other : page.pid ≢ 1
  pub few : HasItems page.chain (λ items. length items ≤ 4)
  pub unheld : HasNoneHeld page.chain

-- The plan removes the page, which may be removed.
pub record RemovesPage (parent page : Version) (plan : Plan) : Type 0 where
  pub remove : Remove
  pub is : plan ≡ over page (kind.Remove remove)
  pub due : IsRemovePlan parent page remove

-- The page may not be removed yet, and the plan holds its term in its parent.
pub record HoldsTerm (parent page : Version) (plan : Plan) : Type 0 where
  pub hold : Hold
  pub is : plan ≡ over parent (kind.Hold hold)
  pub unheld : ¬ CanRemove parent page
  pub due : IsHoldPlan parent page hold

-- what is due at a small page
pub record IsUpkeep (parent page : Version) (plan : Plan) : Type 0 where
  pub small : IsSmall page
  pub due : RemovesPage parent page plan ⊎ HoldsTerm parent page plan

-- Nothing is due: the page isn't small, or its term is neither held nor may be.
abbrev pub IsIdle : Version → Version → Type 0
IsIdle parent page = IsSmall page → (¬ CanRemove parent page) × (¬ CanHold parent page)
