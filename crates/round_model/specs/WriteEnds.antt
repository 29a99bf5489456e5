-- How a writer's round ends.
use Rattle.std.specs.Prelude.{◌≡◌, ℕ, Option, None, Some}
use Rattle.base_page.specs.Pages.{Page}
use Rattle.deltas.specs.declared.record.Merge.{Merge as MergeRecord}
use Rattle.deltas.specs.declared.record.Record.TheVariants as kind
use Rattle.deltas.specs.declared.record.Term.{Term as TermRecord}
use Rattle.deltas.specs.declared.record.Unterm.{Unterm as UntermRecord}
use Rattle.traces.specs.chain.Chains.{chain_rows}
use Rattle.structure_changes.specs.Plans.{over}
use Rattle.structure_changes.specs.Versions.{Version}
use Rattle.structure_changes.specs.declared.after.After.{After}
use Rattle.structure_changes.specs.declared.after.After.TheVariants.{Round, Limbo, Errand}
use Rattle.structure_changes.specs.declared.plan.Plan.{Plan}
use Rattle.structure_changes.specs.declared.plan.Plan.TheVariants as plan
use Rattle.structure_changes.specs.declared.split.SplitPlan.{SplitPlan}
use Rattle.structure_changes.specs.declared.unlinked.Unlinked.{Unlinked}

-- A page that was named isn't there, and a new round begins; a page on the way is removed; a change is due, and this comes once it has won; the
-- leaf that has the key in its range, and the page above it, where one was read; nothing is due to the left of the removed page.
pub data WriteEnd : Type 0 where
  Again : WriteEnd
  Removed : (page : Version) → WriteEnd
  Due : (plan : Plan) (after : After) → WriteEnd
  Leaf : (parent : Option Version) (leaf : Version) → WriteEnd
  Done : WriteEnd

-- A change that is due: the page is to be consolidated; it is to be split; the parent is to get the term of a page that it lacks; the root is to
-- get a root over it and its right; the small page on the way is to be removed, or the parent to hold its term; the page is to get what the
-- removed page to its right has; the parent is to lose the term of the removed page, which has been merged, as the left page shows.
pub data DueChange : Type 0 where
  Consolidate : (page : Version) (base : Page) → DueChange
  Split : (page : Version) (split : SplitPlan) → DueChange
  Term : (parent : Version) (term : TermRecord) → DueChange
  Root : (left : Version) (root : Page) → DueChange
  Tend : (parent page : Version) (upkeep : Plan) → DueChange
  Merge : (left removed : Version) (merge : MergeRecord) → DueChange
  Unterm : (parent left removed : Version) (unterm : UntermRecord) → DueChange

-- The page's chain comes into limbo, and this PID.
pub record TakesOut (page : Version) (pid : Option ℕ) (after : After) : Type 0 where
  pub unlinked : Unlinked
  pub is : after ≡ Limbo unlinked
  pub rows : unlinked.rows.items ≡ chain_rows page.head page.chain
  pub of : unlinked.pid ≡ pid

-- The plan makes the change, and this comes once it has won.
abbrev pub IsPlanned : DueChange → Plan → After → Type 0
IsPlanned (Consolidate page base) planned after = (planned ≡ over page (kind.Base base)) × TakesOut page None after
IsPlanned (Split page split) planned after = (planned ≡ plan.Split page.pid split) × (after ≡ Errand split.upper.low)
IsPlanned (Term parent term) planned after = (planned ≡ over parent (kind.Term term)) × (after ≡ Round)
IsPlanned (Root left root) planned after = (planned ≡ plan.Root left.pid root) × (after ≡ Round)
IsPlanned (Tend parent page upkeep) planned after = (planned ≡ upkeep) × (after ≡ Round)
IsPlanned (Merge left removed merge) planned after = (planned ≡ over left (kind.Merge merge)) × (after ≡ Round)
IsPlanned (Unterm parent left removed unterm) planned after = (planned ≡ plan.Unlink parent.pid parent.head unterm removed.head) × TakesOut removed (Some removed.pid) after
