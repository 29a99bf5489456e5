-- What a writer's round does with a page that was read whole, and what it makes of an answer.
use Rattle.std.specs.Prelude.{◌≡◌, ◌≢◌, ◌<◌, ◌⊎◌, ℕ, Bool, Option, Some, None, true, false, IfSome, ⊤}
use Rattle.tree_limits.specs.declared.limits.Limits.{Limits}
use Rattle.base_page.specs.declared.item.Content.TheVariants.{Child}
use Rattle.base_page.specs.Pages.{Page as PageOf}
use Rattle.deltas.specs.declared.record.Merge.{Merge as MergeRecord}
use Rattle.deltas.specs.declared.record.Term.{Term}
use Rattle.deltas.specs.declared.record.Unterm.{Unterm as UntermRecord}
use Rattle.traces.specs.chain.Chains.{content_in, is_removed, level_in, right_in}
use Rattle.structure_changes.specs.Bases.{IsBasePlan}
use Rattle.structure_changes.specs.Merges.{CanMerge, IsMergePlan}
use Rattle.structure_changes.specs.Roots.{CanRoot, IsRootPlan}
use Rattle.structure_changes.specs.Sizes.{HasMergeRoom}
use Rattle.structure_changes.specs.Splits.{CanSplit, IsSplitPlan}
use Rattle.structure_changes.specs.Terms.{CanPost, IsTermPlan}
use Rattle.structure_changes.specs.Unterms.{CanUnterm, IsUntermPlan}
use Rattle.structure_changes.specs.declared.split.SplitPlan.{SplitPlan}
use Rattle.structure_changes.specs.Upkeep.{IsIdle, IsUpkeep}
use Rattle.structure_changes.specs.declared.after.After.{After}
use Rattle.structure_changes.specs.declared.plan.Plan.{Plan}
use Rattle.structure_changes.specs.Versions.{Version}
use Rattle.round_model.specs.Courses.{WriteGoal, Seek, Left, Merge, Unterm}
use Rattle.round_model.specs.Walks.{IsReached}
use Rattle.round_model.specs.Ways.{LeadsDown, LeadsRight, StaysLeft}
use Rattle.round_model.specs.Rounds.{Rounds}
use Rattle.round_model.specs.WriteEnds.{DueChange, IsPlanned, WriteEnd}
use Rattle.round_model.specs.WriteEnds as end
use Rattle.round_model.specs.WriteRounds.{EndsWrite, IsLong, SeeksLeaf, Shows, WriteRound, at, beside, ends_at, writing_on_to, write_way}

-- No change is due that finishes the split of the page's left page: the parent can't get the page's term, nor, where there is no
-- parent, the two pages a root, which a round makes that splits pages.
abbrev pub IsSplitFinished : Bool → Option Version → Option Version → Version → Type 0
IsSplitFinished splits parent None version = ⊤
IsSplitFinished splits None (Some left) version = splits ≡ true → ¬ CanRoot left version
IsSplitFinished splits (Some parent) (Some left) version = ¬ CanPost parent version

-- The page isn't removed, nothing is due at its left page, and it ends above the key.
pub record IsHere (old : WriteRound) (version : Version) : Type 0 where
  pub seeks : SeeksLeaf old.goal
  pub alive : is_removed version.chain ≡ false
  pub finished : IsSplitFinished old.splits old.parent old.left version
  pub stays : StaysLeft (write_way old.goal old.key) version.chain

-- The page is not to be consolidated, nor, in a round that splits pages, to be split.
pub record IsFine (limits : Limits) (due : ℕ) (splits : Bool) (version : Version) : Type 0 where
  pub short : ¬ IsLong limits due version.chain
  pub narrow : splits ≡ true → ¬ CanSplit version

-- The round holds and removes small pages on its way to the leaf of a key, and the page is an index page, below the parent.
pub record IsTended (old : WriteRound) (parent version : Version) : Type 0 where
  pub tends : old.tends ≡ true
  pub seeks : old.goal ≡ Seek
  pub above : old.parent ≡ Some parent
  pub index : 0 < level_in version.chain

-- Nothing is due of such a page's removal.
abbrev pub IsIdleOnWay : WriteRound → Version → Type 0
IsIdleOnWay old version = (parent : Version) → IsTended old parent version → IsIdle parent version

-- The page isn't removed, nothing is due at its left page, and the round goes on to its right.
pub record GoesAside (old : WriteRound) (version : Version) (new : WriteRound) : Type 0 where
  pub seeks : SeeksLeaf old.goal
  pub alive : is_removed version.chain ≡ false
  pub finished : IsSplitFinished old.splits old.parent old.left version
  pub right : ℕ
  pub leads : LeadsRight (write_way old.goal old.key) version.chain right
  pub goes : new ≡ writing_on_to right (beside (Some version) old)

-- Nothing is due at the page, nor of a small page's removal, and the round goes down to a child of it.
pub record GoesBelow (old : WriteRound) (version : Version) (new : WriteRound) : Type 0 where
  pub here : IsHere old version
  pub fine : IsFine old.limits old.due old.splits version
  pub idle : IsIdleOnWay old version
  pub index : ends_at old.goal old.floor < level_in version.chain
  pub child : ℕ
  pub leads : LeadsDown (write_way old.goal old.key) version.chain child
  pub goes : new ≡ writing_on_to child (record old { parent = Some version; left = None })

-- The page has too many deltas.
pub record EndsLong (old : WriteRound) (version page : Version) (base : PageOf) : Type 0 where
  pub is : page ≡ version
  pub here : IsHere old version
  pub long : IsLong old.limits old.due version.chain
  pub plan : IsBasePlan version base

-- The page has few deltas and too many items.
pub record EndsWide (old : WriteRound) (version page : Version) (plan : SplitPlan) : Type 0 where
  pub is : page ≡ version
  pub here : IsHere old version
  pub short : ¬ IsLong old.limits old.due version.chain
  pub plan_due : IsSplitPlan version plan

-- The page stands to the right of another one, and the parent lacks its term.
pub record EndsUnposted (old : WriteRound) (version parent : Version) (term : Term) : Type 0 where
  pub seeks : SeeksLeaf old.goal
  pub above : old.parent ≡ Some parent
  pub left : Version
  pub aside : old.left ≡ Some left
  pub plan : IsTermPlan parent version term

-- The page stands to the right of the root.
pub record EndsUnrooted (old : WriteRound) (version left : Version) (root : PageOf) : Type 0 where
  pub seeks : SeeksLeaf old.goal
  pub above : old.parent ≡ None
  pub aside : old.left ≡ Some left
  pub plan : IsRootPlan left version root

-- The page is neither to be consolidated nor to be split, and it is small.
pub record EndsSmall (old : WriteRound) (version parent page : Version) (upkeep : Plan) : Type 0 where
  pub is : page ≡ version
  pub here : IsHere old version
  pub fine : IsFine old.limits old.due old.splits version
  pub tended : IsTended old parent version
  pub due : IsUpkeep parent version upkeep

-- The page is the leaf that was sought, and nothing is due there.
pub record EndsFine (old : WriteRound) (version : Version) (parent : Option Version) (leaf : Version) : Type 0 where
  pub is : leaf ≡ version
  pub seeks : old.goal ≡ Seek
  pub above : parent ≡ old.parent
  pub here : IsHere old version
  pub fine : IsFine old.limits old.due old.splits version
  pub level : level_in version.chain ≡ 0

-- The page is removed, on the way to a leaf.
pub record EndsRemoved (old : WriteRound) (version removed : Version) : Type 0 where
  pub is : removed ≡ version
  pub seeks : SeeksLeaf old.goal
  pub gone : is_removed version.chain ≡ true

-- The page is the one of the removed page's level where the way to its left ends, and nothing is due there.
pub record IsAtLeft (old : WriteRound) (version : Version) (pid : ℕ) : Type 0 where
  pub goal : old.goal ≡ Left pid
  pub here : IsHere old version
  pub fine : IsFine old.limits old.due old.splits version
  pub level : level_in version.chain ≡ old.floor

-- Nothing is due at the page, which is below the level of the removed page to whose left the round goes.
pub record EndsBelow (old : WriteRound) (version : Version) : Type 0 where
  pub pid : ℕ
  pub goal : old.goal ≡ Left pid
  pub here : IsHere old version
  pub fine : IsFine old.limits old.due old.splits version
  pub below : level_in version.chain < old.floor

-- the round, gone to read the removed page again
abbrev pub going_back : WriteGoal → ℕ → WriteRound → WriteRound
going_back goal pid round = writing_on_to pid (record round { goal = goal; parent = None; left = None })

-- The removed page is the leaf's right, and the leaf has room for its items.
pub record GoesToMerge (old : WriteRound) (version : Version) (new : WriteRound) : Type 0 where
  pub pid : ℕ
  pub left : IsAtLeft old version pid
  pub beside : right_in version.chain ≡ Some pid
  pub roomy : HasMergeRoom version.chain
  pub goes : new ≡ going_back (Merge version) pid old

-- The removed page isn't the leaf's right, and the parent has its term.
pub record GoesToUnterm (old : WriteRound) (version : Version) (new : WriteRound) : Type 0 where
  pub pid : ℕ
  pub left : IsAtLeft old version pid
  pub apart : right_in version.chain ≢ Some pid
  pub parent : Version
  pub above : old.parent ≡ Some parent
  pub term : content_in parent.chain old.key ≡ Some (Child pid true)
  pub goes : new ≡ going_back (Unterm parent version) pid old

-- The removed page isn't the leaf's right, and no parent has its term held.
pub record EndsClean (old : WriteRound) (version : Version) : Type 0 where
  pub pid : ℕ
  pub left : IsAtLeft old version pid
  pub apart : right_in version.chain ≢ Some pid
  pub lacks : IfSome old.parent (λ parent. content_in parent.chain old.key ≢ Some (Child pid true))

-- The page may not come into the left page.
pub record EndsUnmerged (old : WriteRound) (version : Version) : Type 0 where
  pub left : Version
  pub goal : old.goal ≡ Merge left
  pub none : ¬ CanMerge left version

-- The parent may not lose the page's term.
pub record EndsUncut (old : WriteRound) (version : Version) : Type 0 where
  pub parent : Version
  pub left : Version
  pub goal : old.goal ≡ Unterm parent left
  pub none : ¬ CanUnterm parent left version

-- The page may come into the left page.
pub record EndsMerged (old : WriteRound) (version left removed : Version) (merge : MergeRecord) : Type 0 where
  pub is : removed ≡ version
  pub goal : old.goal ≡ Merge left
  pub plan : IsMergePlan left version merge

-- The parent may lose the page's term.
pub record EndsCut (old : WriteRound) (version parent left removed : Version) (unterm : UntermRecord) : Type 0 where
  pub is : removed ≡ version
  pub goal : old.goal ≡ Unterm parent left
  pub plan : IsUntermPlan parent left version unterm

-- what is due by a change at a page that was read whole
abbrev pub EndsBy : WriteRound → Version → DueChange → Type 0
EndsBy old version (end.Consolidate page base) = EndsLong old version page base
EndsBy old version (end.Split page plan) = EndsWide old version page plan
EndsBy old version (end.Term parent term) = EndsUnposted old version parent term
EndsBy old version (end.Root left root) = EndsUnrooted old version left root
EndsBy old version (end.Tend parent page upkeep) = EndsSmall old version parent page upkeep
EndsBy old version (end.Merge left removed merge) = EndsMerged old version left removed merge
EndsBy old version (end.Unterm parent left removed unterm) = EndsCut old version parent left removed unterm

-- The plan makes a change that is due at the page, and this comes once it has won.
pub record EndsDue (old : WriteRound) (version : Version) (plan : Plan) (after : After) : Type 0 where
  pub change : DueChange
  pub planned : IsPlanned change plan after
  pub due : EndsBy old version change

-- what a round does with a page that was read whole
abbrev pub TreatsWrite : WriteRound → Version → WriteRound → Option WriteEnd → Type 0
TreatsWrite old version new None = GoesAside old version new ⊎ GoesBelow old version new ⊎ GoesToMerge old version new ⊎ GoesToUnterm old version new
TreatsWrite old version new (Some end.Again) = EndsBelow old version
TreatsWrite old version new (Some end.Done) = EndsClean old version ⊎ EndsUnmerged old version ⊎ EndsUncut old version
TreatsWrite old version new (Some (end.Removed removed)) = EndsRemoved old version removed
TreatsWrite old version new (Some (end.Due plan after)) = EndsDue old version plan after
TreatsWrite old version new (Some (end.Leaf parent leaf)) = EndsFine old version parent leaf

-- by the goal: the removed page is one that there may be; the parent isn't removed
abbrev pub CanMeetGoal : Limits → WriteGoal → Type 0
CanMeetGoal limits Seek = ⊤
CanMeetGoal limits (Left pid) = (0 < pid) × (pid < limits.pids)
CanMeetGoal limits (Merge left) = ⊤
CanMeetGoal limits (Unterm parent left) = is_removed parent.chain ≡ false

-- The round has reached the page, and the parent isn't removed.
pub record CanTreatWrite (round : WriteRound) (version : Version) : Type 0 where
  pub reached : IsReached round.limits (write_way round.goal round.key) version
  pub above : IfSome round.parent (λ parent. is_removed parent.chain ≡ false)
  pub meets : CanMeetGoal round.limits round.goal

-- the writer's rounds
abbrev pub writing : Rounds WriteRound WriteEnd
writing = record {
  way = λ round. record { limits = round.limits; state = round.state };
  at = at;
  Shows = Shows;
  Ends = EndsWrite;
  CanTreat = CanTreatWrite;
  Treats = TreatsWrite;
  again = end.Again;
}
