-- A writer's round from the root to a change or a leaf: the step that it wants, what its actor knows meanwhile, how it ends.
use Rattle.std.specs.Prelude.{◌≡◌, ◌≢◌, ◌<◌, ◌≤◌, ◌+◌, ◌⊎◌, ℕ, suc, List, [], ◌∷◌, length, Bool, Option, Some, None, true, false, IsTrue, IfSome, ⊤}
use Rattle.tree_limits.specs.declared.limits.Limits.{Limits}
use Rattle.bw_model.specs.declared.step.Step.{Step as StepOf}
use Rattle.bw_model.specs.declared.step.Answer.{Answer}
use Rattle.bw_model.specs.declared.step.Answer.TheVariants.{Number}
use Rattle.bw_model.specs.Bytes.{is_below}
use Rattle.base_page.specs.declared.item.Content.TheVariants.{Child}
use Rattle.base_page.specs.Pages.{Page as PageOf}
use Rattle.base_page.specs.Places.{IsGreatest}
use Rattle.deltas.specs.declared.record.Record.{Record}
use Rattle.deltas.specs.declared.record.Merge.{Merge as MergeRecord}
use Rattle.deltas.specs.declared.record.Term.{Term}
use Rattle.deltas.specs.declared.record.Unterm.{Unterm as UntermRecord}
use Rattle.traces.specs.chain.Chains.{content_in, covers, high_in, is_removed, level_in, low_in, right_in}
use Rattle.traces.specs.discipline.Knowledge.{Knowledge}
use Rattle.traces.specs.discipline.Recalled.{IsPaid, IsSpentWith, IsUnread, Recalled, WasHead, recall}
use Rattle.structure_changes.specs.Merges.{CanMerge, IsMergePlan}
use Rattle.structure_changes.specs.Bases.{IsBasePlan}
use Rattle.structure_changes.specs.Readings.{IsAfter}
use Rattle.structure_changes.specs.Roots.{IsRootPlan}
use Rattle.structure_changes.specs.Sizes.{HasFewDeltas, HasFewItems, many_of}
use Rattle.structure_changes.specs.Splits.{IsSplitPlan}
use Rattle.structure_changes.specs.Terms.{IsTermPlan}
use Rattle.structure_changes.specs.Unterms.{CanUnterm, IsUntermPlan}
use Rattle.structure_changes.specs.declared.split.SplitPlan.{SplitPlan}
use Rattle.structure_changes.specs.Upkeep.{IsUpkeep}
use Rattle.structure_changes.specs.declared.after.After.{After}
use Rattle.structure_changes.specs.declared.plan.Plan.{Plan}
use Rattle.structure_changes.specs.Versions.{Version}
use Rattle.round_model.specs.Versions.{IsAlive, IsGone, IsInHand}
use Rattle.round_model.specs.Courses.{WriteGoal, Seek, Left, Merge, Unterm, removed_of}
use Rattle.round_model.specs.Descents.{FoundNothing, left_from, wanted_at, WayState, Root, Page}
use Rattle.round_model.specs.Visits as page
use Rattle.round_model.specs.Walks.{IsAhead, IsAmongPids, IsSeeking, with_walk}
use Rattle.round_model.specs.Ways.{StaysLeft, passes}
use Rattle.round_model.specs.WriteEnds.{DueChange, IsPlanned, WriteEnd}
use Rattle.round_model.specs.WriteEnds as end

-- The key whose leaf is sought, or to whose left the round goes; at how many deltas a leaf is consolidated; whether small index pages
-- are held and removed on the way; whether the changes are made that need a new page; the level at which a round to the left ends; where the round goes; the parent of the pages that are
-- read; the page to whose right the round has gone, until that one was read; where it stands.
pub record WriteRound : Type 0 where
  pub limits : Limits
  pub key : List ℕ
  pub due : ℕ
  pub tends : Bool
  pub splits : Bool
  pub floor : ℕ
  pub goal : WriteGoal
  pub parent : Option Version
  pub left : Option Version
  pub state : WayState

-- the step that the round has asked for
abbrev pub wanted_step : WriteRound → StepOf Record
wanted_step round = wanted_at round.state

abbrev pub at : WriteRound → WayState → WriteRound
at round state = record round { state = state }

-- the round, gone to a page
abbrev pub writing_on_to : ℕ → WriteRound → WriteRound
writing_on_to pid round = at round (Page (page.to_page round.limits pid))

-- the round where a page to the left of the next one is kept, or none
abbrev pub beside : Option Version → WriteRound → WriteRound
beside left round = record round { left = left }

-- the level at which a round ends: that of the leaves, or of the removed page to whose left it goes
abbrev pub level_for : Option ℕ → ℕ → ℕ
level_for None floor = 0
level_for (Some pid) floor = floor

abbrev pub ends_at : WriteGoal → ℕ → ℕ
ends_at goal floor = level_for (removed_of goal) floor

-- whether a goal is the page to the left of the key
abbrev pub goes_left : WriteGoal → Bool
goes_left Seek = false
goes_left (Left pid) = true
goes_left (Merge left) = false
goes_left (Unterm parent left) = false

-- which low keys are on the way of a goal
abbrev pub write_way : WriteGoal → List ℕ → List ℕ → Bool
write_way goal key = passes (goes_left goal) key

-- whether a page is read that was named before the parent's children were: the one whose term the parent is to lose
abbrev pub is_cutting : WriteGoal → Bool
is_cutting Seek = false
is_cutting (Left pid) = false
is_cutting (Merge left) = false
is_cutting (Unterm parent left) = true

-- the round is on its way to a leaf
abbrev pub SeeksLeaf : WriteGoal → Type 0
SeeksLeaf Seek = ⊤
SeeksLeaf (Left pid) = ⊤
SeeksLeaf (Merge left) = ⊥
SeeksLeaf (Unterm parent left) = ⊥

-- The removed page begins at the key, is of the level where the round ends, was read before slot 0 was, and is none of these.
pub record IsMissing (limits : Limits) (k : Knowledge) (key : List ℕ) (floor : ℕ) (pid : ℕ) (visited : List ℕ) : Type 0 where
  pub removed : Version
  pub gone : IsGone limits k removed
  pub is : removed.pid ≡ pid
  pub low : low_in removed.chain ≡ key
  pub level : level_in removed.chain ≡ floor
  pub unread : IsUnread pid visited

-- A page is in hand that was read in this round, and isn't removed.
pub record IsKept (limits : Limits) (k : Knowledge) (other : Version) (earlier : List ℕ) : Type 0 where
  pub in_hand : IsInHand limits k other
  pub alive : is_removed other.chain ≡ false
  pub among : IsAmongPids other.pid earlier

-- The parent in hand is one level up, and the page's slot is read after it.
pub record IsParent (limits : Limits) (k : Knowledge) (pid : ℕ) (state : page.VisitState) (level : ℕ) (earlier : List ℕ) (parent : Version) : Type 0 where
  pub kept : IsKept limits k parent earlier
  pub up : level_in parent.chain ≡ suc level
  pub after : IsAhead k parent pid state

-- The page in hand is to the left of the visited one, which so begins above the empty key.
pub record IsLeftOf (limits : Limits) (k : Knowledge) (low : List ℕ) (earlier : List ℕ) (left : Version) : Type 0 where
  pub kept : IsKept limits k left earlier
  pub inner : IsTrue (is_below [] low)

-- After the parent, which is one level up, the page was read by which the parent is to lose a term.
pub record IsLosingTerm (limits : Limits) (k : Knowledge) (earlier : List ℕ) (parent left : Version) : Type 0 where
  pub above : IsKept limits k parent earlier
  pub aside : IsKept limits k left earlier
  pub up : level_in parent.chain ≡ suc (level_in left.chain)
  pub after : IsAfter k parent left

-- by the goal of a round that has read slot 0
abbrev pub KeepsToWrite : Limits → List ℕ → ℕ → Knowledge → ℕ → List ℕ → WriteGoal → Type 0
KeepsToWrite limits key floor k pid earlier Seek = ⊤
KeepsToWrite limits key floor k pid earlier (Left removed) = IsMissing limits k key floor removed (pid ∷ earlier)
KeepsToWrite limits key floor k pid earlier (Merge left) = IsKept limits k left earlier
KeepsToWrite limits key floor k pid earlier (Unterm parent left) = IsLosingTerm limits k earlier parent left

-- by the goal of a round that hasn't
abbrev pub BeginsToWrite : Limits → List ℕ → ℕ → Knowledge → WriteGoal → Type 0
BeginsToWrite limits key floor k Seek = ⊤
BeginsToWrite limits key floor k (Left pid) = IsMissing limits k key floor pid []
BeginsToWrite limits key floor k (Merge left) = ⊥
BeginsToWrite limits key floor k (Unterm parent left) = ⊥

-- Without a parent the page is the one that slot 0 had, or its left page is, or it begins above the empty key.
abbrev pub IsBased : Recalled → Option Version → Option Version → ℕ → List ℕ → Type 0
IsBased r (Some parent) left pid low = ⊤
IsBased r None None pid low = (r.heads 0 ≡ Some pid) ⊎ IsTrue (is_below [] low)
IsBased r None (Some left) pid low = (r.heads 0 ≡ Some left.pid) ⊎ IsTrue (is_below [] (low_in left.chain))

-- The page's term is the greatest of the parent on the way; the parent ends beyond the way, and has few deltas and few items.
pub record HasGreatest (way : List ℕ → Bool) (parent : Version) (pid : ℕ) (low : List ℕ) : Type 0 where
  pub short : HasFewDeltas parent.chain
  pub roomy : HasFewItems parent.chain
  pub stays : StaysLeft way parent.chain
  pub held : Bool
  pub greatest : IsGreatest (content_in parent.chain) way low (Child pid held)

-- The parent has the low key in its range and no term there, few deltas and few items.
pub record HasRoomAt (parent : Version) (low : List ℕ) : Type 0 where
  pub short : HasFewDeltas parent.chain
  pub roomy : HasFewItems parent.chain
  pub covered : IsTrue (covers parent.chain low)
  pub absent : content_in parent.chain low ≡ None

-- The page is the right of the leaf, which begins at the empty key.
pub record IsNextToFirst (left : Version) (pid : ℕ) (low : List ℕ) : Type 0 where
  pub leaf : level_in left.chain ≡ 0
  pub lowest : low_in left.chain ≡ []
  pub right : right_in left.chain ≡ Some pid
  pub high : high_in left.chain ≡ Some low

-- A parent has led to the page, or could get its term; without a parent the page begins at the empty key, is next to such a leaf, or
-- is no leaf.
abbrev pub IsLed : (List ℕ → Bool) → Option Version → Option Version → ℕ → ℕ → List ℕ → Type 0
IsLed way (Some parent) None pid level low = HasGreatest way parent pid low
IsLed way (Some parent) (Some left) pid level low = HasRoomAt parent low
IsLed way None None pid level low = low ≡ []
IsLed way None (Some left) pid level low = (0 < level) ⊎ IsNextToFirst left pid low

-- A page is visited on the way to the key.
pub record VisitsToWrite (limits : Limits) (key : List ℕ) (floor : ℕ) (splits : Bool) (goal : WriteGoal) (parent left : Option Version) (k : Knowledge) (r : Recalled)
    (visit : page.Visit) : Type 0 where
  pub level : ℕ
  pub low : List ℕ
  pub earlier : List ℕ
  pub seeks : IsSeeking limits (write_way goal key) (is_cutting goal) k r visit level low earlier
  pub above : IfSome parent (IsParent limits k visit.pid visit.state level earlier)
  pub aside : IfSome left (IsLeftOf limits k low earlier)
  pub based : IsBased r parent left visit.pid low
  pub led : SeeksLeaf goal → splits ≡ true → IsLed (write_way goal key) parent left visit.pid level low
  pub keeps : KeepsToWrite limits key floor k visit.pid earlier goal

-- by the state of a round
abbrev pub ShowsState : WriteRound → Knowledge → Recalled → WayState → Type 0
ShowsState round k r Root = (k.inside ≡ true) × (round.parent ≡ None) × (round.left ≡ None) × BeginsToWrite round.limits round.key round.floor k round.goal
ShowsState round k r (Page visit) = VisitsToWrite round.limits round.key round.floor round.splits round.goal round.parent round.left k r visit

abbrev pub Shows : WriteRound → Knowledge → Recalled → Type 0
Shows round k r = ShowsState round k r round.state

-- ends

-- The page has many deltas, or a leaf those that are due.
abbrev pub IsLong : Limits → ℕ → List Record → Type 0
IsLong limits due chain = (many_of limits (level_in chain) < length chain) ⊎ ((level_in chain ≡ 0) × (due < length chain))

-- The page is to be consolidated.
pub record IsLongEnd (round : WriteRound) (k : Knowledge) (r : Recalled) (version : Version) (base : PageOf) : Type 0 where
  pub page : IsAlive round.limits k r version
  pub long : IsLong round.limits round.due version.chain
  pub plan : IsBasePlan version base

-- The page is to be split.
pub record IsSplitEnd (round : WriteRound) (k : Knowledge) (r : Recalled) (version : Version) (plan : SplitPlan) : Type 0 where
  pub page : IsAlive round.limits k r version
  pub plan_due : IsSplitPlan version plan

-- The parent is to get the term of a page that was read after it.
pub record IsTermEnd (round : WriteRound) (k : Knowledge) (r : Recalled) (parent : Version) (term : Term) : Type 0 where
  pub page : IsAlive round.limits k r parent
  pub child : Version
  pub below : IsAlive round.limits k r child
  pub after : IsAfter k parent child
  pub plan : IsTermPlan parent child term

-- The page that slot 0 had is to get a root over it and its right.
pub record IsRootEnd (round : WriteRound) (k : Knowledge) (r : Recalled) (left : Version) (root : PageOf) : Type 0 where
  pub page : IsAlive round.limits k r left
  pub right : Version
  pub aside : IsAlive round.limits k r right
  pub rooted : WasHead r 0 left.pid
  pub plan : IsRootPlan left right root

-- The page is in hand, one level above the other, which was read after it.
pub record IsUpper (limits : Limits) (k : Knowledge) (r : Recalled) (version : Version) (parent : Version) : Type 0 where
  pub page : IsAlive limits k r parent
  pub up : level_in parent.chain ≡ suc (level_in version.chain)
  pub after : IsAfter k parent version

-- The page above has the leaf's term, and few deltas; a leaf with no page above it begins at the empty key.
abbrev pub IsTermed : Version → Option Version → Type 0
IsTermed leaf None = low_in leaf.chain ≡ []
IsTermed leaf (Some parent) = (length parent.chain ≤ 8) × ((held : Bool) × (content_in parent.chain (low_in leaf.chain) ≡ Some (Child leaf.pid held)))

-- The leaf has the key in its range, and few deltas; where the round splits pages, it has few items, and the page above has its term.
pub record IsLeafEnd (round : WriteRound) (k : Knowledge) (r : Recalled) (parent : Option Version) (leaf : Version) : Type 0 where
  pub seeks : round.goal ≡ Seek
  pub page : IsAlive round.limits k r leaf
  pub level : level_in leaf.chain ≡ 0
  pub covered : IsTrue (covers leaf.chain round.key)
  pub short : length leaf.chain ≤ 8
  pub early : length leaf.chain ≤ round.due
  pub few : round.splits ≡ true → HasFewItems leaf.chain
  pub above : IfSome parent (IsUpper round.limits k r leaf)
  pub termed : round.splits ≡ true → IsTermed leaf parent

-- The page is to get what the removed page to its right has.
pub record IsMergeEnd (round : WriteRound) (k : Knowledge) (r : Recalled) (left removed : Version) (merge : MergeRecord) : Type 0 where
  pub page : IsAlive round.limits k r left
  pub gone : IsGone round.limits k removed
  pub plan : IsMergePlan left removed merge

-- The parent is to lose the term of the removed page, as a page shows that was read after it.
pub record IsUntermEnd (round : WriteRound) (k : Knowledge) (r : Recalled) (parent left removed : Version) (unterm : UntermRecord) : Type 0 where
  pub page : IsAlive round.limits k r parent
  pub aside : IsAlive round.limits k r left
  pub gone : IsGone round.limits k removed
  pub up : level_in parent.chain ≡ suc (level_in left.chain)
  pub after : IsAfter k parent left
  pub plan : IsUntermPlan parent left removed unterm

-- What is due at a small index page on the way to the leaf of a key, below the page that was read before it.
pub record IsTendEnd (round : WriteRound) (k : Knowledge) (r : Recalled) (parent version : Version) (upkeep : Plan) : Type 0 where
  pub tends : round.tends ≡ true
  pub seeks : round.goal ≡ Seek
  pub page : IsAlive round.limits k r version
  pub above : IsUpper round.limits k r version parent
  pub index : 0 < level_in version.chain
  pub due : IsUpkeep parent version upkeep

-- On the way to the left of a removed page, a page was read that isn't removed and is below the removed one's level.
pub record IsBelowEnd (round : WriteRound) (k : Knowledge) (r : Recalled) : Type 0 where
  pub pid : ℕ
  pub goal : round.goal ≡ Left pid
  pub version : Version
  pub page : IsAlive round.limits k r version
  pub below : level_in version.chain < round.floor

-- The way to the left of a removed page ends at a page of its level that hasn't the removed one as its right, and no page above, which
-- was read before, has the removed one's term held.
pub record IsCleanEnd (round : WriteRound) (k : Knowledge) (r : Recalled) : Type 0 where
  pub pid : ℕ
  pub goal : round.goal ≡ Left pid
  pub version : Version
  pub page : IsAlive round.limits k r version
  pub level : level_in version.chain ≡ round.floor
  pub stays : StaysLeft (write_way round.goal round.key) version.chain
  pub apart : right_in version.chain ≢ Some pid
  pub above : IfSome round.parent (IsUpper round.limits k r version)
  pub lacks : IfSome round.parent (λ parent. content_in parent.chain round.key ≢ Some (Child pid true))

-- The page to the right of the left one was read after it, and may not come into it.
pub record IsUnmergedEnd (round : WriteRound) (k : Knowledge) (r : Recalled) : Type 0 where
  pub left : Version
  pub goal : round.goal ≡ Merge left
  pub aside : IsAlive round.limits k r left
  pub version : Version
  pub page : IsInHand round.limits k version
  pub none : ¬ CanMerge left version

-- The page whose term the parent has was read after it and the left one, and the parent may not lose its term.
pub record IsUncutEnd (round : WriteRound) (k : Knowledge) (r : Recalled) : Type 0 where
  pub parent : Version
  pub left : Version
  pub goal : round.goal ≡ Unterm parent left
  pub above : IsAlive round.limits k r parent
  pub aside : IsAlive round.limits k r left
  pub version : Version
  pub page : IsInHand round.limits k version
  pub none : ¬ CanUnterm parent left version

-- what is due by a change
abbrev pub IsDueBy : WriteRound → Knowledge → Recalled → DueChange → Type 0
IsDueBy round k r (end.Consolidate version base) = IsLongEnd round k r version base
IsDueBy round k r (end.Split version plan) = IsSplitEnd round k r version plan
IsDueBy round k r (end.Term parent term) = IsTermEnd round k r parent term
IsDueBy round k r (end.Root left root) = IsRootEnd round k r left root
IsDueBy round k r (end.Tend parent page upkeep) = IsTendEnd round k r parent page upkeep
IsDueBy round k r (end.Merge left removed merge) = IsMergeEnd round k r left removed merge
IsDueBy round k r (end.Unterm parent left removed unterm) = IsUntermEnd round k r parent left removed unterm

-- The plan makes a change that is due, and this comes once it has won.
pub record IsDueEnd (round : WriteRound) (k : Knowledge) (r : Recalled) (plan : Plan) (after : After) : Type 0 where
  pub change : DueChange
  pub planned : IsPlanned change plan after
  pub due : IsDueBy round k r change

-- what an end says
abbrev pub EndsWrite : WriteRound → Knowledge → Recalled → WriteEnd → Type 0
EndsWrite round k r end.Again = FoundNothing round.state r ⊎ IsBelowEnd round k r
EndsWrite round k r end.Done = IsCleanEnd round k r ⊎ IsUnmergedEnd round k r ⊎ IsUncutEnd round k r
EndsWrite round k r (end.Removed removed) = IsGone round.limits k removed
EndsWrite round k r (end.Due plan after) = IsDueEnd round k r plan after
EndsWrite round k r (end.Leaf parent leaf) = IsLeafEnd round k r parent leaf

-- how many reads are kept for a round after this one: those of one that was begun for a removed page
abbrev pub write_round_kept : ℕ → WriteGoal → ℕ
write_round_kept kept Seek = 0
write_round_kept kept (Left pid) = kept
write_round_kept kept (Merge left) = kept
write_round_kept kept (Unterm parent left) = kept

abbrev pub write_round_left : ℕ → ℕ → Recalled → WriteRound → ℕ
write_round_left reserve kept r round = left_from round.limits reserve r round.state + write_round_kept kept round.goal

-- Where a page wasn't there, a cause pays, but where a removed page is read for its term, the reads that were kept are left; so they
-- are where a page that was there is below the removed one's level.
abbrev pub MissesWrite : ℕ → ℕ → Recalled → WriteRound → Answer Record → WriteGoal → Type 0
MissesWrite reserve kept r old told Seek = IsPaid r (wanted_step old) told
MissesWrite reserve kept r old told (Left pid) = IsPaid r (wanted_step old) told ⊎ ((told ≢ Number 0) × (kept < write_round_left reserve kept r old))
MissesWrite reserve kept r old told (Merge left) = IsPaid r (wanted_step old) told
MissesWrite reserve kept r old told (Unterm parent left) = kept < write_round_left reserve kept r old

-- A round that goes on has fewer reads left, or a cause paid for the reserve. Where the round ends at a removed page, the reserve
-- is left; where it was begun for a removed page, so are those that were kept.
abbrev pub Spends : ℕ → ℕ → Recalled → WriteRound → Answer Record → WriteRound → Option WriteEnd → Type 0
Spends reserve kept r old told new None =
    IsSpentWith (1 + with_walk old.limits reserve) r (wanted_step old) told (write_round_left reserve kept r old) (write_round_left reserve kept (recall r (wanted_step old) told) new)
Spends reserve kept r old told new (Some end.Again) = MissesWrite reserve kept r old told old.goal
Spends reserve kept r old told new (Some (end.Removed removed)) = reserve + write_round_kept kept old.goal < write_round_left reserve kept r old
Spends reserve kept r old told new (Some end.Done) = kept < write_round_left reserve kept r old
Spends reserve kept r old told new (Some other) = write_round_kept kept old.goal < write_round_left reserve kept r old

-- So does the goal where it is the leaf of the key.
pub record WritesForTheSame (old new : WriteRound) : Type 0 where
  pub limits : new.limits ≡ old.limits
  pub key : new.key ≡ old.key
  pub due : new.due ≡ old.due
  pub tends : new.tends ≡ old.tends
  pub splits : new.splits ≡ old.splits
  pub floor : new.floor ≡ old.floor
  pub seeks : old.goal ≡ Seek → new.goal ≡ Seek
