-- A reader's round from the root to a leaf: the step that it wants, what its actor knows meanwhile, and how it ends.
use Rattle.std.specs.Prelude.{◌≡◌, ◌≢◌, ◌<◌, ◌+◌, ◌⊎◌, ◌||◌, ℕ, suc, List, Bool, Option, Some, None, true, false, IsTrue, IfSome, ⊤}
use Rattle.tree_limits.specs.declared.limits.Limits.{Limits}
use Rattle.bw_model.specs.declared.step.Step.{Step as StepOf}
use Rattle.bw_model.specs.declared.step.Answer.{Answer}
use Rattle.base_page.specs.Places.{HasNoChild}
use Rattle.deltas.specs.declared.record.Record.{Record}
use Rattle.traces.specs.chain.Chains.{content_in, covers, is_removed, level_in, low_in, right_in}
use Rattle.traces.specs.discipline.Discipline.{NamesChild}
use Rattle.traces.specs.discipline.Fitting.{SaysOf}
use Rattle.traces.specs.discipline.Knowledge.{Knowledge}
use Rattle.traces.specs.discipline.Recalled.{IsPaid, IsSpentWith, Recalled, recall}
use Rattle.structure_changes.specs.Readings.{IsAfter}
use Rattle.structure_changes.specs.Versions.{Version}
use Rattle.round_model.specs.Versions.{IsAlive, IsGone, IsInHand, NamesPages}
use Rattle.round_model.specs.Descents.{FoundNothing, left_from, wanted_at, WayState, Root, Page}
use Rattle.round_model.specs.Rounds.{Rounds}
use Rattle.round_model.specs.Visits as page
use Rattle.round_model.specs.Walks.{HasMetNone, IsAhead, IsAmongPids, IsReached, IsRoundLast, IsSeeking, IsUnderLast, with_walk}
use Rattle.round_model.specs.Ways.{EndsHere, LeadsDown, LeadsOn, LeadsRight, StaysLeft, precedes, reaches}
use Rattle.round_model.specs.ReadGoals.{ReadGoal, Seek, Left, Beyond}
use Rattle.round_model.specs.ReadLegs.{Leg, Down, Round, Past, IsPlain, above_of, below, has_met, level_on}
use Rattle.round_model.specs.ReadEnds.{ReadEnd, Again, Removed, Leaf, Beside}

-- the key whose leaf is sought, where the round goes first, on which leg of its way it is, and where it stands
pub record ReadRound : Type 0 where
  pub limits : Limits
  pub key : List ℕ
  pub goal : ReadGoal
  pub leg : Leg
  pub state : WayState

-- the step that the round has asked for
abbrev pub wanted_step : ReadRound → StepOf Record
wanted_step round = wanted_at round.state

abbrev pub at : ReadRound → WayState → ReadRound
at round state = record round { state = state }

-- the round, gone to a page
abbrev pub reading_on_to : ℕ → ReadRound → ReadRound
reading_on_to pid round = at round (Page (page.to_page round.limits pid))

-- which low keys are on the way to the left of a removed page
abbrev pub left_of : Version → List ℕ → Bool
left_of removed = precedes (low_in removed.chain)

-- which low keys are on the way of a goal
abbrev pub read_way : ReadGoal → List ℕ → List ℕ → Bool
read_way Seek key = reaches key
read_way (Left removed) key = left_of removed
read_way Beyond key = reaches key

-- which low keys are on the way of a goal and a leg
abbrev pub way_on : Leg → ReadGoal → List ℕ → List ℕ → Bool
way_on (Down above) goal key = read_way goal key
way_on (Round removed) goal key = left_of removed
way_on (Past above) goal key = read_way goal key

abbrev pub goes_beyond : ReadGoal → Bool
goes_beyond Seek = false
goes_beyond (Left removed) = false
goes_beyond Beyond = true

-- the round, gone on to a goal
abbrev pub toward : ReadGoal → ReadRound → ReadRound
toward goal round = record round { goal = goal }

-- the round, on another leg
abbrev pub on : Leg → ReadRound → ReadRound
on leg round = record round { leg = leg }

-- The page is in hand, removed, and begins at or below the key.
pub record IsGoneAt (limits : Limits) (k : Knowledge) (key : List ℕ) (removed : Version) : Type 0 where
  pub page : IsGone limits k removed
  pub reached : IsTrue (reaches key (low_in removed.chain))

-- The removed page is still in hand, isn't the visited one, and was read before it.
pub record IsAside (limits : Limits) (k : Knowledge) (key : List ℕ) (visit : page.Visit) (removed : Version) : Type 0 where
  pub gone : IsGoneAt limits k key removed
  pub apart : removed.pid ≢ visit.pid
  pub after : IsAhead k removed visit.pid visit.state

-- by the goal of a round that has read slot 0
abbrev pub KeepsToRead : Limits → List ℕ → Knowledge → page.Visit → ReadGoal → Type 0
KeepsToRead limits key k visit Seek = ⊤
KeepsToRead limits key k visit (Left removed) = IsAside limits k key visit removed
KeepsToRead limits key k visit Beyond = ⊤

-- by the goal of a round that hasn't
abbrev pub BeginsToRead : Limits → List ℕ → Knowledge → ReadGoal → Type 0
BeginsToRead limits key k Seek = k.inside ≡ true
BeginsToRead limits key k (Left removed) = (k.inside ≡ true) × IsGoneAt limits k key removed
BeginsToRead limits key k Beyond = k.inside ≡ true

-- what a page says of the one that is kept aside is so
abbrev pub SaysAside : ReadGoal → List Record → Type 0
SaysAside Seek chain = ⊤
SaysAside (Left removed) chain = SaysOf chain removed.pid removed.chain
SaysAside Beyond chain = ⊤

-- The page above is in hand, isn't removed, was read in this round, is one level up, and so isn't the page.
pub record IsAbove (limits : Limits) (k : Knowledge) (goal : ReadGoal) (pid level : ℕ) (earlier : List ℕ) (above : Version) : Type 0 where
  pub in_hand : IsInHand limits k above
  pub alive : is_removed above.chain ≡ false
  pub among : IsAmongPids above.pid earlier
  pub up : level_in above.chain ≡ suc level
  pub apart : above.pid ≢ pid
  pub says : SaysAside goal above.chain

-- by the leg of a round
abbrev pub IsOn : Limits → Knowledge → Recalled → ReadGoal → page.Visit → ℕ → List ℕ → Leg → Type 0
IsOn limits k r goal visit level earlier (Down above) = HasMetNone r.walk visit.state × IfSome above (IsAbove limits k goal visit.pid level earlier)
IsOn limits k r goal visit level earlier (Round removed) = IsRoundLast removed r.walk visit.state
IsOn limits k r goal visit level earlier (Past above) = IsUnderLast above level earlier r.walk visit.part visit.state × IfSome above (IsAbove limits k goal visit.pid level earlier)

-- A page is visited on the way of the goal.
pub record VisitsToRead (limits : Limits) (key : List ℕ) (goal : ReadGoal) (leg : Leg) (k : Knowledge) (r : Recalled) (visit : page.Visit) : Type 0 where
  pub level : ℕ
  pub low : List ℕ
  pub earlier : List ℕ
  pub seeks : IsSeeking limits (read_way goal key) (has_met leg || goes_beyond goal) k r visit level low earlier
  pub keeps : KeepsToRead limits key k visit goal
  pub leg_is : IsOn limits k r goal visit level earlier leg

-- A page is visited on the way to the left of a removed index page, which was read in this round on the way of the goal.
pub record IsGoingRound (limits : Limits) (key : List ℕ) (goal : ReadGoal) (removed : Version) (k : Knowledge) (r : Recalled) (visit : page.Visit) : Type 0 where
  pub nears : VisitsToRead limits key (Left removed) (Round removed) k r visit
  pub keeps : KeepsToRead limits key k visit goal
  pub index : 0 < level_in removed.chain
  pub reached : IsTrue (read_way goal key (low_in removed.chain))

-- by the leg of a round that has read slot 0
abbrev pub ShowsVisit : Limits → List ℕ → ReadGoal → Leg → Knowledge → Recalled → page.Visit → Type 0
ShowsVisit limits key goal (Down above) k r visit = VisitsToRead limits key goal (Down above) k r visit
ShowsVisit limits key goal (Round removed) k r visit = IsGoingRound limits key goal removed k r visit
ShowsVisit limits key goal (Past above) k r visit = VisitsToRead limits key goal (Past above) k r visit

-- by the state of a round
abbrev pub ShowsState : Limits → List ℕ → ReadGoal → Leg → Knowledge → Recalled → WayState → Type 0
ShowsState limits key goal leg k r Root = (leg ≡ Down None) × BeginsToRead limits key k goal
ShowsState limits key goal leg k r (Page visit) = ShowsVisit limits key goal leg k r visit

abbrev pub Shows : ReadRound → Knowledge → Recalled → Type 0
Shows round k r = ShowsState round.limits round.key round.goal round.leg k r round.state

-- The leaf has the key in its range, and isn't removed.
pub record IsAliveLeaf (limits : Limits) (k : Knowledge) (r : Recalled) (key : List ℕ) (leaf : Version) : Type 0 where
  pub page : IsAlive limits k r leaf
  pub level : level_in leaf.chain ≡ 0
  pub covered : IsTrue (covers leaf.chain key)

-- The removed leaf has the key in its range; after it, its left page was read, which isn't removed.
pub record IsBesideLeaf (limits : Limits) (k : Knowledge) (r : Recalled) (key : List ℕ) (left removed : Version) : Type 0 where
  pub aside : IsAlive limits k r left
  pub right : right_in left.chain ≡ Some removed.pid
  pub after : IsAfter k removed left
  pub page : IsGone limits k removed
  pub level : level_in removed.chain ≡ 0
  pub covered : IsTrue (covers removed.chain key)

-- The page isn't removed, and the round goes on to its right, where the page ends on the way.
pub record GoesRight (old : ReadRound) (version : Version) (new : ReadRound) : Type 0 where
  pub plain : IsPlain old.leg
  pub alive : is_removed version.chain ≡ false
  pub next : ℕ
  pub leads : LeadsRight (read_way old.goal old.key) version.chain next
  pub goes : new ≡ reading_on_to next old

-- The page isn't removed, and the round goes down to the child of its greatest term on the way.
pub record GoesDown (old : ReadRound) (version : Version) (new : ReadRound) : Type 0 where
  pub plain : IsPlain old.leg
  pub alive : is_removed version.chain ≡ false
  pub stays : StaysLeft (read_way old.goal old.key) version.chain
  pub index : 0 < level_in version.chain
  pub next : ℕ
  pub leads : LeadsDown (read_way old.goal old.key) version.chain next
  pub goes : new ≡ reading_on_to next (on (below version old.leg) old)

-- The page isn't removed, and is the leaf where the way to the left of the removed page ends.
pub record IsLeftLeaf (old : ReadRound) (version removed : Version) : Type 0 where
  pub plain : IsPlain old.leg
  pub goal : old.goal ≡ Left removed
  pub alive : is_removed version.chain ≡ false
  pub ends : EndsHere (precedes (low_in removed.chain)) version.chain

-- At the leaf to the left of a removed page, whose right that page is, the round goes on to the right of the removed page, which
-- ends at or below the key.
pub record GoesBeyond (old : ReadRound) (version : Version) (new : ReadRound) : Type 0 where
  pub removed : Version
  pub left : IsLeftLeaf old version removed
  pub beside : right_in version.chain ≡ Some removed.pid
  pub next : ℕ
  pub leads : LeadsRight (reaches old.key) removed.chain next
  pub goes : new ≡ reading_on_to next (on (level_on old.leg) (toward Beyond old))

-- At the leaf to the left of a page that has been merged, the round goes on to the leaf's own right.
pub record GoesPast (old : ReadRound) (version : Version) (new : ReadRound) : Type 0 where
  pub removed : Version
  pub left : IsLeftLeaf old version removed
  pub merged : right_in version.chain ≢ Some removed.pid
  pub next : ℕ
  pub leads : LeadsRight (reaches old.key) version.chain next
  pub goes : new ≡ reading_on_to next (on (level_on old.leg) (toward Beyond old))

-- the round isn't on its way to the left of a page
abbrev pub SeeksKey : ReadGoal → Type 0
SeeksKey Seek = ⊤
SeeksKey (Left removed) = ⊥
SeeksKey Beyond = ⊤

-- The page is a removed leaf.
pub record IsAtGone (old : ReadRound) (version removed : Version) : Type 0 where
  pub is : removed ≡ version
  pub plain : IsPlain old.leg
  pub gone : is_removed version.chain ≡ true
  pub leaf : level_in version.chain ≡ 0

-- The page isn't removed, and the round ends there.
pub record IsAtEnd (old : ReadRound) (version leaf : Version) : Type 0 where
  pub is : leaf ≡ version
  pub plain : IsPlain old.leg
  pub seeks : SeeksKey old.goal
  pub alive : is_removed version.chain ≡ false
  pub ends : EndsHere (read_way old.goal old.key) version.chain

-- The page is to the left of a removed one that has been merged, and the round ends there.
pub record IsAtMerged (old : ReadRound) (version leaf : Version) : Type 0 where
  pub is : leaf ≡ version
  pub removed : Version
  pub left : IsLeftLeaf old version removed
  pub merged : right_in version.chain ≢ Some removed.pid
  pub stays : StaysLeft (reaches old.key) version.chain

-- The page is to the left of the removed one, which ends above the key.
pub record IsAtBeside (old : ReadRound) (version left removed : Version) : Type 0 where
  pub is : left ≡ version
  pub at_left : IsLeftLeaf old version removed
  pub beside : right_in version.chain ≡ Some removed.pid
  pub stays : StaysLeft (reaches old.key) removed.chain

-- The page is a removed index page, and the round goes to the left of it: to the child of the greatest term below the page that the page
-- above has.
pub record GoesRound (old : ReadRound) (version : Version) (new : ReadRound) : Type 0 where
  pub gone : is_removed version.chain ≡ true
  pub index : 0 < level_in version.chain
  pub above : Version
  pub is_above : above_of old.leg ≡ Some above
  pub next : ℕ
  pub leads : LeadsDown (left_of version) above.chain next
  pub goes : new ≡ reading_on_to next (on (Round version) old)

-- No page above has a term below the page.
abbrev pub LacksLeft : Version → Leg → Type 0
LacksLeft version (Down None) = ⊤
LacksLeft version (Down (Some above)) = HasNoChild (content_in above.chain) (left_of version)
LacksLeft version (Round removed) = ⊥
LacksLeft version (Past None) = ⊤
LacksLeft version (Past (Some above)) = HasNoChild (content_in above.chain) (left_of version)

-- The page is a removed index page, to the left of which the round can't go from the page above, or there is none.
pub record IsLost (old : ReadRound) (version : Version) : Type 0 where
  pub gone : is_removed version.chain ≡ true
  pub index : 0 < level_in version.chain
  pub lacks : LacksLeft version old.leg

-- On the way round a removed page, a page of its level was read, which isn't removed.
pub record IsAtLevel (old : ReadRound) (version removed : Version) : Type 0 where
  pub leg : old.leg ≡ Round removed
  pub alive : is_removed version.chain ≡ false
  pub same : level_in version.chain ≡ level_in removed.chain

-- The page ends to the left of the removed one, and the way round that one goes on to its right.
pub record GoesNearer (old : ReadRound) (version : Version) (new : ReadRound) : Type 0 where
  pub removed : Version
  pub left : IsAtLevel old version removed
  pub next : ℕ
  pub leads : LeadsRight (left_of removed) version.chain next
  pub goes : new ≡ reading_on_to next old

-- The removed page is the page's right: the round goes on from what it read of it, to its right or down.
pub record GoesThrough (old : ReadRound) (version : Version) (new : ReadRound) : Type 0 where
  pub removed : Version
  pub left : IsAtLevel old version removed
  pub stays : StaysLeft (left_of removed) version.chain
  pub beside : right_in version.chain ≡ Some removed.pid
  pub next : ℕ
  pub leads : LeadsOn (read_way old.goal old.key) removed.chain next
  pub goes : new ≡ reading_on_to next (on (Past None) old)

-- The removed page has been merged into the page, or beside it.
pub record IsAtMergedPage (old : ReadRound) (version removed : Version) : Type 0 where
  pub left : IsAtLevel old version removed
  pub stays : StaysLeft (left_of removed) version.chain
  pub merged : right_in version.chain ≢ Some removed.pid

-- The round goes on from there to the page's right, where the page ends on the way.
pub record GoesRightMerged (old : ReadRound) (version : Version) (new : ReadRound) : Type 0 where
  pub removed : Version
  pub there : IsAtMergedPage old version removed
  pub next : ℕ
  pub leads : LeadsRight (read_way old.goal old.key) version.chain next
  pub goes : new ≡ reading_on_to next (on (Past None) old)

-- Or it goes down from the page, which is the page above from then on.
pub record GoesDownMerged (old : ReadRound) (version : Version) (new : ReadRound) : Type 0 where
  pub removed : Version
  pub there : IsAtMergedPage old version removed
  pub ends : StaysLeft (read_way old.goal old.key) version.chain
  pub index : 0 < level_in version.chain
  pub next : ℕ
  pub leads : LeadsDown (read_way old.goal old.key) version.chain next
  pub goes : new ≡ reading_on_to next (on (Past (Some version)) old)

-- On the way round a removed page, the page is removed, or of another level.
pub record IsOffLevel (old : ReadRound) (version : Version) : Type 0 where
  pub removed : Version
  pub leg : old.leg ≡ Round removed
  pub off : (is_removed version.chain ≡ true) ⊎ (level_in version.chain ≢ level_in removed.chain)

-- A page was read at which the round is lost: a removed index page to the left of which it can't go, or, on its way to the left of one,
-- a removed page, or one of another level.
pub record IsLostEnd (round : ReadRound) (k : Knowledge) : Type 0 where
  pub version : Version
  pub page : IsInHand round.limits k version
  pub lost : IsLost round version ⊎ IsOffLevel round version

-- what an end says
abbrev pub EndsRead : ReadRound → Knowledge → Recalled → ReadEnd → Type 0
EndsRead round k r Again = FoundNothing round.state r ⊎ IsLostEnd round k
EndsRead round k r (Removed removed) = IsGoneAt round.limits k round.key removed
EndsRead round k r (Leaf leaf) = IsAliveLeaf round.limits k r round.key leaf
EndsRead round k r (Beside left removed) = IsBesideLeaf round.limits k r round.key left removed

-- what a round does with a page that was read whole
abbrev pub TreatsRead : ReadRound → Version → ReadRound → Option ReadEnd → Type 0
TreatsRead old version new None = GoesRight old version new ⊎ GoesDown old version new ⊎ GoesBeyond old version new ⊎ GoesPast old version new
    ⊎ GoesRound old version new ⊎ GoesNearer old version new ⊎ GoesThrough old version new ⊎ GoesRightMerged old version new ⊎ GoesDownMerged old version new
TreatsRead old version new (Some Again) = IsLost old version ⊎ IsOffLevel old version
TreatsRead old version new (Some (Removed removed)) = IsAtGone old version removed
TreatsRead old version new (Some (Leaf leaf)) = IsAtEnd old version leaf ⊎ IsAtMerged old version leaf
TreatsRead old version new (Some (Beside left removed)) = IsAtBeside old version left removed

-- The right of the removed page is one that there may be, where the page is its left one.
abbrev pub CanPass : Limits → Version → ReadGoal → Type 0
CanPass limits version Seek = ⊤
CanPass limits version (Left removed) =
    is_removed version.chain ≡ false → right_in version.chain ≡ Some removed.pid → (next : ℕ) → right_in removed.chain ≡ Some next → (0 < next) × (next < limits.pids)
CanPass limits version Beyond = ⊤

-- The page above is an index page, and the pages that it names are such as there may be.
pub record HasChildren (limits : Limits) (above : Version) : Type 0 where
  pub index : 0 < level_in above.chain
  pub names : NamesPages limits above.chain

-- The removed page is an index page on the way; the pages that it names are such as there may be, where the page is its left one.
pub record CanGoRound (limits : Limits) (way : List ℕ → Bool) (version removed : Version) : Type 0 where
  pub index : 0 < level_in removed.chain
  pub reached : IsTrue (way (low_in removed.chain))
  pub names : is_removed version.chain ≡ false → right_in version.chain ≡ Some removed.pid → (next : ℕ)
      → (right_in removed.chain ≡ Some next) ⊎ NamesChild removed.chain next → (0 < next) × (next < limits.pids)

-- by the leg of a round
abbrev pub CanMeetLeg : Limits → (List ℕ → Bool) → ReadGoal → Version → Leg → Type 0
CanMeetLeg limits way goal version (Down above) = CanPass limits version goal × IfSome above (HasChildren limits)
CanMeetLeg limits way goal version (Round removed) = CanGoRound limits way version removed
CanMeetLeg limits way goal version (Past above) = CanPass limits version goal × IfSome above (HasChildren limits)

-- The round has reached the page.
pub record CanTreatRead (round : ReadRound) (version : Version) : Type 0 where
  pub reached : IsReached round.limits (way_on round.leg round.goal round.key) version
  pub meets : CanMeetLeg round.limits (read_way round.goal round.key) round.goal version round.leg

-- the reader's rounds
abbrev pub reading : Rounds ReadRound ReadEnd
reading = record {
  way = λ round. record { limits = round.limits; state = round.state };
  at = at;
  Shows = Shows;
  Ends = EndsRead;
  CanTreat = CanTreatRead;
  Treats = TreatsRead;
  again = Again;
}

-- how many reads are kept for a round after this one: those of one that was begun for a removed page
abbrev pub read_round_kept : ℕ → ReadGoal → ℕ
read_round_kept kept Seek = 0
read_round_kept kept (Left removed) = kept
read_round_kept kept Beyond = kept

abbrev pub read_round_left : ℕ → ℕ → Recalled → ReadRound → ℕ
read_round_left reserve kept r round = left_from round.limits reserve r round.state + read_round_kept kept round.goal

-- Where a page wasn't there, a cause pays, but where a removed index page was met, and what is reserved is left; beyond a removed leaf
-- the reads that were kept are.
abbrev pub MissesRead : ℕ → ℕ → Recalled → ReadRound → Answer Record → ReadGoal → Type 0
MissesRead reserve kept r old told Seek = IsPaid r (wanted_step old) told ⊎ (reserve < read_round_left reserve kept r old)
MissesRead reserve kept r old told (Left removed) = IsPaid r (wanted_step old) told ⊎ (reserve + kept < read_round_left reserve kept r old)
MissesRead reserve kept r old told Beyond = kept < read_round_left reserve kept r old

-- A round that goes on has fewer reads left, or a cause paid for the reserve. Where the round ends at a removed page, the reserve
-- is left; where it was begun for a removed page, so are those that were kept.
abbrev pub Spends : ℕ → ℕ → Recalled → ReadRound → Answer Record → ReadRound → Option ReadEnd → Type 0
Spends reserve kept r old told new None =
    IsSpentWith (1 + with_walk old.limits reserve) r (wanted_step old) told (read_round_left reserve kept r old) (read_round_left reserve kept (recall r (wanted_step old) told) new)
Spends reserve kept r old told new (Some Again) = MissesRead reserve kept r old told old.goal
Spends reserve kept r old told new (Some (Removed removed)) = reserve + read_round_kept kept old.goal < read_round_left reserve kept r old
Spends reserve kept r old told new (Some (Leaf leaf)) = read_round_kept kept old.goal < read_round_left reserve kept r old
Spends reserve kept r old told new (Some (Beside left removed)) = kept < read_round_left reserve kept r old

-- The limits and the key stay.
pub record ReadsForTheSame (old new : ReadRound) : Type 0 where
  pub limits : new.limits ≡ old.limits
  pub key : new.key ≡ old.key
