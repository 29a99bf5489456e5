-- A reader's round that shows what its actor knows stands in the memory of the state.
use Rattle.progress.proofs.Words.{◌≡◌, ◌++◌, ℕ, List, false, Option, Some, None, refl, Limits, Record, is_removed, right_in, Entry, Knowledge, knows, Recalled, Version, WayState, Root, Page}
use Rattle.progress.proofs.Words.{ReadGoal, Seek, Left, Beyond, Leg, Down, Round, Past, Key, IsState, IsGoalIn, IsLegIn, IsRoundIn, IsStateIn, IsVisitIn, NamesPlaces, WasRemovedLeaf, ReadRound}
use Rattle.progress.proofs.Words.{Slot, Row, Visit, VisitState, IsOnWay}
use Rattle.round_model.specs.ReadRounds.{BeginsToRead, IsAbove, IsAside, IsGoneAt, IsOn, KeepsToRead, ShowsState, ShowsVisit, VisitsToRead}
use Rattle.round_model.specs.ReadRounds as read
use Rattle.round_model.specs.Visits as seen
use Rattle.round_model.specs.Walks.{IsAhead}
use Rattle.progress.proofs.rounds.Known.{WasRead, expected_place, read_beyond, read_front, read_kept, read_names, read_whole, tree}

module _ (limits : Limits) (entries : List Entry) (state : IsState limits entries) (actor : ℕ) where
  abbrev k : Knowledge
  k = knows entries actor

  -- a removed page that is in hand
  was_removed : (within : Limits) (key : Key) (removed : Version) → IsGoneAt within k key removed → WasRemovedLeaf (tree limits entries state actor) removed
  was_removed within key removed g =
      let r = read_whole limits entries state actor removed g.page.in_hand.seen in
      record { fits = r.fits; gone = g.page.gone; kept = read_kept limits entries state actor removed.pid removed.head removed.chain r g.page.gone }

  -- the page above
  above_in : (within : Limits) (goal : ReadGoal) (pid level : ℕ) (earlier : List ℕ) (above : Version) → IsAbove within k goal pid level earlier above
      → NamesPlaces (tree limits entries state actor) above.chain
  above_in within goal pid level earlier above a = read_names limits entries state actor above.pid above.head above.chain (read_whole limits entries state actor above a.in_hand.seen) a.alive

  -- what a removed page names that the page has as its right, after which that one's slot was read
  beyond_in : (within : Limits) (key : Key) (visit : Visit) (removed : Version) (head row : ℕ) (chain : List Record) → IsAside within k key visit removed
      → visit.state ≡ Row head row → k.read.heads visit.pid ≡ Some head → WasRead limits entries state actor visit.pid head chain
      → is_removed chain ≡ false → right_in chain ≡ Some removed.pid → NamesPlaces (tree limits entries state actor) removed.chain
  beyond_in within key visit removed head row chain a at_row at_head r alive is_right =
      let after : IsAhead k removed visit.pid (Row head row) = rw at_row at a.after in
      let q = read_whole limits entries state actor removed a.gone.page.in_hand.seen in
      read_beyond limits entries state actor visit.pid head removed.pid removed.head chain removed.chain r at_head after q.is_chain a.gone.page.gone alive is_right

  goal_at : (within : Limits) (key : Key) (visit : Visit) (goal : ReadGoal) → KeepsToRead within key k visit goal → IsGoalIn (tree limits entries state actor) goal
  goal_at within key visit Seek keeps = tt
  goal_at within key visit (Left removed) keeps = was_removed within key removed keeps.gone
  goal_at within key visit Beyond keeps = tt

  goal_begins : (within : Limits) (key : Key) (goal : ReadGoal) → BeginsToRead within key k goal → IsGoalIn (tree limits entries state actor) goal
  goal_begins within key Seek begins = tt
  goal_begins within key (Left removed) begins = was_removed within key removed begins.1
  goal_begins within key Beyond begins = tt

  -- a visit on a way, by where it stands
  visit_at : (within : Limits) (key : Key) (goal : ReadGoal) (leg : Leg) (r : Recalled) (visit : Visit) (level : ℕ) (low : Key) (earlier : List ℕ)
      → IsOnWay within k r visit level low earlier → KeepsToRead within key k visit goal
      → ((removed : Version) → leg ≡ Round removed → IsAside within k key visit removed) → (at : VisitState) → visit.state ≡ at
      → IsVisitIn (tree limits entries state actor) goal leg visit.pid visit.part at
  visit_at within key goal leg r visit level low earlier way keeps goes_round Slot e = expected_place limits entries state actor within visit.pid level low earlier way.expected
  visit_at within key goal leg r visit level low earlier way keeps goes_round (Row head row) e =
      let reads : seen.Reads k visit.pid head visit.part row = rw e at way.shows.stands in
      let f = read_front limits entries state actor visit.pid head row visit.part reads.in_slot reads.seen in
      record {
        rest = f.0;
        stands = f.1;
        fits = f.2.fits;
        names = λ alive. read_names limits entries state actor visit.pid head (visit.part ++ f.0) f.2 alive;
        kept = λ gone. read_kept limits entries state actor visit.pid head (visit.part ++ f.0) f.2 gone;
        left =
            λ removed is alive is_right. beyond_in within key visit removed head row (visit.part ++ f.0)
            (rw is at keeps) e reads.in_slot f.2 alive is_right;
        round = λ removed is alive is_right. beyond_in within key visit removed head row (visit.part ++ f.0) (goes_round removed is) e reads.in_slot f.2 alive is_right;
      }

  not_down : {X : Type 0} (above : Option Version) (removed : Version) → Down above ≡ Round removed → X
  not_down above removed e = absurd (cc)

  not_past : {X : Type 0} (above : Option Version) (removed : Version) → Past above ≡ Round removed → X
  not_past above removed e = absurd (cc)

  same_round : (removed other : Version) → Round removed ≡ Round other → removed ≡ other
  same_round removed other e = cc

  leg_down : (within : Limits) (key : Key) (goal : ReadGoal) (above : Option Version) (r : Recalled) (visit : Visit)
      → VisitsToRead within key goal (Down above) k r visit → IsLegIn (tree limits entries state actor) (Down above)
  leg_down within key goal None r visit v = tt
  leg_down within key goal (Some above) r visit v = above_in within goal visit.pid v.level v.earlier above v.leg_is.1

  leg_past : (within : Limits) (key : Key) (goal : ReadGoal) (above : Option Version) (r : Recalled) (visit : Visit)
      → VisitsToRead within key goal (Past above) k r visit → IsLegIn (tree limits entries state actor) (Past above)
  leg_past within key goal None r visit v = tt
  leg_past within key goal (Some above) r visit v = above_in within goal visit.pid v.level v.earlier above v.leg_is.1

  at_visit : (within : Limits) (key : Key) (goal : ReadGoal) (leg : Leg) (r : Recalled) (visit : Visit) → ShowsVisit within key goal leg k r visit
      → IsGoalIn (tree limits entries state actor) goal × IsLegIn (tree limits entries state actor) leg × IsVisitIn (tree limits entries state actor) goal leg visit.pid visit.part visit.state
  at_visit within key goal (Down above) r visit v = (
    goal_at within key visit goal v.keeps,
    leg_down within key goal above r visit v,
    visit_at within key goal (Down above) r visit v.level v.low v.earlier v.seeks.on_way v.keeps (λ removed e. not_down above removed e) visit.state refl,
  )
  at_visit within key goal (Past above) r visit v = (
    goal_at within key visit goal v.keeps,
    leg_past within key goal above r visit v,
    visit_at within key goal (Past above) r visit v.level v.low v.earlier v.seeks.on_way v.keeps (λ removed e. not_past above removed e) visit.state refl,
  )
  at_visit within key goal (Round removed) r visit v = (
    goal_at within key visit goal v.keeps,
    (was_removed within key removed v.nears.keeps.gone).kept,
    visit_at within key goal (Round removed) r visit v.nears.level v.nears.low v.nears.earlier v.nears.seeks.on_way v.keeps
        (λ other e. rw (← same_round removed other e) v.nears.keeps) visit.state refl,
  )

  at_state : (within : Limits) (key : Key) (goal : ReadGoal) (leg : Leg) (r : Recalled) (way : WayState) → ShowsState within key goal leg k r way
      → IsGoalIn (tree limits entries state actor) goal × IsLegIn (tree limits entries state actor) leg × IsStateIn (tree limits entries state actor) goal leg way
  at_state within key goal leg r Root s = (goal_begins within key goal s.1, rw s.0 tt, tt)
  at_state within key goal leg r (Page visit) s = at_visit within key goal leg r visit s

  pub shown_in : (round : ReadRound) (r : Recalled) → read.Shows round k r → IsRoundIn (tree limits entries state actor) round
  shown_in round r shows = let s = at_state round.limits round.key round.goal round.leg r round.state shows in record { goal = s.0; leg = s.1; state = s.2 }
