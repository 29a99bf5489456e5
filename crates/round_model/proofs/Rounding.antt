-- A reader's way by the left of a removed page: beside a removed leaf, and round a removed index page.
use Rattle.round_model.proofs.Words.{◌≡◌, ◌≢◌, ◌<◌, ◌≤◌, ◌-◌, ◌||◌, ◌⊎◌, inl, inr, ℕ, List, [], ◌∷◌, Bool, true, false, Option, None, Some, refl, ◌∙◌, arith, IfSome, IsTrue}
use Rattle.round_model.proofs.Words.{same_Some, Limits, is_below, Record, high_in, is_removed, level_in, low_in, right_in, NamesChild, SaysOf, Knowledge, Recalled, trail, Version}
use Rattle.round_model.proofs.Words.{Leg, Down, Round, Past, above_of, has_met, level_on, to_page, AreRemovalsAbove, IsUnderRemoval, LeadsDown, LeadsOn, LeadsRight, NamesAt, StaysLeft}
use Rattle.round_model.proofs.Words.{reaches}
use Rattle.round_model.specs.ReadGoals.{ReadGoal, Seek, Left, Beyond}
use Rattle.round_model.specs.ReadRounds.{IsAbove, IsAliveLeaf, IsBesideLeaf, IsGoingRound, IsOn, VisitsToRead, KeepsToRead, goes_beyond, left_of, read_way}
use Rattle.round_model.proofs.Beside.{IsBesideGone, beside_on, says, says_before, within}
use Rattle.round_model.proofs.Holding.{has_read}
use Rattle.round_model.proofs.Passing.{HasReached, IsBy, IsOver, Passed, WasOn, above_here, at_or_below, before_on, goes_right, is_on_way, keeps_on, met_none, met_still, most_under, of_level}
use Rattle.round_model.proofs.Removals.{removal_above}
use Rattle.round_model.proofs.Seeking.{is_gone, living, seeks_on}
use Rattle.round_model.proofs.Walking.{not_itself, told_of, trans}
use Rattle.round_model.proofs.WayLaws.{covers_here, down_names, named_of, named_within, right_names}

-- a round that has gone to the left of a removed page goes on anywhere
beyond_any : (leg : Leg) → (has_met leg || true) ≡ true
beyond_any (Down above) = refl
beyond_any other = refl

-- beside the removed page
module _ (limits : Limits) (key : List ℕ) (removed : Version) (leg : Leg) (k now : Knowledge) (r : Recalled) (version : Version)
    (h : HasReached limits key (Left removed) leg k now r version) (alive : is_removed version.chain ≡ false) where
  abbrev here : List Record
  here = version.chain

  by : IsBy limits key k now version removed
  by = h.passed

  left : IsTrue (is_below (low_in here) (low_in removed.chain))
  left = is_on_way limits key (Left removed) leg k now r version h

  level_leg : (target : ReadGoal) (pid level : ℕ) (earlier : List ℕ) (other : Leg) → level ≤ level_in here → earlier ≢ []
      → WasOn limits k now r (Left removed) version h.level h.earlier other → IsOn limits now r target (to_page limits pid) level earlier (level_on other)
  level_leg target pid level earlier (Down above) most some on = (met_none limits key (Left removed) leg k now r version h alive on.0, tt)
  level_leg target pid level earlier (Round other) most some on = (on.0, on.1 (met_still limits key (Left removed) leg k now r version h alive on.0))
  level_leg target pid level earlier (Past above) most some on = let last = most_under limits key (Left removed) leg k now r version h above alive on in ((some, on.0.1, omega (arith, most, last)), tt)

  -- it has been merged, and the round goes on at its left page's right
  pub past_merged : (pid : ℕ) → LeadsRight (reaches key) here pid → VisitsToRead limits key Beyond (level_on leg) now r (to_page limits pid)
  past_merged pid on = record {
    level = level_in here;
    low = on.low;
    earlier = version.pid ∷ h.earlier;
    seeks =
        rw (beyond_any (level_on leg)) (seeks_on limits k now r version h.level h.low h.earlier h.arrives (reaches key) true pid (level_in here) on.low
        (right_names (reaches key) here pid on) alive on.on_way (λ here. absurd cc));
    keeps = tt;
    leg_is = level_leg Beyond pid (level_in here) (version.pid ∷ h.earlier) leg (omega arith) (λ e. cc) h.leg_was;
  }

  module _ (beside : right_in here ≡ Some removed.pid) where
    beside_gone : IsBesideGone limits k now removed version
    beside_gone = record { known = by.was; gone = by.gone.page; before = by.before; after = by.after; left = left; alive = alive; right = beside }

    says_here : (level_in removed.chain ≡ level_in here) × (high_in here ≡ Some (low_in removed.chain))
    says_here = says limits k now r removed version h.level h.low h.earlier h.arrives beside_gone

    -- what the removed page names is a page that there may be
    pub within_beside : (pid : ℕ) → (right_in removed.chain ≡ Some pid) ⊎ NamesChild removed.chain pid → (0 < pid) × (pid < limits.pids)
    within_beside pid named = within limits k now r removed version h.level h.low h.earlier h.arrives beside_gone pid named

    -- the round goes on at a page that the removed one names: its right, or a child
    pub past_removed : (target : ReadGoal) (to : Leg) (pid level : ℕ) (low : List ℕ) → NamesAt removed.chain pid level low → IsTrue (read_way target key low)
        → (has_met to || goes_beyond target) ≡ true
        → KeepsToRead limits key now (to_page limits pid) target → IsOn limits now r target (to_page limits pid) level (version.pid ∷ h.earlier) to
        → VisitsToRead limits key target to now r (to_page limits pid)
    past_removed target to pid level low names passing beyond keeps leg_is = record {
      level = level;
      low = low;
      earlier = version.pid ∷ h.earlier;
      seeks = rw beyond (record {
        on_way = beside_on limits k now r removed version h.level h.low h.earlier h.arrives beside_gone pid (named_of removed.chain pid level low names) level low names;
        passing = passing;
        named = λ here. absurd cc;
        fresh = λ here. absurd cc;
      });
      keeps = keeps;
      leg_is = leg_is;
    }

    -- at the right of a removed leaf
    pub past_leaf : (pid : ℕ) → LeadsRight (reaches key) removed.chain pid → VisitsToRead limits key Beyond (level_on leg) now r (to_page limits pid)
    past_leaf pid on =
        past_removed Beyond (level_on leg) pid (level_in removed.chain) on.low (right_names (reaches key) removed.chain pid on) on.on_way
        (beyond_any (level_on leg)) tt
        (level_leg Beyond pid (level_in removed.chain) (version.pid ∷ h.earlier) leg (let same = says_here.0 in omega (arith, same)) (λ e. cc) h.leg_was)

    -- a page that is kept aside isn't one that the removed page names on the way to it
    pub keeps_past : (target : ReadGoal) → Passed limits key k now version target → (pid level : ℕ) (low : List ℕ) → NamesAt removed.chain pid level low
        → IsTrue (read_way target key low) → KeepsToRead limits key now (to_page limits pid) target
    keeps_past Seek passed pid level low names passing = tt
    keeps_past (Left aside) passed pid level low names passing = record {
      gone = passed.gone;
      apart = λ e.
          let says_of = says_before limits k now r removed version h.level h.low h.earlier h.arrives beside_gone pid
          (named_of removed.chain pid level low names) aside.pid aside.head aside.chain passed.was.seen.head passed.was.seen.read in
          let so = told_of removed.chain aside.pid aside.chain level low says_of (rw e names) in
          not_itself low (rw so.1 at passing);
      after = tt;
    }
    keeps_past Beyond passed pid level low names passing = tt

    pub is_beside : StaysLeft (reaches key) removed.chain → level_in here ≡ 0 → IsBesideLeaf limits now r key version removed
    is_beside stays leaf = record {
      aside = living limits k now r version h.level h.low h.earlier h.arrives alive;
      right = beside;
      after = by.after;
      page = by.gone.page;
      level = says_here.0 ∙ leaf;
      covered = covers_here key removed.chain by.gone.reached stays;
    }

  pub is_merged : StaysLeft (reaches key) here → level_in here ≡ 0 → IsAliveLeaf limits now r key version
  is_merged stays leaf = record {
    page = living limits k now r version h.level h.low h.earlier h.arrives alive;
    level = leaf;
    covered = covers_here key here (at_or_below limits key (Left removed) leg k now r version h) stays;
  }

-- at a removed index page, whose page above is kept
module _ (limits : Limits) (key : List ℕ) (goal : ReadGoal) (leg : Leg) (above : Version) (is_above : above_of leg ≡ Some above) (k now : Knowledge)
    (r : Recalled) (version : Version) (h : HasReached limits key goal leg k now r version) (gone : is_removed version.chain ≡ true) where
  abbrev Overs : Type 0
  Overs = (r.walk.passed ≡ false) × IsOver limits k now goal version.pid h.level h.earlier above

  -- below a page above that was read after the last removal, a further one is a cause
  lower : (h.earlier ≢ []) × (r.walk.removed ≡ true) × (r.walk.passed ≡ true → (h.level < r.walk.level) × AreRemovalsAbove h.level version.chain) → r.walk.passed ≡ false
  lower on = by_test r.walk.passed refl
    where
      by_test : (p : Bool) → r.walk.passed ≡ p → p ≡ false
      by_test false e = refl
      by_test true e =
          let is = of_level limits key goal leg k now r version h on.0 in
          let above_it = removal_above version.chain h.level h.arrives.arrives.in_hand.sound.is_chain.fitted gone (on.2 e).1 in
          absurd (omega (arith, is, above_it))

  overs : (other : Leg) → above_of other ≡ Some above → WasOn limits k now r goal version h.level h.earlier other → Overs
  overs (Down (Some page)) e on = let same : page ≡ above = same_Some _ _ e in rw (← same) on
  overs (Past (Some page)) e on = let same : page ≡ above = same_Some _ _ e in rw (← same) (lower on.0, on.1)
  overs other e on = cc

  over : IsOver limits k now goal version.pid h.level h.earlier above
  over = (overs leg is_above h.leg_was).1

  pub unpassed : r.walk.passed ≡ false
  unpassed = (overs leg is_above h.leg_was).0

  pub above_index : 0 < level_in above.chain
  above_index = let up = over.above_is.up in omega (arith, up)

  met : r.walk.removed ≡ true
  met = h.arrives.removed ∙ rw (gone, unpassed) refl

  -- the pages that were read before it don't count any more
  none_counts : trail r.walk ≡ []
  none_counts = rw (met, unpassed) refl

  module _ (pid : ℕ) (leads : LeadsDown (left_of version) above.chain pid) where
    abbrev level : ℕ
    level = level_in above.chain - 1

    names : NamesAt above.chain pid level leads.low
    names = down_names (left_of version) above.chain pid above_index leads

    at_page : (other : ℕ) → other ≡ pid → NamesAt above.chain other level leads.low
    at_page other e = rw e names

    exists : (0 < pid) × (pid < limits.pids)
    exists = named_within limits above.chain pid level leads.low (over.above_is.in_hand.sound.names over.above_is.alive) names

    not_above : above.pid ≡ pid → ⊥
    not_above e =
        let so = told_of above.chain above.pid above.chain level leads.low (over.above_is.in_hand.sound.own over.above_is.alive) (at_page above.pid e) in
        let index = above_index in
        let same = so.0 in
        omega (arith, index, same)

    not_removed : version.pid ≡ pid → ⊥
    not_removed e =
        let so = told_of above.chain version.pid version.chain level leads.low
        (h.arrives.arrives.whole.named above.pid above.head (has_read over.was.seen over.above_is.alive)) (at_page version.pid e) in
        not_itself leads.low (rw so.1 at leads.greatest.passing)

    keeps_aside : (other : ReadGoal) → goal ≡ other → KeepsToRead limits key now (to_page limits pid) other
    keeps_aside Seek is = tt
    keeps_aside (Left removed) is =
        let by : IsBy limits key k now version removed = rw is at h.passed in
        let says_of : SaysOf above.chain removed.pid removed.chain = rw is at over.above_is.says in
        let on_way : IsTrue (is_below (low_in version.chain) (low_in removed.chain)) = rw is at (is_on_way limits key goal leg k now r version h) in
        record {
          gone = by.gone;
          apart = λ e.
              let so = told_of above.chain removed.pid removed.chain level leads.low says_of (at_page removed.pid e) in
              let less = trans leads.low (low_in version.chain) (low_in removed.chain) leads.greatest.passing on_way in
              not_itself leads.low (rw so.1 at less);
          after = tt;
        }
    keeps_aside Beyond is = tt

    -- the removed page is of the level of the last removal
    last : level_in version.chain ≤ r.walk.level
    last = let is = h.arrives.lowest met unpassed in omega (arith, is)

    nears : VisitsToRead limits key (Left version) (Round version) now r (to_page limits pid)
    nears = record {
      level = level;
      low = leads.low;
      earlier = [];
      seeks = record {
        on_way = record {
          shows = record {
            inside = h.arrives.arrives.inside;
            page = exists.0;
            below = exists.1;
            head = tt;
            stands = inr (record {
              other = above.pid;
              row = above.head;
              basis = has_read over.above_is.in_hand.seen over.above_is.alive;
              named = elim names [ inl right ↦ inl right.0 | inr child ↦ inr (inl (level, leads.low, child.0, child.1, child.2, child.3)) ];
            });
          };
          same = refl;
          bare = refl;
          visited = none_counts;
          recalled = tt;
          expected = inr (inl (record { naming = above; in_hand = over.above_is.in_hand; alive = over.above_is.alive; apart = not_above; names = names }));
          distinct = (exists.0, exists.1, tt, tt);
          past = tt;
          rooted = h.arrives.rooted;
          removed = tt;
          lowest = tt;
          kept = λ other none. absurd none;
        };
        passing = leads.greatest.passing;
        named = λ here. absurd cc;
        fresh = λ here. absurd cc;
      };
      keeps = record {
        gone = record { page = is_gone limits k now r version h.level h.low h.earlier h.arrives gone; reached = at_or_below limits key goal leg k now r version h };
        apart = not_removed;
        after = tt;
      };
      leg_is = (met, last);
    }

    pub goes_round : 0 < level_in version.chain → IsGoingRound limits key goal version now r (to_page limits pid)
    goes_round index = record { nears = nears; keeps = keeps_aside goal refl; index = index; reached = is_on_way limits key goal leg k now r version h }

-- A page was read whole on the way to the left of a removed index page.
pub record HasNeared (limits : Limits) (key : List ℕ) (goal : ReadGoal) (removed : Version) (k now : Knowledge) (r : Recalled) (version : Version) : Type 0 where
  pub nears : HasReached limits key (Left removed) (Round removed) k now r version
  pub passed : Passed limits key k now version goal
  pub index : 0 < level_in removed.chain
  pub reached : IsTrue (read_way goal key (low_in removed.chain))

module _ (limits : Limits) (key : List ℕ) (goal : ReadGoal) (removed : Version) (k now : Knowledge) (r : Recalled) (version : Version)
    (d : HasNeared limits key goal removed k now r version) (alive : is_removed version.chain ≡ false) where
  abbrev there : List Record
  there = version.chain

  h : HasReached limits key (Left removed) (Round removed) k now r version
  h = d.nears

  met_removed : r.walk.removed ≡ true
  met_removed = h.leg_was.0

  -- the removed page is of the level of the last removal at most
  last_removed : level_in removed.chain ≤ r.walk.level
  last_removed = h.leg_was.1 (met_still limits key (Left removed) (Round removed) k now r version h alive met_removed)

  -- the way round it goes on to the page's right
  pub goes_nearer : (pid : ℕ) → LeadsRight (left_of removed) there pid → IsGoingRound limits key goal removed now r (to_page limits pid)
  goes_nearer pid leads = record {
    nears = goes_right limits key (Left removed) (Round removed) k now r version h alive pid leads;
    keeps =
        keeps_on limits key (Left removed) (Round removed) k now r version h alive pid (level_in there) leads.low
        (right_names (left_of removed) there pid leads) goal (before_on goal key leads.low (low_in removed.chain) leads.on_way d.reached) d.passed;
    index = d.index;
    reached = d.reached;
  }

  -- the round goes on from the removed page, which is the page's right
  module _ (beside : right_in there ≡ Some removed.pid) (pid level : ℕ) (low : List ℕ) (most : level ≤ level_in removed.chain)
      (names : NamesAt removed.chain pid level low) (passing : IsTrue (read_way goal key low)) where
    goes_past : VisitsToRead limits key goal (Past None) now r (to_page limits pid)
    goes_past =
        past_removed limits key removed (Round removed) k now r version h alive beside goal (Past None) pid level low names passing refl
        (keeps_past limits key removed (Round removed) k now r version h alive beside goal d.passed pid level low names passing)
        (((λ e. cc), met_removed, (let last = last_removed in omega (arith, most, last))), tt)

  pub goes_through : right_in there ≡ Some removed.pid → (pid : ℕ) → LeadsOn (read_way goal key) removed.chain pid → VisitsToRead limits key goal (Past None) now r (to_page limits pid)
  goes_through beside pid leads = elim leads [
    | inl right ↦ goes_past beside pid (level_in removed.chain) right.low (omega arith) (right_names (read_way goal key) removed.chain pid right) right.on_way
    | inr down ↦ goes_past beside pid (level_in removed.chain - 1) down.2.low (omega arith) (down_names (read_way goal key) removed.chain pid down.1 down.2) down.2.greatest.passing
  ]

  -- the round goes on from the page, as the removed one was merged
  module _ (same : level_in there ≡ level_in removed.chain) where
    goes_named : (to : Option Version) (pid level : ℕ) (low : List ℕ) → NamesAt there pid level low → IsTrue (read_way goal key low)
        → IsUnderRemoval to level r.walk.level [] → IfSome to (IsAbove limits now goal pid level (version.pid ∷ h.earlier))
        → VisitsToRead limits key goal (Past to) now r (to_page limits pid)
    goes_named to pid level low names passing under above = record {
      level = level;
      low = low;
      earlier = version.pid ∷ h.earlier;
      seeks = seeks_on limits k now r version h.level h.low h.earlier h.arrives (read_way goal key) true pid level low names alive passing (λ here. absurd cc);
      keeps = keeps_on limits key (Left removed) (Round removed) k now r version h alive pid level low names goal passing d.passed;
      leg_is = (((λ e. cc), met_removed, under), above);
    }

    pub goes_right_merged : (pid : ℕ) → LeadsRight (read_way goal key) there pid → VisitsToRead limits key goal (Past None) now r (to_page limits pid)
    goes_right_merged pid right =
        goes_named None pid (level_in there) right.low (right_names (read_way goal key) there pid right) right.on_way (let last = last_removed in omega (arith, same, last)) tt

    pub goes_down_merged : (pid : ℕ) → 0 < level_in there → LeadsDown (read_way goal key) there pid → VisitsToRead limits key goal (Past (Some version)) now r (to_page limits pid)
    goes_down_merged pid index leads =
        let names = down_names (read_way goal key) there pid index leads in
        let last = last_removed in
        goes_named (Some version) pid (level_in there - 1) leads.low names leads.greatest.passing (omega (arith, same, last, index), tt)
        (above_here limits key (Left removed) (Round removed) k now r version h alive pid (level_in there - 1) leads.low (omega (arith, index)) names goal d.passed)
