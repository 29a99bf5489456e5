-- How often a writer's round meets pages that are gone, while nobody changes the tree: by what it makes of a page of the tree.
use Rattle.progress.proofs.Words.{◌≡◌, ◌≢◌, ◌<◌, ◌≤◌, ◌+◌, ◌-◌, ◌⊎◌, ℕ, zero, suc, [], length, Bool, true, false, Option, None, Some, refl, sym, ap, subst, ◌∙◌, inl, inr, arith, ⊤, IsTrue}
use Rattle.progress.proofs.Words.{is_below, Limits, Child, content_in, is_removed, level_in, low_in, LivePage, Version, WayState, Root, Page, Visit, to_page, StaysLeft, precedes, Key, IsPageOn}
use Rattle.progress.proofs.Words.{covers, cases_lt, IfSome, covers_to, upto_refl, head_of, slot_of, Plan, WriteGoal, Merge, Unterm, WriteEnd, WriteRound}
use Rattle.progress.proofs.rounds.Treating.{clash}
use Rattle.structure_changes.proofs.Few.{few_many}
use Rattle.structure_changes.specs.Sizes.{HasFewDeltas, many_of}
use Rattle.structure_changes.specs.Merges.{CanMerge}
use Rattle.structure_changes.specs.Unterms.{CanUnterm}
use Rattle.structure_changes.specs.declared.after.After.{After}
use Rattle.round_model.specs.Courses.{Seek, Left}
use Rattle.round_model.specs.WriteEnds.{DueChange, IsPlanned}
use Rattle.round_model.specs.WriteEnds as end
use Rattle.round_model.specs.WriteResponses.{EndsBelow, EndsBy, EndsClean, EndsFine, EndsRemoved, EndsUncut, EndsUnmerged, GoesAside, GoesBelow, GoesToMerge}
use Rattle.round_model.specs.WriteResponses.{GoesToUnterm, IsAtLeft, IsFine, TreatsWrite}
use Rattle.round_model.specs.WriteRounds.{SeeksLeaf, ends_at, write_way}
use Rattle.round_model.specs.Walks.{HasNoneRead}
use Rattle.progress.proofs.rounds.KeyWays.{IsWay, precedes_is_way, reaches_is_way}
use Rattle.progress.proofs.rounds.Pages.{Below, Clear, On, Standing, Under, down, live, low_of, right, right_clear}
use Rattle.progress.proofs.rounds.Tops.{top_of}
use Rattle.progress.proofs.rounds.Visiting.{IsAtHead, IsLeft}
use Rattle.progress.proofs.meetings.Gone.{has_removal, owed, owed_one}
use Rattle.progress.proofs.meetings.Held.{IsHeld, held_under, may_merge, may_unterm, none_under, term_in}

pub is_way_of : (goal : WriteGoal) (key : Key) → IsWay (write_way goal key)
is_way_of (Left pid) key = precedes_is_way key
is_way_of goal key = reaches_is_way key

one_less : (few rest owes : ℕ) → 1 ≤ few → few ≤ rest → owes ≤ 1 → (few - 1) + owes ≤ rest
one_less few rest owes some less one = omega (arith, some, less, one)

-- a page at which nothing is due has few deltas
pub short_of : (limits : Limits) (due : ℕ) (splits : Bool) (version : Version) → IsFine limits due splits version → HasFewDeltas version.chain
short_of limits due splits version fine =
    let many = few_many limits (level_in version.chain) in by_cases (length version.chain) (many_of limits (level_in version.chain)) many (λ long. fine.short (inl long))
  where
    by_cases : (n m : ℕ) → m ≤ 8 → (m < n → ⊥) → n ≤ 8
    by_cases n m few none = elim (cases_lt m n) [ inl lt ↦ absurd (none lt) | inr le ↦ omega (arith, le, few) ]

module _ (w : Standing) where
  -- The slot of a page that was read holds what was read.
  abbrev pub IsAsRead : Version → Type 0
  IsAsRead version = w.memory.slots version.pid ≡ version.head

  -- The page above in hand: of the level above, not removed, on the way and ending beyond it, with few deltas.
  pub record IsOver (way : Key → Bool) (level : ℕ) (over : Version) : Type 0 where
    pub on : On w (suc level) (live over)
    pub alive : is_removed over.chain ≡ false
    pub passing : way (low_in over.chain) ≡ true
    pub stays : StaysLeft way over.chain
    pub short : HasFewDeltas over.chain
    pub as_read : IsAsRead over

  -- without one the page is of the top level
  abbrev pub IsAbove : (Key → Bool) → ℕ → Option Version → Type 0
  IsAbove way level None = level ≡ w.tree.top
  IsAbove way level (Some over) = IsOver way level over

  -- the page in hand to the left
  pub record IsBeside (level : ℕ) (left : Version) : Type 0 where
    pub on : On w level (live left)
    pub alive : is_removed left.chain ≡ false
    pub as_read : IsAsRead left

  abbrev pub IsAside : ℕ → Option Version → Type 0
  IsAside level None = ⊤
  IsAside level (Some left) = IsBeside level left

  -- How often more a round meets one at most, where it is at a page that isn't removed: 18 times on its way to a leaf; on its way to the
  -- left of a page that has its held term once on each level above; of another page once more than one that begins anew.
  abbrev pub Spares : WriteGoal → Key → ℕ → ℕ → ℕ → Type 0
  Spares Seek key floor level rest = 18 ≤ rest
  Spares (Left pid) key floor level rest = (IsHeld w pid key floor × (floor ≤ level) × (17 ≤ rest + floor)) ⊎ (19 ≤ rest)
  Spares (Merge left) key floor level rest = ⊥
  Spares (Unterm parent left) key floor level rest = ⊥

  -- A page on the way.
  pub record IsOnWay (goal : WriteGoal) (key : Key) (floor : ℕ) (above aside : Option Version) (level : ℕ) (page : LivePage) (rest : ℕ) : Type 0 where
    pub passing : write_way goal key (low_of page) ≡ true
    pub over : IsAbove (write_way goal key) level above
    pub beside : IsAside level aside
    pub is : (Clear w (write_way goal key) level page × Spares goal key floor level rest) ⊎ (Under w (write_way goal key) above level page × (17 ≤ rest + level))

  -- by the goal: a page that is read once more may come into the left one, or its term may go; or the round may begin anew after it
  abbrev pub At : WriteGoal → Key → ℕ → Option Version → Option Version → ℕ → LivePage → ℕ → Type 0
  At Seek key floor above aside level page rest = IsOnWay Seek key floor above aside level page rest
  At (Left pid) key floor above aside level page rest = IsOnWay (Left pid) key floor above aside level page rest
  At (Merge left) key floor above aside level page rest = IsAsRead left × (((version : Version) → live version ≡ page → CanMerge left version) ⊎ (18 ≤ rest))
  At (Unterm parent left) key floor above aside level page rest = IsAsRead parent × (((version : Version) → live version ≡ page → CanUnterm parent left version) ⊎ (18 ≤ rest))

  -- A page is visited, and the round meets one at most so often from there on.
  pub record Visits (goal : WriteGoal) (key : Key) (floor : ℕ) (above aside : Option Version) (visit : Visit) (most : ℕ) : Type 0 where
    pub page : LivePage
    pub level : ℕ
    pub stands : IsPageOn w.limits w.memory level page
    pub is_pid : page.pid ≡ visit.pid
    pub left : ℕ
    pub is_left : IsLeft w.memory page.chain visit.part visit.state left
    pub at_head : IsAtHead w.memory visit.pid visit.state
    pub bare : HasNoneRead visit.state visit.part
    pub rest : ℕ
    pub here : At goal key floor above aside level page rest
    pub few : rest + owed (is_removed page.chain) (has_removal visit.part) ≤ most

  abbrev pub Begins : WriteGoal → Key → ℕ → ℕ → Type 0
  Begins Seek key floor most = 18 ≤ most
  Begins (Left pid) key floor most = (IsHeld w pid key floor × (17 ≤ most + floor)) ⊎ (IsTrue (is_below [] key) × (19 ≤ most))
  Begins (Merge left) key floor most = ⊥
  Begins (Unterm parent left) key floor most = ⊥

  abbrev pub StandsAt : WriteGoal → Key → ℕ → Option Version → Option Version → WayState → ℕ → Type 0
  StandsAt goal key floor above aside Root most = (above ≡ None) × (aside ≡ None) × Begins goal key floor most
  StandsAt goal key floor above aside (Page visit) most = Visits goal key floor above aside visit most

  -- the round has read this memory alone, and meets one at most so often
  abbrev pub MeetsFew : WriteRound → ℕ → Type 0
  MeetsFew round most = StandsAt round.goal round.key round.floor round.parent round.left round.state most

  -- what is due is over a row, or slot 0's, as it was read
  abbrev pub IsFresh : Plan → Type 0
  IsFresh plan = (w.memory.slots (slot_of plan) ≡ head_of plan) × ((slot_of plan ≡ 0) ⊎ (0 < head_of plan))

  -- what a round makes of a page
  abbrev pub Then : WriteRound → Option WriteEnd → ℕ → Type 0
  Then new None most = MeetsFew new most
  Then new (Some end.Again) most = 18 ≤ most
  Then new (Some end.Done) most = 18 ≤ most
  Then new (Some (end.Removed removed)) most = Begins (Left removed.pid) (low_in removed.chain) (level_in removed.chain) most
  Then new (Some (end.Due plan after)) most = IsFresh plan
  Then new (Some (end.Leaf parent leaf)) most = (18 ≤ most) × IsAsRead leaf × IfSome parent IsAsRead

  -- on the way to a leaf, or to the left of a page
  on_way : (goal : WriteGoal) (key : Key) (floor : ℕ) (above aside : Option Version) (level : ℕ) (page : LivePage) (rest : ℕ) → SeeksLeaf goal
      → At goal key floor above aside level page rest → IsOnWay goal key floor above aside level page rest
  on_way Seek key floor above aside level page rest seeks a = a
  on_way (Left pid) key floor above aside level page rest seeks a = a
  on_way (Merge left) key floor above aside level page rest seeks a = absurd seeks
  on_way (Unterm parent left) key floor above aside level page rest seeks a = absurd seeks

  at_way : (goal : WriteGoal) (key : Key) (floor : ℕ) (above aside : Option Version) (level : ℕ) (page : LivePage) (rest : ℕ) → SeeksLeaf goal
      → IsOnWay goal key floor above aside level page rest → At goal key floor above aside level page rest
  at_way Seek key floor above aside level page rest seeks a = a
  at_way (Left pid) key floor above aside level page rest seeks a = a
  at_way (Merge left) key floor above aside level page rest seeks a = absurd seeks
  at_way (Unterm parent left) key floor above aside level page rest seeks a = absurd seeks

  -- a page to which a round has gone
  arrives : (limits : Limits) (goal : WriteGoal) (key : Key) (floor : ℕ) (above aside : Option Version) (page : LivePage) (level pid rest most : ℕ) → IsPageOn w.limits w.memory level page
      → page.pid ≡ pid → At goal key floor above aside level page rest → rest + owed (is_removed page.chain) false ≤ most
      → Visits goal key floor above aside (to_page limits pid) most
  arrives limits goal key floor above aside page level pid rest most stands is_pid here few = record {
    page = page;
    level = level;
    stands = stands;
    is_pid = is_pid;
    left = suc (length page.chain);
    is_left = refl;
    at_head = tt;
    bare = refl;
    rest = rest;
    here = here;
    few = few;
  }

  module _ (old : WriteRound) (version : Version) (level rest : ℕ) (stands : IsPageOn w.limits w.memory level (live version)) (as_read : IsAsRead version)
      (at : At old.goal old.key old.floor old.parent old.left level (live version) rest) where
    abbrev way : Key → Bool
    way = write_way old.goal old.key

    abbrev Alive : Type 0
    Alive = Clear w way level (live version) × Spares old.goal old.key old.floor level rest

    -- a page on the way that isn't removed
    stays_clear : SeeksLeaf old.goal → is_removed version.chain ≡ false → IsOnWay old.goal old.key old.floor old.parent old.left level (live version) rest × Alive
    stays_clear seeks alive =
        let a = on_way old.goal old.key old.floor old.parent old.left level (live version) rest seeks at in
        (a, elim a.is [ inl here ↦ here | inr under ↦ absurd (clash (is_removed version.chain) under.0.gone alive) ])

    -- the page's right
    aside : (new : WriteRound) → GoesAside old version new → MeetsFew new rest
    aside new g =
        let a = stays_clear g.seeks g.alive in
        let r = right w way level g.right (live version) a.1.0.on g.leads in
        let clear = right_clear w way level (live version) r.0 a.1.0 r.2 r.3 r.4 in
        rw g.goes
        (arrives old.limits old.goal old.key old.floor old.parent (Some version) r.0 level g.right rest rest (w.tree.each level r.0 r.2) r.1
        (at_way old.goal old.key old.floor old.parent (Some version) level r.0 rest g.seeks (record {
          passing = r.3;
          over = a.0.over;
          beside = record { on = a.1.0.on; alive = g.alive; as_read = as_read };
          is = inl (clear, a.1.1);
        }))
        (let le : rest + 0 ≤ rest = omega arith in rw clear.alive le))

    -- what is left below the page: for a child that isn't removed as much, for one that is one less
    spares_below : (goal : WriteGoal) (l : ℕ) → level ≡ suc l → ends_at goal old.floor < suc l → Spares goal old.key old.floor level rest → Spares goal old.key old.floor l rest
    spares_below (Left pid) l e index (inl s) = let under : old.floor < suc l = index in inl (s.0, omega (arith, under), s.2)
    spares_below (Left pid) l e index (inr s) = inr s
    spares_below goal l e index s = s

    less_below : (goal : WriteGoal) (l : ℕ) (page : LivePage) → level ≡ suc l → l ≤ 15 → ends_at goal old.floor < suc l → Under w (write_way goal old.key) (Some version) l page
        → write_way goal old.key (low_of page) ≡ true → Spares goal old.key old.floor level rest → (1 ≤ rest) × (17 ≤ (rest - 1) + l)
    less_below Seek l page e top index u pass s = let few : 18 ≤ rest = s in (omega (arith, few), omega (arith, few))
    less_below (Left pid) l page e top index u pass (inr s) = let few : 19 ≤ rest = s in (omega (arith, few), omega (arith, few))
    less_below (Left pid) l page e top index u pass (inl s) = elim (cases_lt old.floor l) [
      | inl lt ↦ let few = s.2 in (omega (arith, few, lt, top), omega (arith, few, lt, top))
      | inr le ↦
          let under : old.floor < suc l = index in
          let same : old.floor ≡ l = omega (arith, le, under) in
          absurd (none_under w pid old.key l (rw (← same) s.0) page (Some version) u pass)
    ]
    less_below (Merge left) l page e top index u pass s = absurd s
    less_below (Unterm parent left) l page e top index u pass s = absurd s

    below_page : (new : WriteRound) (g : GoesBelow old version new) → IsOnWay old.goal old.key old.floor old.parent old.left level (live version) rest → Spares old.goal old.key old.floor level rest
        → (l : ℕ) → level ≡ suc l → On w (suc l) (live version) → ends_at old.goal old.floor < suc l → (b : Below w way (Some version) l g.child)
        → Visits old.goal old.key old.floor (Some version) None (to_page old.limits g.child) rest
    below_page new g a spares l e on index b = elim b.is [
      | inl clear ↦ arrives old.limits old.goal old.key old.floor (Some version) None b.page l g.child rest rest b.stands b.is_pid
          (at_way old.goal old.key old.floor (Some version) None l b.page rest g.here.seeks
          (record { passing = b.passing; over = over; beside = tt; is = inl (clear, spares_below old.goal l e index spares) }))
          (let le : rest + 0 ≤ rest = omega arith in rw clear.alive le)
      | inr under ↦
          let top : l ≤ 15 = (let t = top_of b.page.chain b.stands.fits.fitted in let is : level_in b.page.chain ≡ l = b.stands.level_is in omega (arith, t, is)) in
          let less = less_below old.goal l b.page e top index under b.passing spares in
          arrives old.limits old.goal old.key old.floor (Some version) None b.page l g.child (rest - 1) rest b.stands b.is_pid
          (at_way old.goal old.key old.floor (Some version) None l b.page (rest - 1) g.here.seeks
          (record { passing = b.passing; over = over; beside = tt; is = inr (under, less.1) }))
          (one_less rest rest (owed (is_removed b.page.chain) false) less.0 (omega arith) (owed_one (is_removed b.page.chain) false))
    ]
      where
        over : IsOver way l version
        over = record { on = on; alive = g.here.alive; passing = a.passing; stays = g.here.stays; short = short_of old.limits old.due old.splits version g.fine; as_read = as_read }

    below : (new : WriteRound) → GoesBelow old version new → MeetsFew new rest
    below new g = let a = stays_clear g.here.seeks g.here.alive in rw g.goes (by_level a.0 a.1.0.on a.1.1 level refl)
      where
        by_level : IsOnWay old.goal old.key old.floor old.parent old.left level (live version) rest → On w level (live version) → Spares old.goal old.key old.floor level rest
            → (n : ℕ) → level ≡ n → Visits old.goal old.key old.floor (Some version) None (to_page old.limits g.child) rest
        by_level a on spares zero e = let index = g.index in let is : level_in version.chain ≡ level = stands.level_is in absurd (omega (arith, index, is, e))
        by_level a on spares (suc l) e =
            let here : On w (suc l) (live version) = rw (← e) on in
            let is : level_in version.chain ≡ suc l = stands.level_is ∙ e in
            let index : ends_at old.goal old.floor < suc l = rw (← is) g.index in
            below_page new g a spares l e here index (down w way (is_way_of old.goal old.key) l g.child version here g.here.stays g.leads)

    -- the page of the removed one's level
    at_left : (pid : ℕ) → IsAtLeft old version pid → IsOnWay (Left pid) old.key old.floor old.parent old.left level (live version) rest × Clear w (precedes old.key) level (live version)
        × ((IsHeld w pid old.key level × (17 ≤ rest + level)) ⊎ (19 ≤ rest)) × StaysLeft (precedes old.key) version.chain
    at_left pid l =
        let here = rw l.goal at at in
        let stays : StaysLeft (precedes old.key) version.chain = rw l.goal at l.here.stays in
        let same : old.floor ≡ level = sym l.level ∙ stands.level_is in
        elim here.is [
          | inl clear ↦ (
            here,
            clear.0,
            elim clear.1 [
              | inl held ↦ inl (rw (← same) held.0, rw (← same) held.2)
              | inr spare ↦ inr spare
            ],
            stays,
          )
          | inr under ↦ absurd (clash (is_removed version.chain) under.0.gone l.here.alive)
        ]

    some_left : (17 ≤ rest + level) ⊎ (19 ≤ rest) → 1 ≤ rest
    some_left (inl few) = let t = top_of version.chain stands.fits.fitted in let is : level_in version.chain ≡ level = stands.level_is in omega (arith, few, t, is)
    some_left (inr few) = omega (arith, few)

    to_merge : (new : WriteRound) → GoesToMerge old version new → MeetsFew new rest
    to_merge new g =
        let l = at_left g.pid g.left in
        let r = w.tree.right level (live version) g.pid l.1.on g.beside in
        let some = some_left (elim l.2 [ inl held ↦ inl held.1 | inr spare ↦ inr spare ]) in
        rw g.goes
        (arrives old.limits (Merge version) old.key old.floor None None r.0 level g.pid (rest - 1) rest (w.tree.each level r.0 r.1) r.2 (
          as_read,
          elim l.2 [
            | inl held ↦ inl (λ removed same. may_merge w g.pid old.key level held.0 version removed l.1.on g.left.here.alive g.beside
                (short_of old.limits old.due old.splits version g.left.fine) g.roomy
                (rw same (w.tree.each level r.0 r.1)) (ap (λ (p : LivePage). p.pid) same ∙ r.2))
            | inr spare ↦ inr (omega (arith, spare))
          ],
        )
        (one_less rest rest (owed (is_removed r.0.chain) false) some (omega arith) (owed_one (is_removed r.0.chain) false)))

    to_unterm : (new : WriteRound) → GoesToUnterm old version new → MeetsFew new rest
    to_unterm new g =
        let l = at_left g.pid g.left in
        let over = rw g.above at l.0.over in
        let c = w.tree.child level g.pid (live g.parent) old.key true over.on g.term in
        let some = some_left (elim l.2 [ inl held ↦ inl held.1 | inr spare ↦ inr spare ]) in
        rw g.goes
        (arrives old.limits (Unterm g.parent version) old.key old.floor None None c.1.0 level g.pid (rest - 1) rest c.1.2.is_page c.1.1 (
          over.as_read,
          elim l.2 [
            | inl held ↦ inl (λ removed same. may_unterm w g.pid old.key level held.0 g.parent version removed over.alive over.short g.term g.left.here.alive l.0.passing l.3 g.apart level
                (rw same c.1.2.is_page) (ap (λ (p : LivePage). p.pid) same ∙ c.1.1))
            | inr spare ↦ inr (omega (arith, spare))
          ],
        )
        (one_less rest rest (owed (is_removed c.1.0.chain) false) some (omega arith) (owed_one (is_removed c.1.0.chain) false)))

    -- no round to the left of a page that has its held term ends below that one's level, or without a change
    too_low : EndsBelow old version → 18 ≤ rest
    too_low g =
        let here = rw g.goal at at in
        elim here.is [
          | inl clear ↦ elim clear.1 [
            | inl held ↦ absurd (let low = g.below in let is : level_in version.chain ≡ level = stands.level_is in let up = held.1 in omega (arith, low, is, up))
            | inr spare ↦ omega (arith, spare)
          ]
          | inr under ↦ absurd (clash (is_removed version.chain) under.0.gone g.here.alive)
        ]

    clean : EndsClean old version → 18 ≤ rest
    clean g =
        let l = at_left g.pid g.left in
        elim l.2 [
          | inl held ↦ absurd (by_above old.parent refl l.0.over g.lacks held.0)
          | inr spare ↦ omega (arith, spare)
        ]
      where
        by_above : (parent : Option Version) → old.parent ≡ parent → IsAbove (precedes old.key) level old.parent → IfSome old.parent (λ p. content_in p.chain old.key ≢ Some (Child g.pid true))
            → IsHeld w g.pid old.key level → ⊥
        by_above None e above lacks held =
            let top : level ≡ w.tree.top = rw e at above in
            let under = w.tree.below (suc level) held.above held.on in
            omega (arith, top, under)
        by_above (Some parent) e above lacks held =
            let over = rw e at above in
            let none : content_in parent.chain old.key ≢ Some (Child g.pid true) = rw e at lacks in
            none (term_in w g.pid old.key level held (live parent) over.on over.stays over.passing)

    unmerged : EndsUnmerged old version → 18 ≤ rest
    unmerged g =
        let here = rw g.goal at at in
        elim here.1 [ inl can ↦ absurd (g.none (can version refl)) | inr spare ↦ spare ]

    uncut : EndsUncut old version → 18 ≤ rest
    uncut g =
        let here = rw g.goal at at in
        elim here.1 [ inl can ↦ absurd (g.none (can version refl)) | inr spare ↦ spare ]

    -- a removed page has its held term
    at_gone : (removed : Version) → EndsRemoved old version removed → Begins (Left removed.pid) (low_in removed.chain) (level_in removed.chain) rest
    at_gone removed g =
        let a = on_way old.goal old.key old.floor old.parent old.left level (live version) rest g.seeks at in
        elim a.is [
          | inl here ↦ absurd (clash (is_removed version.chain) g.gone here.0.alive)
          | inr under ↦
              let held = held_under w way old.parent level (live version) stands under.0 in
              let level_is : level_in version.chain ≡ level = stands.level_is in
              rw g.is
              (inl (rw level_is held, rw level_is under.1))
        ]

    -- what is due is due over pages as they were read
    parent_read : (parent : Version) → SeeksLeaf old.goal → old.parent ≡ Some parent → IsAsRead parent
    parent_read parent seeks e =
        let a = on_way old.goal old.key old.floor old.parent old.left level (live version) rest seeks at in
        (rw e at a.over).as_read

    due_is : (change : DueChange) (plan : Plan) (after : After) → IsPlanned change plan after → EndsBy old version change → IsFresh plan
    due_is (end.Consolidate page base) plan after planned due = rw planned.0 (rw due.is as_read, inr page.is_row.0)
    due_is (end.Split page split) plan after planned due =
        rw planned.0 (ap (λ (v : Version). w.memory.slots v.pid) due.is ∙ as_read ∙ sym due.plan_due.over, inr (rw due.plan_due.over version.is_row.0))
    due_is (end.Term parent term) plan after planned due = rw planned.0 (parent_read parent due.seeks due.above, inr parent.is_row.0)
    due_is (end.Root left root) plan after planned due = rw planned.0 (root_read left due.seeks due.above due.aside due.plan.can.lowest, inl refl)
      where
        root_read : (left : Version) → SeeksLeaf old.goal → old.parent ≡ None → old.left ≡ Some left → low_in left.chain ≡ [] → w.memory.slots 0 ≡ left.pid
        root_read left seeks above aside_is lowest =
            let a = on_way old.goal old.key old.floor old.parent old.left level (live version) rest seeks at in
            let top : level ≡ w.tree.top = rw above at a.over in
            let b : IsBeside level left = rw aside_is at a.beside in
            let on : On w w.tree.top (live left) = rw (← top) b.on in
            let first : IsTrue (covers left.chain []) = rw (← lowest)
            (covers_to left.chain (low_in left.chain) (record { low = upto_refl (low_in left.chain); high = w.tree.spans w.tree.top (live left) on })) in
            let root : IsTrue (covers w.tree.root.0.chain []) = rw (← w.tree.root.3)
            (covers_to w.tree.root.0.chain (low_of w.tree.root.0) (record { low = upto_refl (low_of w.tree.root.0); high = w.tree.spans w.tree.top w.tree.root.0 w.tree.root.1 })) in
            let same = w.tree.one w.tree.top w.tree.root.0 (live left) [] w.tree.root.1 on root first in
            sym w.tree.root.2 ∙ ap (λ (p : LivePage). p.pid) same
    due_is (end.Tend parent page upkeep) plan after planned due = elim due.due.due [
      | inl removes ↦ rw (planned.0 ∙ removes.is) (as_read, inr version.is_row.0)
      | inr holds ↦ rw (planned.0 ∙ holds.is) (parent_read parent due.here.seeks due.tended.above, inr parent.is_row.0)
    ]
    due_is (end.Merge left removed merge) plan after planned due =
        let here = rw due.goal at at in
        rw planned.0 (here.0, inr left.is_row.0)
    due_is (end.Unterm parent left removed unterm) plan after planned due =
        let here = rw due.goal at at in
        rw planned.0 (here.0, inr parent.is_row.0)

    at_leaf : (parent : Option Version) (leaf : Version) → EndsFine old version parent leaf → (18 ≤ rest) × IsAsRead leaf × IfSome parent IsAsRead
    at_leaf parent leaf g =
        let here = rw g.seeks at at in
        elim here.is [
          | inl clear ↦ (clear.1, rw g.is as_read, by_above parent g.above)
          | inr under ↦ absurd (clash (is_removed version.chain) under.0.gone g.here.alive)
        ]
      where
        by_above : (p : Option Version) → p ≡ old.parent → IfSome p IsAsRead
        by_above None e = tt
        by_above (Some over) e = parent_read over g.here.seeks (sym e)

    pub treats : (new : WriteRound) (result : Option WriteEnd) → TreatsWrite old version new result → Then new result rest
    treats new None t = elim t [
      | inl g ↦ aside new g
      | inr more ↦ elim more [ inl g ↦ below new g | inr last ↦ elim last [ inl g ↦ to_merge new g | inr g ↦ to_unterm new g ] ]
    ]
    treats new (Some end.Again) t = too_low t
    treats new (Some end.Done) t = elim t [ inl g ↦ clean g | inr more ↦ elim more [ inl g ↦ unmerged g | inr g ↦ uncut g ] ]
    treats new (Some (end.Removed removed)) t = at_gone removed t
    treats new (Some (end.Due plan after)) t = due_is t.change plan after t.planned t.due
    treats new (Some (end.Leaf parent leaf)) t = at_leaf parent leaf t
