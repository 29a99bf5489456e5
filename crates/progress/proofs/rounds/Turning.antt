-- What a reader's round makes of a page of the tree: it goes on to a page, or ends at a removed leaf, or at the leaf that it sought.
use Rattle.progress.proofs.Words.{◌≡◌, ◌≢◌, ◌<◌, ◌≤◌, ◌+◌, ◌⊎◌, ℕ, suc, Bool, true, false, Option, Some, None, refl, sym, ap, subst, ◌∙◌, inl, inr, arith, ⊤, HasNoChild, content_in, is_removed}
use Rattle.progress.proofs.Words.{level_in, low_in, right_in, LivePage, Limits, Version, WayState, Page, ReadEnd, Again, Removed, Leaf, Beside, ReadGoal, Seek, Left, Beyond, Leg, Down, Round}
use Rattle.progress.proofs.Words.{Past, IsPlain, above_of, below, level_on, to_page, LeadsRight, StaysLeft, reaches, IsBelow, Key, IsPageOn, below_not, below_upto, upto_below, upto_trans}
use Rattle.progress.proofs.Words.{WasRemovedLeaf, IsLeftLeaf, ReadRound, TreatsRead, reading_on_to, left_of, on, read_way, toward}
use Rattle.round_model.specs.ReadRounds.{IsLost, IsOffLevel, LacksLeft}
use Rattle.progress.proofs.rounds.KeyWays.{IsWay, precedes_is_way, reaches_is_way}
use Rattle.progress.proofs.rounds.Leaves.{IsBeyond, IsRemovedLeaf, beside_right, left_stands, none_beyond, of_level, of_term, past_right}
use Rattle.progress.proofs.rounds.Measures.{after_few, all_removed, fewer_after, left_from, left_less, one_round, removed_after, times, times_up}
use Rattle.progress.proofs.rounds.Pages.{On, Standing, Under, live, low_of, right}
use Rattle.progress.proofs.rounds.Treating.{Comes, OnRound, OnWay, round_merged_down, round_merged_right, round_nearer, round_through, way_down, way_found, way_right, way_round}

is_way_of : (goal : ReadGoal) (key : Key) → IsWay (read_way goal key)
is_way_of Seek key = reaches_is_way key
is_way_of (Left removed) key = precedes_is_way (low_in removed.chain)
is_way_of Beyond key = reaches_is_way key

plain_below : (leg : Leg) (version : Version) → IsPlain leg → IsPlain (below version leg)
plain_below (Down above) version plain = tt
plain_below (Past above) version plain = tt
plain_below (Round removed) version plain = absurd plain

above_below : (leg : Leg) (version : Version) → IsPlain leg → above_of (below version leg) ≡ Some version
above_below (Down above) version plain = refl
above_below (Past above) version plain = refl
above_below (Round removed) version plain = absurd plain

not_round : {X : Type 0} (leg : Leg) (removed : Version) → IsPlain leg → leg ≡ Round removed → X
not_round leg removed plain e = absurd (subst IsPlain e plain)

lacking : (leg : Leg) (version over : Version) → above_of leg ≡ Some over → LacksLeft version leg → HasNoChild (content_in over.chain) (left_of version)
lacking (Down None) version over e lacks = absurd (cc)
lacking (Down (Some above)) version over e lacks = let same : above ≡ over = cc in rw (← same) lacks
lacking (Round removed) version over e lacks = absurd lacks
lacking (Past None) version over e lacks = absurd (cc)
lacking (Past (Some above)) version over e lacks = let same : above ≡ over = cc in rw (← same) lacks

module _ (w : Standing) where
  -- how many steps are kept for rounds after this one
  abbrev pub Keeps : ReadGoal → Key → ℕ → Type 0
  Keeps Seek key later = one_round w ≤ later
  Keeps (Left removed) key later =
      (IsRemovedLeaf w (live removed) × (times w (removed_after w key (low_in removed.chain)) ≤ later)) ⊎ (WasRemovedLeaf w.tree removed × (one_round w + times w (all_removed w) ≤ later))
  Keeps Beyond key later = ⊥

  -- A leaf on the way from a removed leaf on to the key.
  pub record OnLeaves (key : Key) (page : LivePage) (cost later : ℕ) : Type 0 where
    pub passing : reaches key (low_of page) ≡ true
    pub low : Key
    pub beyond : IsBeyond w low page
    pub few : left_from w 0 (low_of page) ≤ cost
    pub rest : times w (removed_after w key low) ≤ later

  abbrev pub OnPlain : ReadGoal → Key → Option Version → LivePage → ℕ → ℕ → Type 0
  OnPlain Seek key above page cost later = OnWay w (reaches key) above page cost × Keeps Seek key later
  OnPlain (Left removed) key above page cost later = OnWay w (left_of removed) above page cost × Keeps (Left removed) key later
  OnPlain Beyond key above page cost later = OnLeaves key page cost later

  -- the page at which a round is, by its leg
  abbrev pub At : Leg → ReadGoal → Key → LivePage → ℕ → ℕ → Type 0
  At (Down above) goal key page cost later = OnPlain goal key above page cost later
  At (Round removed) goal key page cost later = OnRound w (read_way goal key) removed page cost × Keeps goal key later
  At (Past above) goal key page cost later = OnPlain goal key above page cost later

  -- The round has gone to a page, and fewer are left to it.
  pub record Goes (new : ReadRound) (key : Key) (cost later : ℕ) : Type 0 where
    pub page : LivePage
    pub level : ℕ
    pub stands : IsPageOn w.limits w.memory level page
    pub is_state : new.state ≡ Page (to_page new.limits page.pid)
    pub is_key : new.key ≡ key
    pub left : ℕ
    pub fewer : left < cost
    pub at : At new.leg new.goal key page left later

  -- by how a round ends
  abbrev pub Then : ReadRound → ReadRound → Option ReadEnd → ℕ → ℕ → Type 0
  Then old new None cost later = Goes new old.key cost later
  Then old new (Some Again) cost later = ⊥
  Then old new (Some (Removed removed)) cost later = IsRemovedLeaf w (live removed) × (one_round w + times w (removed_after w old.key (low_in removed.chain)) ≤ later)
  Then old new (Some (Leaf leaf)) cost later = ⊤
  Then old new (Some (Beside left removed)) cost later = ⊤

  into : (leg : Leg) (goal : ReadGoal) (key : Key) (page : LivePage) (cost later : ℕ) → IsPlain leg → OnWay w (read_way goal key) (above_of leg) page cost
      → Keeps goal key later → At leg goal key page cost later
  into (Down above) Beyond key page cost later plain o k = absurd k
  into (Past above) Beyond key page cost later plain o k = absurd k
  into (Round removed) goal key page cost later plain o k = absurd plain
  into other others key page cost later plain o k = (o, k)

  onto : (leg : Leg) (key : Key) (page : LivePage) (cost later : ℕ) → IsPlain leg → OnLeaves key page cost later → At (level_on leg) Beyond key page cost later
  onto (Down above) key page cost later plain o = o
  onto (Past above) key page cost later plain o = o
  onto (Round removed) key page cost later plain o = absurd plain

  gone : (old new : ReadRound) (leg : Leg) (goal : ReadGoal) (next cost later : ℕ) → new ≡ reading_on_to next (on leg (toward goal old))
      → (c : Comes w next cost (λ page left. At leg goal old.key page left later)) → Goes new old.key cost later
  gone old new leg goal next cost later e c = rw e (record {
    page = c.page;
    level = c.level;
    stands = c.stands;
    is_state = rw (← c.is_pid);
    is_key = refl;
    left = c.left;
    fewer = c.fewer;
    at = c.at;
  })

  turned : (next cost : ℕ) (P Q : LivePage → ℕ → Type 0) → ((page : LivePage) (left : ℕ) → P page left → Q page left) → Comes w next cost P → Comes w next cost Q
  turned next cost P Q f c = record { page = c.page; is_pid = c.is_pid; level = c.level; stands = c.stands; left = c.left; fewer = c.fewer; at = f c.page c.left c.at }

  -- the leaf to the left of a removed one
  left_leaf : (old : ReadRound) (version removed : Version) (cost later : ℕ) → OnWay w (read_way old.goal old.key) (above_of old.leg) (live version) cost
      → Keeps old.goal old.key later → IsLeftLeaf old version removed
      → On w 0 (live version) × (left_from w 0 (low_in version.chain) ≤ cost) × IsBelow (low_in version.chain) (low_in removed.chain) × Keeps (Left removed) old.key later
  left_leaf old version removed cost later o k l = elim o.is [
    | inl here ↦
        let zeroth : o.level ≡ 0 = sym o.stands.level_is ∙ l.ends.leaf in
        let few = here.1 in (
          rw (← zeroth) here.0.on,
          (let from_here : left_from w o.level (low_in version.chain) ≤ cost = omega (arith, few) in rw (← zeroth) from_here),
          rw l.goal at o.passing,
          rw l.goal at k,
        )
    | inr here ↦ absurd (let both : true ≡ false = sym here.0.gone ∙ l.alive in cc)
  ]

  after_times : (key low : Key) (later : ℕ) → one_round w + times w (all_removed w) ≤ later → one_round w + times w (removed_after w key low) ≤ later
  after_times key low later k = let up = times_up w (removed_after w key low) (all_removed w) (after_few w key low) in omega (arith, up, k)

  -- A leaf from which a round goes on, on the leaves.
  pub record Onto (key : Key) (next : ℕ) (page : LivePage) (later : ℕ) : Type 0 where
    pub other : LivePage
    pub is_pid : other.pid ≡ next
    pub passing : reaches key (low_of other) ≡ true
    pub after : IsBelow (low_of page) (low_of other)
    pub low : Key
    pub beyond : IsBeyond w low other
    pub rest : times w (removed_after w key low) ≤ later

  beside_leaf : (key : Key) (next later : ℕ) (removed : Version) (page : LivePage) → Keeps (Left removed) key later → On w 0 page
      → IsBelow (low_of page) (low_in removed.chain) → right_in page.chain ≡ Some removed.pid → LeadsRight (reaches key) removed.chain next
      → Onto key next page later
  beside_leaf key next later removed page k on below is_right leads = elim k [
    | inl termed ↦ from termed.0 termed.1
    | inr was ↦ from (of_level w (live removed) (was.0.kept 0 page on is_right) was.0.gone) (let few = after_times key (low_in removed.chain) later was.1 in omega (arith, few))
  ]
    where
      from : IsRemovedLeaf w (live removed) → times w (removed_after w key (low_in removed.chain)) ≤ later → Onto key next page later
      from r rest =
          let q = beside_right w key next (live removed) page r on is_right leads in
          record {
            other = q.0;
            is_pid = q.1;
            passing = q.2;
            after = below_upto (low_of page) (low_in removed.chain) (low_of q.0) below (below_not (low_in removed.chain) (low_of q.0) q.3);
            low = low_in removed.chain;
            beyond = q.4;
            rest = rest;
          }

  past_leaf : (key : Key) (next later : ℕ) (removed : Version) (page : LivePage) → Keeps (Left removed) key later → On w 0 page
      → right_in page.chain ≢ Some removed.pid → StaysLeft (left_of removed) page.chain → LeadsRight (reaches key) page.chain next
      → Onto key next page later
  past_leaf key next later removed page k on apart stays leads = elim k [
    | inl termed ↦
        let q = past_right w key next (live removed) page termed.0 on apart stays leads in
        record { other = q.0; is_pid = q.1; passing = q.2; after = q.3; low = low_in removed.chain; beyond = q.4; rest = termed.1 }
    | inr was ↦
        let q = right w (reaches key) 0 next page on leads in
        record {
          other = q.0;
          is_pid = q.1;
          passing = q.3;
          after = q.4;
          low = low_of page;
          beyond = record { on = q.2; up = below_not (low_of page) (low_of q.0) q.4; after = λ g. q.4 };
          rest = (let few = after_times key (low_of page) later was.1 in omega (arith, few));
        }
  ]

  on_leaf : (key : Key) (low : Key) (other page : LivePage) (next cost later : ℕ) → other.pid ≡ next → reaches key (low_of other) ≡ true → IsBeyond w low other
      → On w 0 page → IsBelow (low_of page) (low_of other) → left_from w 0 (low_of page) ≤ cost
      → times w (removed_after w key low) ≤ later → Comes w next cost (λ page left. OnLeaves key page left later)
  on_leaf key low other page next cost later is_pid pass beyond on after few rest = record {
    page = other;
    is_pid = is_pid;
    level = 0;
    stands = w.tree.each 0 other beyond.on;
    left = left_from w 0 (low_of other);
    fewer = (let less = left_less w 0 page (low_of other) on after in omega (arith, less, few));
    at = record { passing = pass; low = low; beyond = beyond; few = omega arith; rest = rest };
  }

  -- down and to the right, to the leaf of the key, or to the left of a removed leaf
  plain_on : (old : ReadRound) (version : Version) (new : ReadRound) (cost later : ℕ) → IsPlain old.leg
      → OnWay w (read_way old.goal old.key) (above_of old.leg) (live version) cost → Keeps old.goal old.key later → TreatsRead old version new None
      → Goes new old.key cost later
  plain_on old version new cost later plain o k treats = elim treats [
    | inl r ↦ gone old new old.leg old.goal r.next cost later r.goes
        (turned r.next cost (OnWay w way (above_of old.leg)) (λ page left. At old.leg old.goal old.key page left later)
        (λ page left h. into old.leg old.goal old.key page left later plain h k) (way_right w way (above_of old.leg) (above_of old.leg) r.next cost version o r.alive r.leads))
    | inr rest ↦ elim rest [
      | inl r ↦ gone old new (below version old.leg) old.goal r.next cost later r.goes
          (turned r.next cost (OnWay w way (Some version)) (λ page left. At (below version old.leg) old.goal old.key page left later)
          (λ page left h. into (below version old.leg) old.goal old.key page left later (plain_below old.leg version plain)
          (rw (above_below old.leg version plain) h) k)
          (way_down w way is_way (above_of old.leg) r.next cost version o r.alive r.stays r.index r.leads))
      | inr rest ↦ elim rest [
        | inl r ↦
            let l = left_leaf old version r.removed cost later o k r.left in
            let q = beside_leaf old.key r.next later r.removed (live version) l.3 l.0 l.2 r.beside r.leads in
            gone old new (level_on old.leg) Beyond r.next cost later r.goes
            (turned r.next cost (λ page left. OnLeaves old.key page left later) (λ page left. At (level_on old.leg) Beyond old.key page left later)
            (λ page left h. onto old.leg old.key page left later plain h)
            (on_leaf old.key q.low q.other (live version) r.next cost later q.is_pid q.passing q.beyond l.0 q.after l.1 q.rest))
        | inr rest ↦ elim rest [
          | inl r ↦
              let l = left_leaf old version r.removed cost later o k r.left in
              let q = past_leaf old.key r.next later r.removed (live version) l.3 l.0 r.merged r.left.ends.stays r.leads in
              gone old new (level_on old.leg) Beyond r.next cost later r.goes
              (turned r.next cost (λ page left. OnLeaves old.key page left later) (λ page left. At (level_on old.leg) Beyond old.key page left later)
              (λ page left h. onto old.leg old.key page left later plain h)
              (on_leaf old.key q.low q.other (live version) r.next cost later q.is_pid q.passing q.beyond l.0 q.after l.1 q.rest))
          | inr rest ↦ elim rest [
            | inl r ↦ gone old new (Round version) old.goal r.next cost later r.goes
                (turned r.next cost (OnRound w way version) (λ page left. At (Round version) old.goal old.key page left later) (λ page left h. (h, k))
                (way_round w way is_way (above_of old.leg) r.next cost version r.above o r.gone r.is_above r.leads))
            | inr rest ↦ elim rest [
              | inl r ↦ not_round old.leg r.removed plain r.left.leg
              | inr rest ↦ elim rest [
                | inl r ↦ not_round old.leg r.removed plain r.left.leg
                | inr rest ↦ elim rest [
                  | inl r ↦ not_round old.leg r.removed plain r.there.left.leg
                  | inr r ↦ not_round old.leg r.removed plain r.there.left.leg
                ]
              ]
            ]
          ]
        ]
      ]
    ]
  ]
    where
      way : Key → Bool
      way = read_way old.goal old.key

      is_way : IsWay way
      is_way = is_way_of old.goal old.key

  -- it isn't lost, and ends at a removed leaf on the way to a key alone
  plain_lost : (old : ReadRound) (version : Version) (cost : ℕ) → IsPlain old.leg → OnWay w (read_way old.goal old.key) (above_of old.leg) (live version) cost
      → IsLost old version ⊎ IsOffLevel old version → ⊥
  plain_lost old version cost plain o treats = elim treats [
    | inl lost ↦ let f = way_found w (read_way old.goal old.key) (above_of old.leg) cost version o lost.gone in f.2 (lacking old.leg version f.0 f.1 lost.lacks)
    | inr off ↦ not_round old.leg off.removed plain off.leg
  ]

  under_leaf : (way : Key → Bool) (above : Option Version) (version : Version) (cost : ℕ) → OnWay w way above (live version) cost → is_removed version.chain ≡ true → level_in version.chain ≡ 0
      → IsPageOn w.limits w.memory 0 (live version) × Under w way above 0 (live version)
  under_leaf way above version cost o removed leaf = elim o.is [
    | inl here ↦ absurd (let both : true ≡ false = sym removed ∙ here.0.alive in cc)
    | inr here ↦ let zeroth : o.level ≡ 0 = sym o.stands.level_is
        ∙ leaf in (rw (← zeroth) o.stands, rw (← zeroth) here.0)
  ]

  plain_gone : (goal : ReadGoal) (key : Key) (above : Option Version) (version : Version) (cost later : ℕ)
      → OnWay w (read_way goal key) above (live version) cost → Keeps goal key later → is_removed version.chain ≡ true → level_in version.chain ≡ 0
      → IsRemovedLeaf w (live version) × (one_round w + times w (removed_after w key (low_in version.chain)) ≤ later)
  plain_gone Seek key above version cost later o k removed leaf =
      let u = under_leaf (reaches key) above version cost o removed leaf in
      let none : times w (removed_after w key (low_in version.chain)) ≡ 0 = ap (times w) (none_beyond w key (live version) above u.1) in
      (of_term w (reaches key) above (live version) u.0 u.1, omega (arith, none, k))
  plain_gone (Left aside) key above version cost later o k removed leaf =
      let u = under_leaf (left_of aside) above version cost o removed leaf in
      elim k [
        | inl termed ↦ absurd (left_stands w (live aside) (live version) above termed.0 u.1 o.passing)
        | inr was ↦ (of_term w (left_of aside) above (live version) u.0 u.1, after_times key (low_in version.chain) later was.1)
      ]
  plain_gone Beyond key above version cost later o k removed leaf = absurd k

  plain_end : (old : ReadRound) (version : Version) (new : ReadRound) (cost later : ℕ) (end : ReadEnd) → IsPlain old.leg
      → OnWay w (read_way old.goal old.key) (above_of old.leg) (live version) cost → Keeps old.goal old.key later
      → TreatsRead old version new (Some end) → Then old new (Some end) cost later
  plain_end old version new cost later Again plain o k treats = plain_lost old version cost plain o treats
  plain_end old version new cost later (Removed removed) plain o k at =
      rw at.is
      (plain_gone old.goal old.key (above_of old.leg) version cost later o k at.gone at.leaf)
  plain_end old version new cost later (Leaf leaf) plain o k at = tt
  plain_end old version new cost later (Beside left removed) plain o k at = tt

  plain_treats : (old : ReadRound) (version : Version) (new : ReadRound) (cost later : ℕ) (result : Option ReadEnd) → IsPlain old.leg
      → OnWay w (read_way old.goal old.key) (above_of old.leg) (live version) cost → Keeps old.goal old.key later
      → TreatsRead old version new result → Then old new result cost later
  plain_treats old version new cost later None plain o k treats = plain_on old version new cost later plain o k treats
  plain_treats old version new cost later (Some end) plain o k treats = plain_end old version new cost later end plain o k treats

  -- on the leaves, from a removed one on to the key
  module _ (limits : Limits) (key : Key) (leg : Leg) (state : WayState) (plain : IsPlain leg) where
    abbrev on_leaves : ReadRound
    on_leaves = record { limits = limits; key = key; goal = Beyond; leg = leg; state = state }

    onto_same : (other : Leg) → IsPlain other → (page : LivePage) (cost later : ℕ) → OnLeaves key page cost later → At other Beyond key page cost later
    onto_same (Down above) p page cost later o = o
    onto_same (Past above) p page cost later o = o
    onto_same (Round removed) p page cost later o = absurd p

    no_index : {X : Type 0} (version : Version) (cost later : ℕ) → OnLeaves key (live version) cost later → 0 < level_in version.chain → X
    no_index version cost later o index = let zeroth = (w.tree.each 0 (live version) o.beyond.on).level_is in absurd (omega (arith, zeroth, index))

    no_left : {X : Type 0} (removed : Version) → Beyond ≡ Left removed → X
    no_left removed e = absurd (cc)

    leaves_on : (version : Version) (new : ReadRound) (cost later : ℕ) → OnLeaves key (live version) cost later → TreatsRead on_leaves version new None → Goes new key cost later
    leaves_on version new cost later o treats = elim treats [
      | inl r ↦
          let q = right w (reaches key) 0 r.next (live version) o.beyond.on r.leads in
          gone on_leaves new leg Beyond r.next cost later r.goes
          (turned r.next cost (λ page left. OnLeaves key page left later) (λ page left. At leg Beyond key page left later) (onto_here later)
          (on_leaf key o.low q.0 (live version) r.next cost later q.1 q.3
          (record {
            on = q.2;
            up = upto_trans o.low (low_in version.chain) (low_of q.0) o.beyond.up (below_not (low_in version.chain) (low_of q.0) q.4);
            after = λ g. upto_below o.low (low_in version.chain) (low_of q.0) o.beyond.up q.4;
          })
          o.beyond.on q.4 o.few o.rest))
      | inr rest ↦ elim rest [
        | inl r ↦ no_index version cost later o r.index
        | inr rest ↦ elim rest [
          | inl r ↦ no_left r.removed r.left.goal
          | inr rest ↦ elim rest [
            | inl r ↦ no_left r.removed r.left.goal
            | inr rest ↦ elim rest [
              | inl r ↦ no_index version cost later o r.index
              | inr rest ↦ elim rest [
                | inl r ↦ not_round leg r.removed plain r.left.leg
                | inr rest ↦ elim rest [
                  | inl r ↦ not_round leg r.removed plain r.left.leg
                  | inr rest ↦ elim rest [ inl r ↦ not_round leg r.removed plain r.there.left.leg | inr r ↦ not_round leg r.removed plain r.there.left.leg ]
                ]
              ]
            ]
          ]
        ]
      ]
    ]
      where
        onto_here : (later : ℕ) (page : LivePage) (left : ℕ) → OnLeaves key page left later → At leg Beyond key page left later
        onto_here later page left h = onto_same leg plain page left later h

    leaves_treat : (version : Version) (new : ReadRound) (cost later : ℕ) (result : Option ReadEnd) → OnLeaves key (live version) cost later
        → TreatsRead on_leaves version new result → Then on_leaves new result cost later
    leaves_treat version new cost later None o treats = leaves_on version new cost later o treats
    leaves_treat version new cost later (Some Again) o treats = elim treats [ inl lost ↦ no_index version cost later o lost.index | inr off ↦ not_round leg off.removed plain off.leg ]
    leaves_treat version new cost later (Some (Removed removed)) o at =
        let fewer = fewer_after w key o.low (live version) o.beyond.on at.gone (o.beyond.after at.gone) o.passing in
        let up = times_up w (suc (removed_after w key (low_in version.chain))) (removed_after w key o.low) fewer in
        let rest = o.rest in
        rw at.is
        (of_level w (live version) o.beyond.on at.gone, omega (arith, up, rest))
    leaves_treat version new cost later (Some (Leaf leaf)) o at = tt
    leaves_treat version new cost later (Some (Beside left removed)) o at = tt

  -- round a removed index page
  module _ (limits : Limits) (key : Key) (goal : ReadGoal) (removed : Version) (state : WayState) where
    abbrev on_round : ReadRound
    on_round = record { limits = limits; key = key; goal = goal; leg = Round removed; state = state }

    one_removed : (other : Version) → Round removed ≡ Round other → other ≡ removed
    one_removed other e = cc

    goes_on : (new : ReadRound) (above : Option Version) (next cost later : ℕ) → new ≡ reading_on_to next (on (Past above) on_round) → Keeps goal key later
        → Comes w next cost (OnWay w (read_way goal key) above) → Goes new key cost later
    goes_on new above next cost later e k c = gone on_round new (Past above) goal next cost later e
        (turned next cost (OnWay w (read_way goal key) above) (λ page left. At (Past above) goal key page left later) (λ page left h. into (Past above) goal key page left later tt h k) c)

    round_on : (version : Version) (new : ReadRound) (cost later : ℕ) → OnRound w (read_way goal key) removed (live version) cost → Keeps goal key later
        → TreatsRead on_round version new None → Goes new key cost later
    round_on version new cost later o k treats = elim treats [
      | inl r ↦ absurd r.plain
      | inr rest ↦ elim rest [
        | inl r ↦ absurd r.plain
        | inr rest ↦ elim rest [
          | inl r ↦ absurd r.left.plain
          | inr rest ↦ elim rest [
            | inl r ↦ absurd r.left.plain
            | inr rest ↦ elim rest [
              | inl r ↦ let none : None ≡ Some r.above = r.is_above in absurd (cc)
              | inr rest ↦ elim rest [
                | inl r ↦
                    let same = one_removed r.removed r.left.leg in
                    gone on_round new (Round removed) goal r.next cost later r.goes
                    (turned r.next cost (OnRound w (read_way goal key) removed) (λ page left. At (Round removed) goal key page left later) (λ page left h. (h, k))
                    (round_nearer w (read_way goal key) is_way r.next cost removed (live version) o (rw (← same) r.leads)))
                | inr rest ↦ elim rest [
                  | inl r ↦
                      let same = one_removed r.removed r.left.leg in
                      goes_on new None r.next cost later r.goes k
                      (round_through w (read_way goal key) is_way r.next cost removed (live version) o
                      (rw (← same) r.beside)
                      (rw (← same) r.leads))
                  | inr rest ↦ elim rest [
                    | inl r ↦
                        let same = one_removed r.removed r.there.left.leg in
                        goes_on new None r.next cost later r.goes k
                        (round_merged_right w (read_way goal key) r.next cost removed (live version) o
                        (rw (← same) r.there.merged)
                        (rw (← same) r.there.stays) r.leads)
                    | inr r ↦ goes_on new (Some version) r.next cost later r.goes k (round_merged_down w (read_way goal key) is_way r.next cost removed version o r.ends r.index r.leads)
                  ]
                ]
              ]
            ]
          ]
        ]
      ]
    ]
      where
        is_way : IsWay (read_way goal key)
        is_way = is_way_of goal key

    round_lost : (version : Version) (cost : ℕ) → OnRound w (read_way goal key) removed (live version) cost → IsLost on_round version ⊎ IsOffLevel on_round version → ⊥
    round_lost version cost o treats = elim treats [
      | inl lost ↦ lost.lacks
      | inr off ↦ elim off.off [
        | inl removed_too ↦ let both : true ≡ false = sym removed_too ∙ o.near.alive in cc
        | inr other ↦
            let same = one_removed off.removed off.leg in
            let levels : level_in version.chain ≡ level_in removed.chain = (w.tree.each o.level (live version) o.near.on).level_is ∙ sym o.near.stands.level_is in
            other (levels ∙ ap (λ (v : Version). level_in v.chain) (sym same))
      ]
    ]

    round_treat : (version : Version) (new : ReadRound) (cost later : ℕ) (result : Option ReadEnd) → OnRound w (read_way goal key) removed (live version) cost
        → Keeps goal key later → TreatsRead on_round version new result → Then on_round new result cost later
    round_treat version new cost later None o k treats = round_on version new cost later o k treats
    round_treat version new cost later (Some Again) o k treats = round_lost version cost o treats
    round_treat version new cost later (Some (Removed other)) o k at = absurd at.plain
    round_treat version new cost later (Some (Leaf leaf)) o k at = tt
    round_treat version new cost later (Some (Beside left other)) o k at = tt

  by_leg : (limits : Limits) (key : Key) (goal : ReadGoal) (leg : Leg) (state : WayState) (version : Version) (new : ReadRound) (cost later : ℕ)
      (result : Option ReadEnd) → At leg goal key (live version) cost later
      → TreatsRead (record { limits = limits; key = key; goal = goal; leg = leg; state = state }) version new result
      → Then (record { limits = limits; key = key; goal = goal; leg = leg; state = state }) new result cost later
  by_leg limits key goal (Round removed) state version new cost later result at treats = round_treat limits key goal removed state version new cost later result at.0 at.1 treats
  by_leg limits key Seek (Down above) state version new cost later result at treats =
      plain_treats (record { limits = limits; key = key; goal = Seek; leg = Down above; state = state }) version new cost later result tt at.0 at.1 treats
  by_leg limits key (Left removed) (Down above) state version new cost later result at treats =
      plain_treats (record { limits = limits; key = key; goal = Left removed; leg = Down above; state = state }) version new cost later result tt at.0 at.1 treats
  by_leg limits key Beyond (Down above) state version new cost later result at treats = leaves_treat limits key (Down above) state tt version new cost later result at treats
  by_leg limits key Seek (Past above) state version new cost later result at treats =
      plain_treats (record { limits = limits; key = key; goal = Seek; leg = Past above; state = state }) version new cost later result tt at.0 at.1 treats
  by_leg limits key (Left removed) (Past above) state version new cost later result at treats =
      plain_treats (record { limits = limits; key = key; goal = Left removed; leg = Past above; state = state }) version new cost later result tt at.0 at.1 treats
  by_leg limits key Beyond (Past above) state version new cost later result at treats = leaves_treat limits key (Past above) state tt version new cost later result at treats

  pub treats : (old : ReadRound) (version : Version) (new : ReadRound) (cost later : ℕ) (result : Option ReadEnd)
      → At old.leg old.goal old.key (live version) cost later → TreatsRead old version new result → Then old new result cost later
  treats old version new cost later result at t = by_leg old.limits old.key old.goal old.leg old.state version new cost later result at t
