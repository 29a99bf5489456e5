-- What a round makes of a page that began in an earlier memory: it comes to a place, with fewer pages left, or it ends.
use Rattle.progress.proofs.Words.{◌≡◌, ◌<◌, ◌≤◌, ◌+◌, ◌⊎◌, ℕ, zero, suc, List, Bool, true, false, Option, Some, None, refl, sym, ap, subst, ◌∙◌, inl, inr, arith, ⊤, Record, is_removed}
use Rattle.progress.proofs.Words.{level_in, low_in, right_in, IsPageChain, LivePage, Version, Page, ReadEnd, Again, Removed, Leaf, Beside, ReadGoal, Left, Beyond, Leg, Round, Past, below}
use Rattle.progress.proofs.Words.{level_on, IsLeftLeaf, ReadRound, TreatsRead, reading_on_to, left_of, on, read_way, toward, to_page, LeadsDown, LeadsOn, LeadsRight, reaches, IsBelow, Key}
use Rattle.progress.proofs.Words.{IsPageOn, below_not, below_upto, IsGoalIn, KeepsItsPlace, IsLegIn, IsPlace, NamesPlaces, WasRemovedLeaf}
use Rattle.progress.proofs.rounds.Measures.{left_less, left_more, left_over, left_within, under_all, under_less}
use Rattle.progress.proofs.rounds.Pages.{On, Standing, chain_on, live, low_of, right, right_above, same_pid}
use Rattle.progress.proofs.rounds.Places.{Few, below_plain, child_of, few_above, few_any, few_below, first, kept_here, leg_below, leg_level, most, names_above}
use Rattle.progress.proofs.rounds.Places.{names_here, right_level, right_plain, second}

module _ (w : Standing) where
  -- A page stands at which a round is.
  pub record Loose (leg : Leg) (goal : ReadGoal) (page : LivePage) (cost : ℕ) : Type 0 where
    pub level : ℕ
    pub stands : IsPageOn w.limits w.memory level page
    pub is : (is_removed page.chain ≡ true) ⊎ On w level page
    pub leg_is : IsLegIn w.tree leg
    pub goal_is : IsGoalIn w.tree goal
    pub few : Few w leg level page cost

  -- The round has gone to a place, and fewer pages are left.
  pub record Moves (new : ReadRound) (cost : ℕ) : Type 0 where
    pub pid : ℕ
    pub place : IsPlace w.tree pid
    pub is_state : new.state ≡ Page (to_page new.limits pid)
    pub leg_is : IsLegIn w.tree new.leg
    pub goal_is : IsGoalIn w.tree new.goal
    pub left : ℕ
    pub fewer : left < cost
    pub few : (page : LivePage) (level : ℕ) → page.pid ≡ pid → IsPageOn w.limits w.memory level page → Few w new.leg level page left

  goes : (old new : ReadRound) (leg : Leg) (goal : ReadGoal) (next left cost : ℕ) → new ≡ reading_on_to next (on leg (toward goal old)) → IsPlace w.tree next
      → IsLegIn w.tree leg → IsGoalIn w.tree goal → left < cost
      → ((page : LivePage) (level : ℕ) → page.pid ≡ next → IsPageOn w.limits w.memory level page → Few w leg level page left) → Moves new cost
  goes old new leg goal next left cost e place leg_is goal_is fewer few =
      rw e (record { pid = next; place = place; is_state = refl; leg_is = leg_is; goal_is = goal_is; left = left; fewer = fewer; few = few })

  -- of a page that is known
  known : (leg : Leg) (next left level : ℕ) (page : LivePage) → page.pid ≡ next → IsPageOn w.limits w.memory level page → Few w leg level page left
      → (other : LivePage) (other_level : ℕ) → other.pid ≡ next → IsPageOn w.limits w.memory other_level other → Few w leg other_level other left
  known leg next left level page e stands few other other_level f also =
      let same : page ≡ other = same_pid w page other stands.stands also.stands (e ∙ sym f) in
      let levels : level ≡ other_level = sym stands.level_is ∙ ap (λ (p : LivePage). level_in p.chain) same ∙ also.level_is in
      rw (← levels) (rw (← same) few)

  goes_known : (old new : ReadRound) (leg : Leg) (goal : ReadGoal) (next left cost level : ℕ) (page : LivePage) → new ≡ reading_on_to next (on leg (toward goal old))
      → page.pid ≡ next → IsPageOn w.limits w.memory level page
      → ((is_removed page.chain ≡ true) ⊎ On w level page) → IsLegIn w.tree leg → IsGoalIn w.tree goal → left < cost → Few w leg level page left → Moves new cost
  goes_known old new leg goal next left cost level page e is_pid stands is leg_is goal_is fewer few =
      goes old new leg goal next left cost e (inr (page, is_pid, record { level = level; stands = stands; is = is })) leg_is goal_is fewer (known leg next left level page is_pid stands few)

  -- a kept page is the right of a page
  right_kept : (level : ℕ) (page removed : LivePage) → On w level page → KeepsItsPlace w.tree removed → right_in page.chain ≡ Some removed.pid
      → On w level removed × IsBelow (low_of page) (low_of removed)
  right_kept level page removed on kept is_right =
      let on_removed = kept level page on is_right in
      let r = w.tree.right level page removed.pid on is_right in
      let same : r.0 ≡ removed = same_pid w r.0 removed (chain_on w level r.0 r.1) (chain_on w level removed on_removed) r.2 in
      (on_removed, rw (← same) (right_above w level page (low_of r.0) on r.3))

  -- down from a page of a level
  down_from : (old new : ReadRound) (leg : Leg) (goal : ReadGoal) (way : Key → Bool) (level next cost : ℕ) (version : Version) → level_in version.chain ≡ level
      → 0 < level_in version.chain → On w level (live version) → LeadsDown way version.chain next
      → under_all w level + under_all w level < cost → new ≡ reading_on_to next (on leg (toward goal old)) → ((l : ℕ) → level ≡ suc l → IsLegIn w.tree leg)
      → IsGoalIn w.tree goal → ((l : ℕ) (page : LivePage) → level ≡ suc l → Few w leg l page (first w l (low_of page))) → Moves new cost
  down_from old new leg goal way zero next cost version is index on_level leads some e leg_is goal_is few = absurd (omega (arith, is, index))
  down_from old new leg goal way (suc level) next cost version is index on_level leads some e leg_is goal_is few =
      let c = child_of w level next (live version) leads.low leads.held on_level leads.greatest.has in
      let within = left_within w level (low_of c.0) in
      goes_known old new leg goal next (first w level (low_of c.0)) cost level c.0 e c.1 c.2 c.3 (leg_is level refl) goal_is (omega (arith, within, some)) (few level c.0 refl)

  -- a page that isn't removed is one of its level
  alive_on : (leg : Leg) (goal : ReadGoal) (page : LivePage) (cost : ℕ) → (l : Loose leg goal page cost) → is_removed page.chain ≡ false → On w l.level page
  alive_on leg goal page cost l alive = elim l.is [ inl gone ↦ absurd (let both : true ≡ false = sym gone ∙ alive in cc) | inr on_level ↦ on_level ]

  left_zero : (old : ReadRound) (version removed : Version) (cost : ℕ) → Loose old.leg old.goal (live version) cost → IsLeftLeaf old version removed
      → On w 0 (live version) × Few w old.leg 0 (live version) cost × WasRemovedLeaf w.tree removed
  left_zero old version removed cost l left =
      let zeroth : l.level ≡ 0 = sym l.stands.level_is ∙ left.ends.leaf in (
        rw (← zeroth) (alive_on old.leg old.goal (live version) cost l left.alive),
        rw (← zeroth) l.few,
        rw left.goal at l.goal_is,
      )

  -- a round that goes round a removed page is at a page of its level
  module _ (old : ReadRound) (version : Version) (removed : Version) (cost : ℕ) (l : Loose old.leg old.goal (live version) cost) (leg : old.leg ≡ Round removed)
      (alive : is_removed version.chain ≡ false) (same : level_in version.chain ≡ level_in removed.chain) where
    abbrev height : ℕ
    height = level_in removed.chain

    here : On w height (live version)
    here = let levels : l.level ≡ height = sym l.stands.level_is ∙ same in rw (← levels) (alive_on old.leg old.goal (live version) cost l alive)

    few_here : second w height (low_in version.chain) ≤ cost
    few_here = (rw leg at l.few) here

    kept : KeepsItsPlace w.tree (live removed)
    kept = rw leg at l.leg_is

    onward : (new : ReadRound) (way : Key → Bool) (next : ℕ) (page other : LivePage) → On w height page → LeadsRight way page.chain next
        → (IsBelow (low_in version.chain) (low_of page) ⊎ (low_of page ≡ low_in version.chain)) → new ≡ reading_on_to next (on (Past None) old) → Moves new cost
    onward new way next page other on_page leads after e =
        let q = right w way height next page on_page leads in
        let beyond : IsBelow (low_in version.chain) (low_of q.0) = elim after [
          | inl less ↦ below_upto (low_in version.chain) (low_of page) (low_of q.0) less (below_not (low_of page) (low_of q.0) q.4)
          | inr is ↦ rw (← is) q.4
        ] in
        let less = left_less w height (live version) (low_of q.0) here beyond in
        let few = few_here in
        goes_known old new (Past None) old.goal next (second w height (low_of q.0)) cost height q.0 e q.1 (w.tree.each height q.0 q.2) (inr q.2) tt l.goal_is (omega (arith, less, few)) (omega arith)

    nearer : (new : ReadRound) (next : ℕ) → LeadsRight (left_of removed) version.chain next → new ≡ reading_on_to next old → Moves new cost
    nearer new next leads e =
        let q = right w (left_of removed) height next (live version) here leads in
        let less = left_less w height (live version) (low_of q.0) here q.4 in
        let few = few_here in
        goes_known old new old.leg old.goal next (second w height (low_of q.0)) cost height q.0 e q.1 (w.tree.each height q.0 q.2) (inr q.2) l.leg_is l.goal_is (omega (arith, less, few))
        (subst (λ (g : Leg). Few w g height q.0 (second w height (low_of q.0))) (sym leg) (λ on_it. omega arith))

    more_below : under_all w height + under_all w height < cost
    more_below = let more = left_more w height (live version) here in let few = few_here in omega (arith, more, few)

    through : (new : ReadRound) (next : ℕ) → right_in version.chain ≡ Some removed.pid → LeadsOn (read_way old.goal old.key) removed.chain next
        → new ≡ reading_on_to next (on (Past None) old) → Moves new cost
    through new next is_right leads e =
        let r = right_kept height (live version) (live removed) here kept is_right in
        elim leads [
          | inl beyond ↦ onward new (read_way old.goal old.key) next (live removed) (live version) r.0 beyond (inl r.1) e
          | inr down ↦ down_from old new (Past None) old.goal (read_way old.goal old.key) height next cost removed refl down.1 r.0 down.2 more_below e (λ n is. tt) l.goal_is
              (λ n page is. let less = under_less w n in omega (arith, less))
        ]

    merged_down : (new : ReadRound) (next : ℕ) → 0 < level_in version.chain → LeadsDown (read_way old.goal old.key) version.chain next
        → new ≡ reading_on_to next (on (Past (Some version)) old) → Moves new cost
    merged_down new next index leads e =
        down_from old new (Past (Some version)) old.goal (read_way old.goal old.key) height next cost version same index here leads more_below e
        (λ n is. names_here w n (live version) (rw (← is) here)) l.goal_is (λ n page is. omega arith)

  loose_on : (old : ReadRound) (version : Version) (new : ReadRound) (cost : ℕ) → Loose old.leg old.goal (live version) cost → TreatsRead old version new None → Moves new cost
  loose_on old version new cost l treats = elim treats [
    | inl r ↦
        let here = alive_on old.leg old.goal (live version) cost l r.alive in
        let q = right w way l.level r.next (live version) here r.leads in
        let f = right_plain w old.leg l.level (live version) q.0 cost r.plain here q.4 l.few in
        goes_known old new old.leg old.goal r.next f.0 cost l.level q.0 r.goes q.1 (w.tree.each l.level q.0 q.2) (inr q.2) l.leg_is l.goal_is f.1 f.2
    | inr rest ↦ elim rest [
      | inl r ↦
          let here = alive_on old.leg old.goal (live version) cost l r.alive in
          down_from old new (below version old.leg) old.goal way l.level r.next cost version l.stands.level_is r.index here r.leads
          (below_plain w old.leg l.level (live version) cost r.plain here l.few) r.goes
          (λ n is. leg_below w old.leg version r.plain (names_here w n (live version) (rw (← is) here))) l.goal_is
          (λ n page is. few_below w old.leg version n page (first w n (low_of page)) r.plain (omega arith))
      | inr rest ↦ elim rest [
        | inl r ↦
            let z = left_zero old version r.removed cost l r.left in
            let k = right_kept 0 (live version) (live r.removed) z.0 z.2.kept r.beside in
            let q = right w (reaches old.key) 0 r.next (live r.removed) k.0 r.leads in
            let beyond = below_upto (low_in version.chain) (low_in r.removed.chain) (low_of q.0) k.1 (below_not (low_in r.removed.chain) (low_of q.0) q.4) in
            let f = right_level w old.leg 0 (live version) q.0 cost r.left.plain z.0 beyond z.1 in
            goes_known old new (level_on old.leg) Beyond r.next (second w 0 (low_of q.0)) cost 0 q.0 r.goes q.1 (w.tree.each 0 q.0 q.2) (inr q.2)
            (leg_level w old.leg r.left.plain) tt f.0 (f.1 (second w 0 (low_of q.0)) (omega arith))
        | inr rest ↦ elim rest [
          | inl r ↦
              let z = left_zero old version r.removed cost l r.left in
              let q = right w (reaches old.key) 0 r.next (live version) z.0 r.leads in
              let f = right_level w old.leg 0 (live version) q.0 cost r.left.plain z.0 q.4 z.1 in
              goes_known old new (level_on old.leg) Beyond r.next (second w 0 (low_of q.0)) cost 0 q.0 r.goes q.1 (w.tree.each 0 q.0 q.2) (inr q.2)
              (leg_level w old.leg r.left.plain) tt f.0 (f.1 (second w 0 (low_of q.0)) (omega arith))
          | inr rest ↦ elim rest [
            | inl r ↦ rounds (few_above w old.leg r.above l.level (live version) cost r.is_above l.few) r.next
                ((names_above w old.leg r.above r.is_above l.leg_is).child r.leads.low r.next r.leads.held r.leads.greatest.has) r.goes
            | inr rest ↦ elim rest [
              | inl r ↦ nearer old version r.removed cost l r.left.leg r.left.alive r.left.same new r.next r.leads r.goes
              | inr rest ↦ elim rest [
                | inl r ↦ through old version r.removed cost l r.left.leg r.left.alive r.left.same new r.next r.beside r.leads r.goes
                | inr rest ↦ elim rest [
                  | inl r ↦ onward old version r.removed cost l r.there.left.leg r.there.left.alive r.there.left.same new way r.next (live version)
                      (live version) (here old version r.removed cost l r.there.left.leg r.there.left.alive r.there.left.same) r.leads (inr refl) r.goes
                  | inr r ↦ merged_down old version r.removed cost l r.there.left.leg r.there.left.alive r.there.left.same new r.next r.index r.leads r.goes
                ]
              ]
            ]
          ]
        ]
      ]
    ]
  ]
    where
      way : Key → Bool
      way = read_way old.goal old.key

      rounds : first w l.level (low_in version.chain) ≤ cost → (next : ℕ) → IsPlace w.tree next → new ≡ reading_on_to next (on (Round version) old) → Moves new cost
      rounds few next place e = by_cost cost few
        where
          by_cost : (n : ℕ) → first w l.level (low_in version.chain) ≤ n → Moves new n
          by_cost zero le = let less = under_less w l.level in absurd (omega (arith, le, less))
          by_cost (suc m) le = goes old new (Round version) old.goal next m (suc m) e place (kept_here w (live version) l.stands.stands) l.goal_is (omega arith)
              (λ page level is_pid stands. λ on_it.
              let within = left_within w (level_in version.chain) (low_of page) in
              let over = left_over w l.level (low_in version.chain) in
              let is : under_all w (level_in version.chain) ≡ under_all w l.level = ap (under_all w) l.stands.level_is in
              let more : under_all w (suc (level_in version.chain)) ≡ under_all w (suc l.level) = rw l.stands.level_is in
              omega (arith, within, over, is, more, le))

  -- by how the round ends
  abbrev pub LooseThen : ReadRound → Option ReadEnd → ℕ → Type 0
  LooseThen new None cost = Moves new cost
  LooseThen new (Some Again) cost = ⊤
  LooseThen new (Some (Removed removed)) cost = WasRemovedLeaf w.tree removed
  LooseThen new (Some (Leaf leaf)) cost = ⊤
  LooseThen new (Some (Beside left removed)) cost = ⊤

  pub loosely : (old : ReadRound) (version : Version) (new : ReadRound) (cost : ℕ) (result : Option ReadEnd) → Loose old.leg old.goal (live version) cost
      → TreatsRead old version new result → LooseThen new result cost
  loosely old version new cost None l treats = loose_on old version new cost l treats
  loosely old version new cost (Some (Removed removed)) l at =
      rw at.is (record { fits = l.stands.fits; gone = at.gone; kept = kept_here w (live version) l.stands.stands })
  loosely old version new cost other l treats = tt

  -- A page was read whole, maybe as it was in an earlier memory.
  pub record Stale (leg : Leg) (goal : ReadGoal) (page : LivePage) : Type 0 where
    pub fits : IsPageChain page.chain
    pub names : is_removed page.chain ≡ false → NamesPlaces w.tree page.chain
    pub kept : is_removed page.chain ≡ true → KeepsItsPlace w.tree page
    pub left : (removed : Version) → goal ≡ Left removed → is_removed page.chain ≡ false → right_in page.chain ≡ Some removed.pid → NamesPlaces w.tree removed.chain
    pub round : (removed : Version) → leg ≡ Round removed → is_removed page.chain ≡ false → right_in page.chain ≡ Some removed.pid → NamesPlaces w.tree removed.chain
    pub leg_is : IsLegIn w.tree leg
    pub goal_is : IsGoalIn w.tree goal

  -- what it names is a place
  stale_on : (old : ReadRound) (version : Version) (new : ReadRound) → Stale old.leg old.goal (live version) → TreatsRead old version new None → Moves new (suc (most w))
  stale_on old version new s treats = elim treats [
    | inl r ↦ comes old.leg old.goal r.next r.goes ((s.names r.alive).right r.next r.leads.is_right) s.leg_is s.goal_is
    | inr rest ↦ elim rest [
      | inl r ↦ comes (below version old.leg) old.goal r.next r.goes ((s.names r.alive).child r.leads.low r.next r.leads.held r.leads.greatest.has)
          (leg_below w old.leg version r.plain (s.names r.alive)) s.goal_is
      | inr rest ↦ elim rest [
        | inl r ↦ comes (level_on old.leg) Beyond r.next r.goes ((s.left r.removed r.left.goal r.left.alive r.beside).right r.next r.leads.is_right) (leg_level w old.leg r.left.plain) tt
        | inr rest ↦ elim rest [
          | inl r ↦ comes (level_on old.leg) Beyond r.next r.goes ((s.names r.left.alive).right r.next r.leads.is_right) (leg_level w old.leg r.left.plain) tt
          | inr rest ↦ elim rest [
            | inl r ↦ comes (Round version) old.goal r.next r.goes
                ((names_above w old.leg r.above r.is_above s.leg_is).child r.leads.low r.next r.leads.held r.leads.greatest.has) (s.kept r.gone) s.goal_is
            | inr rest ↦ elim rest [
              | inl r ↦ comes old.leg old.goal r.next r.goes ((s.names r.left.alive).right r.next r.leads.is_right) s.leg_is s.goal_is
              | inr rest ↦ elim rest [
                | inl r ↦ comes (Past None) old.goal r.next r.goes (leading (s.round r.removed r.left.leg r.left.alive r.beside) r.next r.leads) tt s.goal_is
                | inr rest ↦ elim rest [
                  | inl r ↦ comes (Past None) old.goal r.next r.goes ((s.names r.there.left.alive).right r.next r.leads.is_right) tt s.goal_is
                  | inr r ↦ comes (Past (Some version)) old.goal r.next r.goes
                      ((s.names r.there.left.alive).child r.leads.low r.next r.leads.held r.leads.greatest.has) (s.names r.there.left.alive) s.goal_is
                ]
              ]
            ]
          ]
        ]
      ]
    ]
  ]
    where
      comes : (leg : Leg) (goal : ReadGoal) (next : ℕ) → new ≡ reading_on_to next (on leg (toward goal old)) → IsPlace w.tree next → IsLegIn w.tree leg
          → IsGoalIn w.tree goal → Moves new (suc (most w))
      comes leg goal next e place leg_is goal_is = goes old new leg goal next (most w) (suc (most w)) e place leg_is goal_is (omega arith) (λ page level is_pid stands. few_any w leg level page stands)

      leading : {way : Key → Bool} {chain : List Record} → NamesPlaces w.tree chain → (next : ℕ) → LeadsOn way chain next → IsPlace w.tree next
      leading names next leads = elim leads [ inl beyond ↦ names.right next beyond.is_right | inr down ↦ names.child down.2.low next down.2.held down.2.greatest.has ]

  pub stalely : (old : ReadRound) (version : Version) (new : ReadRound) (result : Option ReadEnd) → Stale old.leg old.goal (live version)
      → TreatsRead old version new result → LooseThen new result (suc (most w))
  stalely old version new None s treats = stale_on old version new s treats
  stalely old version new (Some (Removed removed)) s at = rw at.is (record { fits = s.fits; gone = at.gone; kept = s.kept at.gone })
  stalely old version new other s treats = tt
