-- A step of a writer while nobody changes the tree: how often it meets pages that are gone from there on.
use Rattle.progress.proofs.Words.{◌≡◌, ◌<◌, ◌≤◌, ◌+◌, ◌-◌, ◌⊎◌, ◌++◌, append_assoc, ℕ, suc, List, [], ◌∷◌, length, Bool, true, false, cond, Option, None, Some, refl, sym, ap, subst, ◌∙◌, inl}
use Rattle.progress.proofs.Words.{inr, arith, ⊤, IsTrue, ◌==◌, Answer, Number, StepOf, Record, IsChainFrom, IsPageChain, is_below, is_removed, low_in, Version, Key, IsAnswer, Memory, WayState}
use Rattle.progress.proofs.Words.{Root, Page, Visit, VisitState, Sight, Empty, Whole, to_page, by_step, same_page, eqb_tells, either, Content, IsFitted, WriteGoal, Merge, Unterm, Responds}
use Rattle.progress.proofs.Words.{Sees, Slot, Row, WriteEnd, WriteRound, above_empty, AtChange, InRound, WriterState, meets}
use Rattle.progress.proofs.Tallies.{one_at_most}
use Rattle.bw_model.specs.declared.step.Step.TheVariants as step
use Rattle.traces.specs.discipline.Recalled.{is_removal}
use Rattle.round_model.specs.Courses.{Seek, Left}
use Rattle.round_model.specs.Visits.{Completes, Continues, FindsHead}
use Rattle.round_model.specs.Visits as page
use Rattle.round_model.specs.WriteEnds as end
use Rattle.round_model.specs.WriteResponses.{TreatsWrite, writing}
use Rattle.round_model.specs.WriteRounds.{at, wanted_step, write_way}
use Rattle.round_model.proofs.WayLaws.{lowest}
use Rattle.progress.specs.WritersAmong.{AfterRound, BeginsRound}
use Rattle.progress.proofs.rounds.Pages.{Standing, live, root_clear}
use Rattle.progress.proofs.rounds.Visiting.{GoesOn, IsLeft, finds, goes_on, heads, not_empty, visits}
use Rattle.progress.proofs.meetings.Gone.{gone_read, has_removal, last_stands, once_next, owed, owed_next}
use Rattle.progress.proofs.meetings.Meeting.{At, Begins, IsAsRead, MeetsFew, StandsAt, Then, treats}

-- how often a step meets a page that is gone
abbrev pub meets_now : StepOf Record → Answer Record → ℕ
meets_now asked told = cond (meets asked told) 1 0

not_zero : (n : ℕ) → 0 < n → (n == 0) ≡ false
not_zero n some = elim (eqb_tells n 0) [ inl same ↦ absurd (let z : n ≡ 0 = same.1 in omega (arith, z, some)) | inr apart ↦ apart.0 ]

-- slots that aren't empty, and records that are no removals
meets_none : (pid row : ℕ) (told : Answer Record) → told ≡ Number row → 0 < row → meets_now (step.Slot pid) told ≡ 0
meets_none pid row told is some = ap (meets_now (step.Slot pid)) is ∙ ap (λ (b : Bool). cond {A = ℕ} b 1 0) (not_zero row some)

meets_record : (row : ℕ) (content : Record) (told : Answer Record) → told ≡ Content content → meets_now (step.Row row) told ≡ cond (is_removal content) 1 0
meets_record row content told is = ap (meets_now (step.Row row)) is

module _ (w : Standing) where
  -- so many are left after the step, with those of the step
  abbrev Leaves : WriteRound → Answer Record → ℕ → (ℕ → Type 0) → Type 0
  Leaves old told most P = (left : ℕ) × (left + meets_now (wanted_step old) told ≤ most) × P left

  abbrev Kept : WriteRound → Answer Record → WriteRound → Option WriteEnd → Type 0
  Kept old told new result = (most : ℕ) → MeetsFew w old most → IsAnswer w.memory (wanted_step old) told → Leaves old told most (Then w new result)

  root_passes : (goal : WriteGoal) (key : Key) (floor most : ℕ) → Begins w goal key floor most → write_way goal key [] ≡ true
  root_passes Seek key floor most b = lowest key
  root_passes (Left pid) key floor most (inl held) = rw (← held.0.begins) (above_empty held.0.page.chain held.0.stands.fits.fitted held.0.gone)
  root_passes (Left pid) key floor most (inr far) = far.0
  root_passes (Merge left) key floor most b = absurd b
  root_passes (Unterm parent left) key floor most b = absurd b

  root_at : (goal : WriteGoal) (key : Key) (floor most : ℕ) → Begins w goal key floor most → At w goal key floor None None w.tree.top w.tree.root.0 most
  root_at Seek key floor most b = record { passing = rw w.tree.root.3 (lowest key); over = refl; beside = tt; is = inl (root_clear w (write_way Seek key), b) }
  root_at (Left pid) key floor most b = record {
    passing = rw w.tree.root.3 (root_passes (Left pid) key floor most b);
    over = refl;
    beside = tt;
    is = inl (
      root_clear w (write_way (Left pid) key),
      elim b [
        | inl held ↦ inl (held.0, (let under = w.tree.below (suc floor) held.0.above held.0.on in omega (arith, under)), held.1)
        | inr far ↦ inr far.1
      ],
    );
  }
  root_at (Merge left) key floor most b = absurd b
  root_at (Unterm parent left) key floor most b = absurd b

  starts : (old : WriteRound) (root : ℕ) → Kept (at old Root) (Number root) (at old (Page (to_page old.limits root))) None
  starts old root most few answer =
      let same : root ≡ w.memory.slots 0 = (let both : Number root ≡ Number (w.memory.slots 0) = answer in cc) in
      let alive = (root_clear w (write_way Seek [])).alive in
      let stands = w.tree.each w.tree.top w.tree.root.0 w.tree.root.1 in
      let some : 0 < root = rw (← (w.tree.root.2 ∙ sym same)) stands.stands.page in
      let none : meets_now (wanted_step (at old Root)) (Number root) ≡ 0 = meets_none 0 root (Number root) refl some in (
        most,
        omega (arith, none),
        rw few.0
            (rw few.1 (record {
              page = w.tree.root.0;
              level = w.tree.top;
              stands = stands;
              is_pid = w.tree.root.2 ∙ sym same;
              left = suc (length w.tree.root.0.chain);
              is_left = refl;
              at_head = tt;
              bare = refl;
              rest = most;
              here = root_at old.goal old.key old.floor most few.2;
              few = (let le : most + 0 ≤ most = omega arith in rw alive le);
            })),
      )

  reads : (old : WriteRound) (visit next : Visit) (told : Answer Record) → page.Responds visit told next None → Kept (at old (Page visit)) told (at old (Page next)) None
  reads old visit next told r most v answer = (
    v.rest + owed (is_removed v.page.chain) (has_removal next.part),
    enough,
    record {
      page = v.page;
      level = v.level;
      stands = v.stands;
      is_pid = v.is_pid ∙ sym g.is_pid;
      left = g.left;
      is_left = g.is_left;
      at_head = heads w.memory visit next told answer r v.at_head;
      bare = elim r [
        | inl f ↦ rw f.goes tt
        | inr c ↦ rw c.goes tt
      ];
      rest = v.rest;
      here = v.here;
      few = omega arith;
    },
  )
    where
      g : GoesOn w.memory visit next v.page.chain v.left
      g = visits w.memory visit next v.page.chain v.left told (rw (← v.is_pid) v.stands.stands) v.is_left answer r

      enough : v.rest + owed (is_removed v.page.chain) (has_removal next.part) + meets_now (page.wanted_step visit) told ≤ most
      enough = elim r [
        | inl f ↦
            let bare : visit.part ≡ [] = rw f.asked at v.bare in
            let before : owed (is_removed v.page.chain) (has_removal visit.part) ≡ owed (is_removed v.page.chain) false = rw bare in
            let after : owed (is_removed v.page.chain) (has_removal next.part) ≡ owed (is_removed v.page.chain) false = rw f.goes in
            let none : meets_now (page.wanted_step visit) told ≡ 0 = rw f.asked (meets_none visit.pid f.row told f.is f.some) in
            let few = v.few in
            omega (arith, before, after, none, few)
        | inr c ↦
            let part : next.part ≡ visit.part ++ c.content ∷ [] = rw c.goes in
            let is_left : IsLeft w.memory v.page.chain (visit.part ++ c.content ∷ []) (Row c.head c.under) g.left =
            subst (λ (n : Visit). IsLeft w.memory v.page.chain n.part n.state g.left) c.goes g.is_left in
            let whole : visit.part ++ c.content ∷ is_left.0 ≡ v.page.chain = sym (append_assoc visit.part (c.content ∷ []) is_left.0) ∙ is_left.3 in
            let fitted = subst IsFitted (sym whole) v.stands.fits.fitted in
            let pays = owed_next visit.part is_left.0 c.content fitted in
            let here : owed (is_removed v.page.chain) (has_removal (visit.part ++ c.content ∷ [])) + cond (is_removal c.content) 1 0
            ≤ owed (is_removed v.page.chain) (has_removal visit.part) = rw (← whole) pays in
            let after : owed (is_removed v.page.chain) (has_removal next.part) ≡ owed (is_removed v.page.chain) (has_removal (visit.part ++ c.content ∷ [])) =
            rw part in
            let one : meets_now (page.wanted_step visit) told ≡ cond (is_removal c.content) 1 0 = rw c.asked (meets_record c.row c.content told c.is) in
            let few = v.few in
            omega (arith, here, after, one, few)
      ]

  found : (old : WriteRound) (visit next : Visit) (sight : Sight) (new : WriteRound) (result : Option WriteEnd) (told : Answer Record) → page.Responds visit told next (Some sight)
      → Sees writing (at old (Page visit)) sight new result → Kept (at old (Page visit)) told new result
  found old visit next Empty new result told r sees most v answer =
      absurd (not_empty w.memory visit next v.page.chain told (rw (← v.is_pid) v.stands.stands) answer r)
  found old visit next (Whole version) new result told r sees most v answer =
      let f = finds w.memory visit next v.page.chain v.left told version v.is_left answer r in
      let same : v.page ≡ live version = same_page v.page (live version) (v.is_pid ∙ sym f.0) (sym f.1) in
      let head : version.head ≡ w.memory.slots visit.pid = rw r.asked at v.at_head in
      let as_read : IsAsRead w version = ap w.memory.slots f.0 ∙ sym head in
      let none : meets_now (page.wanted_step visit) told ≡ 0 =
      rw r.asked (meets_record r.row r.content told r.is ∙ ap (λ (b : Bool). cond {A = ℕ} b 1 0) (last_stands r.content r.last)) in
      let few = v.few in
      let enough : v.rest + meets_now (page.wanted_step visit) told ≤ most = omega (arith, none, few) in (
        v.rest,
        enough,
        treats w (at old (Page visit)) version v.level v.rest (rw (← same) v.stands) as_read
            (rw (← same) v.here) new result sees,
      )

  -- a round that has read this memory alone
  pub fresh_responds : (old new : WriteRound) (told : Answer Record) (result : Option WriteEnd) → Responds writing old told new result → Kept old told new result
  fresh_responds old new told result responds = by_step writing (λ round. refl) Kept old new told result responds
      (λ root. starts old root)
      (λ visit next r. reads old visit next told r)
      (λ visit next sight r sees. found old visit next sight new result told r sees)

  -- A round that reads a page as it was in an earlier memory, or may do so: it meets one at most 21 times, with the removal that it has read of that page.
  abbrev pub IsStale : WayState → ℕ → Type 0
  IsStale Root most = ⊥
  IsStale (Page visit) most = 21 ≤ most + cond (has_removal visit.part) 1 0

  abbrev pub Stands : WriterState → ℕ → Type 0
  Stands (InRound round) most = MeetsFew w round most ⊎ IsStale round.state most
  Stands (AtChange slot expected taken) most = ((taken ≡ false) × (w.memory.slots slot ≡ expected) × ((slot ≡ 0) ⊎ (0 < expected))) ⊎ ((taken ≡ true) × (18 ≤ most)) ⊎ (19 ≤ most)

  begun_at : (goal : WriteGoal) (key : Key) (floor : ℕ) (above aside : Option Version) (state : WayState) (most : ℕ) → goal ≡ Seek → above ≡ None → aside ≡ None → state ≡ Root → 18 ≤ most
      → StandsAt w goal key floor above aside state most
  begun_at goal key floor above aside state most is_goal is_above is_aside is_state few = rw is_state
      (is_above, is_aside, rw is_goal few)

  pub begins_few : (new : WriterState) (most : ℕ) → BeginsRound new → 18 ≤ most → Stands new most
  begins_few new most b few = rw b.is
      (inl (begun_at b.round.goal b.round.key b.round.floor b.round.parent b.round.left b.round.state most b.seeks b.above b.aside b.first few))

  pub over_read : (version : Version) (new : WriterState) (most : ℕ) → IsAsRead w version → new ≡ AtChange version.pid version.head false → Stands new most
  over_read version new most as_read e = rw e (inl (refl, as_read, inr version.is_row.0))

  -- what follows the end of such a round
  pub fresh_after : (next : WriteRound) (result : Option WriteEnd) (new : WriterState) (left : ℕ) → Then w next result left → AfterRound next result new → Stands new left
  fresh_after next None new left t goes = rw goes (inl t)
  fresh_after next (Some end.Again) new left t goes = begins_few new left goes t
  fresh_after next (Some end.Done) new left t goes = begins_few new left goes t
  fresh_after next (Some (end.Removed removed)) new left t goes = rw goes.1 (inl (refl, refl, t))
  fresh_after next (Some (end.Due plan after)) new left t goes = rw goes (inl (refl, t.0, t.1))
  fresh_after next (Some (end.Leaf parent leaf)) new left t goes = elim goes [
    | inl begins ↦ begins_few new left begins t.0
    | inr more ↦ elim more [
      | inl at_leaf ↦ over_read leaf new left t.1 at_leaf
      | inr above ↦ over_read above.0 new left (rw above.1 at t.2) above.2
    ]
  ]

-- a round that may have read something before

-- what is still to be read of the page fits
abbrev pub FitsAt : Memory → Visit → VisitState → Type 0
FitsAt memory visit Slot = visit.part ≡ []
FitsAt memory visit (Row head row) = (rest : List Record) × IsChainFrom memory.rows row rest × IsPageChain (visit.part ++ rest)

abbrev pub FitsRound : Memory → WayState → Type 0
FitsRound memory Root = ⊤
FitsRound memory (Page visit) = FitsAt memory visit visit.state

abbrev pub StaleThen : Standing → WriteRound → Option WriteEnd → ℕ → Type 0
StaleThen w new None left = IsStale w new.state left
StaleThen w new (Some (end.Removed removed)) left = IsTrue (is_below [] (low_in removed.chain)) × (19 ≤ left)
StaleThen w new (Some (end.Due plan after)) left = 19 ≤ left
StaleThen w new (Some (end.Leaf parent leaf)) left = 19 ≤ left
StaleThen w new (Some other) left = 18 ≤ left

module _ (w : Standing) (memory : Memory) where
  abbrev KeptStale : WriteRound → Answer Record → WriteRound → Option WriteEnd → Type 0
  KeptStale old told new result = (most : ℕ) → IsStale w old.state most → FitsRound memory old.state → IsAnswer memory (wanted_step old) told
      → (left : ℕ) × (left + meets_now (wanted_step old) told ≤ most) × StaleThen w new result left

  stale_reads : (old : WriteRound) (visit next : Visit) (told : Answer Record) → page.Responds visit told next None → KeptStale (at old (Page visit)) told (at old (Page next)) None
  stale_reads old visit next told r most few fits answer = elim r [
    | inl f ↦
        let bare : visit.part ≡ [] = rw f.asked at fits in
        let before : cond {A = ℕ} (has_removal visit.part) 1 0 ≡ 0 = rw bare in
        let after : cond {A = ℕ} (has_removal next.part) 1 0 ≡ 0 = rw f.goes in
        let none : meets_now (page.wanted_step visit) told ≡ 0 = rw f.asked (meets_none visit.pid f.row told f.is f.some) in
        (most, omega (arith, none), omega (arith, before, after, few))
    | inr c ↦
        let rest = rw c.asked at fits in
        let part : next.part ≡ visit.part ++ c.content ∷ [] = rw c.goes in
        let asked : IsAnswer memory (page.wanted_at visit.pid (Row c.head c.row)) told = rw c.asked at answer in
        let g = goes_on memory visit.limits visit.pid visit.part (visit.part ++ rest.0) (Row c.head c.row) (length rest.0) told next (rest.0, refl, rest.1, refl) asked
        (record { head = c.head; row = c.row; content = c.content; under = c.under; asked = refl; is = c.is; more = c.more; goes = c.goes }) in
        let is_left : IsLeft memory (visit.part ++ rest.0) (visit.part ++ c.content ∷ []) (Row c.head c.under) g.left =
        subst (λ (n : Visit). IsLeft memory (visit.part ++ rest.0) n.part n.state g.left) c.goes g.is_left in
        let whole : visit.part ++ c.content ∷ is_left.0 ≡ visit.part ++ rest.0 = sym (append_assoc visit.part (c.content ∷ []) is_left.0) ∙ is_left.3 in
        let once = once_next visit.part is_left.0 c.content (subst IsFitted (sym whole) rest.2.fitted) in
        let after : cond {A = ℕ} (has_removal next.part) 1 0 ≡ cond (has_removal (visit.part ++ c.content ∷ [])) 1 0 = rw part in
        let one : meets_now (page.wanted_step visit) told ≡ cond (is_removal c.content) 1 0 = rw c.asked (meets_record c.row c.content told c.is) in
        less most (meets_now (page.wanted_step visit) told) (cond {A = ℕ} (is_removal c.content) 1 0) (cond {A = ℕ} (has_removal visit.part) 1 0)
        (cond {A = ℕ} (has_removal next.part) 1 0) one (omega (arith, once, after)) few
        (one_at_most (has_removal visit.part)) (one_at_most (is_removal c.content))
  ]
    where
      less : (most now here before after : ℕ) → now ≡ here → before + here ≤ after → 21 ≤ most + before → before ≤ 1 → here ≤ 1 → (left : ℕ) × (left + now ≤ most) × (21 ≤ left + after)
      less most now here before after same once few some one = (most - here, omega (arith, same, once, few, some, one), omega (arith, same, once, few, some, one))

  stale_found : (old : WriteRound) (visit next : Visit) (sight : Sight) (new : WriteRound) (result : Option WriteEnd) (told : Answer Record) → page.Responds visit told next (Some sight)
      → Sees writing (at old (Page visit)) sight new result → KeptStale (at old (Page visit)) told new result
  stale_found old visit next Empty new result told r sees most few fits answer =
      let bare : visit.part ≡ [] = rw r.asked at fits in
      let before : cond {A = ℕ} (has_removal visit.part) 1 0 ≡ 0 = rw bare in
      let one : meets_now (page.wanted_step visit) told ≤ 1 = one_at_most (meets (page.wanted_step visit) told) in
      (19, enough most (cond {A = ℕ} (has_removal visit.part) 1 0) (meets_now (page.wanted_step visit) told) few before one, rw sees some)
    where
      enough : (most before now : ℕ) → 21 ≤ most + before → before ≡ 0 → now ≤ 1 → 19 + now ≤ most
      enough most before now some none one = omega (arith, some, none, one)

      some : 18 ≤ 19
      some = omega arith
  stale_found old visit next (Whole version) new result told r sees most few fits answer =
      let rest = rw r.asked at fits in
      let f = finds memory visit next (visit.part ++ rest.0) (length rest.0) told version
      (subst (λ (s : VisitState). IsLeft memory (visit.part ++ rest.0) visit.part s (length rest.0)) (sym r.asked) (rest.0, refl, rest.1, refl)) answer r in
      let none : meets_now (page.wanted_step visit) told ≡ 0 =
      rw r.asked (meets_record r.row r.content told r.is ∙ ap (λ (b : Bool). cond {A = ℕ} b 1 0) (last_stands r.content r.last)) in
      let fitted : IsPageChain version.chain = subst IsPageChain (sym f.1) rest.2 in
      let gone : has_removal visit.part ≡ true → is_removed version.chain ≡ true = λ e. ap is_removed f.1 ∙ gone_read visit.part rest.0 rest.2.fitted e in
      let enough : most + meets_now (page.wanted_step visit) told ≤ most = omega (arith, none) in
      (most, enough, treated old visit version new result most few fitted gone sees)
    where
      none_read : (part : List Record) (chain : List Record) → (has_removal part ≡ true → is_removed chain ≡ true) → is_removed chain ≡ false → cond {A = ℕ} (has_removal part) 1 0 ≡ 0
      none_read part chain gone alive = either (has_removal part)
          (λ read. absurd (let both : true ≡ false = sym (gone read) ∙ alive in cc))
          (λ unread. ap (λ (b : Bool). cond {A = ℕ} b 1 0) unread)

      treated : (old : WriteRound) (visit : Visit) (version : Version) (new : WriteRound) (result : Option WriteEnd) (most : ℕ)
          → 21 ≤ most + cond (has_removal visit.part) 1 0 → IsPageChain version.chain
          → (has_removal visit.part ≡ true → is_removed version.chain ≡ true) → TreatsWrite (at old (Page visit)) version new result → StaleThen w new result most
      treated old visit version new None most few fitted gone t = elim t [
        | inl g ↦ let none = none_read visit.part version.chain gone g.alive in let le : 21 ≤ most + 0 = omega (arith, few, none) in rw g.goes le
        | inr more ↦ elim more [
          | inl g ↦ let none = none_read visit.part version.chain gone g.here.alive in let le : 21 ≤ most + 0 = omega (arith, few, none) in rw g.goes le
          | inr last ↦ elim last [
            | inl g ↦ let none = none_read visit.part version.chain gone g.left.here.alive in let le : 21 ≤ most + 0 = omega (arith, few, none) in rw g.goes le
            | inr g ↦ let none = none_read visit.part version.chain gone g.left.here.alive in let le : 21 ≤ most + 0 = omega (arith, few, none) in rw g.goes le
          ]
        ]
      ]
      treated old visit version new (Some (end.Removed removed)) most few fitted gone t =
          let one = one_at_most (has_removal visit.part) in
          (rw t.is (above_empty version.chain fitted.fitted t.gone), omega (arith, few, one))
      treated old visit version new (Some other) most few fitted gone t = let one = one_at_most (has_removal visit.part) in omega (arith, few, one)

  pub stale_responds : (old new : WriteRound) (told : Answer Record) (result : Option WriteEnd) → Responds writing old told new result → KeptStale old told new result
  stale_responds old new told result responds = by_step writing (λ round. refl) KeptStale old new told result responds
      (λ root most few fits answer. absurd few)
      (λ visit next r. stale_reads old visit next told r)
      (λ visit next sight r sees. stale_found old visit next sight new result told r sees)

  pub stale_after : (next : WriteRound) (result : Option WriteEnd) (new : WriterState) (left : ℕ) → StaleThen w next result left → AfterRound next result new → Stands w new left
  stale_after next None new left t goes = rw goes (inr t)
  stale_after next (Some end.Again) new left t goes = begins_few w new left goes t
  stale_after next (Some end.Done) new left t goes = begins_few w new left goes t
  stale_after next (Some (end.Removed removed)) new left t goes = rw goes.1 (inl (refl, refl, inr t))
  stale_after next (Some (end.Due plan after)) new left t goes = rw goes (inr (inr t))
  stale_after next (Some (end.Leaf parent leaf)) new left t goes = elim goes [
    | inl begins ↦ begins_few w new left begins (omega (arith, t))
    | inr more ↦ elim more [
      | inl at_leaf ↦ rw at_leaf (inr (inr t))
      | inr above ↦ rw above.2 (inr (inr t))
    ]
  ]
