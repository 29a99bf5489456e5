-- A reader's run in one memory comes to its end, wherever its round stands at first.
use Rattle.progress.proofs.Words.{◌≡◌, ◌<◌, ◌≤◌, ◌+◌, ◌*◌, ◌⊎◌, ◌++◌, ℕ, suc, List, [], ◌∷◌, length, true, Option, Some, None, refl, sym, ◌∙◌, inl, inr, arith, length-append, ⊤, Limits, Answer}
use Rattle.progress.proofs.Words.{Number, Record, IsChainOf, LivePage, IsAnswer, same_page, Version, WayState, Root, Page, ReadEnd, Again, Removed, Leaf, Beside, ReadGoal, Seek, Left, Leg}
use Rattle.progress.proofs.Words.{Down, Sight, Empty, Whole, Visit, VisitState, to_page, by_step, first_read, read_left_of, is_leaving, AfterReading, State, Read, Task, Key, IsPageOn}
use Rattle.progress.proofs.Words.{EndsWithin, IsReaderRun, ReadsIn, IsGoalIn, IsLegIn, IsPlace, IsRoundIn, IsStateIn, IsVisitIn, WasRemovedLeaf, ReadRound, at, reading, wanted_step, Responds}
use Rattle.progress.proofs.Words.{Sees}
use Rattle.round_model.specs.Visits as seen
use Rattle.progress.proofs.rounds.Loosely.{Loose, LooseThen, Moves, Stale, loosely, stalely}
use Rattle.progress.proofs.rounds.Measures.{all_removed, one_round, times}
use Rattle.progress.proofs.rounds.Pages.{Standing, live}
use Rattle.progress.proofs.rounds.Places.{Few, few_any, most}
use Rattle.progress.proofs.rounds.Running.{Begins, HasLeft, one_step, some_steps}
use Rattle.progress.proofs.rounds.Visiting.{IsAtHead, IsLeft, finds, goes_on, heads, not_empty, visits}

module _ (w : Standing) where
  -- how many steps are kept for the rounds after this one
  abbrev pub after : ℕ
  after = one_round w + (one_round w + times w (all_removed w))

  -- how many a round takes from a place on
  abbrev pub from_place : ℕ
  from_place = 14 * most w + 14 + after

  -- A page of the tree is visited;
  pub record LooseVisit (leg : Leg) (goal : ReadGoal) (visit : Visit) (steps : ℕ) : Type 0 where
    pub page : LivePage
    pub is_pid : page.pid ≡ visit.pid
    pub cost : ℕ
    pub loose : Loose w leg goal page cost
    pub left : ℕ
    pub is_left : IsLeft w.memory page.chain visit.part visit.state left
    pub at_head : IsAtHead w.memory visit.pid visit.state
    pub few : 14 * cost + left + after ≤ steps

  -- or the slot is empty;
  pub record EmptyVisit (visit : Visit) (steps : ℕ) : Type 0 where
    pub at_slot : visit.state ≡ seen.Slot
    pub empty : w.memory.slots visit.pid ≡ 0
    pub few : suc after ≤ steps

  -- or a page is read as it was.
  pub record StaleVisit (leg : Leg) (goal : ReadGoal) (visit : Visit) (steps : ℕ) : Type 0 where
    pub page : LivePage
    pub is_pid : page.pid ≡ visit.pid
    pub stale : Stale w leg goal page
    pub left : ℕ
    pub is_left : IsLeft w.memory page.chain visit.part visit.state left
    pub head : ℕ
    pub row : ℕ
    pub at_row : visit.state ≡ seen.Row head row
    pub few : left + from_place ≤ steps

  abbrev pub SettledVisit : Leg → ReadGoal → Visit → ℕ → Type 0
  SettledVisit leg goal visit steps = LooseVisit leg goal visit steps ⊎ EmptyVisit visit steps

  abbrev pub AnyVisit : Leg → ReadGoal → Visit → ℕ → Type 0
  AnyVisit leg goal visit steps = SettledVisit leg goal visit steps ⊎ StaleVisit leg goal visit steps

  pub record AnyBegin (leg : Leg) (goal : ReadGoal) (steps : ℕ) : Type 0 where
    pub leg_is : IsLegIn w.tree leg
    pub goal_is : IsGoalIn w.tree goal
    pub few : suc from_place ≤ steps

  abbrev pub AnyAt : Leg → ReadGoal → WayState → ℕ → Type 0
  AnyAt leg goal Root steps = AnyBegin leg goal steps
  AnyAt leg goal (Page visit) steps = AnyVisit leg goal visit steps

  abbrev pub AnyLeft : ReadRound → ℕ → Type 0
  AnyLeft round steps = AnyAt round.leg round.goal round.state steps

  -- the round is at a place, or before one
  abbrev pub SettledAt : Leg → ReadGoal → WayState → ℕ → Type 0
  SettledAt leg goal Root steps = AnyBegin leg goal steps
  SettledAt leg goal (Page visit) steps = SettledVisit leg goal visit steps

  abbrev pub SettledLeft : ReadRound → ℕ → Type 0
  SettledLeft round steps = SettledAt round.leg round.goal round.state steps

  pub settled_any : (leg : Leg) (goal : ReadGoal) (state : WayState) (steps : ℕ) → SettledAt leg goal state steps → AnyAt leg goal state steps
  settled_any leg goal Root steps b = b
  settled_any leg goal (Page visit) steps v = inl v

  -- the visit of a place begins
  at_place : (limits : Limits) (leg : Leg) (goal : ReadGoal) (part : List Record) (pid cost steps : ℕ) → IsPlace w.tree pid → IsLegIn w.tree leg → IsGoalIn w.tree goal
      → ((p : LivePage) (level : ℕ) → p.pid ≡ pid → IsPageOn w.limits w.memory level p → Few w leg level p cost) → 14 * cost + 14 + after ≤ steps
      → SettledVisit leg goal (record { limits = limits; pid = pid; part = part; state = seen.Slot }) steps
  at_place limits leg goal part pid cost steps place leg_is goal_is few enough = elim place [
    | inl empty ↦ inr (record { at_slot = refl; empty = empty; few = omega (arith, enough) })
    | inr (p, is_pid, there) ↦ inl (record {
      page = p;
      is_pid = is_pid;
      cost = cost;
      loose = record { level = there.level; stands = there.stands; is = there.is; leg_is = leg_is; goal_is = goal_is; few = few p there.level is_pid there.stands };
      left = suc (length p.chain);
      is_left = refl;
      at_head = tt;
      few = (let short = there.stands.fits.short in omega (arith, short, enough));
    })
  ]

  moved : (new : ReadRound) (cost steps : ℕ) → (m : Moves w new cost) → 14 * m.left + 14 + after ≤ steps → SettledLeft new steps
  moved new cost steps m enough = rw m.is_state (at_place new.limits new.leg new.goal [] m.pid m.left steps m.place m.leg_is m.goal_is m.few enough)

  -- by how a round goes on or ends
  abbrev pub Comes : ReadRound → ReadRound → Option ReadEnd → ℕ → Type 0
  Comes old new None steps = (m : ℕ) × (m < steps) × SettledLeft new m
  Comes old new (Some Again) steps = (m : ℕ) × (m < steps) × ((key : Key) → Begins w (Down None) Seek key m)
  Comes old new (Some (Removed removed)) steps = (m : ℕ) × (m < steps) × ((key : Key) → Begins w (Down None) (Left removed) key m)
  Comes old new (Some (Leaf leaf)) steps = ⊤
  Comes old new (Some (Beside left removed)) steps = ⊤

  begins_anew : (key : Key) → Begins w (Down None) Seek key after
  begins_anew key = record { down = refl; later = one_round w; keeps = omega arith; few = omega arith }

  begins_left : (removed : Version) → WasRemovedLeaf w.tree removed → (key : Key) → Begins w (Down None) (Left removed) key after
  begins_left removed was key = record { down = refl; later = one_round w + times w (all_removed w); keeps = inr (was, omega arith); few = omega arith }

  comes : (old new : ReadRound) (result : Option ReadEnd) (cost steps : ℕ) → 14 * cost + after < steps → LooseThen w new result cost → Comes old new result steps
  comes old new None cost steps few m = let fewer = m.fewer in (14 * m.left + 14 + after, omega (arith, few, fewer), moved new cost (14 * m.left + 14 + after) m (omega arith))
  comes old new (Some Again) cost steps few t = (after, omega (arith, few), begins_anew)
  comes old new (Some (Removed removed)) cost steps few was = (after, omega (arith, few), begins_left removed was)
  comes old new (Some (Leaf leaf)) cost steps few t = tt
  comes old new (Some (Beside left removed)) cost steps few t = tt

  not_slot : {X : Type 0} (state : VisitState) (head row : ℕ) → state ≡ seen.Row head row → state ≡ seen.Slot → X
  not_slot state head row e f = let both : seen.Row head row ≡ seen.Slot = sym e ∙ f in absurd (cc)

  numbers_same : (told : Answer Record) (a b : ℕ) → told ≡ Number a → told ≡ Number b → a ≡ b
  numbers_same told a b e f = let both : Number a ≡ Number b = sym e ∙ f in cc

  chain_at : (leg : Leg) (goal : ReadGoal) (visit : Visit) (steps : ℕ) → (v : LooseVisit leg goal visit steps) → IsChainOf w.memory visit.pid v.page.chain
  chain_at leg goal visit steps v = rw (← v.is_pid) v.loose.stands.stands

  settled_on : (leg : Leg) (goal : ReadGoal) (visit next : Visit) (steps : ℕ) (told : Answer Record) → SettledVisit leg goal visit steps
      → IsAnswer w.memory (seen.wanted_step visit) told → seen.Responds visit told next None → (m : ℕ) × (m < steps) × SettledVisit leg goal next m
  settled_on leg goal visit next steps told settled answer r = elim settled [
    | inl v ↦
        let g = visits w.memory visit next v.page.chain v.left told (chain_at leg goal visit steps v) v.is_left answer r in
        let fewer = g.fewer in
        let few = v.few in (
          14 * v.cost + g.left + after,
          omega (arith, fewer, few),
          inl (record {
            page = v.page;
            is_pid = v.is_pid ∙ sym g.is_pid;
            cost = v.cost;
            loose = v.loose;
            left = g.left;
            is_left = g.is_left;
            at_head = heads w.memory visit next told answer r v.at_head;
            few = omega arith;
          }),
        )
    | inr v ↦ elim r [
      | inl f ↦ let zeroth = numbers_same told (w.memory.slots visit.pid) f.row (rw v.at_slot at answer) f.is in let some = f.some in let empty
          = v.empty in absurd (omega (arith, zeroth, some, empty))
      | inr c ↦ not_slot visit.state c.head c.row c.asked v.at_slot
    ]
  ]

  pub stale_on : (leg : Leg) (goal : ReadGoal) (visit next : Visit) (steps : ℕ) (told : Answer Record) → StaleVisit leg goal visit steps
      → IsAnswer w.memory (seen.wanted_step visit) told → seen.Responds visit told next None → (m : ℕ) × (m < steps) × StaleVisit leg goal next m
  stale_on leg goal visit next steps told v answer r = elim r [
    | inl f ↦ not_slot visit.state v.head v.row v.at_row f.asked
    | inr c ↦
        let g = goes_on w.memory visit.limits visit.pid visit.part v.page.chain visit.state v.left told next v.is_left answer c in
        let fewer = g.fewer in
        let few = v.few in (
          g.left + from_place,
          omega (arith, fewer, few),
          record {
            page = v.page;
            is_pid = v.is_pid ∙ sym g.is_pid;
            stale = v.stale;
            left = g.left;
            is_left =
                g.is_left;
            head = c.head;
            row = c.under;
            at_row = rw c.goes;
            few = omega arith;
          },
        )
  ]

  settled_ends : (old : ReadRound) (visit next : Visit) (sight : Sight) (new : ReadRound) (result : Option ReadEnd) (steps : ℕ) (told : Answer Record)
      → SettledVisit old.leg old.goal visit steps → IsAnswer w.memory (seen.wanted_step visit) told
      → seen.Responds visit told next (Some sight) → Sees reading old sight new result → Comes old new result steps
  settled_ends old visit next Empty new result steps told settled answer r sees = elim settled [
    | inl v ↦ absurd (not_empty w.memory visit next v.page.chain told (chain_at old.leg old.goal visit steps v) answer r)
    | inr v ↦ let few = v.few in rw sees (after, omega (arith, few), begins_anew)
  ]
  settled_ends old visit next (Whole version) new result steps told settled answer r sees = elim settled [
    | inl v ↦
        let f = finds w.memory visit next v.page.chain v.left told version v.is_left answer r in
        let same : v.page ≡ live version = same_page v.page (live version) (v.is_pid ∙ sym f.0) (sym f.1) in
        let few = v.few in
        let some = f.2 in
        comes old new result v.cost steps (omega (arith, few, some)) (loosely w old version new v.cost result (rw (← same) v.loose) sees)
    | inr v ↦ not_slot visit.state version.head r.row r.asked v.at_slot
  ]

  pub stale_ends : (old : ReadRound) (visit next : Visit) (sight : Sight) (new : ReadRound) (result : Option ReadEnd) (steps : ℕ) (told : Answer Record)
      → StaleVisit old.leg old.goal visit steps → IsAnswer w.memory (seen.wanted_step visit) told
      → seen.Responds visit told next (Some sight) → Sees reading old sight new result → Comes old new result steps
  stale_ends old visit next Empty new result steps told v answer r sees = not_slot visit.state v.head v.row v.at_row r.asked
  stale_ends old visit next (Whole version) new result steps told v answer r sees =
      let f = finds w.memory visit next v.page.chain v.left told version v.is_left answer r in
      let same : v.page ≡ live version = same_page v.page (live version) (v.is_pid ∙ sym f.0) (sym f.1) in
      let few = v.few in
      let some = f.2 in
      comes old new result (suc (most w)) steps (omega (arith, few, some)) (stalely w old version new result (rw (← same) v.stale) sees)

  root_read : (limits : Limits) (leg : Leg) (goal : ReadGoal) (root steps : ℕ) (told : Answer Record) → AnyBegin leg goal steps → told ≡ Number root
      → told ≡ Number (w.memory.slots 0) → (m : ℕ) × (m < steps) × SettledVisit leg goal (to_page limits root) m
  root_read limits leg goal root steps told b is answer =
      let same = numbers_same told root (w.memory.slots 0) is answer in
      let few = b.few in (
        from_place,
        omega (arith, few),
        at_place limits leg goal [] root (most w) from_place
            (inr (w.tree.root.0, w.tree.root.2 ∙ sym same, record { level = w.tree.top; stands = w.tree.each w.tree.top w.tree.root.0 w.tree.root.1; is = inr w.tree.root.1 }))
            b.leg_is b.goal_is (λ p level e stands. few_any w leg level p stands) (omega arith),
      )

  -- the same, or a page is read on as it was
  abbrev pub ComesAny : ReadRound → ReadRound → Option ReadEnd → ℕ → Type 0
  ComesAny old new None steps = (m : ℕ) × (m < steps) × AnyLeft new m
  ComesAny old new (Some end) steps = Comes old new (Some end) steps

  comes_any : (old new : ReadRound) (result : Option ReadEnd) (steps : ℕ) → Comes old new result steps → ComesAny old new result steps
  comes_any old new None steps c = (c.0, c.1, settled_any new.leg new.goal new.state c.0 c.2)
  comes_any old new (Some end) steps c = c

  abbrev KeptSettled : ReadRound → Answer Record → ReadRound → Option ReadEnd → Type 0
  KeptSettled old told new result = (steps : ℕ) → SettledLeft old steps → IsAnswer w.memory (wanted_step old) told → Comes old new result steps

  pub settles : (old new : ReadRound) (told : Answer Record) (result : Option ReadEnd) → Responds reading old told new result → KeptSettled old told new result
  settles old new told result responds = by_step reading (λ round. refl) KeptSettled old new told result responds
      (λ root steps b answer. root_read old.limits old.leg old.goal root steps (Number root) b refl answer)
      (λ visit next r steps v answer. settled_on old.leg old.goal visit next steps told v answer r)
      (λ visit next sight r sees steps v answer. settled_ends (at old (Page visit)) visit next sight new result steps told v answer r sees)

  abbrev Kept : ReadRound → Answer Record → ReadRound → Option ReadEnd → Type 0
  Kept old told new result = (steps : ℕ) → AnyLeft old steps → IsAnswer w.memory (wanted_step old) told → ComesAny old new result steps

  any_on : (leg : Leg) (goal : ReadGoal) (visit next : Visit) (steps : ℕ) (told : Answer Record) → AnyVisit leg goal visit steps
      → IsAnswer w.memory (seen.wanted_step visit) told → seen.Responds visit told next None → (m : ℕ) × (m < steps) × AnyVisit leg goal next m
  any_on leg goal visit next steps told (inl v) answer r = let s = settled_on leg goal visit next steps told v answer r in (s.0, s.1, inl s.2)
  any_on leg goal visit next steps told (inr v) answer r = let s = stale_on leg goal visit next steps told v answer r in (s.0, s.1, inr s.2)

  any_ends : (old : ReadRound) (visit next : Visit) (sight : Sight) (new : ReadRound) (result : Option ReadEnd) (steps : ℕ) (told : Answer Record)
      → AnyVisit old.leg old.goal visit steps → IsAnswer w.memory (seen.wanted_step visit) told
      → seen.Responds visit told next (Some sight) → Sees reading old sight new result → Comes old new result steps
  any_ends old visit next sight new result steps told (inl v) answer r sees = settled_ends old visit next sight new result steps told v answer r sees
  any_ends old visit next sight new result steps told (inr v) answer r sees = stale_ends old visit next sight new result steps told v answer r sees

  resumes : (old new : ReadRound) (told : Answer Record) (result : Option ReadEnd) → Responds reading old told new result → Kept old told new result
  resumes old new told result responds = by_step reading (λ round. refl) Kept old new told result responds
      (λ root steps b answer. let c = root_read old.limits old.leg old.goal root steps (Number root) b refl answer in (c.0, c.1, inl c.2))
      (λ visit next r steps v answer. any_on old.leg old.goal visit next steps told v answer r)
      (λ visit next sight r sees steps v answer. comes_any (at old (Page visit)) new result steps (any_ends (at old (Page visit)) visit next sight new result steps told v answer r sees))

  -- few steps are left, in a round that began in this memory or in an earlier one
  abbrev pub SomeLeft : ReadRound → ℕ → Type 0
  SomeLeft round steps = HasLeft w round steps ⊎ AnyLeft round steps

  pub any_step : (task : Task) (round : ReadRound) (new : State) (steps : ℕ) → SomeLeft round steps → ReadsIn w.memory task round new
      → (is_leaving new ≡ true) ⊎ ((next : ReadRound) × (m : ℕ) × (new ≡ Read next) × (m < steps) × SomeLeft next m)
  any_step task round new steps (inl has) r = elim (one_step w task round new steps has r).1 [ inl leaving ↦ inl leaving | inr (next, m, is, less, left) ↦ inr (next, m, is, less, inl left) ]
  any_step task round new steps (inr has) r = by_end r.steps.end (resumes round r.steps.next r.answer r.steps.end r.steps.responds steps has r.told) r.steps.goes
    where
      by_end : (end : Option ReadEnd) → ComesAny round r.steps.next end steps → AfterReading task r.steps.next end new
          → (is_leaving new ≡ true) ⊎ ((next : ReadRound) × (m : ℕ) × (new ≡ Read next) × (m < steps) × SomeLeft next m)
      by_end None e then = inr (r.steps.next, e.0, then, e.1, inr e.2)
      by_end (Some Again) e then = inr (first_read task, e.0, then, e.1, inl (e.2 (first_read task).key))
      by_end (Some (Removed removed)) e then = inr (read_left_of removed r.steps.next, e.0, then, e.1, inl (e.2 r.steps.next.key))
      by_end (Some (Leaf leaf)) e then = inl then
      by_end (Some (Beside left removed)) e then = inl then

  any_some : (leg : Leg) (goal : ReadGoal) (state : WayState) (steps : ℕ) → AnyAt leg goal state steps → 0 < steps
  any_some leg goal Root steps b = let few = b.few in omega (arith, few)
  any_some leg goal (Page visit) steps (inl (inl v)) = let few = v.few in omega (arith, few)
  any_some leg goal (Page visit) steps (inl (inr v)) = let few = v.few in omega (arith, few)
  any_some leg goal (Page visit) steps (inr v) = let few = v.few in omega (arith, few)

  pub some_left : (round : ReadRound) (steps : ℕ) → SomeLeft round steps → 0 < steps
  some_left round steps (inl has) = some_steps w round steps has
  some_left round steps (inr has) = any_some round.leg round.goal round.state steps has

  runs : (task : Task) (round : ReadRound) (steps : ℕ) (rounds : List ReadRound) → SomeLeft round steps → IsReaderRun w.memory task round rounds → length rounds < steps
  runs task round steps [] has run = some_left round steps has
  runs task round steps (next ∷ rounds) has run = by_step_of (any_step task round (Read next) steps has run.0) (λ m left. runs task next m rounds left run.1)
    where
      by_step_of : (is_leaving (Read next) ≡ true) ⊎ ((other : ReadRound) × (m : ℕ) × (Read next ≡ Read other) × (m < steps) × SomeLeft other m)
          → ((m : ℕ) → SomeLeft next m → length rounds < m) → length (next ∷ rounds) < steps
      by_step_of (inl leaving) then = absurd (cc)
      by_step_of (inr (other, m, is, less, left)) then =
          let same : other ≡ next = cc in
          let few = then m (rw (← same) left) in
          omega (arith, less, few)

  -- where a round stands that began in an earlier memory
  pub stands_at : (round : ReadRound) (steps : ℕ) → IsRoundIn w.tree round → 14 + from_place ≤ steps → AnyLeft round steps
  stands_at round steps r few = by_state round.state r.state
    where
      by_visit : (visit : Visit) → (state : VisitState) → IsVisitIn w.tree round.goal round.leg visit.pid visit.part state → AnyVisit round.leg round.goal (record visit { state = state }) steps
      by_visit visit seen.Slot place =
          inl (at_place visit.limits round.leg round.goal visit.part visit.pid (most w) steps place r.leg r.goal (λ p level e stands. few_any w round.leg level p stands) (omega (arith, few)))
      by_visit visit (seen.Row head row) read = inr (record {
        page = record { pid = visit.pid; chain = visit.part ++ read.rest };
        is_pid = refl;
        stale = record { fits = read.fits; names = read.names; kept = read.kept; left = read.left; round = read.round; leg_is = r.leg; goal_is = r.goal };
        left = length read.rest;
        is_left = (read.rest, refl, read.stands, refl);
        head = head;
        row = row;
        at_row = refl;
        few = (let short = read.fits.short in let all = length-append visit.part read.rest in omega (arith, few, short, all));
      })

      by_state : (state : WayState) → IsStateIn w.tree round.goal round.leg state → AnyAt round.leg round.goal state steps
      by_state Root t = record { leg_is = r.leg; goal_is = r.goal; few = omega (arith, few) }
      by_state (Page visit) v = by_visit visit visit.state v

  pub resumed_within : (task : Task) (round : ReadRound) (steps : ℕ) → IsRoundIn w.tree round → 14 + from_place ≤ steps → EndsWithin w.memory task round steps
  resumed_within task round steps r few = record { short = λ rounds run. runs task round steps rounds (inr (stands_at round steps r few)) run }
