-- A reader's run in one memory comes to its end.
use Rattle.progress.proofs.Words.{◌≡◌, ◌≢◌, ◌<◌, ◌≤◌, ◌+◌, ◌*◌, ◌⊎◌, ℕ, zero, suc, List, [], ◌∷◌, length, Bool, true, Option, Some, None, refl, sym, ◌∙◌, inl, inr, arith, ⊤, Limits, Answer}
use Rattle.progress.proofs.Words.{Number, Record, IsChainFrom, low_in, LivePage, same_page, IsAnswer, Version, WayState, Root, Page, ReadEnd, Again, Removed, Leaf, Beside, ReadGoal, Seek, Left}
use Rattle.progress.proofs.Words.{Beyond, Leg, Down, Round, Past, Sight, Empty, Whole, Visit, to_page, precedes, reaches, by_step, read_left_of, is_leaving, AfterReading, State, Read, Task}
use Rattle.progress.proofs.Words.{Key, IsPageOn, EndsWithin, FindsEach, IsReaderRun, ReadsIn, last_round, ReadRound, at, read_way, reading, wanted_step, Responds, Sees, above_empty}
use Rattle.round_model.specs.Visits as page
use Rattle.round_model.proofs.WayLaws.{lowest}
use Rattle.progress.proofs.rounds.Measures.{left_few, left_some, left_within, one_round, removed_after, times}
use Rattle.progress.proofs.rounds.Pages.{Standing, live, low_of, root_clear}
use Rattle.progress.proofs.rounds.Treating.{OnRound, OnWay}
use Rattle.progress.proofs.rounds.Turning.{At, Keeps, Then, treats}
use Rattle.progress.proofs.rounds.Visiting.{IsAtHead, IsLeft, finds, heads, not_empty, visits}

module _ (w : Standing) where
  -- A page of the tree is visited, with so many steps at most from there on.
  pub record Visits (leg : Leg) (goal : ReadGoal) (key : Key) (visit : Visit) (steps : ℕ) : Type 0 where
    pub page : LivePage
    pub level : ℕ
    pub stands : IsPageOn w.limits w.memory level page
    pub is_pid : page.pid ≡ visit.pid
    pub left : ℕ
    pub is_left : IsLeft w.memory page.chain visit.part visit.state left
    pub at_head : IsAtHead w.memory visit.pid visit.state
    pub cost : ℕ
    pub later : ℕ
    pub here : At w leg goal key page cost later
    pub few : 14 * cost + left + later ≤ steps + 14

  -- A round begins.
  pub record Begins (leg : Leg) (goal : ReadGoal) (key : Key) (steps : ℕ) : Type 0 where
    pub down : leg ≡ Down None
    pub later : ℕ
    pub keeps : Keeps w goal key later
    pub few : one_round w + later ≤ steps

  abbrev pub StandsAt : Leg → ReadGoal → Key → WayState → ℕ → Type 0
  StandsAt leg goal key Root steps = Begins leg goal key steps
  StandsAt leg goal key (Page visit) steps = Visits leg goal key visit steps

  -- the round has so many steps left at most, with those of the rounds after it
  abbrev pub HasLeft : ReadRound → ℕ → Type 0
  HasLeft round steps = StandsAt round.leg round.goal round.key round.state steps

  way_some : (way : Key → Bool) (above : Option Version) (page : LivePage) (cost : ℕ) → OnWay w way above page cost → 0 < cost
  way_some way above page cost o = elim o.is [
    | inl here ↦ let some = left_some w o.level page here.0.on in let few = here.1 in omega (arith, some, few)
    | inr here ↦ let few = here.1 in let more = left_within w o.level (low_of page) in omega (arith, few, more)
  ]

  round_some : (way : Key → Bool) (removed : Version) (page : LivePage) (cost : ℕ) → OnRound w way removed page cost → 0 < cost
  round_some way removed page cost o = let some = left_some w o.level page o.near.on in let few = o.few in omega (arith, some, few)

  some_left : (leg : Leg) (goal : ReadGoal) (key : Key) (page : LivePage) (cost later : ℕ) → At w leg goal key page cost later → 0 < cost
  some_left (Round removed) goal key page cost later a = round_some (read_way goal key) removed page cost a.0
  some_left (Down above) Seek key page cost later a = way_some (reaches key) above page cost a.0
  some_left (Down above) (Left removed) key page cost later a = way_some (precedes (low_in removed.chain)) above page cost a.0
  some_left (Down above) Beyond key page cost later a = let some = left_some w 0 page a.beyond.on in let few = a.few in omega (arith, some, few)
  some_left (Past above) Seek key page cost later a = way_some (reaches key) above page cost a.0
  some_left (Past above) (Left removed) key page cost later a = way_some (precedes (low_in removed.chain)) above page cost a.0
  some_left (Past above) Beyond key page cost later a = let some = left_some w 0 page a.beyond.on in let few = a.few in omega (arith, some, few)

  -- the root is on the way
  root_on : (way : Key → Bool) → way [] ≡ true → OnWay w way None w.tree.root.0 (w.limits.pids + w.tree.top)
  root_on way on = record {
    level = w.tree.top;
    stands = w.tree.each w.tree.top w.tree.root.0 w.tree.root.1;
    passing = rw w.tree.root.3 on;
    is = inl (root_clear w way, (let some = left_few w w.tree.top (low_of w.tree.root.0) in omega (arith, some)));
  }

  root_at : (goal : ReadGoal) (key : Key) (later : ℕ) → Keeps w goal key later → At w (Down None) goal key w.tree.root.0 (w.limits.pids + w.tree.top) later
  root_at Seek key later k = (root_on (reaches key) (lowest key), k)
  root_at (Left removed) key later k = (
    root_on (precedes (low_in removed.chain))
        (elim k [ inl termed ↦ above_empty removed.chain termed.0.stands.fits.fitted termed.0.gone | inr was ↦ above_empty removed.chain was.0.fits.fitted was.0.gone ]),
    k,
  )
  root_at Beyond key later k = absurd k

  starts : (limits : Limits) (leg : Leg) (goal : ReadGoal) (key : Key) (root steps : ℕ) (told : Answer Record) → Begins leg goal key steps → told ≡ Number root
      → told ≡ Number (w.memory.slots 0) → (m : ℕ) × (m < steps) × Visits leg goal key (to_page limits root) m
  starts limits leg goal key root steps told b is answer =
      let same : root ≡ w.memory.slots 0 = (let both : Number root ≡ Number (w.memory.slots 0) = sym is ∙ answer in cc) in
      let stands = w.tree.each w.tree.top w.tree.root.0 w.tree.root.1 in
      let short = stands.fits.short in
      let few = b.few in (
        14 * (w.limits.pids + w.tree.top) + b.later,
        omega (arith, few),
        record {
          page = w.tree.root.0;
          level = w.tree.top;
          stands = stands;
          is_pid = w.tree.root.2 ∙ sym same;
          left = suc (length w.tree.root.0.chain);
          is_left = refl;
          at_head = tt;
          cost = w.limits.pids + w.tree.top;
          later = b.later;
          here = rw b.down (root_at goal key b.later b.keeps);
          few = omega (arith, short);
        },
      )

  goes_on : (leg : Leg) (goal : ReadGoal) (key : Key) (visit next : Visit) (steps : ℕ) (told : Answer Record) → Visits leg goal key visit steps
      → IsAnswer w.memory (page.wanted_step visit) told → page.Responds visit told next None → (m : ℕ) × (m < steps) × Visits leg goal key next m
  goes_on leg goal key visit next steps told v answer r =
      let g = visits w.memory visit next v.page.chain v.left told (rw (← v.is_pid) v.stands.stands) v.is_left answer r in
      by_steps steps v.few g.left g.fewer
      (λ m few. record {
        page = v.page;
        level = v.level;
        stands = v.stands;
        is_pid = v.is_pid ∙ sym g.is_pid;
        left = g.left;
        is_left = g.is_left;
        at_head =
            heads w.memory visit next told answer r v.at_head;
        cost = v.cost;
        later = v.later;
        here = v.here;
        few = few;
      })
    where
      by_steps : (n : ℕ) → 14 * v.cost + v.left + v.later ≤ n + 14 → (left : ℕ) → suc left ≡ v.left
          → ((m : ℕ) → 14 * v.cost + left + v.later ≤ m + 14 → Visits leg goal key next m) → (m : ℕ) × (m < n) × Visits leg goal key next m
      by_steps zero few left fewer f = let some = some_left leg goal key v.page v.cost v.later v.here in absurd (omega (arith, some, few, fewer))
      by_steps (suc m) few left fewer f = (m, omega arith, f m (omega (arith, few, fewer)))

  -- by how a round goes on or ends
  abbrev pub Ends : ReadRound → ReadRound → Option ReadEnd → ℕ → Type 0
  Ends old new None steps = (m : ℕ) × (m < steps) × HasLeft new m
  Ends old new (Some Again) steps = ⊥
  Ends old new (Some (Removed removed)) steps = (m : ℕ) × (m < steps) × Begins (Down None) (Left removed) old.key m
  Ends old new (Some (Leaf leaf)) steps = ⊤
  Ends old new (Some (Beside left removed)) steps = ⊤

  arrives : (limits : Limits) (leg : Leg) (goal : ReadGoal) (key : Key) (m left later : ℕ) (p : LivePage) (level : ℕ) → IsPageOn w.limits w.memory level p
      → At w leg goal key p left later → 14 * left + later ≤ m → Visits leg goal key (to_page limits p.pid) m
  arrives limits leg goal key m left later p level stands here few =
      let short = stands.fits.short in
      record {
        page = p;
        level = level;
        stands = stands;
        is_pid = refl;
        left = suc (length p.chain);
        is_left = refl;
        at_head = tt;
        cost = left;
        later = later;
        here = here;
        few = omega (arith, few, short);
      }

  ends : (old new : ReadRound) (result : Option ReadEnd) (cost left later steps : ℕ) → 0 < cost → 0 < left → 14 * cost + left + later ≤ steps + 14
      → Then w old new result cost later → Ends old new result steps
  ends old new None cost left later steps some more few g =
      let fewer = g.fewer in (
        14 * g.left + later,
        omega (arith, some, more, few, fewer),
        rw g.is_key
            (rw g.is_state
            (arrives new.limits new.leg new.goal old.key (14 * g.left + later) g.left later g.page g.level g.stands g.at (omega arith))),
      )
  ends old new (Some Again) cost left later steps some more few t = t
  ends old new (Some (Removed removed)) cost left later steps some more few t =
      let keeps = t.1 in
      (later, omega (arith, some, more, few), record { down = refl; later = times w (removed_after w old.key (low_in removed.chain)); keeps = inl (t.0, omega arith); few = keeps })
  ends old new (Some (Leaf leaf)) cost left later steps some more few t = tt
  ends old new (Some (Beside left_page removed)) cost left later steps some more few t = tt

  found : (old : ReadRound) (visit next : Visit) (sight : Sight) (new : ReadRound) (result : Option ReadEnd) (steps : ℕ) (told : Answer Record)
      → Visits old.leg old.goal old.key visit steps → IsAnswer w.memory (page.wanted_step visit) told
      → page.Responds visit told next (Some sight) → Sees reading old sight new result → Ends old new result steps
  found old visit next Empty new result steps told v answer r sees =
      absurd (not_empty w.memory visit next v.page.chain told (rw (← v.is_pid) v.stands.stands) answer r)
  found old visit next (Whole version) new result steps told v answer r sees =
      let f = finds w.memory visit next v.page.chain v.left told version v.is_left answer r in
      let same : v.page ≡ live version = same_page v.page (live version) (v.is_pid ∙ sym f.0) (sym f.1) in
      ends old new result v.cost v.left v.later steps (some_left old.leg old.goal old.key v.page v.cost v.later v.here) f.2 v.few
      (treats w old version new v.cost v.later result (rw (← same) v.here) sees)

  abbrev Kept : ReadRound → Answer Record → ReadRound → Option ReadEnd → Type 0
  Kept old told new result = (steps : ℕ) → HasLeft old steps → IsAnswer w.memory (wanted_step old) told → Ends old new result steps

  pub steps_in : (old new : ReadRound) (told : Answer Record) (result : Option ReadEnd) → Responds reading old told new result → Kept old told new result
  steps_in old new told result responds = by_step reading (λ round. refl) Kept old new told result responds
      (λ root steps b answer. starts old.limits old.leg old.goal old.key root steps (Number root) b refl answer)
      (λ visit next r steps v answer. goes_on old.leg old.goal old.key visit next steps told v answer r)
      (λ visit next sight r sees steps v answer. found (at old (Page visit)) visit next sight new result steps told v answer r sees)

  -- a step in one memory: no round ends anew, and what the reader comes to has fewer steps left, or it is to leave
  pub one_step : (task : Task) (round : ReadRound) (new : State) (steps : ℕ) → HasLeft round steps → (r : ReadsIn w.memory task round new)
      → (r.steps.end ≢ Some Again) × ((is_leaving new ≡ true) ⊎ ((next : ReadRound) × (m : ℕ) × (new ≡ Read next) × (m < steps) × HasLeft next m))
  one_step task round new steps has r = by_end r.steps.end (steps_in round r.steps.next r.answer r.steps.end r.steps.responds steps has r.told) r.steps.goes
    where
      by_end : (end : Option ReadEnd) → Ends round r.steps.next end steps → AfterReading task r.steps.next end new
          → (end ≢ Some Again) × ((is_leaving new ≡ true) ⊎ ((next : ReadRound) × (m : ℕ) × (new ≡ Read next) × (m < steps) × HasLeft next m))
      by_end None e after = ((λ f. cc f), inr (r.steps.next, e.0, after, e.1, e.2))
      by_end (Some Again) e after = absurd e
      by_end (Some (Removed removed)) e after =
          ((λ f. cc f), inr (read_left_of removed r.steps.next, e.0, after, e.1, rw r.steps.same.key e.2))
      by_end (Some (Leaf leaf)) e after = ((λ f. cc f), inl after)
      by_end (Some (Beside left removed)) e after = ((λ f. cc f), inl after)

  row_some : (left row : ℕ) (rest : List Record) → left ≡ length rest → IsChainFrom w.memory.rows row rest → 0 < left
  row_some left row [] e from = absurd from
  row_some left row (newest ∷ below) e from = omega (arith, e)

  read_some : (chain part : List Record) (state : page.VisitState) (left : ℕ) → IsLeft w.memory chain part state left → 0 < left
  read_some chain part page.Slot left e = omega (arith, e)
  read_some chain part (page.Row head row) left (rest, e, from, all) = row_some left row rest e from

  steps_some : (leg : Leg) (goal : ReadGoal) (key : Key) (state : WayState) (steps : ℕ) → StandsAt leg goal key state steps → 0 < steps
  steps_some leg goal key Root steps b = let few = b.few in omega (arith, few)
  steps_some leg goal key (Page visit) steps v =
      let some = some_left leg goal key v.page v.cost v.later v.here in
      let few = v.few in
      let more = read_some v.page.chain visit.part visit.state v.left v.is_left in
      omega (arith, some, few, more)

  pub some_steps : (round : ReadRound) (steps : ℕ) → HasLeft round steps → 0 < steps
  some_steps round steps has = steps_some round.leg round.goal round.key round.state steps has

  pub runs : (task : Task) (round : ReadRound) (steps : ℕ) (rounds : List ReadRound) → HasLeft round steps → IsReaderRun w.memory task round rounds
      → (m : ℕ) × (length rounds + m ≤ steps) × HasLeft (last_round round rounds) m
  runs task round steps [] has run = (steps, omega arith, has)
  runs task round steps (next ∷ rounds) has run = by_step_of (one_step task round (Read next) steps has run.0).1 (λ m left. runs task next m rounds left run.1)
    where
      by_step_of : (is_leaving (Read next) ≡ true) ⊎ ((other : ReadRound) × (m : ℕ) × (Read next ≡ Read other) × (m < steps) × HasLeft other m)
          → ((m : ℕ) → HasLeft next m → (n : ℕ) × (length rounds + n ≤ m) × HasLeft (last_round next rounds) n)
          → (m : ℕ) × (length (next ∷ rounds) + m ≤ steps) × HasLeft (last_round next rounds) m
      by_step_of (inl leaving) then = absurd (cc)
      by_step_of (inr (other, m, is, less, left)) then =
          let same : other ≡ next = cc in
          let rest = then m (rw (← same) left) in
          let few = rest.1 in
          (rest.0, omega (arith, less, few), rest.2)

  pub ends_within : (task : Task) (round : ReadRound) (steps : ℕ) → HasLeft round steps → EndsWithin w.memory task round steps × FindsEach w.memory task round
  ends_within task round steps has = (
    record { short = λ rounds run. let r = runs task round steps rounds has run in let some = some_steps (last_round round rounds) r.0 r.2 in let few = r.1 in omega (arith, some, few) },
    record { finds = λ rounds new run last. let r = runs task round steps rounds has run in (one_step task (last_round round rounds) new r.0 r.2 last).0 },
  )
