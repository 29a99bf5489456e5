-- A reader's steps among the entries of others that change the tree.
use Rattle.progress.proofs.Words.{◌≡◌, ◌<◌, ◌≤◌, ◌+◌, ◌*◌, ◌⊎◌, ◌++◌, ℕ, zero, suc, List, [], ◌∷◌, length, Bool, true, false, cond, Option, Some, None, refl, sym, ap, subst, ◌∙◌, inl, inr}
use Rattle.progress.proofs.Words.{arith, add-mul, suc-mul, eqb_tells, length-append, if◌then◌else◌, Limits, Answer, StepOf, either, Memory, Record, Entry, Begin, Step, knows, Recalled, IsNext}
use Rattle.progress.proofs.Words.{IsAnswer, memory_of, WayState, Root, Page, ReadEnd, Again, Removed, Leaf, Beside, ReadGoal, Leg, Visit, VisitState, by_step, first_read, read_left_of}
use Rattle.progress.proofs.Words.{is_leaving, AfterReading, State, Read, Task, is_step_of, IsState, ReadsIn, one_walk, ReadRound, at, reading, wanted_step, Responds, IsLawfulMoment, IsOthers}
use Rattle.progress.proofs.Words.{Moment, all_changes, changes_tree, own_steps, IsRoundIn, IsStateIn, IsVisitIn}
use Rattle.bw_model.specs.declared.step.Step.TheVariants.{Row, Slot}
use Rattle.round_model.specs.Descents as way
use Rattle.round_model.specs.ReadRounds as read
use Rattle.round_model.specs.Visits as seen
use Rattle.progress.specs.ReadersAmong.{AreLawful, IsOtherMoment, IsOwnMoment, ReadersEndAmongChanges}
use Rattle.progress.specs.RoundsIn.{IsReadIn}
use Rattle.progress.proofs.Tallies.{one_at_most}
use Rattle.progress.proofs.rounds.Agreeing.{answer_same}
use Rattle.progress.proofs.rounds.Counts.{many}
use Rattle.progress.proofs.rounds.Ending.{enough, many_is_count}
use Rattle.progress.proofs.rounds.Known.{tree}
use Rattle.progress.proofs.rounds.Pages.{Standing}
use Rattle.progress.proofs.rounds.Resuming.{AnyAt, Comes, SettledLeft, StaleVisit, from_place, settled_any, settles, some_left, stale_ends, stale_on, stands_at}
use Rattle.progress.proofs.rounds.Running.{HasLeft, one_step}
use Rattle.progress.proofs.rounds.Showing.{shown_in}
use Rattle.progress.proofs.rounds.Unchanged.{IsSame, same_next}
use Rattle.progress.proofs.rounds.Visiting.{IsLeft}

-- a read
abbrev pub IsRead : StepOf Record → Type 0
IsRead (Slot pid) = Unit {0}
IsRead (Row row) = Unit {0}
IsRead step = ⊥

pub is_read : (state : WayState) → IsRead (way.wanted_at state)
is_read Root = tt
is_read (Page visit) = by_visit visit visit.state
  where
    by_visit : (visit : seen.Visit) (state : seen.VisitState) → IsRead (seen.wanted_at visit.pid state)
    by_visit visit seen.Slot = tt
    by_visit visit (seen.Row head row) = tt

pub others_no_step : (actor : ℕ) (entry : Entry) → IsOthers actor entry → is_step_of actor entry ≡ false
others_no_step actor (Begin other command) others = refl
others_no_step actor (Step other step answer reply) others = elim (eqb_tells other actor) [ inl same ↦ absurd (others same.1) | inr apart ↦ apart.0 ]

-- a read changes nothing
pub read_no_change : (memory : Memory) (actor : ℕ) (step : StepOf Record) (answer : Answer Record) → IsRead step → changes_tree memory (Step actor step answer None) ≡ false
read_no_change memory actor (Slot pid) answer r = refl
read_no_change memory actor (Row row) answer r = refl
read_no_change memory actor step answer r = absurd r

module _ (limits : Limits) (actor : ℕ) (task : Task) where
  -- how many steps one memory costs
  abbrev price : ℕ
  price = (4 + limits.pids) * one_walk limits

  some_price : 14 ≤ price
  some_price =
      let product = suc-mul (3 + limits.pids) (one_walk limits) in
      let same : suc (3 + limits.pids) ≡ 4 + limits.pids = omega arith in
      let steps = ap (λ (n : ℕ). n * one_walk limits) same in
      omega (arith, product, steps)

  -- few steps are left by a memory, and what was read of the page is that memory's
  abbrev Settled : Standing → ReadRound → ℕ → Type 0
  Settled w round steps = HasLeft w round steps ⊎ SettledLeft w round steps

  -- A page is read on as it was in an earlier memory.
  record StaleAt (round : ReadRound) (steps : ℕ) : Type 0 where
    visit : Visit
    head : ℕ
    row : ℕ
    at_page : round.state ≡ Page visit
    at_row : visit.state ≡ seen.Row head row
    few : price ≤ steps + length visit.part
    short : length visit.part ≤ 13

  abbrev Here : (entries : List Entry) → IsState limits entries → ReadRound → ℕ → Type 0
  Here entries state round steps = ((w : Standing) × IsSame limits w entries state × Settled w round steps) ⊎ StaleAt round steps

  settled_some : (w : Standing) (round : ReadRound) (steps : ℕ) → Settled w round steps → 0 < steps
  settled_some w round steps (inl has) = some_left w round steps (inl has)
  settled_some w round steps (inr has) = some_left w round steps (inr (settled_any w round.leg round.goal round.state steps has))

  here_some : (entries : List Entry) (state : IsState limits entries) (round : ReadRound) (steps : ℕ) → Here entries state round steps → 0 < steps
  here_some entries state round steps (inl (w, same, has)) = settled_some w round steps has
  here_some entries state round steps (inr s) = let few = s.few in let short = s.short in let some = some_price in omega (arith, few, short, some)

  abbrev Found : Standing → ReadRound → State → ℕ → Type 0
  Found w round new steps = (is_leaving new ≡ true) ⊎ ((next : ReadRound) × (m : ℕ) × (new ≡ Read next) × (m < steps) × Settled w next m)

  settled_step : (w : Standing) (round : ReadRound) (new : State) (steps : ℕ) → Settled w round steps → ReadsIn w.memory task round new → Found w round new steps
  settled_step w round new steps (inl has) r = elim (one_step w task round new steps has r).1 [ inl leaving ↦ inl leaving | inr (next, m, is, less, left) ↦ inr (next, m, is, less, inl left) ]
  settled_step w round new steps (inr has) r = by_end r.steps.end (settles w round r.steps.next r.answer r.steps.end r.steps.responds steps has r.told) r.steps.goes
    where
      by_end : (end : Option ReadEnd) → Comes w round r.steps.next end steps → AfterReading task r.steps.next end new → Found w round new steps
      by_end None e goes = inr (r.steps.next, e.0, goes, e.1, inr e.2)
      by_end (Some Again) e goes = inr (first_read task, e.0, goes, e.1, inl (e.2 (first_read task).key))
      by_end (Some (Removed removed)) e goes = inr (read_left_of removed r.steps.next, e.0, goes, e.1, inl (e.2 r.steps.next.key))
      by_end (Some (Leaf leaf)) e goes = inl goes
      by_end (Some (Beside left removed)) e goes = inl goes

  -- the memory of a state
  module _ (entries : List Entry) (state : IsState limits entries) (round : ReadRound) (r : Recalled) (shows : read.Shows round (knows entries actor) r) where
    abbrev now : Standing
    now = record { limits = limits; memory = memory_of limits entries; tree = tree limits entries state actor }

    same_now : IsSame limits now entries state
    same_now = record { root = refl; slots = λ pid some h. refl; chains = λ pid chain h is. is }

    placed : 14 + from_place now ≤ price
    placed = enough limits (memory_of limits entries) (tree limits entries state actor)

    is_in : IsRoundIn (tree limits entries state actor) round
    is_in = shown_in limits entries state actor round r shows

    -- a page that is read on
    stale_visit : (steps : ℕ) (visit : Visit) (head row : ℕ) → visit.state ≡ seen.Row head row
        → IsVisitIn (tree limits entries state actor) round.goal round.leg visit.pid visit.part visit.state → price ≤ steps + length visit.part
        → StaleVisit now round.leg round.goal visit steps × (length visit.part ≤ 13)
    stale_visit steps visit head row at_row is few =
        let reads : IsReadIn (tree limits entries state actor) round.goal round.leg visit.pid visit.part row = rw at_row at is in
        let short = reads.fits.short in
        let all = length-append visit.part reads.rest in
        let enough_here = placed in (
          record {
            page = record { pid = visit.pid; chain = visit.part ++ reads.rest };
            is_pid = refl;
            stale = record { fits = reads.fits; names = reads.names; kept = reads.kept; left = reads.left; round = reads.round; leg_is = is_in.leg; goal_is = is_in.goal };
            left = length reads.rest;
            is_left = rw at_row (reads.rest, refl, reads.stands, refl);
            head = head;
            row = row;
            at_row = at_row;
            few = omega (arith, short, all, enough_here, few);
          },
          omega (arith, short, all),
        )

    -- where the round stands now
    fresh : Here entries state round price
    fresh = by_state round.state refl is_in.state (stands_at now round price is_in placed)
      where
        by_visit : (visit : Visit) (at_visit : VisitState) → visit.state ≡ at_visit → round.state ≡ Page visit
            → IsVisitIn (tree limits entries state actor) round.goal round.leg visit.pid visit.part visit.state
            → AnyAt now round.leg round.goal (Page visit) price → Here entries state round price
        by_visit visit (seen.Row head row) e is v any =
            let s = stale_visit price visit head row e v (omega arith) in
            inr (record { visit = visit; head = head; row = row; at_page = is; at_row = e; few = omega arith; short = s.1 })
        by_visit visit seen.Slot e is v (inl settled) = inl (now, same_now, inr (rw is settled))
        by_visit visit seen.Slot e is v (inr stale) = absurd (let both : seen.Slot ≡ seen.Row stale.head stale.row = sym e ∙ stale.at_row in cc)

        by_state : (state_at : WayState) → round.state ≡ state_at → IsStateIn (tree limits entries state actor) round.goal round.leg round.state
            → AnyAt now round.leg round.goal round.state price → Here entries state round price
        by_state Root is v any =
            inl (now, same_now, inr (rw is (rw is at any)))
        by_state (Page visit) is v any =
            by_visit visit visit.state refl is (rw is at v)
            (rw is at any)

    -- a page is read on
    abbrev StaleState : Leg → ReadGoal → WayState → ℕ → Type 0
    StaleState leg goal Root steps = ⊥
    StaleState leg goal (Page visit) steps = StaleVisit now leg goal visit steps × (price ≤ steps + length visit.part)

    abbrev StaleEnds : ReadRound → ReadRound → Option ReadEnd → ℕ → Type 0
    StaleEnds old new None steps = (m : ℕ) × (m < steps) × (SettledLeft now new m ⊎ StaleAt new m)
    StaleEnds old new (Some end) steps = Comes now old new (Some end) steps

    stale_as : (old new : ReadRound) (result : Option ReadEnd) (steps : ℕ) → Comes now old new result steps → StaleEnds old new result steps
    stale_as old new None steps c = (c.0, c.1, inl c.2)
    stale_as old new (Some end) steps c = c

    reads_on : (old : ReadRound) (visit next : Visit) (steps : ℕ) (told : Answer Record) → StaleState old.leg old.goal (Page visit) steps
        → IsAnswer (memory_of limits entries) (seen.wanted_step visit) told → seen.Responds visit told next None → StaleEnds old (at old (Page next)) None steps
    reads_on old visit next steps told s answer responds = by_steps steps refl
      where
        o : (m : ℕ) × (m < steps) × StaleVisit now old.leg old.goal next m
        o = stale_on now old.leg old.goal visit next steps told s.0 answer responds

        short : length next.part ≤ 13
        short =
            let left : IsLeft (memory_of limits entries) o.2.page.chain next.part (seen.Row o.2.head o.2.row) o.2.left = subst
            (λ (t : VisitState). IsLeft (memory_of limits entries) o.2.page.chain next.part t o.2.left) o.2.at_row o.2.is_left in
            let all = length-append next.part left.0 in
            let whole = ap length left.3 in
            let fits = o.2.stale.fits.short in
            omega (arith, all, whole, fits)

        grows : length next.part ≡ suc (length visit.part)
        grows = elim responds [
          | inl f ↦ absurd (let both : seen.Slot ≡ seen.Row s.0.head s.0.row = sym f.asked ∙ s.0.at_row in cc)
          | inr c ↦ ap (λ (v : Visit). length v.part) c.goes ∙ (let all = length-append visit.part (c.content ∷ []) in omega (arith, all))
        ]

        by_steps : (n : ℕ) → steps ≡ n → StaleEnds old (at old (Page next)) None steps
        by_steps zero e = let some = some_price in let few = s.1 in let grown = grows in let within = short in absurd (omega (arith, some, few, grown, within, e))
        by_steps (suc n) e = (
          n,
          omega (arith, e),
          inr (record {
            visit = next;
            head = o.2.head;
            row = o.2.row;
            at_page = refl;
            at_row = o.2.at_row;
            few = (let few = s.1 in let grown = grows in omega (arith, few, grown, e));
            short = short;
          }),
        )

    abbrev KeptStale : ReadRound → Answer Record → ReadRound → Option ReadEnd → Type 0
    KeptStale old told new result = (steps : ℕ) → StaleState old.leg old.goal old.state steps → IsAnswer (memory_of limits entries) (wanted_step old) told → StaleEnds old new result steps

    stale_responds : (old new : ReadRound) (told : Answer Record) (result : Option ReadEnd) → Responds reading old told new result → KeptStale old told new result
    stale_responds old new told result responds = by_step reading (λ q. refl) KeptStale old new told result responds
        (λ root steps b answer. absurd b)
        (λ visit next v steps s answer. reads_on old visit next steps told s answer v)
        (λ visit next sight v sees steps s answer. stale_as (at old (Page visit)) new result steps (stale_ends now (at old (Page visit)) visit next sight new result steps told s.0 answer v sees))

    abbrev FoundHere : State → ℕ → Type 0
    FoundHere new steps = (is_leaving new ≡ true) ⊎ ((next : ReadRound) × (m : ℕ) × (new ≡ Read next) × (m < steps) × Here entries state next m)

    stale_step : (new : State) (steps : ℕ) → StaleAt round steps → ReadsIn (memory_of limits entries) task round new → FoundHere new steps
    stale_step new steps s reads = by_end reads.steps.end (stale_responds round reads.steps.next reads.answer reads.steps.end reads.steps.responds steps stale reads.told) reads.steps.goes
      where
        v : IsVisitIn (tree limits entries state actor) round.goal round.leg s.visit.pid s.visit.part s.visit.state
        v = rw s.at_page at is_in.state

        stale : StaleState round.leg round.goal round.state steps
        stale = subst (λ (t : WayState). StaleState round.leg round.goal t steps) (sym s.at_page) ((stale_visit steps s.visit s.head s.row s.at_row v s.few).0, s.few)

        by_end : (end : Option ReadEnd) → StaleEnds round reads.steps.next end steps → AfterReading task reads.steps.next end new → FoundHere new steps
        by_end None e goes = inr (reads.steps.next, e.0, goes, e.1, elim e.2 [ inl settled ↦ inl (now, same_now, inr settled) | inr on ↦ inr on ])
        by_end (Some Again) e goes = inr (first_read task, e.0, goes, e.1, inl (now, same_now, inl (e.2 (first_read task).key)))
        by_end (Some (Removed removed)) e goes = inr (read_left_of removed reads.steps.next, e.0, goes, e.1, inl (now, same_now, inl (e.2 reads.steps.next.key)))
        by_end (Some (Leaf leaf)) e goes = inl goes
        by_end (Some (Beside left removed)) e goes = inl goes

    own_step : (new : State) (steps : ℕ) → Here entries state round steps → ReadsIn (memory_of limits entries) task round new → FoundHere new steps
    own_step new steps (inr s) reads = stale_step new steps s reads
    own_step new steps (inl (w, same, has)) reads = elim (settled_step w round new steps has
        (record { answer = reads.answer; told = answer_same limits entries state actor w same round r steps shows has reads.answer reads.told; steps = reads.steps })) [
          | inl leaving ↦ inl leaving
          | inr (next, m, is, less, settled) ↦ inr (next, m, is, less, inl (w, same, settled))
        ]

  abbrev is_own : Moment → Bool
  is_own moment = is_step_of actor moment.entry

  abbrev Rest : List Moment → Type 0
  Rest moments =
      (entries : List Entry) (state : IsState limits entries) (round : ReadRound) (steps : ℕ) → AreLawful limits actor task entries round moments
      → Here entries state round steps → many is_own moments < steps + all_changes limits entries moments * price

  anew : (moments : List Moment) (entries : List Entry) (state : IsState limits entries) (round : ReadRound) → AreLawful limits actor task entries round moments
      → Rest moments → many is_own moments < price + all_changes limits entries moments * price
  anew [] entries state round are rest = let some = some_price in omega (arith, some)
  anew (moment ∷ moments) entries state round are rest = rest entries state round price are (fresh entries state round are.0.r are.0.shows)

  -- from one moment to the next
  stays_here : (entries : List Entry) (entry : Entry) (state : IsState limits entries) (later : IsState limits (entries ++ entry ∷ [])) (round : ReadRound) (steps : ℕ)
      → (((w : Standing) → IsSame limits w entries state → IsSame limits w (entries ++ entry ∷ []) later)) → Here entries state round steps → Here (entries ++ entry ∷ []) later round steps
  stays_here entries entry state later round steps next (inl (w, same, has)) = inl (w, next w same, has)
  stays_here entries entry state later round steps next (inr s) = inr s

  module _ (moment : Moment) (moments : List Moment) (entries : List Entry) (state : IsState limits entries) (round : ReadRound) (steps : ℕ) (m : IsLawfulMoment limits actor task entries round moment)
      (are : AreLawful limits actor task (entries ++ moment.entry ∷ []) moment.round moments) (here : Here entries state round steps) (rest : Rest moments) where
    abbrev Goal : Type 0
    Goal = many is_own (moment ∷ moments) < steps + all_changes limits entries (moment ∷ moments) * price

    abbrev changes : ℕ
    changes = all_changes limits (entries ++ moment.entry ∷ []) moments

    -- the entry doesn't change the tree
    unchanged : changes_tree (memory_of limits entries) moment.entry ≡ false → (left : ℕ) → left ≤ steps → (next : ReadRound) → moment.round ≡ next
        → Here entries state next left → many is_own moments < left + changes * price
    unchanged off left le next is found =
        rest (entries ++ moment.entry ∷ []) m.later moment.round left are
        (stays_here entries moment.entry state m.later moment.round left
        (λ w same. same_next limits w entries moment.entry state m.next m.later m.direct off same)
        (rw is found))

    none_more : changes_tree (memory_of limits entries) moment.entry ≡ false → all_changes limits entries (moment ∷ moments) ≡ changes
    none_more off = let zeroth : ◌≡◌ {A = ℕ} (if changes_tree (memory_of limits entries) moment.entry then 1 else 0) 0 = rw off in omega (arith, zeroth)

    one_more : changes_tree (memory_of limits entries) moment.entry ≡ true → all_changes limits entries (moment ∷ moments) ≡ 1 + changes
    one_more on = let one : ◌≡◌ {A = ℕ} (if changes_tree (memory_of limits entries) moment.entry then 1 else 0) 1 = rw on in omega (arith, one)

    own_case : IsOwnMoment actor task round moment → Goal
    own_case own = by_found (own_step entries state round m.r m.shows (Read moment.round) steps here (record { answer = own.answer; told = told; steps = own.steps }))
      where
        next : IsNext limits entries (Step actor (wanted_step round) own.answer None)
        next = rw own.entry_is at m.next

        told : IsAnswer (memory_of limits entries) (wanted_step round) own.answer
        told = next.2

        off : changes_tree (memory_of limits entries) moment.entry ≡ false
        off = ap (changes_tree (memory_of limits entries)) own.entry_is ∙ read_no_change (memory_of limits entries) actor (wanted_step round) own.answer (is_read round.state)

        by_found : (is_leaving (Read moment.round) ≡ true) ⊎ ((other : ReadRound) × (left : ℕ) × (Read moment.round ≡ Read other) × (left < steps) × Here entries state other left) → Goal
        by_found (inl leaving) = absurd (cc)
        by_found (inr (other, left, is, less, found)) =
            let same : moment.round ≡ other = cc in
            let few = unchanged off left (omega (arith, less)) other same found in
            let one = one_at_most (is_own moment) in
            let none = ap (λ (n : ℕ). n * price) (none_more off) in
            omega (arith, few, one, none, less)

    other_case : IsOtherMoment actor round moment → Goal
    other_case other = either (changes_tree (memory_of limits entries) moment.entry) changed same_tree
      where
        not_own : cond {A = ℕ} (is_own moment) 1 0 ≡ 0
        not_own = rw (others_no_step actor moment.entry other.others)

        changed : changes_tree (memory_of limits entries) moment.entry ≡ true → Goal
        changed on =
            let few = anew moments (entries ++ moment.entry ∷ []) m.later moment.round are rest in
            let more = ap (λ (n : ℕ). n * price) (one_more on) in
            let product = add-mul 1 changes price in
            let none = not_own in
            omega (arith, few, more, product, none)

        same_tree : changes_tree (memory_of limits entries) moment.entry ≡ false → Goal
        same_tree off =
            let few = unchanged off steps (omega arith) round other.stays here in
            let same = ap (λ (n : ℕ). n * price) (none_more off) in
            let none = not_own in
            omega (arith, few, same, none)

    advance : Goal
    advance = elim m.goes [ inl own ↦ own_case own | inr other ↦ other_case other ]

  within : (moments : List Moment) → Rest moments
  within [] entries state round steps are here = let some = here_some entries state round steps here in omega (arith, some)
  within (moment ∷ moments) entries state round steps are here = advance moment moments entries state round steps are.0 are.1 here (λ e t r n a h. within moments e t r n a h)

  pub among_changes : (entries : List Entry) (round : ReadRound) (moments : List Moment) → IsState limits entries
      → AreLawful limits actor task entries round moments → own_steps actor moments < (1 + all_changes limits entries moments) * price
  among_changes entries round moments state are =
      let few = anew moments entries state round are (within moments) in
      let own = many_is_count is_own moments in
      let product = add-mul 1 (all_changes limits entries moments) price in
      omega (arith, few, own, product)

pub readers_end_among_changes : ReadersEndAmongChanges
readers_end_among_changes limits entries actor task round moments state are = among_changes limits actor task entries round moments state are
