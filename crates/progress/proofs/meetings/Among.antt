-- A writer's meetings among the entries of others, and its own, that change the tree.
use Rattle.progress.proofs.Words.{◌≡◌, ◌<◌, ◌≤◌, ◌+◌, ◌*◌, ◌⊎◌, ◌++◌, ℕ, List, [], ◌∷◌, Bool, true, false, cond, Some, None, refl, sym, ap, ◌∙◌, inl, inr, arith, add-mul, eqb_tells}
use Rattle.progress.proofs.Words.{if◌then◌else◌, ◌==◌, Limits, Answer, Number, Whether, Exchange, StepOf, Memory, Record, Entry, Begin, Step, knows, Recalled, IsNext, IsAnswer, memory_of}
use Rattle.progress.proofs.Words.{WayState, Root, Page, Visit, VisitState, low_in, IsState, IsInTree, either, changes_tree, and-false, IsDirect, WriteGoal, Merge, Unterm, Slot, Row, WriteRound}
use Rattle.progress.proofs.Words.{above_empty, level_in, few_meets, AtChange, InRound, IsLawfulWriting, StepsOn, WriterMoment, WriterState, meets, meets_at, IsOthers}
use Rattle.progress.proofs.Tallies.{one_at_most, itself}
use Rattle.round_model.specs.Courses.{Seek, Left}
use Rattle.round_model.specs.Descents as way
use Rattle.round_model.specs.Visits as seen
use Rattle.round_model.specs.WriteRounds.{BeginsToWrite, VisitsToWrite, wanted_step}
use Rattle.round_model.specs.WriteRounds as write
use Rattle.progress.specs.WritersAmong.{AfterChange, AreLawfulWritings, Decides, HasDecided, IsOtherWriting, IsOwnWriting}
use Rattle.progress.specs.WritersAmong.{ShowsWriter, StepsAtChange, StepsInRound, WritersMeetFew, changes_among}
use Rattle.progress.proofs.rounds.Agreeing.{visit_same}
use Rattle.progress.proofs.rounds.Counts.{many}
use Rattle.progress.proofs.rounds.Ending.{many_is_count}
use Rattle.progress.proofs.rounds.Known.{read_front, tree, was_read}
use Rattle.progress.proofs.rounds.Pages.{Standing}
use Rattle.progress.proofs.rounds.Unchanged.{IsSame, none_wins, reached_in, same_next}
use Rattle.progress.proofs.meetings.Gone.{has_removal}
use Rattle.progress.proofs.meetings.Meeting.{Begins, MeetsFew, StandsAt}
use Rattle.progress.proofs.meetings.Stepping.{FitsAt, FitsRound, Stands, begins_few, fresh_after, fresh_responds, meets_now, stale_after, stale_responds}

-- a change of the tree meets nothing
change_meets : (memory : Memory) (actor : ℕ) (entry : Entry) → changes_tree memory entry ≡ true → meets_at actor entry ≡ false
change_meets memory actor (Step other (Exchange slot old new) (Whether true) reply) e = and-false (other == actor)
change_meets memory actor entry e = absurd (cc)

-- nor does an entry of another actor
others_meet : (actor : ℕ) (entry : Entry) → IsOthers actor entry → meets_at actor entry ≡ false
others_meet actor (Begin other command) others = refl
others_meet actor (Step other asked answer reply) others = elim (eqb_tells other actor) [ inl same ↦ absurd (others same.1) | inr apart ↦ rw apart.0 refl ]

own_meet : (actor : ℕ) (asked : StepOf Record) (answer : Answer Record) → cond {A = ℕ} (meets_at actor (Step actor asked answer None)) 1 0 ≡ meets_now asked answer
own_meet actor asked answer = rw (itself actor)

calm_none : (asked : StepOf Record) (answer : Answer Record) → meets asked answer ≡ false → meets_now asked answer ≡ 0
calm_none asked answer e = rw e

module _ (limits : Limits) (actor : ℕ) where
  -- a memory in which the tree stands as it does now, and how often the writer meets one from here on, as long as it stands so
  abbrev Here : (entries : List Entry) → IsState limits entries → WriterState → ℕ → Type 0
  Here entries state writer most = (w : Standing) × IsSame limits w entries state × Stands w writer most

  module _ (entries : List Entry) (state : IsState limits entries) where
    abbrev now : Standing
    now = record { limits = limits; memory = memory_of limits entries; tree = tree limits entries state actor }

    same_now : IsSame limits now entries state
    same_now = record { root = refl; slots = λ pid some h. refl; chains = λ pid chain h is. is }

    -- wherever a writer stands
    stands_anyhow : (writer : WriterState) (r : Recalled) → ShowsWriter writer (knows entries actor) r → Stands now writer few_meets
    stands_anyhow (AtChange slot expected taken) r shows = inr (inr (let le : 19 ≤ 21 = omega arith in le))
    stands_anyhow (InRound round) r shows = by_state round.state refl shows
      where
        by_goal : (goal : WriteGoal) → BeginsToWrite round.limits round.key round.floor (knows entries actor) goal → Begins now goal round.key round.floor few_meets
        by_goal Seek b = let le : 18 ≤ 21 = omega arith in le
        by_goal (Left pid) b = inr (
          rw (← b.low)
              (above_empty b.removed.chain b.gone.in_hand.sound.is_chain.fitted b.gone.gone),
          (let le : 19 ≤ 21 = omega arith in le),
        )
        by_goal (Merge left) b = absurd b
        by_goal (Unterm parent left) b = absurd b

        by_state : (at : WayState) → round.state ≡ at → write.ShowsState round (knows entries actor) r at → Stands now (InRound round) few_meets
        by_state Root e s = inl (rw e (s.1, s.2, by_goal round.goal s.3))
        by_state (Page visit) e s = inr (rw e (let le : 21 ≤ 21 + cond {A = ℕ} (has_removal visit.part) 1 0 = omega arith in le))

    here_anyhow : (writer : WriterState) (r : Recalled) → ShowsWriter writer (knows entries actor) r → Here entries state writer few_meets
    here_anyhow writer r shows = (now, same_now, stands_anyhow writer r shows)

    -- what is known of a round's visit
    fits_round : (round : WriteRound) (r : Recalled) → write.Shows round (knows entries actor) r → FitsRound (memory_of limits entries) round.state
    fits_round round r shows = by_state round.state shows
      where
        by_visit : (visit : Visit) (at : VisitState) → visit.state ≡ at → VisitsToWrite round.limits round.key round.floor round.splits round.goal round.parent round.left (knows entries actor) r visit
            → FitsAt (memory_of limits entries) visit at
        by_visit visit Slot e v = rw e at v.seeks.on_way.bare
        by_visit visit (Row head row) e v =
            let reads : seen.Reads (knows entries actor) visit.pid head visit.part row = rw e at v.seeks.on_way.shows.stands in
            let f = read_front limits entries state actor visit.pid head row visit.part reads.in_slot reads.seen in
            (f.0, f.1, f.2.fits)

        by_state : (at : WayState) → write.ShowsState round (knows entries actor) r at → FitsRound (memory_of limits entries) at
        by_state Root s = tt
        by_state (Page visit) s = by_visit visit visit.state refl s

    -- the answer is the one of the memory in which the tree stands so
    answer_same : (w : Standing) → IsSame limits w entries state → (round : WriteRound) (r : Recalled) (most : ℕ) → write.Shows round (knows entries actor) r → MeetsFew w round most
        → (answer : Answer Record) → IsAnswer (memory_of limits entries) (wanted_step round) answer → IsAnswer w.memory (wanted_step round) answer
    answer_same w same round r most shows few answer is = by_state round.state shows few is
      where
        by_state : (at : WayState) → write.ShowsState round (knows entries actor) r at → StandsAt w round.goal round.key round.floor round.parent round.left at most
            → IsAnswer (memory_of limits entries) (way.wanted_at at) answer → IsAnswer w.memory (way.wanted_at at) answer
        by_state Root s f told = told ∙ ap Number same.root
        by_state (Page visit) s f told =
            visit_same limits entries state actor w same round.limits r visit (record { level = s.level; low = s.low; earlier = s.earlier; on_way = s.seeks.on_way })
            (inr (record { chain = f.page.chain; left = f.left; is_chain = rw (← f.is_pid) f.stands.stands; is_left = f.is_left; at_head = f.at_head }))
            answer visit.state refl told

    -- a step that doesn't change the tree
    module _ (entry : Entry) (off : changes_tree (memory_of limits entries) entry ≡ false) (next : IsNext limits entries entry) (later : IsState limits (entries ++ entry ∷ []))
        (direct : IsDirect limits (entries ++ entry ∷ [])) (w : Standing) (same : IsSame limits w entries state) where
      abbrev Left_with : WriterState → ℕ → StepOf Record → Answer Record → Type 0
      Left_with new most asked answer = (left : ℕ) × (left + meets_now asked answer ≤ most) × Stands w new left

      in_round : (round : WriteRound) (r : Recalled) (new : WriterState) (most : ℕ) (asked : StepOf Record) (answer : Answer Record) → write.Shows round (knows entries actor) r
          → Stands w (InRound round) most → StepsInRound round asked answer new → IsAnswer (memory_of limits entries) asked answer → Left_with new most asked answer
      in_round round r new most asked answer shows stands steps told =
          rw steps.wanted (elim stands [
            | inl few ↦
                let t = fresh_responds w round steps.next answer steps.end steps.responds most few (answer_same w same round r most shows few answer real) in
                (t.0, t.1, fresh_after w steps.next steps.end new t.0 t.2 steps.goes)
            | inr stale ↦
                let t = stale_responds w (memory_of limits entries) round steps.next answer steps.end steps.responds most stale (fits_round round r shows) real in
                (t.0, t.1, stale_after w (memory_of limits entries) steps.next steps.end new t.0 t.2 steps.goes)
          ])
        where
          real : IsAnswer (memory_of limits entries) (wanted_step round) answer
          real = rw (← steps.wanted) told

      -- an exchange that expects what the slot holds would change the tree
      no_loss : (slot expected : ℕ) (asked : StepOf Record) (answer : Answer Record) → entry ≡ Step actor asked answer None → w.memory.slots slot ≡ expected
          → (slot ≡ 0) ⊎ (0 < expected) → Decides (knows entries actor) slot expected asked → ⊥
      no_loss slot expected asked answer is holds over d = by_read d.read
        where
          entry_is : entry ≡ Step actor (Exchange slot expected d.number) answer None
          entry_is = is ∙ ap (λ (s : StepOf Record). Step actor s answer None) d.is

          told : IsNext limits entries (Step actor (Exchange slot expected d.number) answer None)
          told = rw entry_is at next

          wins : (memory_of limits entries).slots slot ≡ expected → entry ≡ Step actor (Exchange slot expected d.number) (Whether true) None
          wins has = elim (eqb_tells ((memory_of limits entries).slots slot) expected) [
            | inl tells ↦ entry_is ∙ ap (λ (a : Answer Record). Step actor (Exchange slot expected d.number) a None) (told.2 ∙ ap Whether tells.0)
            | inr apart ↦ absurd (apart.1 has)
          ]

          at_root : slot ≡ 0 → ⊥
          at_root zeroth =
              let has : (memory_of limits entries).slots slot ≡ expected = ap (memory_of limits entries).slots zeroth ∙ same.root ∙ ap w.memory.slots (sym zeroth) ∙ holds in
              let won : entry ≡ Step actor (Exchange 0 expected d.number) (Whether true) None = wins has ∙ ap (λ (n : ℕ). Step actor (Exchange n expected d.number) (Whether true) None) zeroth in
              let on : changes_tree (memory_of limits entries) (Step actor (Exchange 0 expected d.number) (Whether true) None) ≡ false = rw won at off in
              cc on

          at_page : (knows entries actor).read.heads slot ≡ Some expected → 0 < slot → ⊥
          at_page read some =
              let was = was_read limits entries state actor slot expected read in
              let in_tree : IsInTree (state.owners.page slot) = reached_in 0 (level_in was.0) (low_in was.0) (state.owners.page slot) was.1.reached in
              let has : (memory_of limits entries).slots slot ≡ expected = same.slots slot some in_tree ∙ holds in
              none_wins limits entries entry off state next later direct slot in_tree actor slot expected d.number None (wins has) refl

          by_read : (slot ≡ 0) ⊎ (expected ≡ 0) ⊎ ((knows entries actor).read.heads slot ≡ Some expected) → ⊥
          by_read (inl zeroth) = at_root zeroth
          by_read (inr (inl none)) = elim over [ inl zeroth ↦ at_root zeroth | inr some ↦ omega (arith, none, some) ]
          by_read (inr (inr read)) = elim (eqb_tells slot 0) [ inl zeroth ↦ at_root zeroth.1 | inr apart ↦ at_page read (let ne = apart.1 in omega (arith, ne)) ]

      after_change : (new : WriterState) (most : ℕ) → 18 ≤ most → AfterChange new → Stands w new most
      after_change new most few after = elim after [
        | inl begins ↦ begins_few w new most begins few
        | inr on ↦ rw on.2 (inr (inl (refl, few)))
      ]

      decided : (slot expected : ℕ) (taken : Bool) (new : WriterState) (most : ℕ) (asked : StepOf Record) (answer : Answer Record) → entry ≡ Step actor asked answer None
          → Stands w (AtChange slot expected taken) most → HasDecided (knows entries actor) slot expected taken asked answer → AfterChange new → Left_with new most asked answer
      decided slot expected taken new most asked answer is stands on after = elim stands [
        | inl holds ↦ absurd (no_loss slot expected asked answer is holds.1 holds.2 (rw holds.0 at on))
        | inr more ↦ elim more [
          | inl was ↦
              let calm : meets asked answer ≡ false = rw was.0 at on in
              let none = calm_none asked answer calm in
              (most, omega (arith, none), after_change new most was.1 after)
          | inr few ↦
              let one = one_at_most (meets asked answer) in
              let le : 18 ≤ 18 = omega arith in
              (18, omega (arith, few, one), after_change new 18 le after)
        ]
      ]

      at_change : (slot expected : ℕ) (taken : Bool) (new : WriterState) (most : ℕ) (asked : StepOf Record) (answer : Answer Record) → entry ≡ Step actor asked answer None
          → Stands w (AtChange slot expected taken) most → StepsAtChange (knows entries actor) slot expected taken asked answer new → Left_with new most asked answer
      at_change slot expected taken new most asked answer is stands steps = elim steps.goes [
        | inl same_as ↦ let none = calm_none asked answer same_as.0 in (most, omega (arith, none), rw same_as.1 stands)
        | inr on ↦ decided slot expected taken new most asked answer is stands on.0 on.1
      ]

      own_step : (writer new : WriterState) (r : Recalled) (most : ℕ) (asked : StepOf Record) (answer : Answer Record) → entry ≡ Step actor asked answer None
          → ShowsWriter writer (knows entries actor) r
          → Stands w writer most → StepsOn (knows entries actor) writer asked answer new → IsAnswer (memory_of limits entries) asked answer → Left_with new most asked answer
      own_step (InRound round) new r most asked answer is shows stands steps told = in_round round r new most asked answer shows stands steps told
      own_step (AtChange slot expected taken) new r most asked answer is shows stands steps told = at_change slot expected taken new most asked answer is stands steps

  abbrev is_meeting : WriterMoment → Bool
  is_meeting moment = meets_at actor moment.entry

  abbrev Rest : List WriterMoment → Type 0
  Rest moments = (entries : List Entry) (state : IsState limits entries) (writer : WriterState) (most : ℕ) → AreLawfulWritings limits actor entries writer moments
      → Here entries state writer most → many is_meeting moments ≤ most + changes_among limits entries moments * few_meets

  anew : (moments : List WriterMoment) (entries : List Entry) (state : IsState limits entries) (writer : WriterState) → AreLawfulWritings limits actor entries writer moments
      → Rest moments → many is_meeting moments ≤ few_meets + changes_among limits entries moments * few_meets
  anew [] entries state writer are rest = let le : 0 ≤ 21 + 0 * 21 = omega arith in le
  anew (moment ∷ moments) entries state writer are rest = rest entries state writer few_meets are (here_anyhow entries state writer are.0.r are.0.shows)

  module _ (moment : WriterMoment) (moments : List WriterMoment) (entries : List Entry) (state : IsState limits entries) (writer : WriterState) (most : ℕ)
      (m : IsLawfulWriting limits actor entries writer moment)
      (are : AreLawfulWritings limits actor (entries ++ moment.entry ∷ []) moment.state moments) (here : Here entries state writer most) (rest : Rest moments) where
    abbrev Goal : Type 0
    Goal = many is_meeting (moment ∷ moments) ≤ most + changes_among limits entries (moment ∷ moments) * few_meets

    abbrev changes : ℕ
    changes = changes_among limits (entries ++ moment.entry ∷ []) moments

    none_more : changes_tree (memory_of limits entries) moment.entry ≡ false → changes_among limits entries (moment ∷ moments) ≡ changes
    none_more off = let zeroth : ◌≡◌ {A = ℕ} (if changes_tree (memory_of limits entries) moment.entry then 1 else 0) 0 = rw off in omega (arith, zeroth)

    one_more : changes_tree (memory_of limits entries) moment.entry ≡ true → changes_among limits entries (moment ∷ moments) ≡ 1 + changes
    one_more on = let one : ◌≡◌ {A = ℕ} (if changes_tree (memory_of limits entries) moment.entry then 1 else 0) 1 = rw on in omega (arith, one)

    -- the entry changes the tree
    changed : changes_tree (memory_of limits entries) moment.entry ≡ true → Goal
    changed on =
        let few = anew moments (entries ++ moment.entry ∷ []) m.later moment.state are rest in
        let none : cond {A = ℕ} (is_meeting moment) 1 0 ≡ 0 = rw (change_meets (memory_of limits entries) actor moment.entry on) in
        let more = ap (λ (n : ℕ). n * few_meets) (one_more on) in
        let product = add-mul 1 changes few_meets in
        omega (arith, few, none, more, product)

    -- it doesn't, and so many are left after it
    unchanged : changes_tree (memory_of limits entries) moment.entry ≡ false → (left now_met : ℕ) → left + now_met ≤ most
        → cond {A = ℕ} (is_meeting moment) 1 0 ≡ now_met → Stands here.0 moment.state left → Goal
    unchanged off left now_met less one stands =
        let few = rest (entries ++ moment.entry ∷ []) m.later moment.state left are (here.0, same_next limits here.0 entries moment.entry state m.next m.later m.direct off here.1, stands) in
        let same = ap (λ (n : ℕ). n * few_meets) (none_more off) in
        omega (arith, few, less, one, same)

    own_case : IsOwnWriting actor (knows entries actor) writer moment → changes_tree (memory_of limits entries) moment.entry ≡ false → Goal
    own_case own off =
        let next : IsNext limits entries (Step actor own.step own.answer None) = rw own.entry_is at m.next in
        let s = own_step entries state moment.entry off m.next m.later m.direct here.0 here.1 writer moment.state m.r most own.step own.answer own.entry_is m.shows here.2 own.steps next.2 in
        let one : cond {A = ℕ} (is_meeting moment) 1 0 ≡ meets_now own.step own.answer = rw own.entry_is (own_meet actor own.step own.answer) in
        unchanged off s.0 (meets_now own.step own.answer) s.1 one s.2

    other_case : IsOtherWriting actor writer moment → changes_tree (memory_of limits entries) moment.entry ≡ false → Goal
    other_case other off =
        let one : cond {A = ℕ} (is_meeting moment) 1 0 ≡ 0 = rw (others_meet actor moment.entry other.others) in
        unchanged off most 0 (omega arith) one (rw other.stays here.2)

    advance : Goal
    advance = either (changes_tree (memory_of limits entries) moment.entry) changed (λ off. elim m.goes [ inl own ↦ own_case own off | inr other ↦ other_case other off ])

  within : (moments : List WriterMoment) → Rest moments
  within [] entries state writer most are here = let le : 0 ≤ most + 0 * 21 = omega arith in le
  within (moment ∷ moments) entries state writer most are here = advance moment moments entries state writer most are.0 are.1 here (λ e t r n a h. within moments e t r n a h)

pub writers_meet_few : WritersMeetFew
writers_meet_few limits actor entries state_of moments state are =
    let few = anew limits actor moments entries state state_of are (within limits actor moments) in
    let own = many_is_count (λ (m : WriterMoment). meets_at actor m.entry) moments in
    let product = add-mul 1 (changes_among limits entries moments) few_meets in
    omega (arith, few, own, product)
