-- A sweep stays sound, and has fewer steps left after each answer.
use Rattle.sweep.proofs.Words.{◌≡◌, ◌<◌, ◌≤◌, ◌/◌, ◌^◌, inl, inr, ℕ, suc, List, [], ◌∷◌, drop, take, eqb, Some, None, Bool, true, false, refl, sym, ap, ◌∙◌, arith, ◌&&◌, if◌then◌else◌}
use Rattle.sweep.proofs.Words.{list_any, cases_Bool, cases_eq, cases_lt, eq-eqb, eqb-true, and_parts, or_parts, Limits, Answer, Record, Entry, Stage, Unstamped, Stamped, Passed, Rows, Pids}
use Rattle.sweep.proofs.Words.{Limbo, LimboList, all_restaged, compared_with, first_restaged, is_passed, with_stages, stamped_by, HandsOn, may_go, Announced, none_yet, with_next, State}
use Rattle.sweep.proofs.Words.{MOST_COMPARED, BeginsSweep, Compares, Frees, Moves, Stamps, after_comparing, has_unstamped, IsSameSweep, IsSoundState, Sweep}
use Rattle.std.proofs.Common.{◌+◌, ◌*◌, ◌-◌}
use Rattle.std.specs.List.{All}
use Rattle.std.proofs.lemmas.List.Elements.{All-append, All-drop, All-map, All-take}
use Rattle.std.proofs.lemmas.List.Folds.{Any-from_list_any}
use Rattle.bw_model.specs.declared.step.Answer.TheVariants as answer
use Rattle.epochs.specs.declared.item.Reuse.{Reuse}
use Rattle.epochs.specs.Limbo.{IsLimboList, firsts_restaged, is_unstamped}
use Rattle.epochs.specs.Words.{HandsNothingOn, HasNone}
use Rattle.sweep.specs.declared.sweep.State.TheVariants as state
use Rattle.sweep.specs.Bounded.{most_steps, reuses_left, steps_left}
use Rattle.sweep.specs.Kept.{IsLimboOf}
use Rattle.sweep.specs.Moves.{IsEmpty}
use Rattle.sweep.specs.Sweeps.{ComesFirst, HasPlace, IsInOrder, IsSoundSweep}
use Rattle.sweep.proofs.Stages.{left_later, no_item}

-- the numbers of the list are below its limit
abbrev AreBelow : LimboList → Type 0
AreBelow list = All (λ (entry : Entry). entry.number < list.limit) list.entries

pub are_below : (list : LimboList) → IsLimboList list → AreBelow list
are_below list is = is.within

restaged_below : (f : Stage → Stage) (list : LimboList) → AreBelow list → AreBelow (record list { entries = with_stages f list.entries })
restaged_below f list below = All-map (λ (entry : Entry). entry.number < list.limit) (λ (entry : Entry). record entry { stage = f entry.stage }) list.entries below

first_below : (most : ℕ) (f : Stage → Stage) (list : LimboList) → AreBelow list → AreBelow (record list { entries = first_restaged most f list.entries })
first_below most f list below =
    let is_below : Entry → Type 0 = λ entry. entry.number < list.limit in
    All-append is_below (with_stages f (take most list.entries)) (drop most list.entries)
    (restaged_below f (record list { entries = take most list.entries }) (All-take is_below most list.entries below))
    (All-drop is_below most list.entries below)

-- what may go is a number that there is
number_below : (list : LimboList) → AreBelow list → (n : ℕ) → may_go list.entries n ≡ true → n < list.limit
number_below list is n may =
    let found = Any-from_list_any (λ (entry : Entry). eqb entry.number n && is_passed entry.stage) list.entries may in
    let within : found.1.number < list.limit = rw found.3 at (is found.0 found.1 found.2) in
    let same : found.1.number ≡ n = eqb-true found.1.number n (and_parts (eqb found.1.number n) (is_passed found.1.stage) found.4).0 in
    rw same at within

-- the word of a reuse is there, and comes before what may go then
hands_place : (list : LimboList) → AreBelow list → (word bits : ℕ) (now : LimboList) → HandsOn list word bits now → (64 * word < list.limit) × ((n : ℕ) → may_go now.entries n ≡ true → word < n / 64)
hands_place list is word bits now hands =
    let some = hands.first.some in
    let below = number_below list is some.0 some.2 in
    let place : some.0 / 64 ≡ word = some.1 in
    (omega (arith, below, place), λ n may. beyond n (left_later list.entries word n (rw hands.rest at may)))
  where
    beyond : (n : ℕ) → (may_go list.entries n ≡ true) × (eqb (n / 64) word ≡ false) → word < n / 64
    beyond n (may, apart) = elim (cases_eq (n / 64) word) [
      | inl same ↦ absurd (let e : true ≡ false = rw (eq-eqb (n / 64) word same) at apart in cc)
      | inr other ↦ let least = hands.first.first n may in omega (arith, least, other)
    ]

none_then : (list now : LimboList) → HandsNothingOn list now → HasNone now.entries
none_then list now hands = rw hands.rest hands.none

-- A limbo whose numbers are numbers that there are.
pub record IsWhole (limits : Limits) (limbo : Limbo) : Type 0 where
  pub rows : AreBelow limbo.rows
  pub pids : AreBelow limbo.pids
  pub lists : IsLimboOf limits limbo

pub whole : (limits : Limits) (limbo : Limbo) → IsLimboList limbo.rows → IsLimboList limbo.pids → IsLimboOf limits limbo → IsWhole limits limbo
whole limits limbo rows pids lists = record { rows = are_below limbo.rows rows; pids = are_below limbo.pids pids; lists = lists }

-- a state that is sound, with fewer steps left than this
pub record Follow (limits : Limits) (limbo : Limbo) (next : State) (few : ℕ) : Type 0 where
  pub lists : IsLimboOf limits limbo
  pub sound : IsSoundState limits next
  pub order : IsInOrder next limbo
  pub fewer : steps_left limits next < few

fewer_still : {limits : Limits} {after : Limbo} {next : State} {few more : ℕ} → Follow limits after next few → few ≤ more → Follow limits after next more
fewer_still h le = record { lists = h.lists; sound = h.sound; order = h.order; fewer = omega (arith, le) }

module _ (limits : Limits) where
  restaged_whole : (f : Stage → Stage) (limbo : Limbo) → IsWhole limits limbo → IsWhole limits (all_restaged f limbo)
  restaged_whole f limbo whole = record {
    rows = restaged_below f limbo.rows whole.rows;
    pids = restaged_below f limbo.pids whole.pids;
    lists = record { rows = whole.lists.rows; pids = whole.lists.pids };
  }

  compared_whole : (least : ℕ) (limbo : Limbo) → IsWhole limits limbo → IsWhole limits (after_comparing limits least limbo)
  compared_whole least limbo whole = elim limits.is_large as
      (λ b. IsWhole limits (if b then firsts_restaged MOST_COMPARED (compared_with (least ∷ [])) limbo else all_restaged (compared_with (least ∷ [])) limbo)) [
        | true ↦ record {
          rows = first_below MOST_COMPARED (compared_with (least ∷ [])) limbo.rows whole.rows;
          pids = first_below MOST_COMPARED (compared_with (least ∷ [])) limbo.pids whole.pids;
          lists = record { rows = whole.lists.rows; pids = whole.lists.pids };
        }
        | false ↦ restaged_whole (compared_with (least ∷ [])) limbo whole
      ]

  -- the first reuse
  frees_follow : (limbo after : Limbo) (next : State) → IsWhole limits limbo → Frees limbo (Some next) after → Follow limits after next (limits.rows / 64 + limits.pids / 64 + 1)
  frees_follow limbo after (state.Reuse (Rows word bits)) whole frees =
      let place = hands_place limbo.rows whole.rows word bits after.rows frees.0 in
      record {
        lists = record { rows = rw frees.0.rest whole.lists.rows; pids = rw frees.1 whole.lists.pids };
        sound = rw whole.lists.rows at place.0;
        order = place.1;
        fewer = omega arith;
      }
  frees_follow limbo after (state.Reuse (Pids word bits)) whole frees =
      let place = hands_place limbo.pids whole.pids word bits after.pids frees.1 in
      record {
        lists = record { rows = rw frees.0.rest whole.lists.rows; pids = rw frees.1.rest whole.lists.pids };
        sound = rw whole.lists.pids at place.0;
        order = (none_then limbo.rows after.rows frees.0, place.1);
        fewer = omega arith;
      }
  frees_follow limbo after next whole frees = absurd frees

  -- the next one has a later word
  later_follow : (limbo after : Limbo) (reuse : Reuse) (next : State) → IsWhole limits limbo → HasPlace limits reuse → ComesFirst reuse limbo
      → Frees limbo (Some next) after → Follow limits after next (reuses_left limits reuse)
  later_follow limbo after (Rows word bits) (state.Reuse (Rows word' bits')) whole place first frees =
      let h = frees_follow limbo after (state.Reuse (Rows word' bits')) whole frees in
      let some = frees.0.first.some in
      let beyond : word < some.0 / 64 = first some.0 some.2 in
      let at : some.0 / 64 ≡ word' = some.1 in
      record { lists = h.lists; sound = h.sound; order = h.order; fewer = omega (arith, beyond, at, place) }
  later_follow limbo after (Rows word bits) (state.Reuse (Pids word' bits')) whole place first frees =
      let h = frees_follow limbo after (state.Reuse (Pids word' bits')) whole frees in
      record { lists = h.lists; sound = h.sound; order = h.order; fewer = omega (arith, place) }
  later_follow limbo after (Pids word bits) (state.Reuse (Rows word' bits')) whole place first frees =
      let some = frees.0.first.some in
      absurd (let e : true ≡ false = sym some.2 ∙ first.0 some.0 in cc)
  later_follow limbo after (Pids word bits) (state.Reuse (Pids word' bits')) whole place first frees =
      let h = frees_follow limbo after (state.Reuse (Pids word' bits')) whole frees in
      let some = frees.1.first.some in
      let beyond : word < some.0 / 64 = first.1 some.0 some.2 in
      let at : some.0 / 64 ≡ word' = some.1 in
      record { lists = h.lists; sound = h.sound; order = h.order; fewer = omega (arith, beyond, at, place) }
  later_follow limbo after reuse next whole place first frees = absurd frees

  pub compares_follow : (announced : Announced) (limbo after : Limbo) (next : State) → IsWhole limits limbo → announced.count < limits.actors
      → Compares limits announced limbo (Some next) after → Follow limits after next (suc (limits.rows / 64 + limits.pids / 64 + limits.actors - suc announced.count))
  compares_follow announced limbo after next whole short compares = elim (cases_lt (suc announced.count) limits.actors) [
    | inl more ↦ reads next (compares.reads more) more
    | inr all ↦
        fewer_still (frees_follow (after_comparing limits announced.least limbo) after next (compared_whole announced.least limbo whole) (compares.frees all)) (omega (arith, short))
  ]
    where
      reads : (next : State) → (Some next ≡ Some (state.Announce announced)) × (after ≡ limbo) → suc announced.count < limits.actors
          → Follow limits after next (suc (limits.rows / 64 + limits.pids / 64 + limits.actors - suc announced.count))
      reads (state.Announce others) is more =
          let same : others ≡ announced = cc (is.0) in
          rw (is.1, same) (record { lists = whole.lists; sound = more; order = tt; fewer = omega arith })
      reads next is more = absurd (cc (is.0))

  stamps_follow : (epoch : ℕ) (limbo after : Limbo) (next : State) → IsWhole limits limbo → Stamps limits epoch limbo (Some next) after → Follow limits after next (most_steps limits)
  stamps_follow epoch limbo after next whole stamps = elim (cases_lt epoch (2 ^ 62)) [
    | inl below ↦ retires next (stamps.retires below) below
    | inr last ↦
        fewer_still
        (compares_follow none_yet (all_restaged (stamped_by epoch) limbo) after next (restaged_whole (stamped_by epoch) limbo whole) limits.allowed.some_actor (stamps.last last))
        (omega arith)
  ]
    where
      retires : (next : State) → (Some next ≡ Some (state.Retire epoch)) × (after ≡ all_restaged (stamped_by epoch) limbo) → epoch < 2 ^ 62 → Follow limits after next (most_steps limits)
      retires (state.Retire other) is below =
          let same : other ≡ epoch = cc (is.0) in
          rw (is.1, same) (record { lists = record { rows = whole.lists.rows; pids = whole.lists.pids }; sound = below; order = tt; fewer = omega arith })
      retires next is below = absurd (cc (is.0))

  moves_follow : (old next : State) (told : Answer Record) (limbo after : Limbo) → IsWhole limits limbo → IsSoundState limits old → IsInOrder old limbo
      → Moves limits old limbo told (Some next) after → Follow limits after next (steps_left limits old)
  moves_follow state.Epoch next (answer.Number n) limbo after whole sound order moves = stamps_follow n limbo after next whole moves
  moves_follow (state.Retire epoch) next told limbo after whole sound order moves =
      fewer_still (compares_follow none_yet limbo after next whole limits.allowed.some_actor moves) (omega arith)
  moves_follow (state.Announce announced) next (answer.Number n) limbo after whole sound order moves =
      fewer_still (compares_follow (with_next n announced) limbo after next whole sound moves) (omega (arith, sound))
  moves_follow (state.Reuse reuse) next told limbo after whole sound order moves = later_follow limbo after reuse next whole sound order moves
  moves_follow old next told limbo after whole sound order moves = absurd moves

-- a sweep that goes on
pub goes_on : (old new : Sweep) (told : Answer Record) (limbo after : Limbo) → IsLimboList limbo.rows → IsLimboList limbo.pids
    → IsSoundState old.limits old.state → IsSoundSweep old limbo → IsSameSweep old new → Moves old.limits old.state limbo told (Some new.state) after
    → IsSoundState new.limits new.state × IsSoundSweep new after × (steps_left old.limits new.state < steps_left old.limits old.state)
goes_on old new told limbo after rows pids sound swept same moves =
    let h = moves_follow old.limits old.state new.state told limbo after (whole old.limits limbo rows pids swept.lists) sound swept.order moves in
    (rw same.limits h.sound, record { lists = rw same.limits h.lists; order = h.order }, h.fewer)

-- ---- the begin
-- what has a stamp may be freed where there is no other actor
none_first : (e : Entry) (rest : List Entry) → is_unstamped e.stage ≡ false → HasNone (record e { stage = compared_with (0 ∷ []) e.stage } ∷ rest) → ⊥
none_first e rest stamped none = at_first e.stage refl
  where
    may : is_passed (compared_with (0 ∷ []) e.stage) ≡ true → may_go (record e { stage = compared_with (0 ∷ []) e.stage } ∷ rest) e.number ≡ true
    may passed = rw (eq-eqb e.number e.number refl, passed) refl

    at_first : (stage : Stage) → e.stage ≡ stage → ⊥
    at_first Unstamped is = (let h : true ≡ false = rw is at stamped in cc)
    at_first (Stamped stamp) is = (let h : true ≡ false = sym (may (ap (λ s. is_passed (compared_with (0 ∷ []) s)) is)) ∙ none e.number in cc)
    at_first (Passed stamp) is = (let h : true ≡ false = sym (may (ap (λ s. is_passed (compared_with (0 ∷ []) s)) is)) ∙ none e.number in cc)

none_left : (large : Bool) (entries : List Entry) → list_any (λ (entry : Entry). is_unstamped entry.stage) entries ≡ false
    → HasNone (if large then first_restaged MOST_COMPARED (compared_with (0 ∷ [])) entries else with_stages (compared_with (0 ∷ [])) entries) → entries ≡ []
none_left large [] stamped none = refl
none_left true (e ∷ es) stamped none = absurd (none_first e _ (or_parts (is_unstamped e.stage) (list_any (λ (entry : Entry). is_unstamped entry.stage) es) stamped).0 none)
none_left false (e ∷ es) stamped none = absurd (none_first e _ (or_parts (is_unstamped e.stage) (list_any (λ (entry : Entry). is_unstamped entry.stage) es) stamped).0 none)

none_compared : (limits : Limits) (limbo : Limbo) → list_any (λ (entry : Entry). is_unstamped entry.stage) limbo.rows.entries ≡ false
    → list_any (λ (entry : Entry). is_unstamped entry.stage) limbo.pids.entries ≡ false → HasNone (after_comparing limits 0 limbo).rows.entries
    → HasNone (after_comparing limits 0 limbo).pids.entries → IsEmpty limbo
none_compared limits limbo rows pids = elim limits.is_large as (λ b. HasNone
    (if b then firsts_restaged MOST_COMPARED (compared_with (0 ∷ [])) limbo else all_restaged (compared_with (0 ∷ [])) limbo).rows.entries → HasNone
    (if b then firsts_restaged MOST_COMPARED (compared_with (0 ∷ [])) limbo else all_restaged (compared_with (0 ∷ [])) limbo).pids.entries → IsEmpty limbo) [
      | true ↦ λ no_rows no_pids. (none_left true limbo.rows.entries rows no_rows, none_left true limbo.pids.entries pids no_pids)
      | false ↦ λ no_rows no_pids. (none_left false limbo.rows.entries rows no_rows, none_left false limbo.pids.entries pids no_pids)
    ]

-- a sweep that doesn't begin has nothing to sweep
pub begins_not : (limits : Limits) (limbo after : Limbo) → BeginsSweep limits limbo None after → IsEmpty limbo
begins_not limits limbo after begins = elim (no_item limbo) [
  | inl empty ↦ empty
  | inr some ↦ elim (cases_Bool (has_unstamped limbo)) [
    | inl unstamped ↦ absurd (cc ((begins.epoch unstamped).0))
    | inr stamped ↦ elim (cases_lt 1 limits.actors) [
      | inl others ↦ absurd (cc (((begins.stamped some stamped).reads others).0))
      | inr alone ↦
          let frees = (begins.stamped some stamped).frees alone in
          let both = or_parts (list_any (λ (entry : Entry). is_unstamped entry.stage) limbo.rows.entries) (list_any (λ (entry : Entry). is_unstamped entry.stage) limbo.pids.entries) stamped in
          none_compared limits limbo both.0 both.1 frees.0.none frees.1.none
    ]
  ]
]

-- one that begins is sound
pub begins_sound : (limits : Limits) (actor : ℕ) (limbo after : Limbo) (first : State) → IsLimboList limbo.rows → IsLimboList limbo.pids
    → IsLimboOf limits limbo → BeginsSweep limits limbo (Some first) after
    → IsSoundState limits first × IsSoundSweep (record { limits = limits; actor = actor; state = first }) after
begins_sound limits actor limbo after first rows pids lists begins = elim (no_item limbo) [
  | inl empty ↦ absurd (cc ((begins.empty empty).0))
  | inr some ↦ elim (cases_Bool (has_unstamped limbo)) [
    | inl unstamped ↦ reads first (begins.epoch unstamped)
    | inr stamped ↦
        let h = compares_follow limits none_yet limbo after first (whole limits limbo rows pids lists) limits.allowed.some_actor (begins.stamped some stamped) in
        (h.sound, record { lists = h.lists; order = h.order })
  ]
]
  where
    reads : (first : State) → (Some first ≡ Some state.Epoch) × (after ≡ limbo) → IsSoundState limits first × IsSoundSweep (record { limits = limits; actor = actor; state = first }) after
    reads state.Epoch is = (tt, record { lists = rw is.1 lists; order = tt })
    reads first is = absurd (cc (is.0))
