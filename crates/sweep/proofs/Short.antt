-- A sweep of a large tree is short.
use Rattle.sweep.proofs.Words.{◌≡◌, ◌<◌, ◌≤◌, ◌/◌, ◌^◌, ◌∙◌, inl, inr, refl, ap, arith, ℕ, suc, List, [], ◌∷◌, drop, take, eqb, Option, Some, None, Bool, true, false, ◌&&◌, if◌then◌else◌}
use Rattle.sweep.proofs.Words.{and_parts, cases_Bool, cases_lt, eq-eqb, eqb-true, or_cases, or_parts, Limits, Answer, Record, Entry, Stage, Unstamped, Rows, Pids, Limbo, LimboList}
use Rattle.sweep.proofs.Words.{all_restaged, compared_with, first_restaged, is_passed, with_stages, stamped_by, HandsOn, may_go, without, Announced, none_yet, with_next, State, MOST_COMPARED}
use Rattle.sweep.proofs.Words.{BeginsSweep, Compares, Frees, Moves, Stamps, after_comparing, has_unstamped, IsSoundState}
use Rattle.std.proofs.Common.{◌+◌, ◌*◌, ◌-◌, ◌++◌}
use Rattle.std.specs.Prelude.{not}
use Rattle.std.specs.List.{filter}
use Rattle.bw_model.specs.declared.step.Answer.TheVariants as answer
use Rattle.epochs.specs.declared.item.Item.{Item}
use Rattle.epochs.specs.declared.item.Item.TheVariants.{Row, Pid}
use Rattle.epochs.specs.Limbo.{with_item}
use Rattle.epochs.specs.Words.{HandsNothingOn, HasNone}
use Rattle.sweep.specs.declared.sweep.State.TheVariants as state
use Rattle.sweep.specs.Short.{GoesShort, IsClear, count_free, free_now, most_short, short_left}
use Rattle.sweep.proofs.Stages.{no_item}

count_append : (xs ys : List Entry) → count_free (xs ++ ys) ≡ count_free xs + count_free ys
count_append [] ys = omega arith
count_append (x ∷ xs) ys =
    let rest = count_append xs ys in
    elim (is_passed x.stage) as (λ b. (if b then suc (count_free (xs ++ ys)) else count_free (xs ++ ys)) ≡ (if b then suc (count_free xs) else count_free xs) + count_free ys) [
      | true ↦ omega (arith, rest)
      | false ↦ rest
    ]

-- the others of a list of which none may be freed
none_dropped : (most : ℕ) (xs : List Entry) → count_free xs ≡ 0 → count_free (drop most xs) ≡ 0
none_dropped (suc most) (x ∷ xs) none = none_dropped most xs (rest_none (is_passed x.stage) none)
  where
    rest_none : (b : Bool) → (if b then suc (count_free xs) else count_free xs) ≡ 0 → count_free xs ≡ 0
    rest_none true e = absurd (omega (arith, e))
    rest_none false e = e
none_dropped most xs none = none

-- the first entries
few_restaged : (f : Stage → Stage) (most : ℕ) (xs : List Entry) → count_free (with_stages f (take most xs)) ≤ most
few_restaged f (suc most) (x ∷ xs) =
    let rest = few_restaged f most xs in
    elim (is_passed (f x.stage)) as (λ b. (if b then suc (count_free (with_stages f (take most xs))) else count_free (with_stages f (take most xs))) ≤ suc most) [
      | true ↦ omega (arith, rest)
      | false ↦ omega (arith, rest)
    ]
few_restaged f most xs = omega arith

first_few : (f : Stage → Stage) (most : ℕ) (xs : List Entry) → count_free xs ≡ 0 → count_free (first_restaged most f xs) ≤ most
first_few f most xs none =
    let both = count_append (with_stages f (take most xs)) (drop most xs) in
    let others = none_dropped most xs none in
    let few = few_restaged f most xs in
    omega (arith, both, others, few)

-- a stamp lets nothing be freed
stamp_keeps : (epoch : ℕ) (stage : Stage) → is_passed (stamped_by epoch stage) ≡ is_passed stage
stamp_keeps epoch Unstamped = refl
stamp_keeps epoch stage = refl

same_ifs : (b c : Bool) (m n : ℕ) → b ≡ c → m ≡ n → (if b then suc m else m) ≡ (if c then suc n else n)
same_ifs true true m n e same = ap suc same
same_ifs false false m n e same = same
same_ifs true false m n e same = cc
same_ifs false true m n e same = cc

stamped_same : (epoch : ℕ) (xs : List Entry) → count_free (with_stages (stamped_by epoch) xs) ≡ count_free xs
stamped_same epoch [] = refl
stamped_same epoch (x ∷ xs) = same_ifs (is_passed (stamped_by epoch x.stage)) (is_passed x.stage) _ _ (stamp_keeps epoch x.stage) (stamped_same epoch xs)

-- what is handed on is free no more
filter_few : (keeps : Entry → Bool) (xs : List Entry) → count_free (filter keeps xs) ≤ count_free xs
filter_few keeps [] = omega arith
filter_few keeps (x ∷ xs) = elim (keeps x) as (λ b. count_free (if b then x ∷ filter keeps xs else filter keeps xs) ≤ count_free (x ∷ xs)) [
  | true ↦ one_more (is_passed x.stage) (filter_few keeps xs)
  | false ↦ none_more (is_passed x.stage) (filter_few keeps xs)
]
  where
    one_more : (b : Bool) → count_free (filter keeps xs) ≤ count_free xs
        → (if b then suc (count_free (filter keeps xs)) else count_free (filter keeps xs)) ≤ (if b then suc (count_free xs) else count_free xs)
    one_more true few = omega (arith, few)
    one_more false few = few

    none_more : (b : Bool) → count_free (filter keeps xs) ≤ count_free xs → count_free (filter keeps xs) ≤ (if b then suc (count_free xs) else count_free xs)
    none_more true few = omega (arith, few)
    none_more false few = few

is_so : (b : Bool) → not b ≡ false → b ≡ true
is_so true e = refl
is_so false e = cc

fewer : (word n : ℕ) (xs : List Entry) → n / 64 ≡ word → may_go xs n ≡ true → count_free (without word xs) < count_free xs
fewer word n [] is may = cc
fewer word n (x ∷ xs) is may =
    elim (not (eqb (x.number / 64) word && is_passed x.stage)) as (λ b. not (eqb (x.number / 64) word && is_passed x.stage) ≡ b
    → count_free (if b then x ∷ without word xs else without word xs) < count_free (x ∷ xs)) [
      | true ↦ λ kept. one_more (is_passed x.stage) (fewer word n xs is (others kept))
      | false ↦ λ gone. gone_now (is_passed x.stage) (and_parts (eqb (x.number / 64) word) (is_passed x.stage) (is_so (eqb (x.number / 64) word && is_passed x.stage) gone)).1
          (filter_few (λ (entry : Entry). not (eqb (entry.number / 64) word && is_passed entry.stage)) xs)
    ] refl
  where
    one_more : (b : Bool) → count_free (without word xs) < count_free xs
        → (if b then suc (count_free (without word xs)) else count_free (without word xs)) < (if b then suc (count_free xs) else count_free xs)
    one_more true few = omega (arith, few)
    one_more false few = few

    gone_now : (b : Bool) → b ≡ true → count_free (without word xs) ≤ count_free xs → count_free (without word xs) < (if b then suc (count_free xs) else count_free xs)
    gone_now true passed few = omega (arith, few)
    gone_now false passed few = cc

    others : not (eqb (x.number / 64) word && is_passed x.stage) ≡ true → may_go xs n ≡ true
    others kept = elim (or_cases (eqb x.number n && is_passed x.stage) (may_go xs n) may) [
      | inl first ↦
          let both = and_parts (eqb x.number n) (is_passed x.stage) first in
          let at : x.number / 64 ≡ word = ap (λ m. m / 64) (eqb-true x.number n both.0) ∙ is in
          absurd (let clash : not (true && true) ≡ true = rw (eq-eqb (x.number / 64) word at, both.1) at kept in cc)
      | inr rest ↦ rest
    ]

hands_fewer : (list now : LimboList) (word bits : ℕ) → HandsOn list word bits now → count_free now.entries < count_free list.entries
hands_fewer list now word bits hands = rw hands.rest (fewer word hands.first.some.0 list.entries hands.first.some.1 hands.first.some.2)

none_free : (xs : List Entry) → HasNone xs → count_free xs ≡ 0
none_free [] none = refl
none_free (x ∷ xs) none =
    let at = (or_parts (eqb x.number x.number && is_passed x.stage) (may_go xs x.number) (none x.number)).0 in
    let out : is_passed x.stage ≡ false = rw (eq-eqb x.number x.number refl) at at in
    let rest : count_free xs ≡ 0 = none_free xs (λ n. (or_parts (eqb x.number n && is_passed x.stage) (may_go xs n) (none n)).1) in
    rw out rest

hands_none : (list now : LimboList) → HandsNothingOn list now → count_free now.entries ≡ 0
hands_none list now hands = rw hands.rest (none_free list.entries hands.none)

-- what a sweep frees next
frees_short : (limits : Limits) (limbo after : Limbo) (next : Option State) (bound : ℕ) → free_now limbo < bound → Frees limbo next after → GoesShort limits bound next after
frees_short limits limbo after None bound few frees = let rows = hands_none limbo.rows after.rows frees.0 in let pids = hands_none limbo.pids after.pids frees.1 in omega (arith, rows, pids)
frees_short limits limbo after (Some (state.Reuse (Rows word bits))) bound few frees =
    let rows = hands_fewer limbo.rows after.rows word bits frees.0 in
    let pids : count_free after.pids.entries ≡ count_free limbo.pids.entries = ap (λ (list : LimboList). count_free list.entries) frees.1 in
    (tt, omega (arith, rows, pids, few))
frees_short limits limbo after (Some (state.Reuse (Pids word bits))) bound few frees =
    let rows : count_free after.rows.entries ≡ count_free limbo.rows.entries = ap (λ (list : LimboList). count_free list.entries) frees.0.rest in
    let pids = hands_fewer limbo.pids after.pids word bits frees.1 in
    (tt, omega (arith, rows, pids, few))
frees_short limits limbo after next bound few frees = absurd frees

module _ (limits : Limits) (large : limits.is_large ≡ true) where
  -- of what is compared few may be freed
  compared_few : (least : ℕ) (limbo : Limbo) → free_now limbo ≡ 0 → free_now (after_comparing limits least limbo) ≤ 2 * MOST_COMPARED
  compared_few least limbo none =
      let rows = first_few (compared_with (least ∷ [])) MOST_COMPARED limbo.rows.entries (omega (arith, none)) in
      let pids = first_few (compared_with (least ∷ [])) MOST_COMPARED limbo.pids.entries (omega (arith, none)) in
      rw large (omega (arith, rows, pids))

  pub compares_short : (announced : Announced) (limbo after : Limbo) (next : Option State) → free_now limbo ≡ 0 → announced.count < limits.actors → Compares limits announced limbo next after
      → GoesShort limits (suc (limits.actors + 2 * MOST_COMPARED - suc announced.count)) next after
  compares_short announced limbo after next none short compares = elim (cases_lt (suc announced.count) limits.actors) [
    | inl more ↦ reads next (compares.reads more)
    | inr all ↦
        let few = compared_few announced.least limbo none in
        frees_short limits (after_comparing limits announced.least limbo) after next (suc (limits.actors + 2 * MOST_COMPARED - suc announced.count)) (omega (arith, few, short)) (compares.frees all)
  ]
    where
      reads : (next : Option State) → (next ≡ Some (state.Announce announced)) × (after ≡ limbo) → GoesShort limits (suc (limits.actors + 2 * MOST_COMPARED - suc announced.count)) next after
      reads next is = rw (is.0, is.1) (none, omega arith)

  stamps_short : (epoch : ℕ) (limbo after : Limbo) (next : Option State) → free_now limbo ≡ 0 → Stamps limits epoch limbo next after → GoesShort limits (most_short limits) next after
  stamps_short epoch limbo after next none stamps = elim (cases_lt epoch (2 ^ 62)) [
    | inl below ↦ (let is = stamps.retires below in rw (is.0, is.1) (still, omega arith))
    | inr last ↦ further next (compares_short none_yet (all_restaged (stamped_by epoch) limbo) after next still limits.allowed.some_actor (stamps.last last))
  ]
    where
      still : free_now (all_restaged (stamped_by epoch) limbo) ≡ 0
      still = let rows = stamped_same epoch limbo.rows.entries in let pids = stamped_same epoch limbo.pids.entries in omega (arith, rows, pids, none)

      further : (next : Option State) → GoesShort limits (suc (limits.actors + 2 * MOST_COMPARED - 1)) next after → GoesShort limits (most_short limits) next after
      further None h = h
      further (Some next) h = (h.0, omega arith)

  -- an answer leads on to fewer steps, or to the end
  pub moves_short : (old : State) (next : Option State) (told : Answer Record) (limbo after : Limbo) → IsSoundState limits old → IsClear old limbo → Moves limits old limbo told next after
      → GoesShort limits (short_left limits old limbo) next after
  moves_short state.Epoch next (answer.Number n) limbo after sound clear moves = stamps_short n limbo after next clear moves
  moves_short (state.Retire epoch) next told limbo after sound clear moves = further next (compares_short none_yet limbo after next clear limits.allowed.some_actor moves)
    where
      further : (next : Option State) → GoesShort limits (suc (limits.actors + 2 * MOST_COMPARED - 1)) next after → GoesShort limits (limits.actors + 2 * MOST_COMPARED) next after
      further None h = h
      further (Some next) h = (h.0, omega arith)
  moves_short (state.Announce announced) next (answer.Number n) limbo after sound clear moves =
      further next (compares_short (with_next n announced) limbo after next clear (omega (arith, sound)) moves)
    where
      further : (next : Option State) → GoesShort limits (suc (limits.actors + 2 * MOST_COMPARED - suc (suc announced.count))) next after
          → GoesShort limits (limits.actors + 2 * MOST_COMPARED - suc announced.count) next after
      further None h = h
      further (Some next) h = (h.0, omega (arith, sound))
  moves_short (state.Reuse reuse) next told limbo after sound clear moves = frees_short limits limbo after next (suc (free_now limbo)) (omega arith) moves
  moves_short old next told limbo after sound clear moves = absurd moves

  -- and so does the begin
  pub begins_short : (limbo after : Limbo) (first : State) → free_now limbo ≡ 0 → BeginsSweep limits limbo (Some first) after → GoesShort limits (suc (most_short limits)) (Some first) after
  begins_short limbo after first none begins = elim (no_item limbo) [
    | inl empty ↦ absurd (cc ((begins.empty empty).0))
    | inr some ↦ elim (cases_Bool (has_unstamped limbo)) [
      | inl unstamped ↦ reads (Some first) (begins.epoch unstamped)
      | inr stamped ↦ (let h = compares_short none_yet limbo after (Some first) none limits.allowed.some_actor (begins.stamped some stamped) in (h.0, omega arith))
    ]
  ]
    where
      reads : (next : Option State) → (next ≡ Some state.Epoch) × (after ≡ limbo) → GoesShort limits (suc (most_short limits)) next after
      reads next is = rw (is.0, is.1) (none, omega arith)

-- what comes into limbo has no stamp
pub comes_free : (item : Item) (limbo : Limbo) → free_now (with_item item limbo) ≡ free_now limbo
comes_free (Row row) limbo = let more = count_append limbo.rows.entries (record { number = row; stage = Unstamped } ∷ []) in omega (arith, more)
comes_free (Pid pid) limbo = let more = count_append limbo.pids.entries (record { number = pid; stage = Unstamped } ∷ []) in omega (arith, more)

pub begins_few : (limits : Limits) (limbo after : Limbo) (first : State) → limits.is_large ≡ true → free_now limbo ≡ 0 → BeginsSweep limits limbo (Some first) after
    → IsClear first after × (short_left limits first after ≤ most_short limits)
begins_few limits limbo after first large none begins = let h = begins_short limits large limbo after first none begins in (h.0, omega arith)
