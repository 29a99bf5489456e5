-- What each step of a sweep leaves of the agreement between a limbo and what is known.
use Rattle.sweep.proofs.Words.{◌≡◌, ◌≢◌, ◌<◌, ◌≤◌, inl, inr, ℕ, zero, suc, [], ◌∷◌, Option, Some, None, Bool, true, false, refl, arith, ◌||◌, if◌then◌else◌, and_parts, cases_Bool, cases_lt}
use Rattle.sweep.proofs.Words.{eq-eqb, or_right, or_cases, Limits, replaced_at, Stage, Unstamped, Stamped, Passed, compared_with, stamped_by, Announced, none_yet, with_next, Agrees}
use Rattle.std.proofs.Common.{◌==◌, IsTrue}
use Rattle.std.specs.Prelude.{ltb, IfSome}
use Rattle.std.proofs.lemmas.Bool.{lt-ltb, ltb-false, ltb-true}
use Rattle.traces.specs.discipline.Discipline.{IsPassed}
use Rattle.traces.specs.discipline.Knowledge as known
use Rattle.traces.specs.discipline.Knowledge.{passed_by, with_stamp}
use Rattle.epochs.specs.Reclamation.{has_passed, may_be_freed}
use Rattle.sweep.specs.Announced.{least_of}
use Rattle.sweep.specs.Kept.{HavePassed, IsReadStamp}
use Rattle.sweep.specs.Sweeps.{HaveTold, Told, other_at}
use Rattle.sweep.proofs.Stages.{after}

read_before : (last : Option ℕ) (t epoch : ℕ) → IfSome last (λ before. before ≤ t) → IsReadStamp last epoch → epoch ≤ t
read_before None t epoch later was = absurd was
read_before (Some before) t epoch later was = omega (arith, later, was)

-- the epoch was read, and is the stamp of what has none
pub stamped_agrees : (limits : Limits) (actor t : ℕ) (last : Option ℕ) (stage : Option Stage) (limbo : known.LimboMark) → IfSome last (λ before. before ≤ t)
    → Agrees limits actor last stage limbo → Agrees limits actor (Some t) (after (stamped_by t) stage) (with_stamp t limbo)
stamped_agrees limits actor t last None known.Absent later h = tt
stamped_agrees limits actor t last (Some Unstamped) known.Unstamped later h = (omega arith, omega arith)
stamped_agrees limits actor t last (Some Unstamped) (known.Stamped epoch passed) later h = (read_before last t epoch later h, read_before last t epoch later h)
stamped_agrees limits actor t last (Some (Stamped stamp)) (known.Stamped epoch passed) later h = (read_before last t epoch later h.0, h.1)
stamped_agrees limits actor t last (Some (Passed stamp)) (known.Stamped epoch passed) later h = (read_before last t epoch later h.0, h.1, h.2)
stamped_agrees limits actor t last stage limbo later h = absurd h

-- the epoch was read outside of a sweep
pub read_agrees : (limits : Limits) (actor t : ℕ) (last : Option ℕ) (stage : Option Stage) (limbo : known.LimboMark) → IfSome last (λ before. before ≤ t)
    → Agrees limits actor last stage limbo → Agrees limits actor (Some t) stage (with_stamp t limbo)
read_agrees limits actor t last None known.Absent later h = tt
read_agrees limits actor t last (Some Unstamped) known.Unstamped later h = omega arith
read_agrees limits actor t last (Some Unstamped) (known.Stamped epoch passed) later h = read_before last t epoch later h
read_agrees limits actor t last (Some (Stamped stamp)) (known.Stamped epoch passed) later h = (read_before last t epoch later h.0, h.1)
read_agrees limits actor t last (Some (Passed stamp)) (known.Stamped epoch passed) later h = (read_before last t epoch later h.0, h.1, h.2)
read_agrees limits actor t last stage limbo later h = absurd h

-- nobody is known to have announced anything, and all is stamped
pub stamped_told : (actor t : ℕ) (stage : Option Stage) (limbo : known.LimboMark) → Told actor none_yet (after (stamped_by t) stage) limbo
stamped_told actor t (Some Unstamped) (known.Stamped epoch passed) = λ has place lt. absurd (omega (arith, lt))
stamped_told actor t (Some (Stamped stamp)) (known.Stamped epoch passed) = λ has place lt. absurd (omega (arith, lt))
stamped_told actor t (Some (Passed stamp)) (known.Stamped epoch passed) = λ has place lt. absurd (omega (arith, lt))
stamped_told actor t stage limbo = tt

-- ---- an announced epoch was read
-- those that are known to have passed, then
abbrev passed_then : ℕ → ℕ → ℕ → (ℕ → Bool) → ℕ → Bool
passed_then other n epoch passed = if (n == 0) || ltb epoch n then replaced_at other true passed else passed

still_passed : (other n epoch : ℕ) (passed : ℕ → Bool) (a : ℕ) → IsTrue (passed a) → IsTrue (passed_then other n epoch passed a)
still_passed other n epoch passed a h = elim ((n == 0) || ltb epoch n) as (λ b. IsTrue ((if b then replaced_at other true passed else passed) a)) [
  | false ↦ h
  | true ↦ elim (a == other) as (λ b. IsTrue (if b then true else passed a)) [
    | true ↦ refl
    | false ↦ h
  ]
]

now_passed : (other n epoch : ℕ) (passed : ℕ → Bool) → IsTrue (has_passed epoch n) → IsTrue (passed_then other n epoch passed other)
now_passed other n epoch passed h = rw (h, eq-eqb other other refl) refl

passes_below : (epoch stamp n : ℕ) → epoch ≤ stamp → IsTrue (has_passed stamp n) → IsTrue (has_passed epoch n)
passes_below epoch stamp n low h = elim (or_cases (n == 0) (ltb stamp n) h) [
  | inl none ↦ rw none refl
  | inr above ↦ or_right (n == 0) (ltb epoch n) (lt-ltb epoch n (let far = ltb-true stamp n above in omega (arith, low, far)))
]

pub announced_agrees : (limits : Limits) (actor other n : ℕ) (last : Option ℕ) (stage : Option Stage) (limbo : known.LimboMark)
    → Agrees limits actor last stage limbo → Agrees limits actor last stage (passed_by other n limbo)
announced_agrees limits actor other n last None known.Absent h = tt
announced_agrees limits actor other n last (Some Unstamped) known.Unstamped h = tt
announced_agrees limits actor other n last (Some Unstamped) (known.Stamped epoch passed) h = h
announced_agrees limits actor other n last (Some (Stamped stamp)) (known.Stamped epoch passed) h = h
announced_agrees limits actor other n last (Some (Passed stamp)) (known.Stamped epoch passed) h = (h.0, h.1, λ a below apart. still_passed other n epoch passed a (h.2 a below apart))
announced_agrees limits actor other n last stage limbo h = absurd h

-- what is above an epoch that lets the stamp pass lets it pass
above_passed : (stamp one other : ℕ) → (other == 0) ≡ false → other ≤ one → IsTrue (has_passed stamp other) → IsTrue (has_passed stamp one)
above_passed stamp one other some above has = elim (or_cases (other == 0) (ltb stamp other) has) [
  | inl none ↦ absurd (let h : true ≡ false = rw none at some in cc)
  | inr far ↦ or_right (one == 0) (ltb stamp one) (lt-ltb stamp one (let below = ltb-true stamp other far in omega (arith, below, above)))
]

-- what the least epoch lets pass both do
both_passed : (stamp one other : ℕ) → IsTrue (has_passed stamp (least_of one other)) → IsTrue (has_passed stamp one) × IsTrue (has_passed stamp other)
both_passed stamp one other has = elim (cases_Bool (one == 0)) [
  | inl none ↦ (rw none refl, rw none at has)
  | inr some ↦ elim (cases_Bool (other == 0)) [
    | inl none ↦ (rw (some, none) at has, rw none refl)
    | inr there ↦ elim (cases_Bool (ltb other one)) [
      | inl below ↦
          let least : IsTrue (has_passed stamp other) = rw (some, there, below) at has in
          (above_passed stamp one other there (let lt = ltb-true other one below in omega (arith, lt)) least, least)
      | inr above ↦ (let least : IsTrue (has_passed stamp one) = rw (some, there, above) at has in (least, above_passed stamp other one some (ltb-false other one above) least))
    ]
  ]
]

more_told : (actor n : ℕ) (announced : Announced) (stamp epoch : ℕ) (passed : ℕ → Bool) → epoch ≤ stamp → HaveTold actor announced stamp passed
    → HaveTold actor (with_next n announced) stamp (passed_then (other_at actor announced.count) n epoch passed)
more_told actor n announced stamp epoch passed low h has place lt =
    let both = both_passed stamp announced.least n has in
    elim (cases_lt place announced.count) [
      | inl before ↦ still_passed (other_at actor announced.count) n epoch passed (other_at actor place) (h both.0 place before)
      | inr after ↦
          let last : place ≡ announced.count = omega (arith, after, lt) in
          rw last (now_passed (other_at actor announced.count) n epoch passed (passes_below epoch stamp n low both.1))
    ]

pub announced_told : (limits : Limits) (actor n : ℕ) (announced : Announced) (last : Option ℕ) (stage : Option Stage) (limbo : known.LimboMark)
    → Agrees limits actor last stage limbo → Told actor announced stage limbo
    → Told actor (with_next n announced) stage (passed_by (other_at actor announced.count) n limbo)
announced_told limits actor n announced last (Some Unstamped) limbo h told = absurd told
announced_told limits actor n announced last (Some (Stamped stamp)) (known.Stamped epoch passed) h told = more_told actor n announced stamp epoch passed h.1 told
announced_told limits actor n announced last (Some (Passed stamp)) (known.Stamped epoch passed) h told = more_told actor n announced stamp epoch passed h.1 told
announced_told limits actor n announced last stage limbo h told = tt

-- ---- all other actors have been read
-- each other actor has a place
place_of : (limits : Limits) (actor other : ℕ) → actor < limits.actors → other < limits.actors → other ≢ actor → (place : ℕ) × (suc place < limits.actors) × (other_at actor place ≡ other)
place_of limits actor other inside below apart = elim (cases_lt other actor) [
  | inl before ↦ (other, omega (arith, before, inside), rw (lt-ltb other actor before) refl)
  | inr after ↦ beyond other below apart after
]
  where
    beyond : (other : ℕ) → other < limits.actors → other ≢ actor → actor ≤ other → (place : ℕ) × (suc place < limits.actors) × (other_at actor place ≡ other)
    beyond zero below apart after = absurd (apart (omega (arith, after)))
    beyond (suc place) below apart after = (
      place,
      below,
      (elim (cases_Bool (ltb place actor)) [
        | inl lt ↦ absurd (apart (let under = ltb-true place actor lt in omega (arith, under, after)))
        | inr ge ↦ rw ge refl
      ]),
    )

all_passed : (limits : Limits) (actor stamp : ℕ) (announced : Announced) (passed : ℕ → Bool) → actor < limits.actors → limits.actors ≤ suc announced.count
    → may_be_freed stamp (announced.least ∷ []) ≡ true → HaveTold actor announced stamp passed → HavePassed limits actor passed
all_passed limits actor stamp announced passed inside all free told other below apart =
    let at = place_of limits actor other inside below apart in
    let lt : at.0 < announced.count = omega (arith, all) in
    rw at.2 at (told (and_parts (has_passed stamp announced.least) true free).0 at.0 lt)

freed_agrees : (limits : Limits) (actor : ℕ) (last : Option ℕ) (announced : Announced) (stamp epoch : ℕ) (passed : ℕ → Bool) → actor < limits.actors
    → limits.actors ≤ suc announced.count → IsReadStamp last epoch → epoch ≤ stamp → HaveTold actor announced stamp passed
    → Agrees limits actor last (Some (if may_be_freed stamp (announced.least ∷ []) then Passed stamp else Stamped stamp)) (known.Stamped epoch passed)
freed_agrees limits actor last announced stamp epoch passed inside all was low told = elim (may_be_freed stamp (announced.least ∷ [])) as
    (λ b. may_be_freed stamp (announced.least ∷ []) ≡ b → Agrees limits actor last (Some (if b then Passed stamp else Stamped stamp)) (known.Stamped epoch passed)) [
      | true ↦ λ e. (was, low, all_passed limits actor stamp announced passed inside all e told)
      | false ↦ λ e. (was, low)
    ] refl

pub compared_agrees : (limits : Limits) (actor : ℕ) (last : Option ℕ) (announced : Announced) (stage : Option Stage) (limbo : known.LimboMark)
    → actor < limits.actors → limits.actors ≤ suc announced.count → Agrees limits actor last stage limbo → Told actor announced stage limbo
    → Agrees limits actor last (after (compared_with (announced.least ∷ [])) stage) limbo
compared_agrees limits actor last announced None limbo inside all h told = h
compared_agrees limits actor last announced (Some Unstamped) limbo inside all h told = h
compared_agrees limits actor last announced (Some (Stamped stamp)) (known.Stamped epoch passed) inside all h told = freed_agrees limits actor last announced stamp epoch passed inside all h.0 h.1 told
compared_agrees limits actor last announced (Some (Passed stamp)) (known.Stamped epoch passed) inside all h told = freed_agrees limits actor last announced stamp epoch passed inside all h.0 h.1 told
compared_agrees limits actor last announced stage limbo inside all h told = absurd h

-- what may be freed each other actor has passed
pub may_free : (limits : Limits) (actor stamp : ℕ) (last : Option ℕ) (limbo : known.LimboMark) → Agrees limits actor last (Some (Passed stamp)) limbo → IsPassed limits actor limbo
may_free limits actor stamp last known.Absent h = absurd h
may_free limits actor stamp last known.Unstamped h = absurd h
may_free limits actor stamp last (known.Stamped epoch passed) h = record { epoch = epoch; passed = passed; stamped = refl; all = h.2 }
