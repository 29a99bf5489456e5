-- A consolidation whose old row is freed by the rule, and the same without the look at the other actor, which breaks it.
use Rattle.std.specs.Prelude.{nat_le, take, ◌/◌, ◌%◌, ◌==◌, ◌||◌, not}
use Rattle.linearization.proofs.Words.{bit_at, Contains, nat_tests, slice_get, Some, ◌≡◌, ◌<◌, ℕ, zero, suc, List, [], ◌∷◌, Bool, true, false, None, Option, refl, subst, arith, inl, lit<}
use Rattle.linearization.proofs.Words.{StepOf, Answer, Record, IsRun, memory_at, TakesStep, IsChainFrom-unique, IsRun-from_steps}
use Rattle.std.proofs.lemmas.Bool.{eqb-true, eq-eqb, ne_eqb}
use Rattle.bw_model.specs.declared.command.Reply.{Reply}
use Rattle.bw_model.specs.declared.step.Step.TheVariants.{Epoch, Announce, Leave, Retire, ReuseRows, ReusePids}
use Rattle.bw_model.specs.declared.step.Answer.TheVariants.{Done}
use Rattle.traces.specs.declared.trace.Entry.TheVariants.{Step}
use Rattle.traces.specs.chain.Chains.{IsChainFrom, IsOnChain, chain_rows}
use Rattle.tree_limits.specs.Words.{is_among}
use Rattle.linearization.specs.Reuse.{IsFreed, IsFreedByRule, UnlinksRow, HandsRow}
use Rattle.linearization.specs.Examples.{small, opening_leaf, row_reuse, hurried_reuse}
use Rattle.linearization.proofs.Listed.{EachAt-get, all_below-at, and_left, and_right, stands_at}
use Rattle.linearization.proofs.runs.Kinds.{frees_pids, frees_rows, may_place, one_reuse, reads_announced}

pub is_run : IsRun small row_reuse
is_run = IsRun-from_steps small row_reuse (
  (lit< tt, refl),
  (
    (refl, tt, refl),
    (
      (refl, tt, refl),
      (
        (refl, tt, refl),
        (
          (refl, tt, (opening_leaf, refl, refl)),
          (
            (refl, tt, refl),
            (
              (refl, may_place (take 6 row_reuse) 2 refl refl refl, refl),
              ((refl, tt, refl), ((refl, tt, refl), ((refl, tt, refl), ((refl, tt, refl), ((refl, tt, refl), ((refl, tt, refl), tt)))))),
            ),
          ),
        ),
      ),
    ),
  ),
)

-- after the exchange PID 1 alone has a chain, from row 2
linked : (pid : ℕ) → 0 < pid → 0 < (memory_at small row_reuse 8).slots pid → (memory_at small row_reuse 8).slots pid ≡ 2
linked zero page h = absurd (omega arith)
linked (suc zero) page h = refl
linked (suc (suc p)) page h = absurd (none p h)
  where
    other : (p : ℕ) → (suc (suc p) == 1) ≡ false
    other p = ne_eqb (suc (suc p)) 1 (λ e. omega arith)

    above : (p : ℕ) → nat_le (suc (suc p)) 1 ≡ false
    above p = grind (arith, nat_tests)

    none : (p : ℕ) → 0 < (memory_at small row_reuse 8).slots (suc (suc p)) → ⊥
    none p h = let z : 0 < 0 = rw (other p, above p) at h in omega arith

old_row : ¬ IsOnChain (memory_at small row_reuse 8) 1
old_row (pid, chain, is, among) = let two = linked pid is.page is.linked in
    from_two chain (rw two at is.records) (rw two at among)
  where
    not_two : Contains {X = ℕ} (2 ∷ []) 1 → ⊥
    not_two (zero, h, e) = cc
    not_two (suc k, h, e) = omega arith

    from_two : (chain : List Record) → IsChainFrom (memory_at small row_reuse 8).rows 2 chain → Contains (chain_rows 2 chain) 1 → ⊥
    from_two chain is among = not_two (rw (IsChainFrom-unique (memory_at small row_reuse 8).rows 2 chain (opening_leaf ∷ []) is (refl, refl)) at among)

unlinks : UnlinksRow small row_reuse 0 1 7
unlinks = (1, 1, 2, opening_leaf ∷ [], (None, refl), record { page = lit< tt; linked = lit< tt; records = (refl, refl) }, (0, lit< tt, refl), old_row)

-- bit 1 of the first word is row 1
row_one : (row : ℕ) → is_among 0 2 row ≡ true → row ≡ 1
row_one row e =
    let high : row / 64 ≡ 0 = eqb-true (row / 64) 0 (and_left (row / 64 == 0) (bit_at 2 (row % 64) == 1) e) in
    let within : row % 64 < 64 = omega arith in
    let low : row % 64 ≡ 1 = only (row % 64) within (eqb-true (bit_at 2 (row % 64)) 1 (and_right (row / 64 == 0) (bit_at 2 (row % 64) == 1) e)) in
    omega arith
  where
    implied : (a b : Bool) → (not a || b) ≡ true → a ≡ true → b ≡ true
    implied true b h e = h
    implied false b h e = cc

    only : (k : ℕ) → k < 64 → bit_at 2 k ≡ 1 → k ≡ 1
    only k h e = eqb-true k 1 (implied (bit_at 2 k == 1) (k == 1) (all_below-at (λ j. not (bit_at 2 j == 1) || (j == 1)) 64 refl k h) (eq-eqb (bit_at 2 k) 1 e))

frees : (n actor word bits : ℕ) (answer : Answer Record) → TakesStep row_reuse n actor (ReuseRows word bits) answer → (n ≡ 12) × (actor ≡ 0) × (word ≡ 0) × (bits ≡ 2)
frees n actor word bits answer is =
    let last : n ≡ 12 = stands_at frees_rows row_reuse n _ is.1 refl in
    let one = one_reuse (rw last at is.1) in (last, one.0, one.1, one.2)

kept : (between other : ℕ) (step : StepOf Record) (answer : Answer Record) → 7 < between → between < 12 → TakesStep row_reuse between other step answer → ¬ HandsRow 1 step answer
kept between other step answer low high is = EachAt-get (λ k e. 7 < k → k < 12 → (a : ℕ) (s : StepOf Record) (b : Answer Record) (r : Option Reply) → e ≡ Step a s b r → ¬ HandsRow 1 s b) row_reuse (
  λ low high a s b r e. absurd (omega arith),
  (
    λ low high a s b r e. absurd (omega arith),
    (
      λ low high a s b r e. absurd (omega arith),
      (
        λ low high a s b r e. absurd (omega arith),
        (
          λ low high a s b r e. absurd (omega arith),
          (
            λ low high a s b r e. absurd (omega arith),
            (
              λ low high a s b r e. absurd (omega arith),
              (
                λ low high a s b r e. absurd (omega arith),
                (
                  λ low high a s b r e. hands Leave s b (λ h. h) cc,
                  (
                    λ low high a s b r e. hands Epoch s b (λ h. h) cc,
                    (
                      λ low high a s b r e. hands (Retire 1) s b (λ h. h) cc,
                      (λ low high a s b r e. hands (Announce 1) s b (λ h. h) cc, (λ low high a s b r e. absurd (omega arith), tt)),
                    ),
                  ),
                ),
              ),
            ),
          ),
        ),
      ),
    ),
  ),
)
    between _ is.1 low high other step answer is.0 refl
  where
    hands : (s t : StepOf Record) (b : Answer Record) → ¬ HandsRow 1 s b → s ≡ t → ¬ HandsRow 1 t b
    hands s t b h e = rw e at h

freed : IsFreed small row_reuse 0 12 (UnlinksRow small row_reuse 0 1) (HandsRow 1)
freed = record {
  unlinked_at = 7;
  stamped_at = 9;
  stamp = 1;
  unlinked = unlinks;
  stamp_after = lit< tt;
  stamped = (None, refl);
  stamp_before = lit< tt;
  passed = λ other below differs. (11, 0, lit< tt, lit< tt, let second : other ≡ 1 = omega arith in rw second (None, refl), inl refl);
  kept = kept;
}

pub is_freed_by_rule : IsFreedByRule small row_reuse
is_freed_by_rule = record {
  pids = λ n actor word bits pid answer is among. absurd (no_pids n actor word bits answer is);
  rows = λ n actor word bits row answer is among. let which = frees n actor word bits answer is in
      let one : row ≡ 1 = row_one row (rw which.3 at (rw which.2 at among)) in
      rw (which.0, which.1, one) freed;
}
  where
    no_pids : (n actor word bits : ℕ) (answer : Answer Record) → TakesStep row_reuse n actor (ReusePids word bits) answer → ⊥
    no_pids n actor word bits answer is = stands_at frees_pids row_reuse n _ is.1 refl

-- without the look at actor 1's announced epoch the row is not freed by the rule
pub unruly : ¬ IsFreedByRule small hurried_reuse
unruly rule = let freed = rule.rows 11 0 0 2 1 Done (None, refl) refl in
    let other = freed.passed 1 (lit< tt) (λ e. cc) in
    stands_at reads_announced hurried_reuse other.0 _ other.4.1 refl
