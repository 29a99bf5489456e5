-- What writes make of the memory that a table has.
use Rattle.std.proofs.Common.{◌≡◌, ◌≢◌, Option, Some, None, ◌<◌, ◌≤◌, ◌*◌, ◌/◌, ◌%◌, ◌^◌, ◌⊎◌, ℕ, zero, suc, max, List, length, set, get_or, Bool, true, false}
use Rattle.std.proofs.Common.{eqb, eq-eqb, ne_eqb, inl, inr, refl, ap, arith, ◌∙◌, get_or-set_same, get_or-set_other}
use Rattle.std.specs.Prelude.{slice_index, if◌then◌else◌, bit_and, bit_or, not, ◌||◌, ◌&&◌, nat_le, nat_lt}
use Rattle.std.specs.Int.{bit_at, bit_not, w64}
use Rattle.std.proofs.lemmas.Bool.{cases_lt}
use Rattle.std.proofs.lemmas.Bool.Decides.{nat_tests}
use Rattle.std.proofs.lemmas.List.{get_or_default, get_or-replicate, get_or_past, length-replicate}
use Rattle.std.proofs.Math.ListN.{length-set, replicate}
use Rattle.std.proofs.lemmas.Nat.{one_shl, pow_pos}
use Rattle.std.proofs.lemmas.Nat.Bits.{and_pow, bit_at_clear_same, bit_at_clear_other, bit_at_mask_below, bit_at_mask_inside, bit_at_ones, bit_at_or, bit_at-lt, bit_at-zero}
use Rattle.tree_limits.specs.declared.limits.Limits.{Limits}
use Rattle.base_page.specs.Pages.{empty_leaf}
use Rattle.deltas.specs.declared.record.Record.{Record}
use Rattle.deltas.specs.declared.record.Record.TheVariants.{Base}
use Rattle.deltas.specs.Memory.{opening, replaced_at}
use Rattle.tree_limits.specs.Words.{is_among}
use Rattle.core_memory.specs.Tables.{CoreTable, is_bit_set, memory_in}

same_or_not : (a b : ℕ) → (a ≡ b) ⊎ (a ≢ b)
same_or_not a b = elim (cases_lt a b) [
  | inl lt ↦ inr (λ same. absurd (omega arith))
  | inr ge ↦ elim (cases_lt b a) [ inl lt ↦ inr (λ same. absurd (omega arith)) | inr le ↦ inl (omega arith) ]
]

le_true : (a b : ℕ) → a ≤ b → nat_le a b ≡ true
le_true a b h = grind (arith, nat_tests)

le_false : (a b : ℕ) → b < a → nat_le a b ≡ false
le_false a b h = grind (arith, nat_tests)

lt_true : (a b : ℕ) → a < b → nat_lt a b ≡ true
lt_true a b h = grind (arith, nat_tests)

lt_false : (a b : ℕ) → b ≤ a → nat_lt a b ≡ false
lt_false a b h = grind (arith, nat_tests)

by_bit : (b : ℕ) → b < 2 → (P : ℕ → Type 0) → P 0 → P 1 → P b
by_bit zero below P none some = none
by_bit (suc zero) below P none some = some
by_bit (suc (suc b)) below P none some = absurd (omega arith)

-- what stands by place, after one write
pub put : {X : Type 0} (xs : List X) (default : X) (n : ℕ) (x : X) → n < length xs → (λ (k : ℕ). get_or (set xs n x) k default) ≡ replaced_at n x (λ k. get_or xs k default)
put xs default n x within = λ d k. at k d
  where
    at : (k : ℕ) → get_or (set xs n x) k default ≡ replaced_at n x (λ k. get_or xs k default) k
    at k = elim (same_or_not k n) [
      | inl same ↦ rw (same, get_or-set_same xs n x default within, eq-eqb n n refl) refl
      | inr other ↦ rw (ne_eqb k n other) (get_or-set_other xs n k x default other)
    ]

-- the number that stands at a place, by whatever default
pub read_is : (words : List ℕ) (word read : ℕ) → word < length words → read ≡ get_or words word read → read ≡ slice_index words word
read_is words word read within is = is ∙ get_or_default words word read 0 within

-- the test of one bit
pub tested : (bits i : ℕ) → not (eqb (bit_and bits (2 ^ i)) 0) ≡ eqb (bit_at bits i) 1
tested bits i = rw (and_pow bits i) (by_bit (bit_at bits i) (bit_at-lt bits i) (λ b. not (eqb (b * 2 ^ i) 0) ≡ eqb b 1) (ap not (eq-eqb (0 * 2 ^ i) 0 (omega arith))) some)
  where
    some : not (eqb (1 * 2 ^ i) 0) ≡ true
    some = let positive : 0 < 2 ^ i = pow_pos i in let apart : 1 * 2 ^ i ≢ 0 = λ none. absurd (omega arith) in ap not (ne_eqb (1 * 2 ^ i) 0 apart)

-- the word with that bit alone
abbrev bit_of : ℕ → ℕ
bit_of n = 1 * 2 ^ (n % 64) % 2 ^ 64

pub tested_in : (words : List ℕ) (word n : ℕ) → word ≡ n / 64 → not (eqb (bit_and (slice_index words word) (bit_of n)) 0) ≡ is_bit_set words n
tested_in words word n is =
    let below : n % 64 < 64 = omega arith in
    rw (is, one_shl (n % 64) 64 below) (tested (slice_index words (n / 64)) (n % 64))

-- one bit cleared
pub taken : (words : List ℕ) (word n : ℕ) → word ≡ n / 64 → n < 64 * length words
    → is_bit_set (set words word (bit_and (slice_index words word) (bit_not w64 (bit_of n)))) ≡ replaced_at n false (is_bit_set words)
taken words word n is within = λ d k. at k d
  where
    cleared : List ℕ
    cleared = set words word (bit_and (slice_index words word) (bit_not w64 (bit_of n)))

    below : n % 64 < 64
    below = omega arith

    lt : word < length words
    lt = omega arith

    own : slice_index cleared word ≡ bit_and (slice_index words word) (bit_not w64 (bit_of n))
    own = get_or-set_same words word _ 0 lt

    at : (k : ℕ) → is_bit_set cleared k ≡ replaced_at n false (is_bit_set words) k
    at k = elim (same_or_not k n) [
      | inl same ↦ rw (same, eq-eqb n n refl, ← is, own, bit_at_clear_same w64 (slice_index words word) (n % 64) below) refl
      | inr other ↦ rw (ne_eqb k n other) (ap (λ b. eqb b 1) (elim (same_or_not (k / 64) word) [
        | inl same ↦
            let apart : k % 64 ≢ n % 64 = λ i. other (omega arith) in
            let small : k % 64 < 64 = omega arith in
            rw (same, own) (bit_at_clear_other w64 (slice_index words word) (n % 64) below (k % 64) small apart)
        | inr apart ↦ ap (λ w. bit_at w (k % 64)) (get_or-set_other words word (k / 64) _ 0 apart)
      ]))
    ]

-- bits of one word set
pub freed : (words : List ℕ) (word more : ℕ) → word < length words → is_bit_set (set words word (bit_or (slice_index words word) more)) ≡ (λ n. is_bit_set words n || is_among word more n)
freed words word more within = λ d k. at k d
  where
    set_in : List ℕ
    set_in = set words word (bit_or (slice_index words word) more)

    either : (old new : ℕ) → old < 2 → new < 2 → eqb (max old new) 1 ≡ (eqb old 1 || (true && eqb new 1))
    either old new o n =
        by_bit old o (λ b. eqb (max b new) 1 ≡ (eqb b 1 || (true && eqb new 1))) (by_bit new n (λ b. eqb (max 0 b) 1 ≡ (false || (true && eqb b 1))) refl refl)
        (by_bit new n (λ b. eqb (max 1 b) 1 ≡ (true || (true && eqb b 1))) refl refl)

    or_false : (f : Bool) → f ≡ (f || false)
    or_false true = refl
    or_false false = refl

    at : (k : ℕ) → is_bit_set set_in k ≡ (is_bit_set words k || is_among word more k)
    at k = elim (same_or_not (k / 64) word) [
      | inl same ↦ rw
          (same, get_or-set_same words word (bit_or (slice_index words word) more) 0 within, eq-eqb word word refl, bit_at_or (slice_index words word) more (k % 64))
          (either _ _ (bit_at-lt (slice_index words word) (k % 64)) (bit_at-lt more (k % 64)))
      | inr other ↦ rw (get_or-set_other words word (k / 64) (bit_or (slice_index words word) more) 0 other, ne_eqb (k / 64) word other)
          (or_false (eqb (bit_at (slice_index words (k / 64)) (k % 64)) 1))
    ]

-- all numbers from 2 on, up to the count, are free
pub opened : (count : ℕ) (words : List ℕ) → words ≡ replicate (count / 64) 18446744073709551615 → count % 64 ≡ 0 → 64 ≤ count
    → is_bit_set (set words 0 18446744073709551612) ≡ (λ n. nat_le 2 n && nat_lt n count)
opened count words all whole some = λ d n. at n d
  where
    long : length words ≡ count / 64
    long = ap length all ∙ length-replicate (count / 64) 18446744073709551615

    low : (i : ℕ) → i < 64 → eqb (bit_at 18446744073709551612 i) 1 ≡ nat_le 2 i
    low i below = elim (cases_lt i 2) [
      | inl lt ↦ rw (le_false 2 i lt, bit_at_mask_below 2 64 i lt) refl
      | inr ge ↦ rw (le_true 2 i ge, bit_at_mask_inside 2 64 i ge below) refl
    ]

    and_true : (f : Bool) → f ≡ (f && true)
    and_true true = refl
    and_true false = refl

    and_false : (f : Bool) → false ≡ (f && false)
    and_false true = refl
    and_false false = refl

    at : (n : ℕ) → is_bit_set (set words 0 18446744073709551612) n ≡ (nat_le 2 n && nat_lt n count)
    at n = elim (cases_lt n count) [
      | inl lt ↦ rw (lt_true n count lt) (inside n lt (same_or_not (n / 64) 0) ∙ and_true (nat_le 2 n))
      | inr ge ↦
          let none : slice_index (set words 0 18446744073709551612) (n / 64) ≡ 0 = get_or_past _ (n / 64) 0 (rw (length-set, long) (omega arith)) in
          rw (lt_false n count ge, none, bit_at-zero (n % 64)) (and_false (nat_le 2 n))
    ]
      where
        inside : (n : ℕ) → n < count → (n / 64 ≡ 0) ⊎ (n / 64 ≢ 0) → is_bit_set (set words 0 18446744073709551612) n ≡ nat_le 2 n
        inside n lt (inl first) =
            let there : 0 < length words = rw long (omega arith) in
            let small : n < 64 = omega arith in
            let place : n % 64 ≡ n = omega arith in
            rw (first, get_or-set_same words 0 18446744073709551612 0 there, place) (low n small)
        inside n lt (inr other) =
            let below : n % 64 < 64 = omega arith in
            let within : n / 64 < count / 64 = omega arith in
            let word : slice_index (set words 0 18446744073709551612) (n / 64) ≡ 18446744073709551615 = get_or-set_other words 0 (n / 64) 18446744073709551612 0
            other ∙ rw all (get_or-replicate (count / 64) (n / 64) 18446744073709551615 0 within) in
            rw (word, bit_at_ones 64 (n % 64) below, le_true 2 n (omega arith)) refl

-- a record placed
pub with_record : (limits : Limits) (slots : List ℕ) (rows : List (Option Record)) (pid_bits row_bits : List ℕ) (epoch : ℕ) (announced : List ℕ) (place row : ℕ) (content : Record)
    → place ≡ row → row < length rows
    → memory_in (record { limits = limits; slots = slots; rows = set rows place (Some content); pid_bits = pid_bits; row_bits = row_bits; epoch = epoch; announced = announced })
    ≡ record
    (memory_in (record { limits = limits; slots = slots; rows = rows; pid_bits = pid_bits; row_bits = row_bits; epoch = epoch; announced = announced }))
    { rows = replaced_at row (Some content) (λ r. get_or rows r None) }
with_record limits slots rows pid_bits row_bits epoch announced place row content is within =
    rw is (ap (λ (f : ℕ → Option Record). record
    (memory_in (record { limits = limits; slots = slots; rows = rows; pid_bits = pid_bits; row_bits = row_bits; epoch = epoch; announced = announced }))
    { rows = f }) (put rows None row (Some content) within))

-- other words of free bits
module _ (limits : Limits) (slots : List ℕ) (rows : List (Option Record)) (epoch : ℕ) (announced words others : List ℕ) (free : ℕ → Bool) (is : is_bit_set words ≡ free) where
  abbrev table_of : List ℕ → List ℕ → CoreTable
  table_of pid_bits row_bits = record { limits = limits; slots = slots; rows = rows; pid_bits = pid_bits; row_bits = row_bits; epoch = epoch; announced = announced }

  pub with_pids : memory_in (record { limits = limits; slots = slots; rows = rows; pid_bits = words; row_bits = others; epoch = epoch; announced = announced })
      ≡ record (memory_in (table_of words others)) { free_pids = free }
  with_pids = ap (λ (f : ℕ → Bool). record (memory_in (table_of words others)) { free_pids = f }) is

  pub with_rows : memory_in (record { limits = limits; slots = slots; rows = rows; pid_bits = others; row_bits = words; epoch = epoch; announced = announced })
      ≡ record (memory_in (table_of others words)) { free_rows = free }
  with_rows = ap (λ (f : ℕ → Bool). record (memory_in (table_of others words)) { free_rows = f }) is

-- The table that a memory opens with.
pub opening_is : (limits : Limits) (slots : List ℕ) (rows : List (Option Record)) (pid_bits row_bits announced : List ℕ)
    → slots ≡ set (set (replicate limits.pids 0) 0 1) 1 1 → rows ≡ set (replicate limits.rows None) 1 (Some (Base empty_leaf))
    → is_bit_set pid_bits ≡ (λ n. nat_le 2 n && nat_lt n limits.pids) → is_bit_set row_bits ≡ (λ n. nat_le 2 n && nat_lt n limits.rows) → announced ≡ replicate limits.actors 0
    → memory_in (record { limits = limits; slots = slots; rows = rows; pid_bits = pid_bits; row_bits = row_bits; epoch = limits.epoch; announced = announced }) ≡ opening limits
opening_is limits slots rows pid_bits row_bits announced linked placed pids frees outside =
    λ d. record { slots = λ pid. in_slot pid d; rows = λ row. in_row row d; free_pids = pids d; free_rows = frees d; epoch = limits.epoch; announced = λ actor. by_actor actor d }
  where
    none_there : {X : Type 0} (xs : List X) (count : ℕ) (x : X) → xs ≡ replicate count x → (k : ℕ) → get_or xs k x ≡ x
    none_there xs count x all k = rw all (elim (cases_lt k count) [
      | inl lt ↦ get_or-replicate count k x x lt
      | inr ge ↦ get_or_past (replicate count x) k x (rw length-replicate ge)
    ])

    zeros : List ℕ
    zeros = replicate limits.pids 0

    in_slot : (pid : ℕ) → slice_index slots pid ≡ (if nat_le pid 1 then 1 else 0)
    in_slot pid =
        let some : 64 ≤ limits.pids = limits.allowed.some_pids in
        let first : 0 < length zeros = rw length-replicate (omega arith) in
        let second : 1 < length (set zeros 0 1) = rw (length-set, length-replicate) (omega arith) in
        rw linked (elim (same_or_not pid 1) [
          | inl one ↦ rw (one, get_or-set_same (set zeros 0 1) 1 1 0 second) refl
          | inr other ↦ get_or-set_other (set zeros 0 1) 1 pid 1 0 other ∙ elim (same_or_not pid 0) [
            | inl none ↦ rw (none, get_or-set_same zeros 0 1 0 first) refl
            | inr apart ↦ get_or-set_other zeros 0 pid 1 0 apart ∙ rw (le_false pid 1 (omega arith)) (none_there zeros limits.pids 0 refl pid)
          ]
        ])

    empty : List (Option Record)
    empty = replicate limits.rows None

    in_row : (row : ℕ) → get_or rows row None ≡ (if eqb row 1 then Some (Base empty_leaf) else None)
    in_row row =
        let some : 64 ≤ limits.rows = limits.allowed.some_rows in
        let second : 1 < length empty = rw length-replicate (omega arith) in
        rw placed (elim (same_or_not row 1) [
          | inl one ↦ rw (one, get_or-set_same empty 1 (Some (Base empty_leaf)) None second) refl
          | inr other ↦ rw (ne_eqb row 1 other) (get_or-set_other empty 1 row (Some (Base empty_leaf)) None other ∙ none_there empty limits.rows None refl row)
        ])

    by_actor : (actor : ℕ) → slice_index announced actor ≡ 0
    by_actor actor = none_there announced limits.actors 0 outside actor
