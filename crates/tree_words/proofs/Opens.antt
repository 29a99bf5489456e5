-- The opening words are those of the opening memory.
use Rattle.std.proofs.Common.{◌≡◌, ◌≢◌, ◌⊎◌, ◌<◌, ◌≤◌, ◌+◌, ◌*◌, ◌-◌, ◌/◌, ◌%◌, ◌++◌, ◌∷◌, ℕ, zero, suc, List, length, set, get_or, replicate, inl, inr, refl}
use Rattle.std.proofs.Common.{sym, ap, subst, arith, ◌∙◌, get_or-set_same, get_or-set_other, length-set, ne_eqb}
use Rattle.std.specs.Prelude.{if◌then◌else◌, nat_le, nat_lt, ◌&&◌, Bool, true, false, Some}
use Rattle.std.specs.Int.{bit_at}
use Rattle.std.proofs.lemmas.Bool.{cases_lt, le-leb, lt-leb, lt-ltb}
use Rattle.std.proofs.lemmas.Bool.Decides.{eqb_tells}
use Rattle.std.proofs.lemmas.List.{get_or-replicate, length-replicate}
use Rattle.std.proofs.lemmas.Nat.Bits.{bit_at_mask_below, bit_at_mask_inside, bit_at_ones}
use Rattle.tree_limits.specs.declared.limits.Limits.{Limits}
use Rattle.base_page.specs.Pages.{empty_leaf}
use Rattle.deltas.specs.declared.record.Record.TheVariants.{Base}
use Rattle.deltas.specs.Memory.{opening}
use Rattle.traces.specs.trace.Steps.{IsWordOf}
use Rattle.record_slots.specs.Layout.{form_unit, no_bound, row_size, second_at, text_size}
use Rattle.record_slots.specs.Parts.{header_word}
use Rattle.record_slots.specs.Spelling.{words_left, words_of}
use Rattle.tree_words.specs.Layout.{slot_at, pid_bits_at, row_bits_at, epoch_at, announced_at, row_at, rows_width, width, width_of}
use Rattle.tree_words.proofs.RowWidths.{few_words, one_width, row_within, rows_apart, some_words}
use Rattle.compact_rows.specs.Layout.{compact_form, second_unit}
use Rattle.compact_rows.specs.Spelling.{compact_words}
use Rattle.tree_words.specs.Opening.{bound_at, bound_word, leaf_header, with_ones, with_free, opening_words}
use Rattle.tree_words.specs.Words.{used_in, words_in, AreWordsOf}

same_or_not : (a b : ℕ) → (a ≡ b) ⊎ (a ≢ b)
same_or_not a b = elim (eqb_tells a b) [ inl same ↦ inl same.1 | inr apart ↦ inr apart.1 ]

ones_length : (from n : ℕ) (ws : List ℕ) → length (with_ones from n ws) ≡ length ws
ones_length from zero ws = refl
ones_length from (suc n) ws = length-set (with_ones from n ws) (from + n) 18446744073709551615 ∙ ones_length from n ws

free_length : (from n : ℕ) (ws : List ℕ) → length (with_free from n ws) ≡ length ws
free_length from n ws = length-set (with_ones from n ws) from 18446744073709551612 ∙ ones_length from n ws

ones_inside : (from n : ℕ) (ws : List ℕ) (k : ℕ) → k < n → from + n ≤ length ws → get_or (with_ones from n ws) (from + k) 0 ≡ 18446744073709551615
ones_inside from zero ws k h l = absurd (omega arith)
ones_inside from (suc n) ws k h l = elim (same_or_not k n) [
  | inl same ↦ let len = ones_length from n ws in rw same (get_or-set_same (with_ones from n ws) (from + n) 18446744073709551615 0 (omega arith))
  | inr apart ↦ get_or-set_other (with_ones from n ws) (from + n) (from + k) 18446744073709551615 0 (λ e. apart (omega arith)) ∙ ones_inside from n ws k (omega arith) (omega arith)
]

ones_outside : (from n : ℕ) (ws : List ℕ) (i : ℕ) → ((k : ℕ) → k < n → i ≢ from + k) → get_or (with_ones from n ws) i 0 ≡ get_or ws i 0
ones_outside from zero ws i h = refl
ones_outside from (suc n) ws i h = get_or-set_other (with_ones from n ws) (from + n) i 18446744073709551615 0 (h n (omega arith)) ∙ ones_outside from n ws i (λ k lt. h k (omega arith))

free_outside : (from n : ℕ) (ws : List ℕ) (i : ℕ) → 0 < n → ((k : ℕ) → k < n → i ≢ from + k) → get_or (with_free from n ws) i 0 ≡ get_or ws i 0
free_outside from n ws i some h = get_or-set_other (with_ones from n ws) from i 18446744073709551612 0 (λ e. h 0 some (omega arith)) ∙ ones_outside from n ws i h

-- a word of numbers that are free from 2 on, up to the count
abbrev Free : ℕ → ℕ → ℕ → Type 0
Free count word bits = IsWordOf (λ n. nat_le 2 n && nat_lt n count) word bits

low_word : (count : ℕ) → 64 ≤ count → Free count 0 18446744073709551612
low_word count some = record { fits = omega arith; says = low }
  where
    low : (i : ℕ) → i < 64 → bit_at 18446744073709551612 i ≡ (if nat_le 2 (64 * 0 + i) && nat_lt (64 * 0 + i) count then 1 else 0)
    low i below = elim (cases_lt i 2) [
      | inl lt ↦ rw (lt-leb 2 (64 * 0 + i) (omega arith)) (bit_at_mask_below 2 64 i lt)
      | inr ge ↦ rw (le-leb 2 (64 * 0 + i) (omega arith), lt-ltb (64 * 0 + i) count (omega arith)) (bit_at_mask_inside 2 64 i ge below)
    ]

high_word : (count word : ℕ) → count % 64 ≡ 0 → 0 < word → word < count / 64 → Free count word 18446744073709551615
high_word count word whole some within = record {
  fits = omega arith;
  says = λ i below. rw (le-leb 2 (64 * word + i) (omega arith), lt-ltb (64 * word + i) count (omega arith)) (bit_at_ones 64 i below);
}

free_inside : (count from word : ℕ) (ws : List ℕ) → count % 64 ≡ 0 → 64 ≤ count → word < count / 64 → from + count / 64 ≤ length ws
    → Free count word (get_or (with_free from (count / 64) ws) (from + word) 0)
free_inside count from word ws whole some within long = let len = ones_length from (count / 64) ws in elim (same_or_not word 0) [
  | inl first ↦ subst (λ w. Free count w (get_or (with_free from (count / 64) ws) (from + w) 0)) (sym first)
      (subst (Free count 0)
      (sym (ap (λ i. get_or (with_free from (count / 64) ws) i 0) (omega arith) ∙ get_or-set_same (with_ones from (count / 64) ws) from 18446744073709551612 0 (omega arith)))
      (low_word count some))
  | inr other ↦ subst (Free count word)
      (sym (get_or-set_other (with_ones from (count / 64) ws) from (from + word) 18446744073709551612 0 (λ e. other (omega arith)) ∙ ones_inside from (count / 64) ws word within long))
      (high_word count word whole (omega arith) within)
]

-- the words of the row that opens: a header, the mark of no bound, and else 0
base_word : (j : ℕ) → j ≢ 0 → j ≢ second_at → get_or (words_of (Base empty_leaf)) j 0 ≡ 0
base_word zero a b = absurd (a refl)
base_word (suc j) a b = between (second_at - 1) j (replicate text_size 0 ++ replicate (words_left 0) 0) (λ e. b (ap suc e)) (both text_size (words_left 0))
  where
    all : (n i : ℕ) → ◌≡◌ {A = ℕ} (get_or (replicate n 0) i 0) 0
    all zero i = refl
    all (suc n) zero = refl
    all (suc n) (suc i) = all n i

    both : (n m i : ℕ) → ◌≡◌ {A = ℕ} (get_or (replicate n 0 ++ replicate m 0) i 0) 0
    both zero m i = all m i
    both (suc n) m zero = refl
    both (suc n) m (suc i) = both n m i

    between : (n i : ℕ) (behind : List ℕ) → i ≢ n → ((k : ℕ) → get_or behind k 0 ≡ 0) → get_or (replicate n 0 ++ no_bound ∷ behind) i 0 ≡ 0
    between zero zero behind other none = absurd (other refl)
    between zero (suc i) behind other none = none i
    between (suc n) zero behind other none = refl
    between (suc n) (suc i) behind other none = between n i behind (λ e. other (ap suc e)) none

module _ (limits : Limits) (header place bound : ℕ) (low : 0 < place) (high : place < width_of limits 1) (is_header : get_or (words_in limits (Some (Base empty_leaf))) 0 0 ≡ header)
    (is_bound : get_or (words_in limits (Some (Base empty_leaf))) place 0 ≡ bound)
    (is_zero : (j : ℕ) → j ≢ 0 → j ≢ place → j < row_size → j < used_in limits (Some (Base empty_leaf)) → get_or (words_in limits (Some (Base empty_leaf))) j 0 ≡ 0) where
  abbrev L0 : List ℕ
  L0 = replicate (width limits) 0

  abbrev L1 : List ℕ
  L1 = with_free (pid_bits_at limits 0) (limits.pids / 64) L0

  abbrev L2 : List ℕ
  L2 = with_free (row_bits_at limits 0) (limits.rows / 64) L1

  abbrev L3 : List ℕ
  L3 = set L2 (slot_at limits 0) 1

  abbrev L4 : List ℕ
  L4 = set L3 (slot_at limits 1) 1

  abbrev L5 : List ℕ
  L5 = set L4 epoch_at limits.epoch

  abbrev L6 : List ℕ
  L6 = set L5 (row_at limits 1 0) header

  abbrev L7 : List ℕ
  L7 = set L6 (row_at limits 1 place) bound

  some_pids : 64 ≤ limits.pids
  some_pids = limits.allowed.some_pids

  few_pids : limits.pids ≤ 4194304
  few_pids = limits.allowed.few_pids

  some_rows : 64 ≤ limits.rows
  some_rows = limits.allowed.some_rows

  few_rows : limits.rows ≤ 67108864
  few_rows = limits.allowed.few_rows

  -- the first leaf's row ends before the slots
  first_in : rows_width limits 1 + row_size ≤ rows_width limits limits.rows
  first_in = row_within limits 1 (let some = some_rows in omega arith)

  first_few : width_of limits 1 ≤ row_size
  first_few = few_words limits 1

  first_some : 8 ≤ width_of limits 1
  first_some = some_words limits 1

  l0 : length L0 ≡ width limits
  l0 = length-replicate (width limits) 0

  l1 : length L1 ≡ width limits
  l1 = free_length (pid_bits_at limits 0) (limits.pids / 64) L0 ∙ l0

  l2 : length L2 ≡ width limits
  l2 = free_length (row_bits_at limits 0) (limits.rows / 64) L1 ∙ l1

  l3 : length L3 ≡ width limits
  l3 = length-set L2 (slot_at limits 0) 1 ∙ l2

  l4 : length L4 ≡ width limits
  l4 = length-set L3 (slot_at limits 1) 1 ∙ l3

  l5 : length L5 ≡ width limits
  l5 = length-set L4 epoch_at limits.epoch ∙ l4

  l6 : length L6 ≡ width limits
  l6 = length-set L5 (row_at limits 1 0) header ∙ l5

  -- but for five words
  else_where : (i : ℕ) → i ≢ slot_at limits 0 → i ≢ slot_at limits 1 → i ≢ epoch_at → i ≢ row_at limits 1 0 → i ≢ row_at limits 1 place → get_or L7 i 0 ≡ get_or L2 i 0
  else_where i a b c d e =
      get_or-set_other L6 (row_at limits 1 place) i bound 0 e ∙ get_or-set_other L5 (row_at limits 1 0) i header 0 d
      ∙ get_or-set_other L4 epoch_at i limits.epoch 0 c ∙ get_or-set_other L3 (slot_at limits 1) i 1 0 b ∙ get_or-set_other L2 (slot_at limits 0) i 1 0 a

  zero_at : (i : ℕ) → i < width limits → get_or L0 i 0 ≡ 0
  zero_at i h = get_or-replicate (width limits) i 0 0 h

  nowhere : (i : ℕ) → i < width limits → i ≢ slot_at limits 0 → i ≢ slot_at limits 1 → i ≢ epoch_at → i ≢ row_at limits 1 0 → i ≢ row_at limits 1 place
      → ((k : ℕ) → k < limits.pids / 64 → i ≢ pid_bits_at limits k) → ((k : ℕ) → k < limits.rows / 64 → i ≢ row_bits_at limits k)
      → get_or L7 i 0 ≡ 0
  nowhere i h a b c d e f g = else_where i a b c d e ∙ free2 i h f g
    where
      free2 : (i : ℕ) → i < width limits → ((k : ℕ) → k < limits.pids / 64 → i ≢ pid_bits_at limits k) → ((k : ℕ) → k < limits.rows / 64 → i ≢ row_bits_at limits k) → get_or L2 i 0 ≡ 0
      free2 i h f g = let p = few_pids in let r = few_rows in let sp = some_pids in let sr = some_rows in
          free_outside (row_bits_at limits 0) (limits.rows / 64) L1 i (omega arith) (λ k lt e. g k lt (omega (arith, e))) ∙ free_outside (pid_bits_at limits 0)
          (limits.pids / 64) L0 i (omega arith) (λ k lt e. f k lt (omega (arith, e))) ∙ zero_at i h

  slot_word : (pid : ℕ) → pid < limits.pids → get_or L7 (slot_at limits pid) 0 ≡ (opening limits).slots pid
  slot_word pid lt = let sp = some_pids in let sr = some_rows in let fi = first_in in let ff = first_few in elim (same_or_not pid 0) [
    | inl zero_is ↦ rw zero_is (get_or-set_other L6 (row_at limits 1 place) (slot_at limits 0) bound 0 (λ e. absurd (omega arith)) ∙ get_or-set_other L5
        (row_at limits 1 0) (slot_at limits 0) header 0 (λ e. absurd (omega arith)) ∙ get_or-set_other L4 epoch_at (slot_at limits 0) limits.epoch 0
        (λ e. absurd (omega arith)) ∙ get_or-set_other L3 (slot_at limits 1) (slot_at limits 0) 1 0 (λ e. absurd (omega arith)) ∙ get_or-set_same L2
        (slot_at limits 0) 1 0 (let l = l2 in omega arith))
    | inr some ↦ elim (same_or_not pid 1) [
      | inl one_is ↦ rw one_is (get_or-set_other L6 (row_at limits 1 place) (slot_at limits 1) bound 0 (λ e. absurd (omega arith)) ∙ get_or-set_other L5
          (row_at limits 1 0) (slot_at limits 1) header 0 (λ e. absurd (omega arith)) ∙ get_or-set_other L4 epoch_at (slot_at limits 1) limits.epoch 0
          (λ e. absurd (omega arith)) ∙ get_or-set_same L3 (slot_at limits 1) 1 0 (let l = l3 in omega arith))
      | inr more ↦ rw (lt-leb pid 1 (omega arith)) (nowhere (slot_at limits pid) (omega arith) (λ e. some (omega arith)) (λ e. more (omega arith))
          (λ e. absurd (omega arith)) (λ e. absurd (omega arith)) (λ e. absurd (omega arith)) (λ k h e. absurd (omega arith)) (λ k h e. absurd (omega arith)))
    ]
  ]

  pid_word : (word : ℕ) → word < limits.pids / 64 → Free limits.pids word (get_or L7 (pid_bits_at limits word) 0)
  pid_word word lt = let sp = some_pids in let sr = some_rows in let fi = first_in in let ff = first_few in
      let there : get_or L7 (pid_bits_at limits word) 0 ≡ get_or L1 (pid_bits_at limits word) 0 =
      else_where (pid_bits_at limits word) (λ e. absurd (omega arith)) (λ e. absurd (omega arith)) (λ e. absurd (omega arith)) (λ e. absurd (omega arith)) (λ e. absurd (omega arith))
      ∙ free_outside (row_bits_at limits 0) (limits.rows / 64) L1 (pid_bits_at limits word) (omega arith) (λ k h e. absurd (omega arith)) in
      subst (Free limits.pids word) (sym there)
      (subst (λ i. Free limits.pids word (get_or L1 i 0)) (omega arith) (free_inside limits.pids (pid_bits_at limits 0) word L0 limits.allowed.whole_pids sp lt (let l = l0 in omega arith)))

  row_word : (word : ℕ) → word < limits.rows / 64 → Free limits.rows word (get_or L7 (row_bits_at limits word) 0)
  row_word word lt = let sp = some_pids in let sr = some_rows in let fi = first_in in let ff = first_few in
      let there : get_or L7 (row_bits_at limits word) 0 ≡ get_or L2 (row_bits_at limits word) 0 =
      else_where (row_bits_at limits word) (λ e. absurd (omega arith)) (λ e. absurd (omega arith)) (λ e. absurd (omega arith)) (λ e. absurd (omega arith)) (λ e. absurd (omega arith)) in
      subst (Free limits.rows word) (sym there)
      (subst (λ i. Free limits.rows word (get_or L2 i 0)) (omega arith) (free_inside limits.rows (row_bits_at limits 0) word L1 limits.allowed.whole_rows sr lt (let l = l1 in omega arith)))

  record_word : (row j : ℕ) → row < limits.rows → j < width_of limits row → j < used_in limits ((opening limits).rows row)
      → get_or L7 (row_at limits row j) 0 ≡ get_or (words_in limits ((opening limits).rows row)) j 0
  record_word row j rl jl used = let fi = first_in in let ff = first_few in let fs = first_some in let inside = row_within limits row rl in let few' =
      few_words limits row in elim (same_or_not row 1) [
        | inl one ↦ subst (λ r. get_or L7 (row_at limits r j) 0 ≡ get_or (words_in limits ((opening limits).rows r)) j 0) (sym one)
            (let used' : j < used_in limits (Some (Base empty_leaf)) = rw one at used in
            let low' : j < width_of limits 1 = rw one at jl in elim (same_or_not j 0) [
              | inl none ↦ subst (λ k. get_or L7 (row_at limits 1 k) 0 ≡ get_or (words_in limits (Some (Base empty_leaf))) k 0) (sym none) (get_or-set_other L6
                  (row_at limits 1 place) (row_at limits 1 0) bound 0 (λ e. absurd (omega arith)) ∙ get_or-set_same L5 (row_at limits 1 0) header 0
                  (let l = l5 in let s = some_rows in omega arith) ∙ sym is_header)
              | inr some ↦ elim (same_or_not j place) [
                | inl here ↦ subst (λ k. get_or L7 (row_at limits 1 k) 0 ≡ get_or (words_in limits (Some (Base empty_leaf))) k 0) (sym here)
                    (get_or-set_same L6 (row_at limits 1 place) bound 0 (let l = l6 in let s = some_rows in omega arith) ∙ sym is_bound)
                | inr other ↦ nowhere (row_at limits 1 j) (let s = some_rows in omega arith) (λ e. absurd (omega arith)) (λ e. absurd (omega arith))
                    (λ e. absurd (omega arith)) (λ e. some (omega arith)) (λ e. other (omega arith)) (λ k h e. absurd (omega arith)) (λ k h e. absurd (omega arith)) ∙
                    sym (is_zero j some other (omega (arith, low', ff)) used')
              ]
            ])
        | inr apart ↦ rw (ne_eqb row 1 apart)
            (nowhere (row_at limits row j) (omega arith) (λ e. absurd (omega arith)) (λ e. absurd (omega arith)) (λ e. absurd (omega arith))
            (λ e. rows_apart limits row 1 j 0 apart jl (omega (arith, fs)) (omega (arith, e)))
            (λ e. rows_apart limits row 1 j place apart jl high (omega (arith, e))) (λ k h e. absurd (omega arith)) (λ k h e. absurd (omega arith))
            ∙ sym (get_or-replicate row_size j 0 0 (omega (arith, jl, few'))))
      ]

  opens : AreWordsOf limits (opening limits) L7
  opens = record {
    wide = length-set L6 (row_at limits 1 place) bound ∙ l6;
    spells = record {
      slots = slot_word;
      pid_bits = pid_word;
      row_bits = row_word;
      epoch =
          get_or-set_other L6 (row_at limits 1 place) epoch_at bound 0 (λ e. absurd (omega arith))
          ∙ get_or-set_other L5 (row_at limits 1 0) epoch_at header 0 (λ e. absurd (omega arith))
          ∙ get_or-set_same L4 epoch_at limits.epoch 0 (let l = l4 in omega arith);
      announced =
          λ a al. let fi = first_in in let ff = first_few in nowhere (announced_at a) (omega arith) (λ e. absurd (omega arith)) (λ e. absurd (omega arith)) (λ e. absurd (omega arith))
          (λ e. absurd (omega arith)) (λ e. absurd (omega arith)) (λ k h e. absurd (omega arith)) (λ k h e. absurd (omega arith));
      pads =
          λ i pad. let low = pad.0 in let high = pad.1 in let fi = first_in in let ff = first_few in nowhere i (omega arith) (λ e. absurd (omega arith)) (λ e. absurd (omega arith))
          (λ e. absurd (omega arith)) (λ e. absurd (omega arith)) (λ e. absurd (omega arith)) (λ k h e. absurd (omega arith))
          (λ k h e. absurd (omega arith));
      rows = λ r j rl jl used _. record_word r j rl jl used;
    };
  }

-- the words of the empty leaf that opens a tree of either kind
pub opening_is : (limits : Limits) → AreWordsOf limits (opening limits) (opening_words limits)
opening_is limits = opens limits (leaf_header limits) (bound_at limits) (bound_word limits) (some limits.is_large) (few limits.is_large refl) (header limits.is_large) (bound limits.is_large)
    (nothing limits.is_large)
  where
    some : (large : Bool) → 0 < (if large then 1 else second_at)
    some true = omega arith
    some false = omega arith

    few : (large : Bool) → limits.is_large ≡ large → (if large then 1 else second_at) < width_of limits 1
    few true e = let some' = some_words limits 1 in omega (arith, some')
    few false e = let is = (one_width limits e 1).1 in omega (arith, is)

    header : (large : Bool) → get_or (if large then compact_words (Base empty_leaf) else words_of (Base empty_leaf)) 0 0 ≡ (if large then 1 + form_unit * compact_form else header_word 1 0 0)
    header true = refl
    header false = refl

    bound : (large : Bool) → get_or (if large then compact_words (Base empty_leaf) else words_of (Base empty_leaf)) (if large then 1 else second_at) 0
        ≡ (if large then second_unit * no_bound else no_bound)
    bound true = refl
    bound false = refl

    nothing : (large : Bool) (j : ℕ) → j ≢ 0 → j ≢ (if large then 1 else second_at) → j < row_size → j < (if large then length (compact_words (Base empty_leaf)) else row_size)
        → get_or (if large then compact_words (Base empty_leaf) else words_of (Base empty_leaf)) j 0 ≡ 0
    nothing true j some' other low used = let long : length (compact_words (Base empty_leaf)) ≡ 2 = refl in absurd (omega (arith, some', other))
    nothing false j some' other low used = base_word j some' other
