-- Which words a record uses.
use Rattle.table_rule.proofs.Words.{Bool, HasSpelling, IsStored, Limits, List, None, Option, Record, Some, ap, arith, cases_lt, compact_words, false, get_or}
use Rattle.table_rule.proofs.Words.{if◌then◌else◌, length, one_width, refl, row_size, some_words, stored, sym, tail_from, take, true, used_by, used_in}
use Rattle.table_rule.proofs.Words.{width_of, words_in, words_over, ℕ, [], ⊎_elim, ◌++◌, ◌+◌, ◌-◌, ◌<◌, ◌∙◌, ◌∷◌, ◌≡◌, ◌≤◌}
use Rattle.std.proofs.Common.{◌*◌, drop, replicate}
use Rattle.std.proofs.Math.Nat.{le-max_left, le-max_right}
use Rattle.std.proofs.Math.Seq.{get_or-append_right}
use Rattle.std.proofs.lemmas.List.{get_or-replicate, get_or_past, length-replicate, length-take, take-append-drop}
use Rattle.record_slots.specs.Layout.{item_size, items_at}
use Rattle.record_slots.specs.Parts.{items_of, row_of}
use Rattle.record_slots.specs.Spelling.{words_left, words_of}
use Rattle.record_slots.specs.Spells.{IsSpelling}
use Rattle.record_slots.proofs.SpellingLaws.{counts, items_fit, parts_fit, row_spelled, spelling_length}
use Rattle.compact_rows.proofs.Parts.{count_is}
use Rattle.table_rule.specs.Steps.{begun_over, used_by_either}

zeros_are : (n j : ℕ) → ◌≡◌ {A = ℕ} (get_or (replicate n 0) j 0) 0
zeros_are n j = ⊎_elim (λ below. get_or-replicate n j 0 0 below) (λ above. get_or_past (replicate n 0) j 0 (omega (arith, above, length-replicate {A = ℕ} n 0))) (cases_lt j n)

module _ (content : Record) (spelled : HasSpelling content) where
  abbrev end : ℕ
  end = items_at + item_size * (row_of content).count

  used_is : used_by (get_or (words_of content) 0 0) ≡ end
  used_is = let is = row_spelled (words_of content) content spelled in let head = is.header in let small = is.is.kind in let top = is.is.level in let count = is.is.few in omega arith

  pub few : used_by (get_or (words_of content) 0 0) ≤ row_size
  few = let is = row_spelled (words_of content) content spelled in let count = is.is.few in let used = used_is in omega arith

  -- behind the words that it uses there are zeros
  with_zeros : (used : ℕ) → used ≡ end → take used (words_of content) ++ replicate (row_size - used) 0 ≡ words_of content
  with_zeros used at =
      let left : row_size - used ≡ words_left (row_of content).count = omega arith in
      ap (λ (words : List ℕ). take used (words_of content) ++ words)
      (ap (λ (n : ℕ). replicate n 0) left ∙ sym (row_spelled (words_of content) content spelled).rest ∙ ap (λ (n : ℕ). drop n (words_of content)) (sym at))
      ∙ take-append-drop used (words_of content)

  pub zero_behind : (j : ℕ) → used_by (get_or (words_of content) 0 0) ≤ j → get_or (words_of content) j 0 ≡ 0
  zero_behind j above =
      let used = used_is in
      let room = few in
      let front : List ℕ = take end (words_of content) in
      let short : length front ≤ end = let is = length-take end (words_of content) in omega arith in
      ap (λ (words : List ℕ). get_or words j 0) (sym (with_zeros end refl)) ∙ get_or-append_right front (replicate (row_size - end) 0) j 0
      (omega (arith, short, used, above)) ∙ zeros_are (row_size - end) (j - length front)

-- a compact row says so many items in its first word, too
few_compact : (content : Record) → HasSpelling content → used_by (get_or (compact_words content) 0 0) ≤ row_size
few_compact content spelled =
    let parts = parts_fit content spelled.spellable spelled.short in
    let count = count_is (row_of content) (items_of content) parts (counts content) (items_fit content spelled.spellable spelled.short) in
    let few = parts.few in
    omega arith

-- A row uses few words, whether a record stands in it or none.
pub few_in : (limits : Limits) (there : Option Record) → ((content : Record) → there ≡ Some content → HasSpelling content) → used_by (get_or (words_in limits there) 0 0) ≤ row_size
few_in limits None spelled = omega (arith, zeros_are row_size 0)
few_in limits (Some content) spelled = by limits.is_large
  where
    by : (large : Bool) → used_by (get_or (if large then compact_words content else words_of content) 0 0) ≤ row_size
    by true = few_compact content (spelled content refl)
    by false = few content (spelled content refl)

pub zero_behind_in : (limits : Limits) → limits.is_large ≡ false → (there : Option Record) → ((content : Record) → there ≡ Some content → HasSpelling content) → (j : ℕ)
    → used_by (get_or (words_in limits there) 0 0) ≤ j → get_or (words_in limits there) j 0 ≡ 0
zero_behind_in limits small None spelled j above = zeros_are row_size j
zero_behind_in limits small (Some content) spelled j above = by limits.is_large small above
  where
    by : (large : Bool) → large ≡ false → used_by (get_or (if large then compact_words content else words_of content) 0 0) ≤ j
        → get_or (if large then compact_words content else words_of content) j 0 ≡ 0
    by true e above = cc
    by false e above = zero_behind content (spelled content refl) j above

-- A row has a first word, and in a small tree all of them say something.
pub some_used : (limits : Limits) (there : Option Record) → 0 < used_in limits there
some_used limits None = omega arith
some_used limits (Some content) = by limits.is_large
  where
    by : (large : Bool) → 0 < (if large then length (compact_words content) else row_size)
    by true = omega arith
    by false = omega arith

pub all_used : (limits : Limits) → limits.is_large ≡ false → (there : Option Record) (j : ℕ) → j < row_size → j < used_in limits there
all_used limits small None j low = low
all_used limits small (Some content) j low = rw small low

-- Each record of a row uses words of the row, and so do two.
pub few_of_either : (first : ℕ) (content : Record) (words : List ℕ) → used_by first ≤ row_size → IsSpelling content words → used_by_either first (get_or words 0 0) ≤ row_size
few_of_either first content words room spelt =
    let spelled : HasSpelling content = record { spellable = spelt.spellable; short = spelt.short; are = refl } in
    let new : used_by (get_or words 0 0) ≤ row_size = rw (← spelt.are) (few content spelled) in
    ⊎_elim (λ low. omega (arith, low, room, new)) (λ high. omega (arith, high, room, new)) (cases_lt (used_by first) (used_by (get_or words 0 0)))

pub tail_length : (xs : List ℕ) → length (tail_from xs) ≡ length xs - 1
tail_length [] = refl
tail_length (x ∷ xs) = omega arith

-- what is written by the operation with which a record begins to be placed
pub begun_two : (limits : Limits) (words : List ℕ) → limits.is_large ≡ true → 1 < length words → begun_over limits words ≡ get_or words 1 0 ∷ []
begun_two limits words large two = rw large (by words two)
  where
    by : (words : List ℕ) → 1 < length words → take 1 (tail_from words) ≡ get_or words 1 0 ∷ []
    by [] two = absurd (omega arith)
    by (one ∷ []) two = absurd (omega arith)
    by (one ∷ other ∷ words) two = refl

pub begun_none : (limits : Limits) (words : List ℕ) → limits.is_large ≡ false → begun_over limits words ≡ []
begun_none limits words small = rw small refl

-- The words that are written over are words of the row, and of those that are placed.
module _ (limits : Limits) (first : ℕ) (content : Record) (words : List ℕ) (is : IsStored limits content words) where
  pub stored_some : 0 < length words
  stored_some = by limits.is_large is.are
    where
      by : (large : Bool) → (if large then compact_words content else words_of content) ≡ words → 0 < length words
      by true are = let l = ap length are in omega arith
      by false are = let l = ap length are in let m = spelling_length content (words_of content) is.spelling in omega arith

  -- in a large tree each record has a second word
  pub stored_two : limits.is_large ≡ true → 1 < length words
  stored_two large = by limits.is_large large is.are
    where
      by : (b : Bool) → b ≡ true → (if b then compact_words content else words_of content) ≡ words → 1 < length words
      by true e are = let l = ap length are in omega arith
      by false e are = cc

  pub over_few : (row : ℕ) → length words ≤ width_of limits row → used_by first ≤ row_size
      → (words_over limits first words < width_of limits row) × (words_over limits first words ≤ length (tail_from words))
  over_few row fits room = by limits.is_large refl is.are
    where
      by : (large : Bool) → limits.is_large ≡ large → (if large then compact_words content else words_of content) ≡ words
          → ((if large then length words - 1 else used_by_either first (get_or words 0 0) - 1) < width_of limits row)
          × ((if large then length words - 1 else used_by_either first (get_or words 0 0) - 1) ≤ length (tail_from words))
      by true e are =
          let l = ap length are in
          let some = some_words limits row in
          let tail = tail_length words in
          (omega arith, omega arith)
      by false e are =
          let wide = (one_width limits e row).1 in
          let l = ap length are ∙ refl in
          let m = spelling_length content (words_of content) is.spelling in
          let spelt : IsSpelling content words = record { spellable = is.spelling.spellable; short = is.spelling.short; are = are } in
          let few = few_of_either first content words room spelt in
          let tail = tail_length words in
          (omega arith, omega arith)

  -- The operation with which it begins to be placed writes no more words than are written over.
  pub begun_few : (if limits.is_large then 1 else 0) ≤ words_over limits first words
  begun_few = by limits.is_large refl
    where
      by : (large : Bool) → limits.is_large ≡ large
          → (if large then 1 else 0) ≤ (if large then length words - 1 else used_by_either first (get_or words 0 0) - 1)
      by true e = let two = stored_two e in omega arith
      by false e = omega arith

  pub over_large : limits.is_large ≡ true → length (compact_words content) ≤ words_over limits first words + 1
  over_large large = by limits.is_large large is.are
    where
      by : (b : Bool) → b ≡ true → (if b then compact_words content else words_of content) ≡ words
          → length (compact_words content) ≤ (if b then length words - 1 else used_by_either first (get_or words 0 0) - 1) + 1
      by true e are = let l = ap length are in omega arith
      by false e are = cc

  pub over_small : limits.is_large ≡ false → (used_by (get_or words 0 0) ≤ words_over limits first words + 1) × (used_by first ≤ words_over limits first words + 1)
  over_small small = by limits.is_large small
    where
      new : used_by (get_or words 0 0) ≤ used_by_either first (get_or words 0 0)
      new = le-max_right (used_by first) (used_by (get_or words 0 0))

      old : used_by first ≤ used_by_either first (get_or words 0 0)
      old = le-max_left (used_by first) (used_by (get_or words 0 0))

      by : (b : Bool) → b ≡ false → (used_by (get_or words 0 0) ≤ (if b then length words - 1 else used_by_either first (get_or words 0 0) - 1) + 1)
          × (used_by first ≤ (if b then length words - 1 else used_by_either first (get_or words 0 0) - 1) + 1)
      by true e = cc
      by false e = let n = new in let o = old in (omega arith, omega arith)

-- a record has as many words in a row as say something
pub used_few : (limits : Limits) (content : Record) → HasSpelling content → used_in limits (Some content) ≤ length (stored limits content)
used_few limits content spelled = by limits.is_large
  where
    by : (large : Bool) → (if large then length (compact_words content) else row_size) ≤ length (if large then compact_words content else words_of content)
    by true = omega arith
    by false = let long = spelling_length content (words_of content) spelled in omega (arith, long)
