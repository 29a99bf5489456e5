-- Changes listed in order, in a trace with one entry more.
use Rattle.tree_law.proofs.Words.{[], ap, refl, cond, suc, List, inl, length, ◌++◌, ◌≤◌, inr, ◌∷◌, ℕ, ◌≡◌, ◌∙◌, ◌<◌, arith, take, drop, zero, ◌+◌, ◌*◌, ◌-◌, cases_lt, All, count_by}
use Rattle.tree_law.proofs.Words.{slice_range, IsStrictlyIncreasing, Limits, Entry, memory_of, Happens-push_cases, take-push, take-push_whole, Happens-below, Happens, ChangesTree, takes_number}
use Rattle.std.proofs.lemmas.List.{drop-append-le, get_or-take, length-take-le, take_all}
use Rattle.std.proofs.Common.{length-drop}
use Rattle.std.proofs.lemmas.List.Kept.{AllPairs-from_increasing}
use Rattle.linearization.specs.Changes.{HasFewChanges}
use Rattle.linearization.specs.Progress.{AreAmong, is_begin}
use Rattle.tree_law.proofs.trace.Owned.{pushed_length}
use Rattle.tree_law.specs.Changes.{most_in_store}
use Rattle.tree_law.proofs.direct.Counting.{count_push, range_kept}

-- increasing numbers up to n are at most one more than those of them below n
cut : (P : ℕ → Type 0) (xs : List ℕ) (n : ℕ) → IsStrictlyIncreasing xs → All (λ x. (x < suc n) × P x) xs
    → (ys : List ℕ) × IsStrictlyIncreasing ys × All (λ x. (x < n) × P x) ys × (length xs ≤ suc (length ys))
cut P xs n up all =
    let short : length (take (length xs - 1) xs) ≡ length xs - 1 = length-take-le (length xs - 1) xs (omega arith) in (
      take (length xs - 1) xs,
      (λ k within. rw (get_or-take (length xs - 1) xs k 0 (omega (arith, within, short)), get_or-take (length xs - 1) xs (k + 1) 0 (omega (arith, within, short)))
          (up k (omega (arith, within, short)))),
      (λ k d within. rw (get_or-take (length xs - 1) xs k d (omega (arith, within, short))) (
        (
            let next = AllPairs-from_increasing xs up k (k + 1) d (omega arith) (omega (arith, within, short)) in
            let most = (all (k + 1) d (omega (arith, within, short))).0 in
            omega (arith, next, most)
            ),
        (all k d (omega (arith, within, short))).1,
      )),
      (omega (arith, short)),
    )

-- as many begins, or one more
pub begins_push : (entries : List Entry) (last : Entry) → count_by is_begin (entries ++ last ∷ []) ≡ count_by is_begin entries + cond (is_begin last) 1 0
begins_push entries last = count_push is_begin entries last

-- in so long a beginning there are no fewer
begins_taken : (entries : List Entry) (last : Entry) (n : ℕ) → length entries ≤ n → count_by is_begin entries ≤ count_by is_begin (take n (entries ++ last ∷ []))
begins_taken entries last n ge = elim (cases_lt (length entries) n) [
  | inl lt ↦
      let long : length (entries ++ last ∷ []) ≡ suc (length entries) = pushed_length entries last in
      let same : count_by is_begin (take n (entries ++ last ∷ [])) ≡ count_by is_begin (entries ++ last ∷ []) = ap (count_by is_begin) (take_all n (entries ++ last ∷ []) (omega arith)) in
      let more : count_by is_begin (entries ++ last ∷ []) ≡ count_by is_begin entries + cond (is_begin last) 1 0 = begins_push entries last in
      omega arith
  | inr le ↦
      let at : n ≡ length entries = omega arith in
      let same : count_by is_begin (take n (entries ++ last ∷ [])) ≡ count_by is_begin entries =
      ap (count_by is_begin) (ap (λ k. take k (entries ++ last ∷ [])) at ∙ take-push_whole entries (last ∷ [])) in
      omega arith
]

pub most_least : (limits : Limits) (m : ℕ) → most_in_store limits m ≤ 154 * limits.pids + 8 * limits.actors
most_least limits zero = omega arith
most_least limits (suc m) = omega arith

module _ (limits : Limits) (entries : List Entry) (last : Entry) (m : ℕ) where
  abbrev longer : List Entry
  longer = entries ++ last ∷ []

  -- these are changes of the trace, from entry m on
  abbrev pub IsChange : List Entry → ℕ → Type 0
  IsChange trace place = (m ≤ place) × Happens limits trace place ChangesTree

  abbrev pub AreChanges : List Entry → List ℕ → Type 0
  AreChanges trace changes = All (IsChange trace) changes

  -- a change of the longer trace that isn't its last entry is one of the shorter
  earlier : (place : ℕ) → place < length entries → Happens limits longer place ChangesTree → Happens limits entries place ChangesTree
  earlier place lt h = elim (Happens-push_cases h) [ inl before ↦ before | inr at ↦ let same : place ≡ length entries = at.0 in absurd (omega arith) ]

  -- where the last entry is no change, all are of the shorter trace
  pub all_before : (ChangesTree (memory_of limits entries) last → ⊥) → (changes : List ℕ) → AreChanges longer changes → AreChanges entries changes
  all_before never changes all = λ k d lt. let h = all k d lt in (h.0, elim (Happens-push_cases h.1) [ inl before ↦ before | inr at ↦ absurd (never at.1) ])

  -- all but one at most are
  pub most_before : (changes : List ℕ) → IsStrictlyIncreasing changes → AreChanges longer changes
      → (before : List ℕ) × IsStrictlyIncreasing before × AreChanges entries before × (length changes ≤ suc (length before))
  most_before changes up all =
      let long : length longer ≡ suc (length entries) = pushed_length entries last in
      let parts = cut (IsChange longer) changes (length entries) up
      (λ k d lt. let h = all k d lt in ((let lt = Happens-below h.1 in omega (arith, lt, long)), h)) in
      (parts.0, parts.1, λ k d lt. let h = parts.2 k d lt in (h.1.0, earlier _ h.0 h.1.1), parts.3)

  -- none comes after the last entry
  pub none_later : length entries < m → (changes : List ℕ) → AreChanges longer changes → length changes ≡ 0
  none_later later [] all = refl
  none_later later (place ∷ changes) all =
      let h = all 0 0 (omega arith) in
      let long : length longer ≡ suc (length entries) = pushed_length entries last in
      let below : place < length longer = Happens-below h.1 in
      let from : m ≤ place = h.0 in
      absurd (omega (arith, long, below, from, later))

  -- the begins from entry m on
  pub begins_from : m ≤ length entries → count_by is_begin (drop m longer) ≡ count_by is_begin (drop m entries) + cond (is_begin last) 1 0
  begins_from le = ap (count_by is_begin) (drop-append-le m entries (last ∷ []) le) ∙ begins_push (drop m entries) last

  pub begins_until : (n : ℕ) → m ≤ length entries → length entries ≤ n → count_by is_begin (drop m entries) ≤ count_by is_begin (slice_range longer m n)
  begins_until n le ge =
      let rest : drop m longer ≡ drop m entries ++ last ∷ [] = drop-append-le m entries (last ∷ []) le in
      let long : length (drop m entries) ≡ length entries - m = length-drop m entries in
      let more : count_by is_begin (drop m entries) ≤ count_by is_begin (take (n - m) (drop m entries ++ last ∷ [])) = begins_taken (drop m entries) last (n - m) (omega arith) in
      rw rest more

module _ (limits : Limits) (entries : List Entry) (last : Entry) (old : HasFewChanges limits entries)
    (most : (m : ℕ) (changes : List ℕ) → m ≤ length entries → IsStrictlyIncreasing changes → AreChanges limits entries last m (entries ++ last ∷ []) changes
    → length changes ≤ most_in_store limits m + 8 * count_by is_begin (drop m entries))
    (taken : count_by takes_number (entries ++ last ∷ []) ≤ limits.rows + limits.pids + 24 * count_by is_begin (entries ++ last ∷ [])) where
  abbrev trace : List Entry
  trace = entries ++ last ∷ []

  -- what is among the earlier entries was so before
  before : (m n : ℕ) (changes : List ℕ) → n < length entries → AreAmong limits trace m n ChangesTree changes → AreAmong limits entries m n ChangesTree changes
  before m n changes lt among = record {
    increasing = among.increasing;
    each = λ k d in_list. let h = among.each k d in_list in (h.0, h.1, earlier limits entries last m _ (let le = h.1 in omega (arith, le, lt)) h.2);
  }

  all : (m n : ℕ) (changes : List ℕ) → AreAmong limits trace m n ChangesTree changes → AreChanges limits entries last m trace changes
  all m n changes among = λ k d lt. let h = among.each k d lt in (h.0, h.2)

  few : (n : ℕ) (changes : List ℕ) → AreAmong limits trace 0 n ChangesTree changes → length changes ≤ 8 * count_by is_begin (take n trace)
  few n changes among = elim (cases_lt n (length entries)) [
    | inl lt ↦ let same : take n trace ≡ take n entries = take-push entries (last ∷ []) n (omega arith) in rw same (old.few n changes (before 0 n changes lt among))
    | inr ge ↦
        let bound : length changes ≤ 0 + 8 * count_by is_begin entries = most 0 changes (omega arith) among.increasing (all 0 n changes among) in
        let more : count_by is_begin entries ≤ count_by is_begin (take n trace) = begins_taken entries last n ge in
        omega arith
  ]

  since : (m n : ℕ) (changes : List ℕ) → m ≤ n → AreAmong limits trace m n ChangesTree changes → length changes ≤ 154 * limits.pids + 8 * (limits.actors + count_by is_begin (slice_range trace m n))
  since m n changes le among = elim (cases_lt n (length entries)) [
    | inl lt ↦ let same : slice_range trace m n ≡ slice_range entries m n = range_kept entries last m n le (omega arith) in rw same (old.since m n changes le (before m n changes lt among))
    | inr ge ↦ elim (cases_lt (length entries) m) [
      | inl later ↦ let none = none_later limits entries last m later changes (all m n changes among) in omega (arith, none)
      | inr within ↦
          let bound : length changes ≤ most_in_store limits m + 8 * count_by is_begin (drop m entries) = most m changes within among.increasing (all m n changes among) in
          let least : most_in_store limits m ≤ 154 * limits.pids + 8 * limits.actors = most_least limits m in
          let more : count_by is_begin (drop m entries) ≤ count_by is_begin (slice_range trace m n) = begins_until limits entries last m n within ge in
          omega arith
    ]
  ]

  takes : (n : ℕ) → count_by takes_number (take n trace) ≤ limits.rows + limits.pids + 24 * count_by is_begin (take n trace)
  takes n = elim (cases_lt (length entries) n) [
    | inr le ↦ let same : take n trace ≡ take n entries = take-push entries (last ∷ []) n le in rw same (old.takes n)
    | inl gt ↦ let long : length trace ≡ suc (length entries) = pushed_length entries last in let same : take n trace ≡ trace = take_all n trace (omega arith) in rw same taken
  ]

  -- few changes in the longer trace
  pub few_push : HasFewChanges limits trace
  few_push = record { few = few; since = since; takes = takes }
