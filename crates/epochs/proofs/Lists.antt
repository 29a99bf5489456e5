-- A limbo list stays one, and has room.
use Rattle.std.proofs.Common.{◌≡◌, ◌≢◌, ◌<◌, ◌≤◌, ◌+◌, ℕ, zero, suc, List, [], ◌∷◌, ◌++◌, Bool, true, false, length, get_or, eqb, sym, ◌∙◌, arith, rules, map, inl, inr, length-append}
use Rattle.std.specs.List.{All, AllPairs, filter, list_any}
use Rattle.std.proofs.lemmas.Bool.{cases_lt, eqb-true}
use Rattle.std.proofs.lemmas.Bool.Decides.{Decides-eqb}
use Rattle.std.proofs.lemmas.List.{get_or-map, get_or_append_left, length-map}
use Rattle.std.proofs.Math.Seq.{get_or-append_seam}
use Rattle.std.proofs.lemmas.List.Elements.{All-append, All-filter, All-map}
use Rattle.std.proofs.lemmas.List.Folds.{Any-from_list_any, list_any_at}
use Rattle.std.proofs.lemmas.List.Kept.{AllPairs-filter}
use Rattle.std.proofs.lemmas.Map.Made.{IsDistinct-from_AllPairs}
use Rattle.std.proofs.lemmas.Map.Steps.{length-le_from_distinct_below}
use Rattle.epochs.specs.declared.entry.Entry.{Entry}
use Rattle.epochs.specs.declared.entry.Stage.TheVariants.{Unstamped}
use Rattle.epochs.specs.Limbo.{IsLimboList, IsNew, LimboList, with_entry}

abbrev AreApart : Entry → Entry → Type 0
AreApart one other = one.number ≢ other.number

abbrev IsWithin : ℕ → Entry → Type 0
IsWithin limit entry = entry.number < limit

-- Other entries with the same numbers are a list as well.
pub renewed_is_list : (list : LimboList) (entries : List Entry) → length entries ≡ length list.entries
    → ((i : ℕ) (d : Entry) → i < length list.entries → (get_or entries i d).number ≡ (get_or list.entries i d).number) → IsLimboList list
    → IsLimboList (record list { entries = entries })
renewed_is_list list entries long same is = record {
  small = is.small;
  once = λ i j d before within.
      let lt : j < length list.entries = rw long at within in
      let earlier : i < length list.entries = omega (arith, lt, before) in
      λ equal. is.once i j d before lt (sym (same i d earlier) ∙ equal ∙ same j d lt);
  within = λ i d lt. let within : i < length list.entries = rw long at lt in rw (same i d within) (is.within i d within);
}

pub filtered_is_list : (kept : Entry → Bool) (list : LimboList) → IsLimboList list → IsLimboList (record list { entries = filter kept list.entries })
filtered_is_list kept list is = record {
  small = is.small;
  once = AllPairs-filter AreApart kept list.entries is.once;
  within = All-filter kept (IsWithin list.limit) list.entries is.within;
}

-- no entry has a number that isn't there
apart : (list : LimboList) (number : ℕ) → IsNew list number → (i : ℕ) (d : Entry) → i < length list.entries → (get_or list.entries i d).number ≢ number
apart list number new i d lt equal = absurd (differ (sym new.out ∙ list_any_at (λ (entry : Entry). eqb entry.number number) list.entries i d lt (rw equal (itself number))))
  where
    differ : false ≡ true → ⊥
    differ e = search rules

    itself : (n : ℕ) → eqb n n ≡ true
    itself n = grind arith

pub added_is_list : (list : LimboList) (number : ℕ) → IsLimboList list → IsNew list number → IsLimboList (with_entry number list)
added_is_list list number is new = record {
  small = is.small;
  once = once;
  within = All-append (IsWithin list.limit) list.entries (entry ∷ []) is.within only;
}
  where
    entry : Entry
    entry = record { number = number; stage = Unstamped }

    only : All (IsWithin list.limit) (entry ∷ [])
    only zero d lt = new.below
    only (suc k) d lt = absurd (omega (arith, lt))

    once : AllPairs AreApart (list.entries ++ (entry ∷ []))
    once i j d before within =
        let long : j < length list.entries + 1 = rw (length-append list.entries (entry ∷ [])) at within in
        let earlier : i < length list.entries = omega (arith, long, before) in
        let left : get_or (list.entries ++ (entry ∷ [])) i d ≡ get_or list.entries i d = get_or_append_left list.entries (entry ∷ []) d i earlier in
        elim (cases_lt j (length list.entries)) [
          | inl lt ↦ rw (left, get_or_append_left list.entries (entry ∷ []) d j lt) (is.once i j d before lt)
          | inr ge ↦
              let last : j ≡ length list.entries = omega (arith, long, ge) in
              rw (left, last, get_or-append_seam list.entries entry [] d) (apart list number new i d earlier)
        ]

few : (list : LimboList) → IsLimboList list → length list.entries ≤ list.limit
few list is =
    let short : length (map number list.entries) ≤ list.limit = length-le_from_distinct_below (map number list.entries) list.limit
    (IsDistinct-from_AllPairs Decides-eqb (map number list.entries) differ) below in
    rw (length-map list.entries number) at short
  where
    number : Entry → ℕ
    number entry = entry.number

    some_entry : Entry
    some_entry = record { number = 0; stage = Unstamped }

    differ : AllPairs (λ (x y : ℕ). x ≢ y) (map number list.entries)
    differ i j d before within =
        let lt : j < length list.entries = rw (length-map list.entries number) at within in
        let earlier : i < length list.entries = omega (arith, lt, before) in
        rw (get_or-map number list.entries i some_entry d earlier, get_or-map number list.entries j some_entry d lt) (is.once i j some_entry before lt)

    within : All (λ n. n < list.limit) (map number list.entries)
    within = All-map (λ n. n < list.limit) number list.entries is.within

    below : (q : ℕ) → list_any (eqb q) (map number list.entries) ≡ true → q < list.limit
    below q found =
        let some = Any-from_list_any (eqb q) (map number list.entries) found in
        let low : some.1 < list.limit = rw some.3 at (within some.0 some.1 some.2) in
        let is : q ≡ some.1 = eqb-true q some.1 some.4 in
        omega (arith, low, is)

pub has_room : (list : LimboList) (number : ℕ) → IsLimboList list → IsNew list number → length list.entries < list.limit
has_room list number is new =
    let more : length (with_entry number list).entries ≤ list.limit = few (with_entry number list) (added_is_list list number is new) in
    omega (arith, length-append list.entries (record { number = number; stage = Unstamped } ∷ []), more)
