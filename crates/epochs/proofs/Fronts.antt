-- Of a list none of whose other entries may be freed its front tells all; and a list that was changed at its front or at its end.
use Rattle.std.proofs.Common.{◌≡◌, ◌<◌, ◌-◌, ◌++◌, ◌∷◌, ◌/◌, ℕ, zero, suc, List, [], Bool, true, false, not, eqb, length, get_or, take, drop, refl, sym, ap, ◌∙◌, arith, inl, inr, length-append}
use Rattle.std.specs.Prelude.{◌&&◌, ◌||◌}
use Rattle.std.specs.List.{list_any}
use Rattle.std.proofs.lemmas.Bool.{cases_Bool, cases_lt}
use Rattle.std.proofs.lemmas.List.{drop-append-le, drop_at, get_or-append_right, get_or_append_left, get_or_default, take-append-drop}
use Rattle.std.proofs.lemmas.List.Elements.{All-append, filter-append}
use Rattle.std.proofs.lemmas.List.Folds.{list_any-append, list_any_at, list_any_none}
use Rattle.std.proofs.lemmas.List.Kept.{AllPairs-filter}
use Rattle.epochs.specs.declared.entry.Entry.{Entry}
use Rattle.epochs.specs.declared.entry.Stage.TheVariants.{Unstamped}
use Rattle.epochs.specs.Limbo.{IsNew, is_passed, is_unstamped}
use Rattle.epochs.specs.Queue.{AreLastUnstamped, IsKeptList, NonePassed, Queue, without_first}
use Rattle.epochs.specs.Words.{AreBitsOf, HasNone, IsFirstWord, may_go, without}
use Rattle.epochs.proofs.Lists.{added_is_list, filtered_is_list}

or_none : (f : Bool) → (f || false) ≡ f
or_none true = refl
or_none false = refl

none_with : (b : Bool) → (b && false) ≡ false
none_with true = refl
none_with false = refl

-- ---- none of the others may be freed
module _ (count : ℕ) (entries : List Entry) (others : NonePassed (drop count entries)) where
  pub may_go_front : (n : ℕ) → may_go entries n ≡ may_go (take count entries) n
  may_go_front n =
      let goes : Entry → Bool = λ entry. eqb entry.number n && is_passed entry.stage in
      let none : list_any goes (drop count entries) ≡ false = list_any_none goes (drop count entries)
      (λ i d lt. ap (λ b. eqb (get_or (drop count entries) i d).number n && b) (others i d lt) ∙ none_with (eqb (get_or (drop count entries) i d).number n))
      in
      ap (list_any goes) (sym (take-append-drop count entries)) ∙ list_any-append goes (take count entries) (drop count entries) ∙ ap
      (λ b. list_any goes (take count entries) || b) none ∙ or_none (list_any goes (take count entries))

  pub none_front : HasNone (take count entries) → HasNone entries
  none_front none = λ n. may_go_front n ∙ none n

  pub word_front : (word : ℕ) → IsFirstWord (take count entries) word → IsFirstWord entries word
  word_front word is = record {
    some = (is.some.0, is.some.1, may_go_front is.some.0 ∙ is.some.2);
    first = λ n may. is.first n (sym (may_go_front n) ∙ may);
  }

  pub bits_front : (word bits : ℕ) → AreBitsOf (take count entries) word bits → AreBitsOf entries word bits
  bits_front word bits are = λ n. are n ∙ ap (λ b. eqb (n / 64) word && b) (sym (may_go_front n))

  pub without_front : (word : ℕ) → without_first count word entries ≡ without word entries
  without_front word =
      let rest : without word (drop count entries) ≡ drop count entries = all_stay (drop count entries) others in
      sym (ap (λ xs. without word (take count entries) ++ xs) rest) ∙ sym
      (filter-append (λ (entry : Entry). not (eqb (entry.number / 64) word && is_passed entry.stage)) (take count entries) (drop count entries)) ∙ ap
      (without word) (take-append-drop count entries)
    where
      head : (x : Entry) (xs : List Entry) → NonePassed (x ∷ xs) → is_passed x.stage ≡ false
      head x xs none = none 0 x (omega arith)

      tail : (x : Entry) (xs : List Entry) → NonePassed (x ∷ xs) → NonePassed xs
      tail x xs none = λ i d lt. none (suc i) d (omega (arith, lt))

      all_stay : (xs : List Entry) → NonePassed xs → without word xs ≡ xs
      all_stay [] none = refl
      all_stay (x ∷ xs) none = rw (head x xs none, none_with (eqb (x.number / 64) word), all_stay xs (tail x xs none)) refl

-- ---- what is left of a list of which a word was handed on
pub handed_kept : (limit compared word left : ℕ) (queue after : Queue) → IsKeptList limit compared queue
    → after ≡ record queue { entries = without_first compared word queue.entries } → left ≡ length (without word (take compared queue.entries))
    → IsKeptList limit left after
handed_kept limit compared word left queue after kept is long = rw is (record {
  list = rw whole (filtered_is_list _ (record { limit = limit; entries = queue.entries }) kept.list);
  room = kept.room;
  front = (let both = length-append (without word (take compared queue.entries)) (drop compared queue.entries) in omega (arith, both, long));
  others = rw (drop_at (without word (take compared queue.entries)) (drop compared queue.entries) left (sym long)) kept.others;
  last =
      rw whole (AllPairs-filter (λ (one other : Entry). is_unstamped one.stage ≡ true → is_unstamped other.stage ≡ true)
      (λ (entry : Entry). not (eqb (entry.number / 64) word && is_passed entry.stage)) queue.entries kept.last);
})
  where
    whole : without_first compared word queue.entries ≡ without word queue.entries
    whole = without_front compared queue.entries kept.others word

-- ---- one entry more
pub added_kept : (limit compared number : ℕ) (queue : Queue) → IsKeptList limit compared queue
    → IsNew (record { limit = limit; entries = queue.entries }) number
    → IsKeptList limit compared (record queue { entries = queue.entries ++ record { number = number; stage = Unstamped } ∷ [] })
added_kept limit compared number queue kept new = record {
  list = added_is_list (record { limit = limit; entries = queue.entries }) number kept.list new;
  room = kept.room;
  front = (let long = length-append queue.entries (entry ∷ []) in omega (arith, long));
  others =
      rw (drop-append-le compared queue.entries (entry ∷ []) kept.front) (All-append (λ (entry : Entry). is_passed entry.stage ≡ false) (drop compared queue.entries) (entry ∷ []) kept.others only);
  last = λ i j d before within. elim (cases_lt j (length queue.entries)) [
    | inl lt ↦
        let earlier : i < length queue.entries = omega (arith, lt, before) in
        rw (get_or_append_left queue.entries (entry ∷ []) d i earlier, get_or_append_left queue.entries (entry ∷ []) d j lt) (kept.last i j d before lt)
    | inr ge ↦
        let long = length-append queue.entries (entry ∷ []) in
        let end : j - length queue.entries ≡ 0 = omega (arith, long, within, ge) in
        let is : get_or (queue.entries ++ entry ∷ []) j d ≡ entry = get_or-append_right queue.entries (entry ∷ []) (length queue.entries) j d refl ge ∙ ap (λ k. get_or (entry ∷ []) k d) end in
        λ unstamped. ap (λ (entry : Entry). is_unstamped entry.stage) is
  ];
}
  where
    entry : Entry
    entry = record { number = number; stage = Unstamped }

    only : NonePassed (entry ∷ [])
    only zero d lt = refl
    only (suc k) d lt = absurd (omega (arith, lt))

-- ---- whether one has no stamp
pub last_tells : (entries : List Entry) → AreLastUnstamped entries → (d : Entry) → 0 < length entries
    → is_unstamped (get_or entries (length entries - 1) d).stage ≡ list_any (λ (entry : Entry). is_unstamped entry.stage) entries
last_tells entries last d some = elim (cases_Bool (is_unstamped (get_or entries end d).stage)) [
  | inl lacks ↦ lacks ∙ sym (list_any_at unstamped entries end d lt lacks)
  | inr has ↦ has ∙ sym (list_any_none unstamped entries (λ i e within. earlier i e within has))
]
  where
    unstamped : Entry → Bool
    unstamped entry = is_unstamped entry.stage

    end : ℕ
    end = length entries - 1

    lt : end < length entries
    lt = omega (arith, some)

    earlier : (i : ℕ) (e : Entry) → i < length entries → is_unstamped (get_or entries end d).stage ≡ false → is_unstamped (get_or entries i e).stage ≡ false
    earlier i e within has = elim (cases_lt i end) [
      | inl before ↦ elim (cases_Bool (is_unstamped (get_or entries i e).stage)) [
        | inl lacks ↦ absurd (let h : is_unstamped (get_or entries end e).stage ≡ true = last i end e before lt lacks in let k : is_unstamped
            (get_or entries end e).stage ≡ false = rw (get_or_default entries end d e lt) at has in let z : true ≡ false = sym h ∙ k in cc)
        | inr is ↦ is
      ]
      | inr at ↦
          let same : i ≡ end = omega (arith, within, at) in
          rw (same, get_or_default entries end e d lt) has
    ]
