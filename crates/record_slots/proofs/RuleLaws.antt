-- The rules of a page and the tests of them.
use Rattle.std.proofs.Common.{◌≡◌, ◌<◌, ◌≤◌, ℕ, Bool, true, false, List, [], ◌∷◌, refl, ap, subst, ◌∙◌, arith, IsTrue}
use Rattle.std.specs.Prelude.{◌&&◌, not, nat_le, Option, is_some}
use Rattle.std.specs.List.{All}
use Rattle.std.specs.Ordering.{is_eq}
use Rattle.std.proofs.lemmas.List.Elements.{All-nil, All-head, All-tail, All-cons}
use Rattle.bw_model.specs.Bytes.{key_cmp, is_in_range, is_under}
use Rattle.base_page.specs.declared.item.Item.{Item}
use Rattle.base_page.specs.Pages.{Page, AreItems, IsOfLevel}
use Rattle.base_page.specs.Rules.{AreApart, AreTerms, IsFirstAt, IsRuled, is_held, held_count}
use Rattle.base_page.proofs.KeyLaws.{same, itself}
use Rattle.record_slots.specs.Rules.{are_within, are_apart_after, are_terms, starts_at}
use Rattle.record_slots.proofs.Flags.{left, right, both}

pub within_all : (low : List ℕ) (high : Option (List ℕ)) (items : List Item) → are_within low high items ≡ true → All (λ item. IsTrue (is_in_range low high item.key)) items
within_all low high [] h = All-nil (λ (item : Item). IsTrue (is_in_range low high item.key))
within_all low high (item ∷ items) h =
    All-cons (λ (item : Item). IsTrue (is_in_range low high item.key)) item items (left (is_in_range low high item.key) (are_within low high items) h)
    (within_all low high items (right (is_in_range low high item.key) (are_within low high items) h))

pub all_within : (low : List ℕ) (high : Option (List ℕ)) (items : List Item) → All (λ item. IsTrue (is_in_range low high item.key)) items → are_within low high items ≡ true
all_within low high [] h = refl
all_within low high (item ∷ items) h =
    both (is_in_range low high item.key) (are_within low high items) (All-head (λ (item : Item). IsTrue (is_in_range low high item.key)) item items h)
    (all_within low high items (All-tail (λ (item : Item). IsTrue (is_in_range low high item.key)) item items h))

apart_from : (last : Bool) (items : List Item) → are_apart_after last items ≡ true → AreApart items
apart_from last [] h = tt
apart_from last (item ∷ []) h = tt
apart_from last (item ∷ next ∷ items) h =
    let rest = right (not (last && is_held item.content)) (are_apart_after (is_held item.content) (next ∷ items)) h in
    let one = left (not (is_held item.content && is_held next.content)) (are_apart_after (is_held next.content) items) rest in
    (λ held. unheld (is_held item.content) (is_held next.content) held one, apart_from (is_held item.content) (next ∷ items) rest)
  where
    unheld : (a b : Bool) → a ≡ true → not (a && b) ≡ true → b ≡ false
    unheld true true e h = cc
    unheld true false e h = refl
    unheld false b e h = cc

not_both : (a b : Bool) → (a ≡ true → b ≡ false) → not (a && b) ≡ true
not_both true b h = ap not (h refl)
not_both false b h = refl

apart_test : (last : Bool) (items : List Item) → ((item : Item) (rest : List Item) → items ≡ item ∷ rest → last ≡ true → is_held item.content ≡ false)
    → AreApart items → are_apart_after last items ≡ true
apart_test last [] f h = refl
apart_test last (item ∷ []) f h = both (not (last && is_held item.content)) true (not_both last (is_held item.content) (f item [] refl)) refl
apart_test last (item ∷ next ∷ items) f h =
    both (not (last && is_held item.content)) (are_apart_after (is_held item.content) (next ∷ items)) (not_both last (is_held item.content) (f item (next ∷ items) refl))
    (apart_test (is_held item.content) (next ∷ items) (λ other rest e held. subst (λ (i : Item). is_held i.content ≡ false) (heads e) (h.0 held)) h.1)
  where
    heads : {a b : Item} {xs ys : List Item} → a ∷ xs ≡ b ∷ ys → a ≡ b
    heads e = cc

starts_from : (low : List ℕ) (items : List Item) → starts_at low items ≡ true → IsFirstAt low items
starts_from low [] h = cc
starts_from low (item ∷ items) h =
    (same item.key low (left (is_eq (key_cmp item.key low)) (not (is_held item.content)) h), unheld (is_held item.content) (right (is_eq (key_cmp item.key low)) (not (is_held item.content)) h))
  where
    unheld : (a : Bool) → not a ≡ true → a ≡ false
    unheld true h = cc
    unheld false h = refl

starts_test : (low : List ℕ) (items : List Item) → IsFirstAt low items → starts_at low items ≡ true
starts_test low [] h = absurd h
starts_test low (item ∷ items) h = both (is_eq (key_cmp item.key low)) (not (is_held item.content)) (ap (λ k. is_eq (key_cmp k low)) h.0 ∙ ap is_eq (itself low)) (ap not h.1)

pub terms_from : (low : List ℕ) (items : List Item) → are_terms low items ≡ true → AreTerms low items
terms_from low items h =
    let front = left (starts_at low items && nat_le (held_count items) 4) (are_apart_after false items) h in
    record {
      first = starts_from low items (left (starts_at low items) (nat_le (held_count items) 4) front);
      few = let f : nat_le (held_count items) 4 ≡ true = right (starts_at low items) (nat_le (held_count items) 4) front in search (arith, f);
      apart = apart_from false items (right (starts_at low items && nat_le (held_count items) 4) (are_apart_after false items) h);
    }

pub terms_test : (low : List ℕ) (items : List Item) → AreTerms low items → are_terms low items ≡ true
terms_test low items h =
    both (starts_at low items && nat_le (held_count items) 4) (are_apart_after false items)
    (both (starts_at low items) (nat_le (held_count items) 4) (starts_test low items h.first) (let f = h.few in search (arith, f)))
    (apart_test false items (λ item rest e held. cc) h.apart)

-- the page of these parts
abbrev pub page_of : ℕ → List ℕ → Option (List ℕ) → Option ℕ → List Item → Page
page_of level low high right items = record { level = level; low = low; high = high; right = right; removed = false; items = items }

pub ruled_from : (level : ℕ) (low : List ℕ) (high : Option (List ℕ)) (right : Option ℕ) (items : List Item) → AreItems items → All (λ item. IsOfLevel level item.content) items → level ≤ 15
    → is_some right ≡ is_some high → is_under low high ≡ true → are_within low high items ≡ true → (0 < level → are_terms low items ≡ true) → IsRuled (page_of level low high right items)
ruled_from level low high right items ordered kinds top ends spans within terms = record {
  is_page = record { spans = spans; ordered = ordered; within = within_all low high items within; kinds = kinds };
  ends = ends;
  top = top;
  terms = λ index. terms_from low items (terms index);
}
