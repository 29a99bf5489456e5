-- How many items a page has, by the keys at which it has some.
use Rattle.tree_law.proofs.Words.{false, ◌⊎◌, [], ap, refl, suc, None, List, inl, length, ◌++◌, ◌≤◌, inr, ◌∷◌, ◌≡◌, ◌∙◌, arith, ◌+◌, IsSome, if◌then◌else◌, is_eq, key_cmp, content_at, Item}
use Rattle.tree_law.proofs.Words.{Key, ContentOf, IsAscending, same, decided, found_first}
use Rattle.std.specs.List.Sorted.{IsStrictlySortedBy}
use Rattle.traces.proofs.FittedLaws.{ascends_after, lacks_first}

-- the items have the key
abbrev pub Has : List Item → Key → Type 0
Has items key = IsSome (content_at items key)

-- without the first item of the key
abbrev without : List Item → Key → List Item
without [] key = []
without (item ∷ items) key = if is_eq (key_cmp key item.key) then items else item ∷ without items key

one_less : (items : List Item) (key : Key) → Has items key → length items ≡ suc (length (without items key))
one_less [] key has = absurd (cc)
one_less (item ∷ items) key has = elim (decided (is_eq (key_cmp key item.key))) [
  | inl t ↦ rw t refl
  | inr t ↦ rw t (ap suc (one_less items key (rw t at has)))
]

-- another key is there still
others_stay : (items : List Item) (key other : Key) → is_eq (key_cmp other key) ≡ false → Has items other → Has (without items key) other
others_stay [] key other apart has = absurd (cc)
others_stay (item ∷ items) key other apart has = elim (decided (is_eq (key_cmp key item.key))) [
  | inl t ↦
      let at : key ≡ item.key = same key item.key t in
      let not_first : is_eq (key_cmp other item.key) ≡ false = rw at at apart in
      rw t (rw not_first at has)
  | inr t ↦ rw t (elim (decided (is_eq (key_cmp other item.key))) [
    | inl u ↦ rw u refl
    | inr u ↦ rw u (others_stay items key other apart (rw u at has))
  ])
]

-- the rest has the first key no more
first_gone : (item : Item) (items : List Item) → IsAscending (item ∷ items) → content_at items item.key ≡ None
unfolding IsStrictlySortedBy
first_gone item [] up = refl
first_gone item (next ∷ items) up = lacks_first next items item.key up.1 up.0.0

rest_apart : (item : Item) (items : List Item) (key : Key) → IsAscending (item ∷ items) → Has items key → is_eq (key_cmp key item.key) ≡ false
rest_apart item items key up has = elim (decided (is_eq (key_cmp key item.key))) [
  | inr t ↦ t
  | inl t ↦ let gone : content_at items key ≡ None = ap (content_at items) (same key item.key t) ∙ first_gone item items up in let f : IsSome {T = ContentOf} None = rw gone at has in absurd (cc)
]

rest_has : (item : Item) (items : List Item) (key : Key) → Has items key → Has (item ∷ items) key
rest_has item items key has = elim (decided (is_eq (key_cmp key item.key))) [ inl t ↦ rw t refl | inr t ↦ rw t has ]

-- Two lists of items without a common key, whose keys are all among those of a third, have no more than that.
pub fewer_two : (xs ys zs : List Item) → IsAscending xs → IsAscending ys → ((key : Key) → Has xs key → Has ys key → ⊥) → ((key : Key) → Has xs key → Has zs key)
    → ((key : Key) → Has ys key → Has zs key) → length xs + length ys ≤ length zs
fewer_two [] [] zs up up' apart in_xs in_ys = omega arith
fewer_two [] (y ∷ ys) zs up up' apart in_xs in_ys =
    let first : Has (y ∷ ys) y.key = rw (found_first y ys) refl in
    let less : length zs ≡ suc (length (without zs y.key)) = one_less zs y.key (in_ys y.key first) in
    let rest : 0 + length ys ≤ length (without zs y.key) = fewer_two [] ys (without zs y.key) up (ascends_after y ys up') (λ key none. absurd (cc)) (λ key none. absurd (cc))
    (λ key has. others_stay zs y.key key (rest_apart y ys key up' has) (in_ys key (rest_has y ys key has))) in
    omega arith
fewer_two (x ∷ xs) ys zs up up' apart in_xs in_ys =
    let first : Has (x ∷ xs) x.key = rw (found_first x xs) refl in
    let less : length zs ≡ suc (length (without zs x.key)) = one_less zs x.key (in_xs x.key first) in
    let other : (key : Key) → Has ys key → is_eq (key_cmp key x.key) ≡ false = λ key has. elim (decided (is_eq (key_cmp key x.key))) [
      | inr t ↦ t
      | inl t ↦ absurd (apart key (rw (same key x.key t) first) has)
    ] in
    let rest : length xs + length ys ≤ length (without zs x.key) = fewer_two xs ys (without zs x.key) (ascends_after x xs up) up' (λ key has. apart key (rest_has x xs key has))
    (λ key has. others_stay zs x.key key (rest_apart x xs key up has) (in_xs key (rest_has x xs key has)))
    (λ key has. others_stay zs x.key key (other key has) (in_ys key has)) in
    omega arith

empty_ascends : IsAscending []
unfolding IsStrictlySortedBy
empty_ascends = tt

-- items whose keys are all among those of others
pub fewer : (xs zs : List Item) → IsAscending xs → ((key : Key) → Has xs key → Has zs key) → length xs ≤ length zs
fewer xs zs up each =
    let both : length xs + 0 ≤ length zs = fewer_two xs [] zs up empty_ascends (λ key has none. absurd (cc)) each (λ key none. absurd (cc)) in
    omega arith

-- the keys of two lists, one behind the other
has_left : (xs ys : List Item) (key : Key) → Has xs key → Has (xs ++ ys) key
has_left [] ys key has = absurd (cc)
has_left (x ∷ xs) ys key has = elim (decided (is_eq (key_cmp key x.key))) [ inl t ↦ rw t refl | inr t ↦ rw t (has_left xs ys key (rw t at has)) ]

has_right : (xs ys : List Item) (key : Key) → Has ys key → Has (xs ++ ys) key
has_right [] ys key has = has
has_right (x ∷ xs) ys key has = elim (decided (is_eq (key_cmp key x.key))) [ inl t ↦ rw t refl | inr t ↦ rw t (has_right xs ys key has) ]

both_lengths : (xs ys : List Item) → length (xs ++ ys) ≡ length xs + length ys
both_lengths [] ys = omega arith
both_lengths (x ∷ xs) ys = let rest : length (xs ++ ys) ≡ length xs + length ys = both_lengths xs ys in omega arith

-- items whose keys are all in one list or in another
pub fewer_than_both : (xs ys zs : List Item) → IsAscending xs → ((key : Key) → Has xs key → Has ys key ⊎ Has zs key) → length xs ≤ length ys + length zs
fewer_than_both xs ys zs up each =
    let all : length xs ≤ length (ys ++ zs) = fewer xs (ys ++ zs) up (λ key has. elim (each key has) [ inl l ↦ has_left ys zs key l | inr r ↦ has_right ys zs key r ]) in
    let long : length (ys ++ zs) ≡ length ys + length zs = both_lengths ys zs in
    omega arith
