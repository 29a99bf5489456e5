-- How many items a chain decides, with one record more on it.
use Rattle.tree_law.proofs.Words.{◌⊎◌, [], refl, None, List, true, inl, length, ◌≤◌, inr, ◌∷◌, ◌≡◌, ◌∙◌, ◌+◌, IsSome, IsTrue, IsFalse, is_below, content_at, Item, Key, ContentOf, Record, Base}
use Rattle.tree_law.proofs.Words.{Split, SplitOf, Page, content_in, names, decided, IsAscending, IsItemsOf}
use Rattle.deltas.specs.Records.{content_said}
use Rattle.tree_law.proofs.changes.Counting.{Has, fewer, fewer_two, fewer_than_both}

module _ (chain : List Record) (items : List Item) (are : IsItemsOf chain items) where
  has_item : (key : Key) → IsSome (content_in chain key) → Has items key
  has_item key has = rw (are.contents key) has

  -- the same chain has no more items by any list
  pub same_items : (others : List Item) → IsItemsOf chain others → length others ≤ length items
  same_items others is = fewer others items is.ascending (λ key has. has_item key (rw (is.contents key) at has))

  module _ (newest : Record) (now : List Item) (is : IsItemsOf (newest ∷ chain) now) where
    -- what the longer chain has at a key
    by_name : (key : Key) → Has now key → ((names newest key ≡ true) × IsSome (content_said newest key)) ⊎ IsSome (content_in chain key)
    by_name key has = let there : IsSome (content_in (newest ∷ chain) key) = rw (is.contents key) at has in elim (decided (names newest key)) [
      | inl t ↦ inl (t, rw t at there)
      | inr t ↦ inr (rw t at there)
    ]

    -- a record that gives content to keys of these items adds so many at most
    pub more_by : (new : List Item) → ((key : Key) → names newest key ≡ true → IsSome (content_said newest key) → Has new key) → length now ≤ length items + length new
    more_by new among = fewer_than_both now items new is.ascending (λ key has. elim (by_name key has) [
      | inl named ↦ inr (among key named.0 named.1)
      | inr old ↦ inl (has_item key old)
    ])

    -- one that gives content only to keys that have some adds none
    pub no_more : ((key : Key) → names newest key ≡ true → IsSome (content_said newest key) → IsSome (content_in chain key)) → length now ≤ length items
    no_more there = fewer now items is.ascending (λ key has. elim (by_name key has) [
      | inl named ↦ has_item key (there key named.0 named.1)
      | inr old ↦ has_item key old
    ])

  -- a base that has content only where the chain has some has no more items
  pub base_items : (page : Page) (now : List Item) → IsItemsOf (Base page ∷ []) now → ((key : Key) → Has page.items key → IsSome (content_in chain key)) → length now ≤ length items
  base_items page now is there = fewer now items is.ascending (λ key has. has_item key (there key (rw (is.contents key) at has)))

  -- of a split the items that stay and those that go are all that there were
  module _ (split : SplitOf) (lower : List Item) (is : IsItemsOf (Split split ∷ chain) lower) (upper : List Item) (ascending : IsAscending upper)
      (alike : (key : Key) → IsSome (content_in chain key) → IsFalse (is_below key split.separator) → content_at upper key ≡ content_in chain key)
      (above : (key : Key) → Has upper key → IsFalse (is_below key split.separator) × IsSome (content_in chain key)) where
    stays : (key : Key) → Has lower key → IsTrue (is_below key split.separator) × IsSome (content_in chain key)
    stays key has = let there : IsSome (content_in (Split split ∷ chain) key) = rw (is.contents key) at has in elim (decided (is_below key split.separator)) [
      | inl t ↦ (t, rw t at there)
      | inr t ↦ absurd (let none : IsSome {T = ContentOf} None = rw t at there in cc)
    ]

    below_stays : (key : Key) → IsSome (content_in chain key) → IsTrue (is_below key split.separator) → Has lower key
    below_stays key has below = let at : content_at lower key ≡ content_in chain key = is.contents key ∙ (rw below refl) in rw at has

    pub halves_fit : length lower + length upper ≤ length items
    halves_fit = fewer_two lower upper items is.ascending ascending
        (λ key low high. let l = (stays key low).0 in let h = (above key high).0 in absurd (cc (l, h)))
        (λ key low. has_item key (stays key low).1)
        (λ key high. has_item key (above key high).1)

    pub halves_have_all : length items ≤ length lower + length upper
    halves_have_all = fewer_than_both items lower upper are.ascending
        (λ key has. let there : IsSome (content_in chain key) = rw (are.contents key) at has in elim (decided (is_below key split.separator)) [
          | inl t ↦ inl (below_stays key there t)
          | inr t ↦ inr (let at : content_at upper key ≡ content_in chain key = alike key there t in rw at there)
        ])
