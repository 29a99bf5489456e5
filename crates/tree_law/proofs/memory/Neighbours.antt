-- The greatest term below a held one is in the same page, and isn't held.
use Rattle.tree_law.proofs.Words.{false, true, [], ap, refl, Option, None, Some, List, ◌∷◌, subst, sym, ℕ, ◌≡◌, ◌∙◌, ◌<◌, arith, same_Some, IsSome, key_cmp, is_below, ContentOf, Child, Value}
use Rattle.tree_law.proofs.Words.{Item, Record, content_at, content_in, level_in, Key, IsFitted, AllByRecursion, is_eq, same, found_first, page_of, ruled}
use Rattle.std.specs.Ordering.{is_lt}
use Rattle.std.specs.declared.cmp.Ordering.TheVariants.{Less}
use Rattle.std.proofs.lemmas.List.Elements.{recursion_from_All}
use Rattle.base_page.specs.Pages.{IsOfLevel}
use Rattle.base_page.specs.Places.{IsGreatest}
use Rattle.base_page.specs.Rules.{AreApart, IsFirstAt, is_held}
use Rattle.base_page.proofs.ItemLaws.{AllAbove, Ascends, Ascends-from, all-weaker, of_content}
use Rattle.base_page.proofs.KeyLaws.{above, by_order, differs_above, either, itself}

-- of the items below the key the greatest is a child's, and isn't held
abbrev IsLeft : List Item → Key → Type 0
IsLeft items key = (low : Key) × (child : ℕ) × IsGreatest (content_at items) (λ other. is_below other key) low (Child child false)

-- an index page's item that isn't held is a child
the_child : (level : ℕ) (content : ContentOf) → 0 < level → IsOfLevel level content → is_held content ≡ false → (child : ℕ) × (content ≡ Child child false)
the_child level (Value value) index kind free = absurd (omega (arith, index, kind))
the_child level (Child page held) index kind free = (page, ap (λ h. Child page h) free)

some_content : (content : Option ContentOf) → IsSome content → (is : ContentOf) × (content ≡ Some is)
some_content None some = absurd (cc)
some_content (Some is) some = (is, refl)

-- it is so with one more item before them
one_more : (item : Item) (items : List Item) (key : Key) → AllAbove item.key items → IsLeft items key → IsLeft (item ∷ items) key
one_more item items key all (low, child, greatest) =
    let over : key_cmp item.key low ≡ Less = of_content (λ (each : Item). key_cmp item.key each.key ≡ Less) items low (Child child false) all greatest.has in (
      low,
      child,
      record {
        has = rw (differs_above item.key low over) greatest.has;
        passing = greatest.passing;
        greatest = λ other pass some. either (is_eq (key_cmp other item.key))
            (λ yes. rw (same other item.key yes) (ap is_lt (above item.key low over)))
            (λ no. greatest.greatest other pass (rw no at some));
      },
    )

-- an item isn't below the key
abbrev IsBeyond : Key → Item → Type 0
IsBeyond key item = is_below item.key key ≡ false

-- of two neighbours the first is the greatest below the second
just_before : (item next : Item) (items : List Item) (child : ℕ) → Ascends (item ∷ next ∷ items) → item.content ≡ Child child false → IsLeft (item ∷ next ∷ items) next.key
just_before item next items child ascends is = (
  item.key,
  child,
  record {
    has = found_first item (next ∷ items) ∙ ap Some is;
    passing = ap is_lt ascends.0.0;
    greatest = λ other pass some. by_order item.key other
        (λ less.
        let there : IsSome (content_at (next ∷ items) other) = rw (differs_above item.key other less) at some in
        let content = some_content (content_at (next ∷ items) other) there in
        let not_below : is_below other next.key ≡ false = of_content (IsBeyond next.key) (next ∷ items) other content.0 (ap is_lt (itself next.key), beyond) content.1 in
        absurd (cc))
        (λ equal. rw equal (ap is_lt (itself other)))
        (λ more. ap is_lt (above other item.key more));
  },
)
  where
    beyond : AllByRecursion (IsBeyond next.key) items
    beyond = all-weaker (λ (each : Item). key_cmp next.key each.key ≡ Less) (IsBeyond next.key) (λ each less. ap is_lt (above next.key each.key less)) items ascends.1.0

-- an item that isn't held is none that is
clash : (content : ContentOf) (pid : ℕ) → is_held content ≡ false → Some content ≡ Some (Child pid true) → ⊥
clash content pid free e = let held : is_held content ≡ true = ap is_held (same_Some content (Child pid true) e) in absurd (cc)

module _ (level : ℕ) (index : 0 < level) (key : Key) (pid : ℕ) where
  abbrev Kinds : List Item → Type 0
  Kinds items = AllByRecursion (λ (item : Item). IsOfLevel level item.content) items

  left_item : (items : List Item) (item : Item) → Ascends (item ∷ items) → AreApart (item ∷ items) → Kinds (item ∷ items) → is_held item.content ≡ false
      → content_at (item ∷ items) key ≡ Some (Child pid true) → IsLeft (item ∷ items) key
  left_item [] item ascends apart kinds free e = either (is_eq (key_cmp key item.key))
      (λ yes. absurd (clash item.content pid free (rw yes at e)))
      (λ no. absurd (let none : None ≡ Some (Child pid true) = rw no at e in cc))
  left_item (next ∷ []) item ascends apart kinds free e = either (is_eq (key_cmp key item.key))
      (λ yes. absurd (clash item.content pid free (rw yes at e)))
      (λ no. either (is_eq (key_cmp key next.key))
      (λ yes. let is = the_child level item.content index kinds.0 free in rw (same key next.key yes) (just_before item next [] is.0 ascends is.1))
      (λ none. absurd (let nothing : None ≡ Some (Child pid true) = rw none at (rw no at e) in cc)))
  left_item (next ∷ third ∷ items) item ascends apart kinds free e = either (is_eq (key_cmp key item.key))
      (λ yes. absurd (clash item.content pid free (rw yes at e)))
      (λ no. either (is_eq (key_cmp key next.key))
      (λ yes. let is = the_child level item.content index kinds.0 free in rw (same key next.key yes) (just_before item next (third ∷ items) is.0 ascends is.1))
      (λ other. either (is_held next.content)
      (λ held.
      let later = left_item items third ascends.1.1 apart.1.1 kinds.1.1 (apart.1.0 held) (rw other at (rw no at e)) in
      one_more item (next ∷ third ∷ items) key ascends.0 (one_more next (third ∷ items) key ascends.1.0 later))
      (λ unheld. one_more item (next ∷ third ∷ items) key ascends.0 (left_item (third ∷ items) next ascends.1 apart.1 kinds.1 unheld (rw no at e)))))

  left_items : (items : List Item) (low : Key) → Ascends items → AreApart items → Kinds items → IsFirstAt low items → content_at items key ≡ Some (Child pid true) → IsLeft items key
  left_items [] low ascends apart kinds first e = absurd first
  left_items (item ∷ items) low ascends apart kinds first e = left_item items item ascends apart kinds first.1 e

-- below a term that a fitted chain of an index page decides held, the greatest one isn't held
pub left_term : (chain : List Record) → IsFitted chain → 0 < level_in chain → (key : Key) (pid : ℕ) → content_in chain key ≡ Some (Child pid true)
    → (low : Key) × (child : ℕ) × IsGreatest (content_in chain) (λ other. is_below other key) low (Child child false)
left_term chain fitted index key pid e =
    let made = page_of chain fitted in
    let rules = ruled chain made.0 fitted made.1 in
    let above_leaves : 0 < made.0.level = rw made.1.level index in
    let terms = rules.terms above_leaves in
    let (low, child, greatest) = left_items made.0.level above_leaves key pid made.0.items made.0.low (Ascends-from made.0.items rules.is_page.ordered.ascending) terms.apart
    (recursion_from_All (λ (item : Item). IsOfLevel made.0.level item.content) made.0.items rules.is_page.kinds) terms.first (made.1.items.contents key ∙ e) in (
      low,
      child,
      record {
        has = sym (made.1.items.contents low) ∙ greatest.has;
        passing = greatest.passing;
        greatest = λ other pass some. greatest.greatest other pass (subst IsSome (sym (made.1.items.contents other)) some);
      },
    )
