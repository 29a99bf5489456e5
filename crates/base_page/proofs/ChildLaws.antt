-- The child of the greatest key that passes.
use Rattle.std.proofs.Common.{◌≡◌, ℕ, ◌+◌, ◌-◌, ◌<◌, ◌≤◌, List, [], ◌∷◌, ◌++◌, length, get_or, take, drop, Bool, true, false, Option, Some, None, refl, sym, ap, subst, ◌∙◌, ◌⊎◌, inl, inr, arith}
use Rattle.std.specs.Prelude.{not}
use Rattle.std.specs.Option.{MatchOption, is_some}
use Rattle.std.specs.List.{AllByRecursion}
use Rattle.std.specs.Ordering.{is_lt}
use Rattle.std.proofs.lemmas.List.{take-append-drop, take_more, get_or_default}
use Rattle.bw_model.specs.Bytes.{is_below}
use Rattle.base_page.specs.declared.item.Content.{Content}
use Rattle.base_page.specs.declared.item.Content.TheVariants.{Value, Child}
use Rattle.base_page.specs.declared.item.Item.{Item}
use Rattle.base_page.specs.Pages.{Page, IsPage, AreItems, child_in, content_at}
use Rattle.base_page.specs.Places.{IsAt, IsGap, IsGreatest, IsGreatestChild, HasNoChild}
use Rattle.base_page.proofs.KeyLaws.{above, itself}
use Rattle.base_page.proofs.ItemLaws.{all-append, all-weaker, back_all, front_ascends, before, Ascends, Ascends-from, of_content}
use Rattle.base_page.proofs.PlaceLaws.{content_at_place, below_place, above_place}
use Rattle.base_page.proofs.PageLaws.{belongs}

by_content : {G : Type 0} (r : Option Content) → (r ≡ None → G) → ((content : Content) → r ≡ Some content → G) → G
by_content None f g = f refl
by_content (Some content) f g = g content refl

no_child : (r : Option Content) → ((child : ℕ) (held : Bool) → r ≡ Some (Child child held) → ⊥) → child_in r ≡ None
no_child None f = refl
no_child (Some (Value value)) f = refl
no_child (Some (Child child held)) f = absurd (f child held refl)

the_child : (content : Content) (child : ℕ) → child_in (Some content) ≡ Some child → (held : Bool) × (content ≡ Child child held)
the_child (Value value) child h = cc
the_child (Child other held) child h = let is : other ≡ child = cc in (held, ap (λ n. Child n held) is)

module _ (items : List Item) (are : AreItems items) (passes : List ℕ → Bool) where
  none_passes : AllByRecursion (λ item. passes item.key ≡ false) items → HasNoChild (content_at items) passes
  none_passes all = record {
    none = λ q pass. no_child (content_at items q) (λ child held h.
        let fails : passes q ≡ false = of_content (λ item. passes item.key ≡ false) items q (Child child held) all h in
        let both : true ≡ false = sym pass ∙ fails in
        cc);
  }

  module _ (i : ℕ) (d : Item) (lt : i < length items) (front : AllByRecursion (λ item. passes item.key ≡ true) (take (i + 1) items))
      (back : AllByRecursion (λ item. passes item.key ≡ false) (drop (i + 1) items)) where
    last_is : (e : Item) → (get_or items i e).key ≡ (get_or items i d).key
    last_is e = ap (λ (item : Item). item.key) (get_or_default items i e d lt)

    front_splits : take (i + 1) items ≡ take i items ++ get_or items i d ∷ []
    front_splits = take_more items i d lt

    front_ordered : Ascends (take i items ++ get_or items i d ∷ [])
    front_ordered = subst Ascends front_splits (front_ascends (take (i + 1) items) (drop (i + 1) items) (subst Ascends (sym (take-append-drop (i + 1) items)) (Ascends-from items are.ascending)))

    passing_last : passes (get_or items i d).key ≡ true
    passing_last =
        let all = subst (AllByRecursion (λ item. passes item.key ≡ true)) front_splits front in
        let last = back_all (λ (item : Item). passes item.key ≡ true) (take i items) (get_or items i d ∷ []) all in
        last.0

    abbrev IsNotAbove : Item → Type 0
    IsNotAbove item = passes item.key ≡ true → is_below (get_or items i d).key item.key ≡ false

    none_above : AllByRecursion IsNotAbove items
    none_above =
        let low = all-weaker _ IsNotAbove (λ (item : Item) h pass. ap is_lt (above item.key (get_or items i d).key h.0)) (take i items) (before (take i items) (get_or items i d ∷ []) front_ordered) in
        let last : IsNotAbove (get_or items i d) = λ pass. ap is_lt (itself (get_or items i d).key) in
        let upto = subst (AllByRecursion IsNotAbove) (sym front_splits) (all-append IsNotAbove (take i items) (get_or items i d ∷ []) low (last, tt)) in
        let high = all-weaker _ IsNotAbove (λ (item : Item) fails pass. let both : true ≡ false = sym pass ∙ fails in cc) (drop (i + 1) items) back in
        subst (AllByRecursion IsNotAbove) (take-append-drop (i + 1) items) (all-append IsNotAbove (take (i + 1) items) (drop (i + 1) items) upto high)

    greatest_last : IsGreatest (content_at items) passes (get_or items i d).key (get_or items i d).content
    greatest_last = record {
      has = content_at_place items are (get_or items i d).key i d (record { within = lt; found = last_is });
      passing = passing_last;
      greatest = λ other pass some. by_content (content_at items other)
          (λ none. let both : false ≡ true = sym (ap is_some none) ∙ some in cc)
          (λ content found. of_content IsNotAbove items other content none_above found pass);
    }

    last_child : (child : ℕ) → child_in (Some (get_or items i d).content) ≡ Some child → IsGreatestChild (content_at items) passes child
    last_child child h =
        let is = the_child (get_or items i d).content child h in
        record { separator = (get_or items i d).key; held = is.0; greatest = subst (λ content. IsGreatest (content_at items) passes (get_or items i d).key content) is.1 greatest_last }

leaf_lacks : (page : Page) (passes : List ℕ → Bool) → IsPage page → page.level ≡ 0 → HasNoChild (content_at page.items) passes
leaf_lacks page passes is leaf = record {
  none = λ q pass. no_child (content_at page.items q) (λ child held h.
      let b = belongs page is q (Child child held) h in
      let positive : 0 < page.level = b.kind in
      omega arith);
}

-- what the last item before the place says, where just the items before it pass
pub child_before : (page : Page) (is : IsPage page) (passes : List ℕ → Bool) (place : ℕ) → place ≤ length page.items
    → AllByRecursion (λ item. passes item.key ≡ true) (take place page.items) → AllByRecursion (λ item. passes item.key ≡ false) (drop place page.items)
    → (r : Option ℕ) → MatchOption r ((place ≡ 0) ⊎ (page.level ≡ 0)) (λ child. (0 < place) × ((d : Item) → child_in (Some (get_or page.items (place - 1) d).content) ≡ Some child))
    → MatchOption r (HasNoChild (content_at page.items) passes) (IsGreatestChild (content_at page.items) passes)
child_before page is passes place le front back None (inl zero) =
    let none : AllByRecursion (λ item. passes item.key ≡ false) (drop 0 page.items) = rw zero at back in
    none_passes page.items is.ordered passes none
child_before page is passes place le front back None (inr leaf) = leaf_lacks page passes is leaf
child_before page is passes place le front back (Some child) h =
    let positive : 0 < place = h.0 in
    let is_next : place - 1 + 1 ≡ place = omega arith in
    last_child page.items is.ordered passes (place - 1) (record { key = []; content = Child 0 false }) (omega arith)
    (subst (λ n. AllByRecursion (λ item. passes item.key ≡ true) (take n page.items)) (sym is_next) front)
    (subst (λ n. AllByRecursion (λ item. passes item.key ≡ false) (drop n page.items)) (sym is_next) back)
    child (h.1 (record { key = []; content = Child 0 false }))

-- the same at or below a key, by where it stands
module _ (page : Page) (is : IsPage page) (key : List ℕ) (place : ℕ) where
  pub child_upto_place : IsAt page.items key place
      → (r : Option ℕ) → MatchOption r ((place + 1 ≡ 0) ⊎ (page.level ≡ 0)) (λ child. (0 < place + 1) × ((d : Item) → child_in (Some (get_or page.items (place + 1 - 1) d).content) ≡ Some child))
      → MatchOption r (HasNoChild (content_at page.items) (λ q. not (is_below key q))) (IsGreatestChild (content_at page.items) (λ q. not (is_below key q)))
  child_upto_place at r h =
      let blank : Item = record { key = []; content = Child 0 false } in
      let key_is : (get_or page.items place blank).key ≡ key = at.found blank in
      let last : not (is_below key (get_or page.items place blank).key) ≡ true = rw key_is (ap (λ o. not (is_lt o)) (itself key)) in
      let low = all-weaker _ _ (λ (item : Item) less. ap (λ o. not (is_lt o)) (above item.key key less)) (take place page.items) (below_place page.items is.ordered key place blank at) in
      let front = subst (AllByRecursion (λ (item : Item). not (is_below key item.key) ≡ true)) (sym (take_more page.items place blank at.within))
      (all-append _ (take place page.items) (get_or page.items place blank ∷ []) low (last, tt)) in
      let back = all-weaker _ _ (λ (item : Item) less. ap (λ o. not (is_lt o)) less) (drop (place + 1) page.items) (above_place page.items is.ordered key place blank at) in
      child_before page is (λ q. not (is_below key q)) (place + 1) (omega (arith, at.within)) front back r h

  pub child_upto_gap : IsGap page.items key place
      → (r : Option ℕ) → MatchOption r ((place ≡ 0) ⊎ (page.level ≡ 0)) (λ child. (0 < place) × ((d : Item) → child_in (Some (get_or page.items (place - 1) d).content) ≡ Some child))
      → MatchOption r (HasNoChild (content_at page.items) (λ q. not (is_below key q))) (IsGreatestChild (content_at page.items) (λ q. not (is_below key q)))
  child_upto_gap gap r h =
      child_before page is (λ q. not (is_below key q)) place gap.within
      (all-weaker _ _ (λ (item : Item) less. ap (λ o. not (is_lt o)) (above item.key key less)) (take place page.items) gap.below)
      (all-weaker _ _ (λ (item : Item) less. ap (λ o. not (is_lt o)) less) (drop place page.items) gap.above)
      r h
