-- A page that has an item above a key ends above it, and the item before that leads to the key.
use Rattle.row_chain.proofs.Words.{◌≡◌, ◌<◌, ◌-◌, ◌∷◌, length, get_or, true, refl, ap, subst, arith, not, MatchOption, AllByRecursion, is_lt, is_below, is_under}
use Rattle.row_chain.proofs.Words.{Child, Item, AreItems, Page, Record, Base, IsSpellable, IsFitted, content_in, high_in, items_of, items_said, PassesUpTo, is_left}
use Rattle.std.proofs.Common.{ℕ, List, [], Bool, false, Option, Some, None}
use Rattle.std.specs.Prelude.{⊤}
use Rattle.std.proofs.lemmas.List.{drop_more}
use Rattle.base_page.specs.Pages.{child_in}
use Rattle.base_page.specs.Places.{HasNoChild, IsGreatestChild}
use Rattle.base_page.proofs.KeyLaws.{and_right, below-trans, below_from}
use Rattle.row_chain.proofs.ChildWalks.{child_found}
use Rattle.row_chain.proofs.Winners.{wins}

below_under : (a b : List ℕ) (high : Option (List ℕ)) → is_below a b ≡ true → is_under b high ≡ true → is_under a high ≡ true
below_under a b None less under = refl
below_under a b (Some high) less under = ap is_lt (below-trans a b high (below_from a b less) (below_from b high under))

failed : (b : Bool) → not b ≡ false → b ≡ true
failed true e = refl
failed false e = cc

none : Item
none = record { key = []; content = Child 0 false }

page_ends : (page : Page) → IsSpellable (Base page) → (key : List ℕ) (count : ℕ) → PassesUpTo page.items (is_left false key) count
    → count < length page.items → is_under key page.high ≡ true
page_ends page is key count cut within =
    let item = get_or page.items count none in
    let first = subst (AllByRecursion (λ (i : Item). is_left false key i.key ≡ false)) (drop_more page.items count none within) cut.rest in
    let under = and_right (not (is_below item.key page.low)) (is_under item.key page.high) (is.ruled.is_page.within count none within) in
    below_under key item.key page.high (failed (is_below key item.key) first.0) under

pub ends_above : (row : Record) → IsFitted (row ∷ []) → IsSpellable row → (key : List ℕ) (count : ℕ) → PassesUpTo (items_said row) (is_left false key) count
    → count < length (items_of row) → is_under key (high_in (row ∷ [])) ≡ true
ends_above row (page, is, stands) spells key count cut within = rw is (page_ends page (rw is at spells) key count (rw is at cut) (rw is at within))

-- the child before the place
module _ (row : Record) (fit : IsFitted (row ∷ [])) (spells : IsSpellable row) (passes : List ℕ → Bool) (are : AreItems (items_said row)) (count : ℕ)
    (cut : PassesUpTo (items_said row) passes count) (some : 0 < count) (child : Option ℕ)
    (is : (d : Item) → child ≡ child_in (Some (get_or (items_said row) (count - 1) d).content)) where
  pub child_before : MatchOption child (HasNoChild (content_in (row ∷ [])) passes) (IsGreatestChild (content_in (row ∷ [])) passes)
  child_before =
      let greatest = wins row [] spells passes are count cut None (λ key pass. refl) count (λ i d from to. absurd (omega (arith, from, to)))
      none some (omega arith) refl refl in
      child_found (row ∷ []) fit passes _ _ child greatest (is none)

  pub child_if_some : MatchOption child ⊤ (IsGreatestChild (content_in (row ∷ [])) passes)
  child_if_some = by child child_before
    where
      by : (o : Option ℕ) → MatchOption o (HasNoChild (content_in (row ∷ [])) passes) (IsGreatestChild (content_in (row ∷ [])) passes)
          → MatchOption o ⊤ (IsGreatestChild (content_in (row ∷ [])) passes)
      by None h = tt
      by (Some found) h = h
