-- Where a key stands among ascending items, and which of the keys that pass is the greatest.
use Rattle.std.specs.Prelude.{◌≡◌, ◌<◌, ◌≤◌, ℕ, List, Bool, false, Option, None, Some, IsTrue, IsSome, length, take, drop}
use Rattle.std.specs.List.{AllByRecursion, HoldsAt}
use Rattle.std.specs.declared.cmp.Ordering.TheVariants.{Less}
use Rattle.bw_model.specs.Bytes.{key_cmp, is_below}
use Rattle.base_page.specs.declared.item.Content.{Content}
use Rattle.base_page.specs.declared.item.Content.TheVariants.{Child}
use Rattle.base_page.specs.declared.item.Item.{Item}
use Rattle.base_page.specs.Pages.{child_in}

-- the item at the place has the key
pub record IsAt (items : List Item) (key : List ℕ) (place : ℕ) : Type 0 where
  pub within : place < length items
  pub found : HoldsAt (λ item. item.key ≡ key) items place

-- The key would stand at the place: each item before it is below the key, each from it on above.
pub record IsGap (items : List Item) (key : List ℕ) (place : ℕ) : Type 0 where
  pub within : place ≤ length items
  pub below : AllByRecursion (λ item. key_cmp item.key key ≡ Less) (take place items)
  pub above : AllByRecursion (λ item. key_cmp key item.key ≡ Less) (drop place items)

-- The items before the place are below the key, and those from it on are not.
pub record IsCut (items : List Item) (key : List ℕ) (place : ℕ) : Type 0 where
  pub within : place ≤ length items
  pub below : AllByRecursion (λ item. key_cmp item.key key ≡ Less) (take place items)
  pub rest : AllByRecursion (λ item. is_below item.key key ≡ false) (drop place items)

-- Of the keys that pass and have a content, this one, which has the content, is the greatest.
pub record IsGreatest (contents : List ℕ → Option Content) (passes : List ℕ → Bool) (key : List ℕ) (content : Content) : Type 0 where
  pub has : contents key ≡ Some content
  pub passing : IsTrue (passes key)
  pub greatest : (other : List ℕ) → IsTrue (passes other) → IsSome (contents other) → is_below key other ≡ false

-- The child of the greatest key that passes; its term may be held.
pub record IsGreatestChild (contents : List ℕ → Option Content) (passes : List ℕ → Bool) (child : ℕ) : Type 0 where
  pub separator : List ℕ
  pub held : Bool
  pub greatest : IsGreatest contents passes separator (Child child held)

-- no key that passes has a child
pub record HasNoChild (contents : List ℕ → Option Content) (passes : List ℕ → Bool) : Type 0 where
  pub none : (key : List ℕ) → IsTrue (passes key) → child_in (contents key) ≡ None
