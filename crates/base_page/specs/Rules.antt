-- The rules of a tree's page: those of its range, and those of an index page's terms.
use Rattle.std.specs.Prelude.{◌≡◌, ◌≤◌, ◌<◌, ℕ, ◌+◌, List, [], ◌∷◌, Bool, true, false, if◌then◌else◌, is_some, ⊤}
use Rattle.base_page.specs.declared.item.Content.{Content}
use Rattle.base_page.specs.declared.item.Content.TheVariants.{Value, Child}
use Rattle.base_page.specs.declared.item.Item.{Item}
use Rattle.base_page.specs.Pages.{Page, IsPage}

-- whether a term is held
abbrev pub is_held : Content → Bool
is_held (Value value) = false
is_held (Child page held) = held

abbrev pub held_count : List Item → ℕ
held_count [] = 0
held_count (item ∷ items) = (if is_held item.content then 1 else 0) + held_count items

-- Of two neighbours at most one is held.
abbrev pub AreApart : List Item → Type 0
AreApart [] = ⊤
AreApart (item ∷ []) = ⊤
AreApart (item ∷ next ∷ items) = (is_held item.content ≡ true → is_held next.content ≡ false) × AreApart (next ∷ items)

-- The first item stands at this key, and isn't held.
abbrev pub IsFirstAt : List ℕ → List Item → Type 0
IsFirstAt low [] = ⊥
IsFirstAt low (item ∷ items) = (item.key ≡ low) × (is_held item.content ≡ false)

-- The first term of an index page stands at the page's low key and isn't held; at most 4 terms are held, and of two
-- neighbours at most one.
pub record AreTerms (low : List ℕ) (items : List Item) : Type 0 where
  pub first : IsFirstAt low items
  pub few : held_count items ≤ 4
  pub apart : AreApart items

-- The rules of a page: it has a right exactly where it has an end, its level is at most 15, and an index page's terms
-- keep theirs.
pub record IsRuled (page : Page) : Type 0 where
  pub is_page : IsPage page
  pub ends : is_some page.right ≡ is_some page.high
  pub top : page.level ≤ 15
  pub terms : 0 < page.level → AreTerms page.low page.items
