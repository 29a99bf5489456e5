-- What a base that a chain allows has, and where.
use Rattle.tree_law.proofs.Words.{false, [], refl, Option, None, List, ◌∷◌, ◌≡◌, Some, IsSome, IsTrue, Item, Key, ContentOf, Page, Record, Base, content_at, is_in_range, level_in, high_in}
use Rattle.tree_law.proofs.Words.{right_in, IsFitted, base_from, IsPage, IsAscending, belongs}
use Rattle.tree_law.proofs.changes.Counting.{Has}

-- the page that such a base spells
abbrev pub base_page : List Record → Key → List Item → Page
base_page chain low items = record { level = level_in chain; low = low; high = high_in chain; right = right_in chain; removed = false; items = items }

module _ (chain : List Record) (low : Key) (items : List Item) (fitted : IsFitted (base_from chain low items ∷ [])) where
  same_page : base_page chain low items ≡ fitted.0
  same_page = let e : Base (base_page chain low items) ≡ Base fitted.0 = fitted.1 in cc

  pub is_page : IsPage (base_page chain low items)
  is_page = rw same_page fitted.2.ruled.is_page

  pub ascends : IsAscending items
  ascends = is_page.ordered.ascending

  -- its keys are in its range
  pub in_range : (key : Key) → Has items key → IsTrue (is_in_range low (high_in chain) key)
  in_range key has = by_content (content_at items key) refl has
    where
      by_content : (content : Option ContentOf) → content_at items key ≡ content → IsSome content → IsTrue (is_in_range low (high_in chain) key)
      by_content None e some = absurd (cc)
      by_content (Some content) e some = (belongs (base_page chain low items) is_page key content e).within
