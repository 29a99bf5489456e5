-- When an index page keeps a page under it from being removed.
use Rattle.std.specs.Prelude.{◌≡◌, ◌≤◌, ◌⊎◌, ◌&&◌, ◌||◌, List, [], ◌∷◌, Bool, false, Some, IsTrue, ℕ}
use Rattle.std.specs.Ordering.{is_eq}
use Rattle.bw_model.specs.Bytes.{key_cmp}
use Rattle.base_page.specs.declared.item.Content.TheVariants.{Child}
use Rattle.base_page.specs.declared.item.Item.{Item}
use Rattle.base_page.specs.Rules.{held_count, is_held}
use Rattle.deltas.specs.declared.record.Record.{Record}
use Rattle.traces.specs.chain.Chains.{IsItemsOf, content_in}

-- whether the first item has the key
abbrev pub begins_at : List ℕ → List Item → Bool
begins_at key [] = false
begins_at key (item ∷ items) = is_eq (key_cmp key item.key)

-- whether a neighbour of the key's item is held
abbrev pub has_held_neighbour : List ℕ → List Item → Bool
has_held_neighbour key [] = false
has_held_neighbour key (item ∷ []) = false
has_held_neighbour key (item ∷ next ∷ items) = (begins_at key (item ∷ []) && is_held next.content) || (begins_at key (next ∷ []) && is_held item.content) || has_held_neighbour key (next ∷ items)

-- The chain decides the page's term at the low key present: as its first one, or not held while 4 terms are held there or a
-- neighbour is.
pub record HoldsBack (chain : List Record) (page : ℕ) (low : List ℕ) : Type 0 where
  pub held : Bool
  pub there : content_in chain low ≡ Some (Child page held)
  pub items : List Item
  pub are : IsItemsOf chain items
  pub why : IsTrue (begins_at low items) ⊎ ((held ≡ false) × ((4 ≤ held_count items) ⊎ IsTrue (has_held_neighbour low items)))
