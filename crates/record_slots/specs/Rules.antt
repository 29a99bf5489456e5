-- The rules of a page as tests.
use Rattle.std.specs.Prelude.{ℕ, List, [], ◌∷◌, Bool, true, false, not, ◌&&◌, nat_le, Option}
use Rattle.std.specs.Ordering.{is_eq}
use Rattle.bw_model.specs.Bytes.{key_cmp, is_in_range}
use Rattle.base_page.specs.declared.item.Item.{Item}
use Rattle.base_page.specs.Rules.{is_held, held_count}

-- each item is in the range
abbrev pub are_within : List ℕ → Option (List ℕ) → List Item → Bool
are_within low high [] = true
are_within low high (item ∷ items) = is_in_range low high item.key && are_within low high items

-- the first item stands at the key and isn't held
abbrev pub starts_at : List ℕ → List Item → Bool
starts_at low [] = false
starts_at low (item ∷ items) = is_eq (key_cmp item.key low) && not (is_held item.content)

-- No two neighbours are held; the item before them is held, or isn't.
abbrev pub are_apart_after : Bool → List Item → Bool
are_apart_after last [] = true
are_apart_after last (item ∷ items) = not (last && is_held item.content) && are_apart_after (is_held item.content) items

-- the rules of an index page's terms
abbrev pub are_terms : List ℕ → List Item → Bool
are_terms low items = (starts_at low items && nat_le (held_count items) 4) && are_apart_after false items
