-- Small chains, newest record first.
use Rattle.std.specs.Prelude.{codes, ℕ, List, [], ◌∷◌, Bool, true, false, None}
use Rattle.base_page.specs.Pages.{Page, empty_leaf}
use Rattle.base_page.specs.declared.item.Content.TheVariants.{Value, Child}
use Rattle.base_page.specs.declared.item.Item.{Item}
use Rattle.deltas.specs.declared.record.Record.{Record}
use Rattle.deltas.specs.declared.record.Record.TheVariants as delta

-- the opening leaf, with "a" put and then deleted
abbrev pub put_leaf : List Record
put_leaf = delta.Put (record { next = 1; key = codes "a"; value = codes "1" }) ∷ delta.Base empty_leaf ∷ []

abbrev pub deleted_leaf : List Record
deleted_leaf = delta.Delete (record { next = 2; key = codes "a" }) ∷ put_leaf

abbrev pub leaf : Page
leaf = record {
  level = 0;
  low = codes "a";
  high = None;
  right = None;
  removed = false;
  items = record { key = codes "k08"; content = Value (codes "v08") }
      ∷ record { key = codes "k09"; content = Value (codes "v09") } ∷ [];
}

-- a leaf split at "k09" to the new page 2
abbrev pub split : Record
split = delta.Split (record { level = 0; next = 11; separator = codes "k09"; page = 2 })

abbrev pub split_leaf : List Record
split_leaf = split ∷ delta.Base leaf ∷ []

abbrev pub remove : ℕ → Record
remove next = delta.Remove (record { level = 0; next = next })

abbrev pub removed_leaf : List Record
removed_leaf = remove 7 ∷ delta.Base leaf ∷ []

-- the split page merged back, where it had "k09" with a new value
abbrev pub merge : Record
merge = delta.Merge (record { level = 0; next = 12; low = codes "k09"; high = None; right = None; items = record { key = codes "k09"; content = Value (codes "w09") } ∷ [] })

abbrev pub merged_leaf : List Record
merged_leaf = merge ∷ split_leaf

-- then "k07" put, "k08" deleted, and the page removed
abbrev pub put_k07 : Record
put_k07 = delta.Put (record { next = 13; key = codes "k07"; value = codes "v07" })

abbrev pub delete : Record
delete = delta.Delete (record { next = 14; key = codes "k08" })

abbrev pub leaf_chain : List Record
leaf_chain = remove 15 ∷ delete ∷ put_k07 ∷ merged_leaf

-- an index page with the term of page 1, and then that of page 2, which is held and taken out again
abbrev pub index : Page
index = record { level = 1; low = []; high = None; right = None; removed = false; items = record { key = []; content = Child 1 false } ∷ [] }

abbrev pub index_page : List Record
index_page = delta.Base index ∷ []

abbrev pub term : ℕ → ℕ → Record
term next child = delta.Term (record { level = 1; next = next; separator = codes "k09"; child = child })

abbrev pub termed_page : List Record
termed_page = term 4 2 ∷ index_page

abbrev pub hold : Record
hold = delta.Hold (record { level = 1; next = 5; separator = codes "k09"; child = 2 })

abbrev pub held_page : List Record
held_page = hold ∷ termed_page

abbrev pub unterm : Record
unterm = delta.Unterm (record { level = 1; next = 6; separator = codes "k09"; child = 2 })

abbrev pub untermed_page : List Record
untermed_page = unterm ∷ held_page

-- and a term there again, of page 3
abbrev pub index_chain : List Record
index_chain = term 7 3 ∷ untermed_page

-- then the page split there to page 4, and that one merged back, where it had a term there of page 5, which is held
abbrev pub split_to_page_4 : Record
split_to_page_4 = delta.Split (record { level = 1; next = 8; separator = codes "k09"; page = 4 })

abbrev pub split_index : List Record
split_index = split_to_page_4 ∷ index_chain

abbrev pub page_4 : Page
page_4 = record { level = 1; low = codes "k09"; high = None; right = None; removed = false; items = record { key = codes "k09"; content = Child 5 false } ∷ [] }

abbrev pub index_merge : Record
index_merge = delta.Merge (record { level = 1; next = 9; low = codes "k09"; high = None; right = None; items = page_4.items })

abbrev pub merged_index : List Record
merged_index = index_merge ∷ split_index

abbrev pub hold_again : Record
hold_again = delta.Hold (record { level = 1; next = 10; separator = codes "k09"; child = 5 })

abbrev pub long_index : List Record
long_index = hold_again ∷ merged_index

-- the terms of two index pages: of the one the middle term is held, of the other four are
abbrev pub child : List ℕ → ℕ → Bool → Item
child key page held = record { key = key; content = Child page held }

abbrev pub one_held : List Item
one_held = child [] 1 false ∷ child (codes "a") 2 false ∷ child (codes "b") 3 true ∷ child (codes "c") 4 false ∷ child (codes "d") 5 false ∷ []

abbrev pub four_held : List Item
four_held =
    child [] 1 false ∷ child (codes "a") 2 true ∷ child (codes "b") 3 false ∷ child (codes "c") 4 true ∷ child (codes "d") 5 false ∷ child (codes "e") 6 true
    ∷ child (codes "f") 7 false ∷ child (codes "g") 8 true ∷ child (codes "h") 9 false ∷ child (codes "i") 10 false ∷ []

abbrev pub index_of : List Item → List Record
index_of items = delta.Base (record index { items = items }) ∷ []

-- What doesn't fit: a put over a removal, a put of a key that a split cut off, a base over a base, a hold of the first term, a
-- base that is marked removed, and a split to a page that can't be.
abbrev pub put_over_removal : List Record
put_over_removal = put_k07 ∷ removed_leaf

abbrev pub put_outside : List Record
put_outside = delta.Put (record { next = 12; key = codes "k09"; value = codes "v09" }) ∷ split_leaf

abbrev pub base_over_base : List Record
base_over_base = delta.Base leaf ∷ delta.Base leaf ∷ []

abbrev pub first_held : List Record
first_held = delta.Hold (record { level = 1; next = 4; separator = []; child = 1 }) ∷ index_page

abbrev pub marked_base : List Record
marked_base = delta.Base (record leaf { removed = true }) ∷ []

abbrev pub unnamed_split : List Record
unnamed_split = delta.Split (record { level = 0; next = 11; separator = codes "k09"; page = 0 }) ∷ delta.Base leaf ∷ []
