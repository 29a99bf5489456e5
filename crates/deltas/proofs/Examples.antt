-- Small examples, computed: what each record names and says, and what two of them make of the page that opens a tree.
use Rattle.std.proofs.Common.{◌≡◌, ℕ, List, [], ◌∷◌, true, false, Some, None, refl}
use Rattle.std.specs.List.Sorted.{IsStrictlySortedBy}
use Rattle.base_page.specs.declared.item.Content.TheVariants.{Value, Child}
use Rattle.base_page.specs.declared.item.Item.{Item}
use Rattle.base_page.specs.Pages.{Page, empty_leaf}
use Rattle.deltas.specs.declared.record.Record.{Record}
use Rattle.deltas.specs.declared.record.Record.TheVariants.{Base, Put, Delete, Split, Term, Hold, Remove, Merge, Unterm}
use Rattle.deltas.specs.Applies.{Applies}
use Rattle.deltas.specs.Records.{names, content_said, high_after, right_after, removed_after, next_row}

abbrev a : List ℕ
a = 97 ∷ []

abbrev k08 : List ℕ
k08 = 107 ∷ 48 ∷ 56 ∷ []

abbrev k09 : List ℕ
k09 = 107 ∷ 48 ∷ 57 ∷ []

abbrev k10 : List ℕ
k10 = 107 ∷ 49 ∷ 48 ∷ []

abbrev k17 : List ℕ
k17 = 107 ∷ 49 ∷ 55 ∷ []

abbrev items_of : List ℕ → List ℕ → List Item
items_of key value = record { key = key; content = Value value } ∷ []

-- the opening base is its own page
opening_base : (under : Page) → Applies under (Base empty_leaf) empty_leaf
unfolding IsStrictlySortedBy
opening_base under = record { ascending = tt; contents = λ key. refl; level = refl; low = refl; high = refl; right = refl; removed = refl }

-- a put of a key on the opening page
first_put : Applies empty_leaf (Put (record { next = 1; key = a; value = 49 ∷ [] })) (record empty_leaf { items = items_of a (49 ∷ []) })
unfolding IsStrictlySortedBy
first_put = record { ascending = (tt, tt); contents = λ key. refl; level = refl; low = refl; high = refl; right = refl; removed = refl }

put_says : content_said (Put (record { next = 1; key = a; value = 49 ∷ [] })) a ≡ Some (Value (49 ∷ []))
put_says = refl

delete_names : names (Delete (record { next = 2; key = a })) a ≡ true
delete_names = refl

delete_says : content_said (Delete (record { next = 2; key = a })) a ≡ None
delete_says = refl

-- a split names its separator and what is above it
split_names : names (Split (record { level = 0; next = 11; separator = k09; page = 2 })) k09 ≡ true
split_names = refl

split_names_above : names (Split (record { level = 0; next = 11; separator = k09; page = 2 })) k10 ≡ true
split_names_above = refl

split_spares_below : names (Split (record { level = 0; next = 11; separator = k09; page = 2 })) k08 ≡ false
split_spares_below = refl

split_ends_there : (high_after (Split (record { level = 0; next = 11; separator = k09; page = 2 })) None ≡ Some k09) ×
    (right_after (Split (record { level = 0; next = 11; separator = k09; page = 2 })) None ≡ Some 2)
split_ends_there = (refl, refl)

term_says : content_said (Term (record { level = 1; next = 5; separator = k09; child = 2 })) k09 ≡ Some (Child 2 false)
term_says = refl

hold_says : content_said (Hold (record { level = 1; next = 5; separator = k09; child = 2 })) k09 ≡ Some (Child 2 true)
hold_says = refl

unterm_says : content_said (Unterm (record { level = 1; next = 5; separator = k09; child = 2 })) k09 ≡ None
unterm_says = refl

unterm_names_one : names (Unterm (record { level = 1; next = 5; separator = k09; child = 2 })) k10 ≡ false
unterm_names_one = refl

remove_removes : removed_after (Remove (record { level = 0; next = 12 })) false ≡ true
remove_removes = refl

-- only a removal removes: a base stands, whatever it is put over
base_stands : removed_after (Base empty_leaf) true ≡ false
base_stands = refl

-- a merge names the keys of its range alone, also those that have no item
abbrev merge : Record
merge = Merge (record { level = 0; next = 7; low = k09; high = Some k17; right = Some 5; items = items_of k10 (49 ∷ []) })

merge_names : (names merge k09 ≡ true) × (names merge k10 ≡ true) × (names merge k08 ≡ false) × (names merge k17 ≡ false)
merge_names = (refl, refl, refl, refl)

merge_says : (content_said merge k09 ≡ None) × (content_said merge k10 ≡ Some (Value (49 ∷ [])))
merge_says = (refl, refl)

merge_brings : (high_after merge (Some k09) ≡ Some k17) × (right_after merge (Some 2) ≡ Some 5) × (next_row merge ≡ Some 7)
merge_brings = (refl, refl, refl)
