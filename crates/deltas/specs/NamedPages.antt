-- Which pages a record names.
use Rattle.std.specs.Prelude.{◌≡◌, ℕ, List, Bool, Some, ◌⊎◌}
use Rattle.std.specs.List.{Any}
use Rattle.base_page.specs.declared.item.Content.TheVariants.{Child}
use Rattle.base_page.specs.declared.item.Item.{Item}
use Rattle.deltas.specs.declared.record.Record.{Record}
use Rattle.deltas.specs.declared.record.Record.TheVariants.{Base, Put, Delete, Split, Term, Hold, Remove, Merge, Unterm}

-- the items have the page as a child
abbrev pub HasChild : List Item → ℕ → Type 0
HasChild items pid = Any (λ item. (held : Bool) × (item.content ≡ Child pid held)) items

-- The record names the page, as its right or as a child.
abbrev pub NamesPage : Record → ℕ → Type 0
NamesPage (Base page) pid = (page.right ≡ Some pid) ⊎ HasChild page.items pid
NamesPage (Put put) pid = ⊥
NamesPage (Delete delete) pid = ⊥
NamesPage (Split split) pid = split.page ≡ pid
NamesPage (Term term) pid = term.child ≡ pid
NamesPage (Hold hold) pid = hold.child ≡ pid
NamesPage (Remove remove) pid = ⊥
NamesPage (Merge merge) pid = (merge.right ≡ Some pid) ⊎ HasChild merge.items pid
NamesPage (Unterm unterm) pid = unterm.child ≡ pid
