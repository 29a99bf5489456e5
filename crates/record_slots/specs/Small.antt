-- Records whose numbers are those of a tree of at most 4,096 PIDs and 16,384 rows.
use Rattle.std.specs.Prelude.{ℕ, Bool, true, ◌&&◌, nat_lt, List, Option, None, Some, IsTrue}
use Rattle.std.specs.List.{list_all}
use Rattle.base_page.specs.declared.item.Content.{Content}
use Rattle.base_page.specs.declared.item.Content.TheVariants.{Value, Child}
use Rattle.base_page.specs.declared.item.Item.{Item}
use Rattle.deltas.specs.declared.record.Record.{Record}
use Rattle.deltas.specs.declared.record.Record.TheVariants.{Base, Put, Delete, Split, Term, Hold, Remove, Merge, Unterm}
use Rattle.record_slots.specs.Spells.{IsSpelling}

abbrev pub is_low_pid : ℕ → Bool
is_low_pid pid = nat_lt pid 4096

abbrev pub is_low_row : ℕ → Bool
is_low_row row = nat_lt row 16384

abbrev pub is_low_right : Option ℕ → Bool
is_low_right None = true
is_low_right (Some pid) = is_low_pid pid

abbrev pub is_low_content : Content → Bool
is_low_content (Value value) = true
is_low_content (Child page held) = is_low_pid page

abbrev pub are_low_items : List Item → Bool
are_low_items items = list_all (λ item. is_low_content item.content) items

abbrev pub is_small : Record → Bool
is_small (Base page) = is_low_right page.right && are_low_items page.items
is_small (Put put) = is_low_row put.next
is_small (Delete delete) = is_low_row delete.next
is_small (Split split) = is_low_row split.next && is_low_pid split.page
is_small (Term term) = is_low_row term.next && is_low_pid term.child
is_small (Hold hold) = is_low_row hold.next && is_low_pid hold.child
is_small (Remove remove) = is_low_row remove.next
is_small (Merge merge) = (is_low_row merge.next && is_low_right merge.right) && are_low_items merge.items
is_small (Unterm unterm) = is_low_row unterm.next && is_low_pid unterm.child

-- The words spell the record, whose numbers are those of a small tree.
pub record IsSmallSpelling (content : Record) (words : List ℕ) : Type 0 where
  pub spelling : IsSpelling content words
  pub small : IsTrue (is_small content)
