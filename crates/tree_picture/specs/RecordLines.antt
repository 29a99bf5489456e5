-- The lines of records: one for each record, and under a base or a merge one for each item. A line counts, or a newer record of the chain took away what it says.
use Rattle.std.specs.Prelude.{ℕ, List, [], ◌∷◌, ◌++◌, Bool, true, false, not, codes, decimal, length, map}
use Rattle.std.specs.List.{flat_map, list_any}
use Rattle.base_page.specs.declared.item.Content.{Content}
use Rattle.base_page.specs.declared.item.Content.TheVariants.{Value, Child}
use Rattle.base_page.specs.declared.item.Item.{Item}
use Rattle.deltas.specs.declared.record.Record.{Record}
use Rattle.deltas.specs.declared.record.Record.TheVariants.{Base, Put, Delete, Split, Term, Hold, Remove, Merge, Unterm}
use Rattle.deltas.specs.Records.{names}
use Rattle.traces.specs.chain.SideChain.{LivePage}
use Rattle.tree_picture.specs.Ranges.{key_text, range_text, short_token}

-- a line, and whether it counts
pub record RecordLine : Type 0 where
  pub words : List ℕ
  pub counts : Bool

abbrev pub held_text : Bool → List ℕ
held_text true = codes ", held"
held_text false = []

abbrev pub content_text : Content → List ℕ
content_text (Value value) = codes " = " ++ short_token value
content_text (Child page held) = codes " to PID " ++ decimal page ++ held_text held

abbrev pub item_text : Item → List ℕ
item_text item = key_text item.key ++ content_text item.content

-- a separator and a child
abbrev pub child_text : List ℕ → ℕ → List ℕ
child_text separator child = key_text separator ++ (codes " to PID " ++ decimal child)

abbrev pub record_text : Record → List ℕ
record_text (Base page) = codes "base, items: " ++ decimal (length page.items)
record_text (Put put) = codes "put " ++ key_text put.key ++ (codes " = " ++ short_token put.value)
record_text (Delete delete) = codes "delete " ++ key_text delete.key
record_text (Split split) = codes "split " ++ child_text split.separator split.page
record_text (Term term) = codes "term " ++ child_text term.separator term.child
record_text (Hold hold) = codes "hold " ++ child_text hold.separator hold.child
record_text (Remove remove) = codes "remove"
record_text (Merge merge) = codes "merge " ++ range_text merge.low merge.high
record_text (Unterm unterm) = codes "unterm " ++ child_text unterm.separator unterm.child

-- The newest record that names a key decides it. So what a record says of a key counts where no newer one names that key.
abbrev pub is_unnamed : List Record → List ℕ → Bool
is_unnamed newer key = not (list_any (λ one. names one key) newer)

-- the items of a base or a merge; other records have none
abbrev pub items_in : Record → List Item
items_in (Base page) = page.items
items_in (Merge merge) = merge.items
items_in _ = []

abbrev pub item_line : List Record → Item → RecordLine
item_line newer item = record { words = item_text item; counts = is_unnamed newer item.key }

-- Of the records those of one key may be taken away; what the others say of the page and of its range is not struck out.
abbrev pub record_counts : List Record → Record → Bool
record_counts newer (Put put) = is_unnamed newer put.key
record_counts newer (Delete delete) = is_unnamed newer delete.key
record_counts newer (Term term) = is_unnamed newer term.separator
record_counts newer (Hold hold) = is_unnamed newer hold.separator
record_counts newer (Unterm unterm) = is_unnamed newer unterm.separator
record_counts newer _ = true

-- the lines of a record under some newer ones
abbrev pub record_lines : List Record → Record → List RecordLine
record_lines newer one = record { words = record_text one; counts = record_counts newer one } ∷ map (item_line newer) (items_in one)

-- those of records under some newer ones, the newest first
abbrev pub lines_under : List Record → List Record → List RecordLine
lines_under newer [] = []
lines_under newer (one ∷ older) = record_lines newer one ++ lines_under (newer ++ one ∷ []) older

-- those of a page; of a level, page by page from left to right; and of all levels
abbrev pub page_records : LivePage → List RecordLine
page_records page = lines_under [] page.chain

abbrev pub level_records : List LivePage → List RecordLine
level_records pages = flat_map page_records pages

abbrev pub all_records : List (List LivePage) → List RecordLine
all_records levels = flat_map level_records levels
