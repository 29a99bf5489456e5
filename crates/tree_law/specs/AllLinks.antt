-- A run of one actor that makes each link.
use Rattle.std.specs.Prelude.{codes, List, [], ◌∷◌, ◌++◌, true, None, Some}
use Rattle.bw_model.specs.declared.command.Command.{Command}
use Rattle.bw_model.specs.declared.command.Command.TheVariants.{Insert, Delete}
use Rattle.bw_model.specs.declared.command.Reply.TheVariants as reply
use Rattle.bw_model.specs.declared.step.Step.TheVariants.{Slot, Row, Place, Exchange, TakePid, TakeRow, Enter, Leave}
use Rattle.bw_model.specs.declared.step.Answer.TheVariants.{Number, Content, Whether, Done}
use Rattle.base_page.specs.declared.item.Content.TheVariants.{Value}
use Rattle.base_page.specs.declared.item.Item.{Item}
use Rattle.base_page.specs.Pages.{empty_leaf}
use Rattle.deltas.specs.declared.record.Record.{Record}
use Rattle.deltas.specs.declared.record.Record.TheVariants as delta
use Rattle.traces.specs.discipline.Discipline.{base_from}
use Rattle.traces.specs.declared.trace.Entry.{Entry}
use Rattle.traces.specs.declared.trace.Entry.TheVariants.{Begin, Step}
use Rattle.linearization.specs.Examples.{opening_leaf, put_a}
use Rattle.tree_law.specs.Example.{a, root_a, hold_a, remove_a, enters, takes_rows, places, roots}

abbrev pub insert_a : Command
insert_a = Insert a (codes "1")

abbrev pub delete_a : Command
delete_a = Delete a

abbrev pub item_a : Item
item_a = record { key = a; content = Value (codes "1") }

abbrev pub upper_a : Record
upper_a = base_from (put_a ∷ opening_leaf ∷ []) a (item_a ∷ [])

abbrev pub split_a : Record
split_a = delta.Split (record { level = 0; next = 2; separator = a; page = 2 })

abbrev pub merge_a : Record
merge_a = delta.Merge (record { level = 0; next = 4; low = a; high = None; right = None; items = item_a ∷ [] })

abbrev pub unterm_a : Record
unterm_a = delta.Unterm (record { level = 1; next = 6; separator = a; child = 2 })

abbrev pub lower_a : Record
lower_a = base_from (opening_leaf ∷ []) a (item_a ∷ [])

abbrev pub split_b : Record
split_b = delta.Split (record { level = 0; next = 8; separator = a; page = 4 })

abbrev pub term_b : Record
term_b = delta.Term (record { level = 1; next = 9; separator = a; child = 4 })

abbrev pub base_b : Record
base_b = base_from (lower_a ∷ []) a (item_a ∷ [])

abbrev pub spare_base : Record
spare_base = delta.Base empty_leaf

abbrev pub deletion_a : Record
deletion_a = delta.Delete (record { next = 13; key = a })

-- what is placed in rows 2 to 14
abbrev pub example_records : List Record
example_records = put_a
    ∷ upper_a
    ∷ split_a
    ∷ root_a
    ∷ hold_a
    ∷ remove_a
    ∷ merge_a
    ∷ unterm_a
    ∷ lower_a
    ∷ split_b
    ∷ term_b
    ∷ base_b
    ∷ spare_base
    ∷ []

-- An insert, a split, a new root, a hold, a removal, a merge, an unterm and a clear, a second split with its term, a
-- consolidation, and a page that is made ready and taken back, in one operation; then one that deletes the key again.
abbrev pub all_links : List Entry
all_links = enters 0 insert_a
    ++ takes_rows 13 2
    ++ places 2 example_records
    ++ Step 0 (Slot 0) (Number 1) None
    ∷ Step 0 (Slot 1) (Number 1) None
    ∷ Step 0 (Row 1) (Content opening_leaf) None
    ∷ Step 0 (Exchange 1 1 2) (Whether true) None
    ∷ Step 0 (Slot 1) (Number 2) None
    ∷ Step 0 (Row 2) (Content put_a) None
    ∷ Step 0 (TakePid 2) (Whether true) None
    ∷ Step 0 (Exchange 2 0 3) (Whether true) None
    ∷ Step 0 (Exchange 1 2 4) (Whether true) None
    ∷ Step 0 (Slot 1) (Number 4) None
    ∷ Step 0 (Row 4) (Content split_a) None
    ∷ roots
    ++ Step 0 (Exchange 3 5 6) (Whether true) None
    ∷ Step 0 (Slot 3) (Number 6) None
    ∷ Step 0 (Row 6) (Content hold_a) None
    ∷ Step 0 (Slot 2) (Number 3) None
    ∷ Step 0 (Row 3) (Content upper_a) None
    ∷ Step 0 (Exchange 2 3 7) (Whether true) None
    ∷ Step 0 (Slot 2) (Number 7) None
    ∷ Step 0 (Row 7) (Content remove_a) None
    ∷ Step 0 (Exchange 1 4 8) (Whether true) None
    ∷ Step 0 (Slot 3) (Number 6) None
    ∷ Step 0 (Slot 1) (Number 8) None
    ∷ Step 0 (Row 8) (Content merge_a) None
    ∷ Step 0 (Exchange 3 6 9) (Whether true) None
    ∷ Step 0 (Exchange 2 7 0) (Whether true) None
    ∷ Step 0 (TakePid 4) (Whether true) None
    ∷ Step 0 (Exchange 4 0 10) (Whether true) None
    ∷ Step 0 (Exchange 1 8 11) (Whether true) None
    ∷ Step 0 (Slot 3) (Number 9) None
    ∷ Step 0 (Row 9) (Content unterm_a) None
    ∷ Step 0 (Slot 1) (Number 11) None
    ∷ Step 0 (Row 11) (Content split_b) None
    ∷ Step 0 (Slot 4) (Number 10) None
    ∷ Step 0 (Row 10) (Content lower_a) None
    ∷ Step 0 (Exchange 3 9 12) (Whether true) None
    ∷ Step 0 (Exchange 4 10 13) (Whether true) None
    ∷ Step 0 (TakePid 5) (Whether true) None
    ∷ Step 0 (Exchange 5 0 14) (Whether true) None
    ∷ Step 0 (Exchange 5 14 0) (Whether true) None
    ∷ Step 0 Leave Done (Some reply.Inserted)
    ∷ Begin 0 delete_a
    ∷ Step 0 (Enter 1) Done None
    ∷ Step 0 (Slot 0) (Number 3) None
    ∷ Step 0 (Slot 3) (Number 12) None
    ∷ Step 0 (Row 12) (Content term_b) None
    ∷ Step 0 (Row 9) (Content unterm_a) None
    ∷ Step 0 (Row 6) (Content hold_a) None
    ∷ Step 0 (Row 5) (Content root_a) None
    ∷ Step 0 (Slot 4) (Number 13) None
    ∷ Step 0 (Row 13) (Content base_b) None
    ∷ Step 0 (TakeRow 15) (Whether true) None
    ∷ Step 0 (Place 15 deletion_a) Done None
    ∷ Step 0 (Exchange 4 13 15) (Whether true) None
    ∷ Step 0 Leave Done (Some (reply.Deleted (codes "1")))
    ∷ []
