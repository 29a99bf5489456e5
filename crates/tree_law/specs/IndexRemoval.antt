-- A run of two actors: one removes an index page, and the other goes round it, and through it to a leaf below it.
use Rattle.std.specs.Prelude.{List, [], ◌∷◌, ◌++◌, true, false, None, Some}
use Rattle.bw_model.specs.declared.command.Reply.TheVariants as reply
use Rattle.bw_model.specs.declared.step.Step.TheVariants.{Slot, Row, Epoch, Exchange, TakePid, Enter, Leave}
use Rattle.bw_model.specs.declared.step.Answer.TheVariants.{Number, Content, Whether, Done}
use Rattle.base_page.specs.declared.item.Content.TheVariants.{Child}
use Rattle.base_page.specs.declared.item.Item.{Item}
use Rattle.deltas.specs.declared.record.Record.{Record}
use Rattle.deltas.specs.declared.record.Record.TheVariants as delta
use Rattle.traces.specs.discipline.Discipline.{base_from, root_over}
use Rattle.traces.specs.declared.trace.Entry.{Entry}
use Rattle.traces.specs.declared.trace.Entry.TheVariants.{Begin, Step}
use Rattle.tree_law.specs.Example.{a, get_a, root_a, takes_rows, places}
use Rattle.tree_law.specs.TwoSplits.{two_splits, upper_b, second_split}

abbrev pub upper_term : Item
upper_term = record { key = a; content = Child 2 false }

-- the index page of the first key and above, and the split that makes it
abbrev pub upper_index : Record
upper_index = base_from (root_a ∷ []) a (upper_term ∷ [])

abbrev pub index_split : Record
index_split = delta.Split (record { level = 1; next = 5; separator = a; page = 5 })

-- the root over both, the hold of the upper one's term, and its removal
abbrev pub higher_root : Record
higher_root = root_over 2 3 a 5

abbrev pub index_hold : Record
index_hold = delta.Hold (record { level = 2; next = 9; separator = a; child = 5 })

abbrev pub index_remove : Record
index_remove = delta.Remove (record { level = 1; next = 7 })

-- the first actor splits the root, and puts a root over both halves
abbrev pub splits_root : List Entry
splits_root = takes_rows 5 7
    ++ places 7 (upper_index ∷ index_split ∷ higher_root ∷ index_hold ∷ index_remove ∷ [])
    ++ Step 0 (TakePid 5) (Whether true) None
    ∷ Step 0 (Exchange 5 0 7) (Whether true) None
    ∷ Step 0 (Exchange 3 5 8) (Whether true) None
    ∷ Step 0 (Slot 3) (Number 8) None
    ∷ Step 0 (Row 8) (Content index_split) None
    ∷ Step 0 (TakePid 6) (Whether true) None
    ∷ Step 0 (Exchange 6 0 9) (Whether true) None
    ∷ Step 0 (Exchange 0 3 6) (Whether true) None
    ∷ []

-- it holds the upper half's term, and removes that page
abbrev pub removes_index : List Entry
removes_index = Step 0 (Slot 0) (Number 6) None
    ∷ Step 0 (Slot 6) (Number 9) None
    ∷ Step 0 (Row 9) (Content higher_root) None
    ∷ Step 0 (Exchange 6 9 10) (Whether true) None
    ∷ Step 0 (Slot 6) (Number 10) None
    ∷ Step 0 (Row 10) (Content index_hold) None
    ∷ Step 0 (Slot 5) (Number 7) None
    ∷ Step 0 (Row 7) (Content upper_index) None
    ∷ Step 0 (Exchange 5 7 11) (Whether true) None
    ∷ []

-- the second one comes to the removed page, reads the page to its left, which still has it as its right, and goes down through what it
-- read of the removed one
abbrev pub walks_through : List Entry
walks_through = Step 1 Epoch (Number 1) None
    ∷ Step 1 (Enter 1) Done None
    ∷ Step 1 (Slot 0) (Number 6) None
    ∷ Step 1 (Slot 6) (Number 10) None
    ∷ Step 1 (Row 10) (Content index_hold) None
    ∷ Step 1 (Row 9) (Content higher_root) None
    ∷ Step 1 (Slot 5) (Number 11) None
    ∷ Step 1 (Row 11) (Content index_remove) None
    ∷ Step 1 (Row 7) (Content upper_index) None
    ∷ Step 1 (Slot 3) (Number 8) None
    ∷ Step 1 (Row 8) (Content index_split) None
    ∷ Step 1 (Row 5) (Content root_a) None
    ∷ Step 1 (Slot 2) (Number 3) None
    ∷ Step 1 (Row 3) (Content second_split) None
    ∷ Step 1 (Row 2) (Content upper_b) None
    ∷ Step 1 Leave Done (Some reply.None)
    ∷ []

abbrev pub index_removal : List Entry
index_removal = two_splits ++ splits_root ++ removes_index ++ Begin 1 get_a ∷ walks_through
