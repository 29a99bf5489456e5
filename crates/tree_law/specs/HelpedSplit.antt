-- A run of two actors in which one helps the other's split, and the other's own exchange for it loses.
use Rattle.std.specs.Prelude.{codes, List, [], ◌∷◌, ◌++◌, true, false, None, Some}
use Rattle.bw_model.specs.declared.command.Command.{Command}
use Rattle.bw_model.specs.declared.command.Command.TheVariants.{Insert}
use Rattle.bw_model.specs.declared.command.Reply.TheVariants as reply
use Rattle.bw_model.specs.declared.step.Step.TheVariants.{Slot, Row, Place, Exchange, TakeRow, Leave}
use Rattle.bw_model.specs.declared.step.Answer.TheVariants.{Number, Content, Whether, Done}
use Rattle.base_page.specs.declared.item.Content.TheVariants.{Value}
use Rattle.base_page.specs.declared.item.Item.{Item}
use Rattle.deltas.specs.declared.record.Record.{Record}
use Rattle.deltas.specs.declared.record.Record.TheVariants as delta
use Rattle.traces.specs.declared.trace.Entry.{Entry}
use Rattle.traces.specs.declared.trace.Entry.TheVariants.{Step}
use Rattle.tree_law.specs.Example.{root_a, enters}
use Rattle.tree_law.specs.TwoSplits.{b, two_splits, upper_b, upper_c, second_split}

abbrev pub insert_other : Command
insert_other = Insert b (codes "2")

-- what the second actor puts
abbrev pub item_b : Item
item_b = record { key = b; content = Value (codes "2") }

abbrev pub other_put : Record
other_put = delta.Put (record { next = 6; key = b; value = codes "2" })

abbrev pub helped_term : Record
helped_term = delta.Term (record { level = 1; next = 5; separator = b; child = 4 })

-- After two splits the first actor goes no further. The second one finds its key beyond the end of the leaf that the root
-- names, goes right, posts the term of the new leaf, and puts its key there. The first one's exchange for the same term loses;
-- it finds the key there.
abbrev pub helped_split : List Entry
helped_split = two_splits
    ++ enters 1 insert_other
    ++ Step 0 (TakeRow 7) (Whether true) None
    ∷ Step 0 (Place 7 helped_term) Done None
    ∷ Step 1 (Slot 0) (Number 3) None
    ∷ Step 1 (Slot 3) (Number 5) None
    ∷ Step 1 (Row 5) (Content root_a) None
    ∷ Step 1 (Slot 2) (Number 3) None
    ∷ Step 1 (Row 3) (Content second_split) None
    ∷ Step 1 (Row 2) (Content upper_b) None
    ∷ Step 1 (Slot 4) (Number 6) None
    ∷ Step 1 (Row 6) (Content upper_c) None
    ∷ Step 1 (TakeRow 8) (Whether true) None
    ∷ Step 1 (Place 8 helped_term) Done None
    ∷ Step 1 (Exchange 3 5 8) (Whether true) None
    ∷ Step 1 (TakeRow 9) (Whether true) None
    ∷ Step 1 (Place 9 other_put) Done None
    ∷ Step 1 (Exchange 4 6 9) (Whether true) None
    ∷ Step 1 Leave Done (Some reply.Inserted)
    ∷ Step 0 (Slot 2) (Number 3) None
    ∷ Step 0 (Row 3) (Content second_split) None
    ∷ Step 0 (Slot 4) (Number 9) None
    ∷ Step 0 (Row 9) (Content other_put) None
    ∷ Step 0 (Row 6) (Content upper_c) None
    ∷ Step 0 (Exchange 3 5 7) (Whether false) None
    ∷ Step 0 Leave Done (Some (reply.Exists (codes "2")))
    ∷ []
