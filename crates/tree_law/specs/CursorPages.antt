-- What follows two of the runs: an actor asks for cursor pages of both directions, and for upkeep.
use Rattle.std.specs.Prelude.{codes, List, [], ◌∷◌, ◌++◌, true, None, Some}
use Rattle.bw_model.specs.declared.command.Command.{Command}
use Rattle.bw_model.specs.declared.command.Command.TheVariants.{Back, Page, Tidy}
use Rattle.bw_model.specs.declared.command.Reply.TheVariants as reply
use Rattle.bw_model.specs.NextKeys.{key_before}
use Rattle.bw_model.specs.declared.step.Step.TheVariants.{Slot, Row, Place, Exchange, TakeRow, Enter, Leave}
use Rattle.bw_model.specs.declared.step.Answer.TheVariants.{Number, Content, Whether, Done}
use Rattle.deltas.specs.declared.record.Record.{Record}
use Rattle.deltas.specs.declared.record.Record.TheVariants as delta
use Rattle.traces.specs.declared.trace.Entry.{Entry}
use Rattle.traces.specs.declared.trace.Entry.TheVariants.{Begin, Step}
use Rattle.tree_law.specs.Example.{a, root_a}
use Rattle.tree_law.specs.HelpedSplit.{other_put, helped_term}
use Rattle.tree_law.specs.Removal.{walks_left}
use Rattle.tree_law.specs.TwoSplits.{b, upper_c}

abbrev pub page_a : Command
page_a = Page a

abbrev pub page_b : Command
page_b = Page b

abbrev pub back_b : Command
back_b = Back b

abbrev pub tidy_b : Command
tidy_b = Tidy b

-- the term of the leaf on the removed one's right
abbrev pub right_term : Record
right_term = delta.Term (record { level = 1; next = 7; separator = b; child = 4 })

-- After the removal: a cursor page from the removed leaf's first key on, which has no pairs and ends where that leaf ended;
-- and upkeep at the leaf on its right, whose term is due and is posted. Then nothing is: the leaf is a base alone, and is not removed
-- while the term beside its own is held.
abbrev pub upkeep : List Entry
upkeep = Begin 1 page_a
    ∷ walks_left
    ++ Step 1 Leave Done (Some (reply.Page [] (Some b)))
    ∷ Begin 1 tidy_b
    ∷ walks_left
    ++ Step 1 (Slot 4) (Number 6) None
    ∷ Step 1 (Row 6) (Content upper_c) None
    ∷ Step 1 (TakeRow 9) (Whether true) None
    ∷ Step 1 (Place 9 right_term) Done None
    ∷ Step 1 (Exchange 3 7 9) (Whether true) None
    ∷ Step 1 (Slot 3) (Number 9) None
    ∷ Step 1 (Row 9) (Content right_term) None
    ∷ Step 1 (Slot 4) (Number 6) None
    ∷ Step 1 Leave Done (Some reply.Tidied)
    ∷ []

-- after the helped split: the way to the last leaf
abbrev pub walks_last : List Entry
walks_last = Step 1 (Enter 1) Done None
    ∷ Step 1 (Slot 0) (Number 3) None
    ∷ Step 1 (Slot 3) (Number 8) None
    ∷ Step 1 (Row 8) (Content helped_term) None
    ∷ Step 1 (Row 5) (Content root_a) None
    ∷ Step 1 (Slot 4) (Number 9) None
    ∷ Step 1 (Row 9) (Content other_put) None
    ∷ Step 1 (Row 6) (Content upper_c) None
    ∷ []

-- A cursor page from the second key on has the pair that was put, and is the last.
abbrev pub last_page : List Entry
last_page = Begin 1 page_b ∷ walks_last ++ Step 1 Leave Done (Some (reply.Page ((b, codes "2") ∷ []) None)) ∷ []

-- A page backward up to the second key has that pair, and the next one goes up to the greatest key below it.
abbrev pub back_page : List Entry
back_page = Begin 1 back_b ∷ walks_last ++ Step 1 Leave Done (Some (reply.BackPage ((b, codes "2") ∷ []) (key_before b))) ∷ []
