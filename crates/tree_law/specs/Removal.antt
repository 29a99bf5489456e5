-- A run of two actors: one removes a leaf, and the other, whose keys were there, replies from it and from the leaf on its right.
use Rattle.std.specs.Prelude.{List, [], ◌∷◌, ◌++◌, true, None, Some}
use Rattle.bw_model.specs.declared.command.Command.{Command}
use Rattle.bw_model.specs.declared.command.Command.TheVariants.{Get}
use Rattle.bw_model.specs.declared.command.Reply.TheVariants as reply
use Rattle.bw_model.specs.declared.step.Step.TheVariants.{Slot, Row, Epoch, Exchange, Enter, Leave}
use Rattle.bw_model.specs.declared.step.Answer.TheVariants.{Number, Content, Whether, Done}
use Rattle.traces.specs.declared.trace.Entry.{Entry}
use Rattle.traces.specs.declared.trace.Entry.TheVariants.{Begin, Step}
use Rattle.linearization.specs.Examples.{opening_leaf}
use Rattle.tree_law.specs.Example.{get_a, root_a, hold_a, remove_a, takes_rows, places}
use Rattle.tree_law.specs.TwoSplits.{b, two_splits, upper_b, first_split, upper_c, second_split}

abbrev pub get_b : Command
get_b = Get b

-- the first actor holds the upper leaf's term, and removes the leaf
abbrev pub removes : List Entry
removes = takes_rows 2 7
    ++ places 7 (hold_a ∷ remove_a ∷ [])
    ++ Step 0 (Exchange 3 5 7) (Whether true) None
    ∷ Step 0 (Slot 3) (Number 7) None
    ∷ Step 0 (Row 7) (Content hold_a) None
    ∷ Step 0 (Slot 2) (Number 3) None
    ∷ Step 0 (Row 3) (Content second_split) None
    ∷ Step 0 (Exchange 2 3 8) (Whether true) None
    ∷ []

-- the second one enters, comes to the removed leaf, and reads the leaf to its left, which still has it as its right
abbrev pub walks_left : List Entry
walks_left = Step 1 (Enter 1) Done None
    ∷ Step 1 (Slot 0) (Number 3) None
    ∷ Step 1 (Slot 3) (Number 7) None
    ∷ Step 1 (Row 7) (Content hold_a) None
    ∷ Step 1 (Row 5) (Content root_a) None
    ∷ Step 1 (Slot 2) (Number 8) None
    ∷ Step 1 (Row 8) (Content remove_a) None
    ∷ Step 1 (Row 3) (Content second_split) None
    ∷ Step 1 (Row 2) (Content upper_b) None
    ∷ Step 1 (Slot 1) (Number 4) None
    ∷ Step 1 (Row 4) (Content first_split) None
    ∷ Step 1 (Row 1) (Content opening_leaf) None
    ∷ []

-- After two splits the first actor removes the upper leaf. The second one's first key would have been there. Its second key would
-- be on the removed leaf's right, where it goes on.
abbrev pub removal : List Entry
removal = two_splits
    ++ removes
    ++ Begin 1 get_a
    ∷ Step 1 Epoch (Number 1) None
    ∷ walks_left
    ++ Step 1 Leave Done (Some reply.None)
    ∷ Begin 1 get_b
    ∷ walks_left
    ++ Step 1 (Slot 4) (Number 6) None
    ∷ Step 1 (Row 6) (Content upper_c) None
    ∷ Step 1 Leave Done (Some reply.None)
    ∷ []
