-- The beginning of two runs: an actor makes three leaves and a root.
use Rattle.std.specs.Prelude.{codes, List, [], ◌∷◌, ◌++◌, true, None}
use Rattle.bw_model.specs.declared.command.Command.{Command}
use Rattle.bw_model.specs.declared.command.Command.TheVariants.{Insert}
use Rattle.bw_model.specs.declared.step.Step.TheVariants.{Slot, Row, Exchange, TakePid}
use Rattle.bw_model.specs.declared.step.Answer.TheVariants.{Number, Content, Whether}
use Rattle.deltas.specs.declared.record.Record.{Record}
use Rattle.deltas.specs.declared.record.Record.TheVariants as delta
use Rattle.traces.specs.discipline.Discipline.{base_from}
use Rattle.traces.specs.declared.trace.Entry.{Entry}
use Rattle.traces.specs.declared.trace.Entry.TheVariants.{Step}
use Rattle.linearization.specs.Examples.{opening_leaf}
use Rattle.tree_law.specs.Example.{a, root_a, enters, takes_rows, places, roots}
use Rattle.tree_law.specs.Keys.{Key}

abbrev pub b : Key
b = codes "b"

abbrev pub insert_b : Command
insert_b = Insert b (codes "1")

-- the leaf of the first key and above, and the split that makes it
abbrev pub upper_b : Record
upper_b = base_from (opening_leaf ∷ []) a []

abbrev pub first_split : Record
first_split = delta.Split (record { level = 0; next = 1; separator = a; page = 2 })

-- the leaf of the second key and above, and the split that makes it
abbrev pub upper_c : Record
upper_c = base_from (upper_b ∷ []) b []

abbrev pub second_split : Record
second_split = delta.Split (record { level = 0; next = 2; separator = b; page = 4 })

-- what is placed in rows 2 to 6
abbrev pub split_up : List Record
split_up = upper_b ∷ second_split ∷ first_split ∷ root_a ∷ upper_c ∷ []

-- Actor 0 splits the leaf, makes a root above it, and splits the upper leaf, whose right has no term yet.
abbrev pub two_splits : List Entry
two_splits = enters 0 insert_b
    ++ Step 0 (Slot 0) (Number 1) None
    ∷ Step 0 (Slot 1) (Number 1) None
    ∷ Step 0 (Row 1) (Content opening_leaf) None
    ∷ takes_rows 5 2
    ++ places 2 split_up
    ++ Step 0 (TakePid 2) (Whether true) None
    ∷ Step 0 (Exchange 2 0 2) (Whether true) None
    ∷ Step 0 (Exchange 1 1 4) (Whether true) None
    ∷ Step 0 (Slot 1) (Number 4) None
    ∷ Step 0 (Row 4) (Content first_split) None
    ∷ roots
    ++ Step 0 (Slot 2) (Number 2) None
    ∷ Step 0 (Row 2) (Content upper_b) None
    ∷ Step 0 (TakePid 4) (Whether true) None
    ∷ Step 0 (Exchange 4 0 6) (Whether true) None
    ∷ Step 0 (Exchange 2 2 3) (Whether true) None
    ∷ []
