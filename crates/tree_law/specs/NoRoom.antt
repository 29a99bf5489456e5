-- A run of one actor that takes each row, and then finds none for its update.
use Rattle.std.specs.Prelude.{List, [], ◌∷◌, ◌++◌, None, Some}
use Rattle.bw_model.specs.declared.command.Reply.TheVariants as reply
use Rattle.bw_model.specs.declared.step.Step.TheVariants.{RowBits, Leave}
use Rattle.bw_model.specs.declared.step.Answer.TheVariants.{Number, Done}
use Rattle.traces.specs.declared.trace.Entry.{Entry}
use Rattle.traces.specs.declared.trace.Entry.TheVariants.{Step}
use Rattle.tree_law.specs.AllLinks.{insert_a}
use Rattle.tree_law.specs.Example.{enters, takes_rows}

abbrev pub gives_up : List Entry
gives_up = Step 0 (RowBits 0) (Number 0) None ∷ Step 0 Leave Done (Some reply.Full) ∷ []

-- Rows 2 to 63 are free.
abbrev pub no_room : List Entry
no_room = enters 0 insert_a ++ takes_rows 62 2 ++ gives_up
