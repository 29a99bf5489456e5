-- The table of epochs and limbo: of each actor the epoch that it has announced, and what it has in limbo.
use Rattle.std.specs.Prelude.{◌≡◌, ℕ, ◌+◌, List, [], ◌∷◌, ◌++◌, ◌==◌, Bool, true, false, Option, Some, codes, decimal, if◌then◌else◌, length, map, slice_get}
use Rattle.bw_model.specs.declared.step.Step.{Step as StepOf}
use Rattle.deltas.specs.declared.record.Record.{Record}
use Rattle.deltas.specs.Memory.{Memory}
use Rattle.epochs.specs.declared.entry.Entry.{Entry as EntryOf}
use Rattle.epochs.specs.declared.entry.Stage.{Stage}
use Rattle.epochs.specs.declared.entry.Stage.TheVariants.{Passed, Stamped, Unstamped}
use Rattle.epochs.specs.declared.item.Item.{Item}
use Rattle.epochs.specs.declared.item.Item.TheVariants.{Pid, Row}
use Rattle.op_machine.specs.machine.Actors.{Actor, IsActor, running_command, wanted_by}
use Rattle.tree_limits.specs.declared.limits.Limits.{Limits}
use Rattle.traces.specs.discipline.Knowledge.{knows}
use Rattle.traces.specs.discipline.Recalled.{recalls}
use Rattle.traces.specs.declared.trace.Entry.{Entry}
use Rattle.traces.specs.trace.Trace.{command_of}
use Rattle.tree_picture.specs.declared.cells.Cell.{Cell}
use Rattle.tree_picture.specs.declared.cells.Cell.TheVariants.{Epoch, Limbo}

-- The actor has the operation that the entries show, and wants this step next; what it has in limbo is exactly what its own entries show as taken out of the tree
-- and not freed.
abbrev pub IsActorOf : Limits → List Entry → List (Option (StepOf Record)) → ℕ → Actor → Type 0
IsActorOf limits entries wanted number at =
    IsActor limits number (knows entries number) (recalls entries number) at × (running_command at ≡ command_of entries number) × (slice_get wanted number ≡ Some (wanted_by at.running))

-- so all of them, from this number on
abbrev pub AreActorsFrom : Limits → List Entry → List (Option (StepOf Record)) → ℕ → List Actor → Type 0
AreActorsFrom limits entries wanted number [] = Unit {0}
AreActorsFrom limits entries wanted number (at ∷ actors) = IsActorOf limits entries wanted number at × AreActorsFrom limits entries wanted (number + 1) actors

abbrev pub AreActors : Limits → List Entry → List (Option (StepOf Record)) → List Actor → Type 0
AreActors limits entries wanted actors = (length actors ≡ limits.actors) × AreActorsFrom limits entries wanted 0 actors

-- a row or a PID, by its number
abbrev pub item_of : Bool → ℕ → Item
item_of true number = Row number
item_of false number = Pid number

abbrev pub limbo_cell : Bool → ℕ → EntryOf → Cell
limbo_cell are_rows actor entry = Limbo actor (item_of are_rows entry.number) entry.stage

abbrev pub limbo_cells : Bool → ℕ → List EntryOf → List Cell
limbo_cells are_rows actor entries = map (limbo_cell are_rows actor) entries

-- the cells of an actor: the epoch that it has announced, and all its rows and all its PIDs in limbo, in the order in which they came
abbrev pub actor_cells : Memory → ℕ → Actor → List Cell
actor_cells memory number at =
    Epoch number (memory.announced number) ∷ limbo_cells true number at.hand.limbo.rows.entries ++ limbo_cells false number at.hand.limbo.pids.entries

-- those of all actors, from this number on
abbrev pub cells_from : Memory → ℕ → List Actor → List Cell
cells_from memory number [] = []
cells_from memory number (at ∷ actors) = actor_cells memory number at ++ cells_from memory (number + 1) actors

abbrev pub item_text : Item → List ℕ
item_text (Row row) = codes "row " ++ decimal row
item_text (Pid pid) = codes "PID " ++ decimal pid

-- no stamp yet; a stamp; and one that each other actor has passed
abbrev pub stage_text : Stage → List ℕ
stage_text Unstamped = codes ", no epoch"
stage_text (Stamped epoch) = codes ", epoch " ++ decimal epoch
stage_text (Passed epoch) = codes ", passed " ++ decimal epoch

abbrev pub epoch_text : ℕ → List ℕ
epoch_text epoch = if epoch == 0 then codes ": outside" else codes ": epoch " ++ decimal epoch

abbrev pub cell_text : Cell → List ℕ
cell_text (Epoch actor epoch) = codes "actor " ++ decimal actor ++ epoch_text epoch
cell_text (Limbo actor item stage) = item_text item ++ stage_text stage
