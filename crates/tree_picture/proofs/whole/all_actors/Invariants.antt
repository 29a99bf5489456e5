use Rattle.std.proofs.Common.{◌≡◌, List, length}
use Rattle.op_machine.specs.machine.Actors.{Actor}
use Rattle.traces.specs.trace.Trace.{memory_of}
use Rattle.tree_picture.specs.Cells.{AreActorsFrom, cells_from}
use Rattle.tree_picture.specs.Pages.{with_cells}
use Rattle.tree_picture.proofs.whole.all_actors.Given as goal

abbrev pub invariant-loop-number : goal.invariant-loop-number
invariant-loop-number l =
    (actors : List Actor) × (length actors ≡ l.number) × AreActorsFrom l.core.limits l.core.entries l.core.demand.wanted 0 actors
    × (l.sheet ≡ with_cells l.initial.sheet (cells_from (memory_of l.core.limits l.core.entries) 0 actors))
