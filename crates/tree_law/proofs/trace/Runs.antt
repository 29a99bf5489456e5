-- In a trace in which each actor obeys its discipline, the state stands after each entry.
use Rattle.tree_law.proofs.Words.{[], List, ◌++◌, ◌∷◌, append_assoc, map, append-nil, Limits, IsDisciplined, IsDisciplinedFrom, turn_of, Entry, Begin, Step, IsLinearized, IsState}
use Rattle.traces.specs.discipline.Disciplined.{MayStand}
use Rattle.tree_law.specs.TraceLaws.{DisciplinedRuns}
use Rattle.tree_law.proofs.trace.Beginning.{opens, begins}
use Rattle.tree_law.proofs.trace.Steps.{steps, is_one_map}

one_more : (limits : Limits) (before : List Entry) (entry : Entry) → IsState limits before → MayStand limits before entry → IsState limits (before ++ entry ∷ [])
one_more limits before (Begin actor command) state may = begins limits before actor command state may.0 may.1
one_more limits before (Step actor step answer reply) state may = steps limits before actor step answer reply state may.0 may.1 may.2

pub state_along : (limits : Limits) (before entries : List Entry) → IsState limits before → IsDisciplinedFrom limits before entries → IsState limits (before ++ entries)
state_along limits before [] state h = rw append-nil state
state_along limits before (entry ∷ entries) state h = rw (append_assoc before (entry ∷ []) entries) at (state_along limits (before ++ entry ∷ []) entries (one_more limits before entry state h.0) h.1)

pub disciplined : DisciplinedRuns
disciplined limits entries h = state_along limits [] entries (opens limits) h

pub linearized : (limits : Limits) (entries : List Entry) → IsDisciplined limits entries → IsLinearized limits (map turn_of entries) entries
linearized limits entries h = is_one_map limits entries (disciplined limits entries h)
