-- Traces in which each actor obeys its discipline.
use Rattle.std.specs.Prelude.{◌≡◌, ◌<◌, ℕ, List, [], ◌∷◌, ◌++◌, ◌==◌, None, IsSome, Bool, if◌then◌else◌, ⊤}
use Rattle.tree_limits.specs.declared.limits.Limits.{Limits}
use Rattle.traces.specs.declared.trace.Entry.{Entry}
use Rattle.traces.specs.declared.trace.Entry.TheVariants.{Begin, Step}
use Rattle.traces.specs.trace.Steps.{IsAnswer}
use Rattle.traces.specs.trace.Trace.{memory_of, command_of}
use Rattle.traces.specs.discipline.Discipline.{IsAllowed}
use Rattle.traces.specs.discipline.Knowledge.{knows}

-- The entry may stand after these: an operation begins where its actor has none, and takes an allowed step with the memory's answer.
abbrev pub MayStand : Limits → List Entry → Entry → Type 0
MayStand limits entries (Begin actor command) = (actor < limits.actors) × (command_of entries actor ≡ None)
MayStand limits entries (Step actor step answer reply) = IsSome (command_of entries actor) × IsAllowed limits actor (knows entries actor) step reply × IsAnswer (memory_of limits entries) step answer

-- Each of the entries may stand after those before it.
abbrev pub IsDisciplinedFrom : Limits → List Entry → List Entry → Type 0
IsDisciplinedFrom limits before [] = ⊤
IsDisciplinedFrom limits before (entry ∷ entries) = MayStand limits before entry × IsDisciplinedFrom limits (before ++ entry ∷ []) entries

-- In the trace each actor obeys its discipline.
abbrev pub IsDisciplined : Limits → List Entry → Type 0
IsDisciplined limits entries = IsDisciplinedFrom limits [] entries

abbrev pub is_entry_of : ℕ → Entry → Bool
is_entry_of actor (Begin other command) = actor == other
is_entry_of actor (Step other step answer reply) = actor == other

-- the entries of one actor
abbrev pub own_entries : ℕ → List Entry → List Entry
own_entries actor [] = []
own_entries actor (entry ∷ entries) = if is_entry_of actor entry then entry ∷ own_entries actor entries else own_entries actor entries

-- The run begins with what was seen, and goes on with entries of other actors alone.
abbrev pub Extends : ℕ → List Entry → List Entry → Type 0
Extends actor seen run = (rest : List Entry) × (run ≡ seen ++ rest) × (own_entries actor rest ≡ [])
