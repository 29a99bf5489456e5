-- The log under a frame: the updates of the map in their order.
use Rattle.std.specs.Prelude.{ℕ, List, ◌++◌, Bool, true, false, Option, None, Some, codes, decimal, if◌then◌else◌, length}
use Rattle.std.specs.List.{flat_map}
use Rattle.bw_model.specs.Log.{Update, updated_key, updated_value}
use Rattle.bw_model.specs.declared.step.Link.TheVariants as link
use Rattle.linearization.specs.Points.{updates_by}
use Rattle.step_core.specs.Turns.{Core}
use Rattle.step_core.specs.declared.event.Event.{Event}
use Rattle.step_core.specs.declared.event.Event.TheVariants.{Stepped}
use Rattle.traces.specs.trace.Trace.{command_of}
use Rattle.filming.specs.Maps.{token_text}

-- A put or a delete was linked: that step is the linearization point of its operation.
abbrev pub is_update : Event → Bool
is_update (Stepped (Some link.Put)) = true
is_update (Stepped (Some link.Delete)) = true
is_update _ = false

-- the log after an actor's step: there the command of its operation makes its update
abbrev pub log_after : Core → ℕ → Event → List Update → List Update
log_after before actor event log = if is_update event then log ++ updates_by actor (command_of before.entries actor) log else log

abbrev pub value_text : Option (List ℕ) → List ℕ
value_text (Some value) = codes " = " ++ token_text value
value_text None = codes " has no value"

abbrev pub update_line : Update → List ℕ
update_line update = codes "<li>" ++ token_text (updated_key update) ++ value_text (updated_value update) ++ codes "</li>\n"

abbrev pub log_text : List Update → List ℕ
log_text log = codes "<h3>The log after this step (updates: " ++ decimal (length log) ++ codes ")</h3>\n<ol class=\"log\">\n" ++ flat_map update_line log ++ codes "</ol>\n"
