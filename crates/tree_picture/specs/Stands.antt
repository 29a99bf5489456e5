-- Where actors stand: at the page whose slot their operation read last.
use Rattle.std.specs.Prelude.{ℕ, zero, suc, List, [], ◌++◌, ◌==◌, Option, None, Some, codes, decimal, filter, fold, if◌then◌else◌, map, option_to_list, slice_get}
use Rattle.std.specs.List.{flat_map}
use Rattle.bw_model.specs.declared.command.Command.{Command}
use Rattle.bw_model.specs.declared.step.Step.{Step as StepOf}
use Rattle.bw_model.specs.declared.step.Step.TheVariants.{Row, Slot}
use Rattle.tree_limits.specs.declared.limits.Limits.{Limits}
use Rattle.deltas.specs.declared.record.Record.{Record}
use Rattle.traces.specs.chain.SideChain.{LivePage}
use Rattle.traces.specs.declared.trace.Entry.{Entry}
use Rattle.traces.specs.declared.trace.Entry.TheVariants.{Begin, Step}
use Rattle.traces.specs.trace.Trace.{command_of}
use Rattle.tree_picture.specs.declared.stands.Stand.{Stand}

-- A step that reads a slot tells that this one was read last.
abbrev pub slot_of : StepOf Record → Option (Option ℕ)
slot_of (Slot slot) = Some (Some slot)
slot_of _ = None

-- what an entry tells of the slot that an actor's operation read last: an operation that begins has read none
abbrev pub slot_told : Entry → ℕ → Option (Option ℕ)
slot_told (Begin actor command) number = if actor == number then Some None else None
slot_told (Step actor step answer reply) number = if actor == number then slot_of step else None

abbrev pub or_before : Option ℕ → Option (Option ℕ) → Option ℕ
or_before before None = before
or_before before (Some slot) = slot

-- the slot that an actor's operation read last, if it has read one
abbrev pub slot_read : List Entry → ℕ → Option ℕ
slot_read entries number = fold (λ before entry. or_before before (slot_told entry number)) None entries

-- the row that a step reads
abbrev pub row_of : Option (Option (StepOf Record)) → Option ℕ
row_of (Some (Some (Row row))) = Some row
row_of _ = None

-- An actor that has an operation stands at the page whose slot that read last.
abbrev pub stand_by : Option Command → Option ℕ → ℕ → Option ℕ → Option Stand
stand_by (Some command) (Some page) actor row = Some (record { actor = actor; page = page; row = row })
stand_by _ _ actor row = None

abbrev pub stand_of : List Entry → List (Option (StepOf Record)) → ℕ → Option Stand
stand_of entries wanted actor = stand_by (command_of entries actor) (slot_read entries actor) actor (row_of (slice_get wanted actor))

-- those of the actors below a number, in their order
abbrev pub stands_below : List Entry → List (Option (StepOf Record)) → ℕ → List Stand
stands_below entries wanted zero = []
stands_below entries wanted (suc actor) = stands_below entries wanted actor ++ option_to_list (stand_of entries wanted actor)

-- those of all actors, by the steps that their operations want
abbrev pub stands_in : Limits → List Entry → List (Option (StepOf Record)) → List Stand
stands_in limits entries wanted = stands_below entries wanted limits.actors

-- those at a page; page by page of a level, and of all levels
abbrev pub stands_at : List Stand → ℕ → List Stand
stands_at stands pid = filter (λ stand. stand.page == pid) stands

abbrev pub page_stands : List Stand → LivePage → List Stand
page_stands stands page = stands_at stands page.pid

abbrev pub level_stands : List Stand → List LivePage → List (List Stand)
level_stands stands pages = map (page_stands stands) pages

abbrev pub all_stands : List Stand → List (List LivePage) → List (List Stand)
all_stands stands levels = flat_map (level_stands stands) levels

-- the words for one
abbrev pub next_text : Option ℕ → List ℕ
next_text (Some row) = codes ", next row " ++ decimal row
next_text None = []

abbrev pub stand_text : ℕ → Option ℕ → List ℕ
stand_text actor row = codes "actor " ++ decimal actor ++ next_text row
