-- Where an answer leads a change.
use Rattle.std.specs.Prelude.{◌++◌, ◌-◌, ◌/◌, ℕ, suc, List, [], ◌∷◌, length, take, ltb, Bool, true, false, not, ◌&&◌, ◌||◌, is_some, if◌then◌else◌, Option, Some, None}
use Rattle.tree_limits.specs.declared.limits.Limits.{Limits}
use Rattle.bw_model.specs.declared.step.Answer.{Answer}
use Rattle.bw_model.specs.declared.step.Answer.TheVariants.{Whether}
use Rattle.deltas.specs.Sizes.{row_from}
use Rattle.deltas.specs.declared.record.Record.{Record}
use Rattle.deltas.specs.declared.record.Record.TheVariants as kind
use Rattle.change_machine.specs.declared.change.End.{End}
use Rattle.change_machine.specs.declared.change.End.TheVariants as end
use Rattle.change_machine.specs.declared.change.State.{State}
use Rattle.change_machine.specs.declared.change.State.TheVariants.{Taking, Base, Ready, Place, Link, Undo, Clear}
use Rattle.structure_changes.specs.declared.plan.Plan.{Plan}
use Rattle.structure_changes.specs.declared.plan.Plan.TheVariants.{Install, Split, Root, Unlink}
use Rattle.change_machine.specs.declared.taking.Found.{Found}
use Rattle.change_machine.specs.declared.taking.Found.TheVariants.{Not, Taken, Full}
use Rattle.change_machine.specs.declared.taking.Kind.{Kind}
use Rattle.change_machine.specs.declared.taking.Kind.TheVariants.{Pid, Row}
use Rattle.structure_changes.specs.Plans.{clears, needs_pid, new_base, rows_needed}
use Rattle.structure_changes.specs.Splits.{split_to}
use Rattle.change_machine.specs.Spares.{Spares, last_of, second_of}
use Rattle.change_machine.specs.Taking.{begun_at, found_after, near_after}

-- where a change stands, with these spares, and how it ended, if it has
pub record Moved : Type 0 where
  pub state : State
  pub spares : Spares
  pub end : Option End

-- the first state after all takings, and the one after the new page's slot is set
abbrev pub after_taking : Plan → State
after_taking (Install pid head content) = Place
after_taking (Split pid plan) = Base
after_taking (Root left root) = Base
after_taking (Unlink pid head unterm removal) = Place

abbrev pub after_ready : Plan → State
after_ready (Install pid head content) = Place
after_ready (Split pid plan) = Place
after_ready (Root left root) = Link
after_ready (Unlink pid head unterm removal) = Place

-- the first row that has room for the plan's base, or for its record where it brings no new page; and for a split's record beside its base
abbrev pub upper_from : Limits → Plan → ℕ
upper_from limits plan = row_from limits (new_base plan)

abbrev pub lower_from : Limits → Plan → ℕ
lower_from limits (Split pid plan) = row_from limits (kind.Split (split_to plan 0))
lower_from limits plan = 0

-- Two rows are needed, and there is none, or the last one has no room for a split's record.
abbrev pub lacks_lower : Limits → Plan → List ℕ → Bool
lacks_lower limits plan rows = ltb (suc (length rows)) (rows_needed plan) || ltb (last_of rows) (lower_from limits plan)

-- There are rows enough, and the last one, and the one before it, have room.
abbrev pub has_rows : Limits → Plan → List ℕ → Bool
has_rows limits plan rows =
    not (ltb (length rows) (rows_needed plan)) && (not (ltb (last_of rows) (upper_from limits plan)) && not (ltb (second_of rows) (lower_from limits plan)))

-- the first row that will do as the next one to be taken
abbrev pub wanted_from : Limits → Plan → List ℕ → ℕ
wanted_from limits plan rows = if lacks_lower limits plan rows then lower_from limits plan else upper_from limits plan

-- First a PID is taken, if one is missing, then rows.
abbrev pub first_state : Limits → Plan → Spares → ℕ → State
first_state limits plan spares near =
    if needs_pid plan && not (is_some spares.pid) then Taking (begun_at limits Pid 0 near) else if has_rows limits plan spares.rows then after_taking plan else
    Taking (begun_at limits Row (wanted_from limits plan spares.rows / 64) near)

-- A number that was taken is the last spare of its kind.
abbrev pub with_number : Kind → ℕ → Spares → Spares
with_number Pid pid spares = record spares { pid = Some pid }
with_number Row row spares = record spares { rows = spares.rows ++ row ∷ [] }

-- What is linked is spare no more: the PID of a new page, and the last rows.
abbrev pub spares_left : Plan → Spares → Spares
spares_left plan spares = record { pid = if needs_pid plan then None else spares.pid; rows = take (length spares.rows - rows_needed plan) spares.rows }

-- after a taking
abbrev pub moved_by : Limits → Plan → Spares → ℕ → State → Found → Moved
moved_by limits plan spares near state (Not taking) = record { state = Taking taking; spares = spares; end = None }
moved_by limits plan spares near state (Taken kind number) =
    record { state = first_state limits plan (with_number kind number spares) near; spares = with_number kind number spares; end = None }
moved_by limits plan spares near state (Full kind) = record { state = state; spares = spares; end = Some (end.Full kind) }

-- after the exchange that decides: a page whose term is out is cleared; a new page that is not linked is emptied again
abbrev pub decided_by : Plan → Spares → Bool → Moved
decided_by plan spares true = if clears plan then record { state = Clear; spares = spares_left plan spares; end = None } else
    record { state = Link; spares = spares_left plan spares; end = Some end.Won }
decided_by plan spares false = if needs_pid plan then record { state = Undo; spares = spares; end = None } else record { state = Link; spares = spares; end = Some end.Lost }

abbrev pub whether_in : Answer Record → Bool
whether_in (Whether whether) = whether
whether_in told = false

abbrev pub next_move : Limits → Plan → Spares → ℕ → State → Answer Record → Moved
next_move limits plan spares near (Taking taking) told = moved_by limits plan spares (near_after near taking told) (Taking taking) (found_after limits taking told)
next_move limits plan spares near Base told = record { state = Ready; spares = spares; end = None }
next_move limits plan spares near Ready told = record { state = after_ready plan; spares = spares; end = None }
next_move limits plan spares near Place told = record { state = Link; spares = spares; end = None }
next_move limits plan spares near Link told = decided_by plan spares (whether_in told)
next_move limits plan spares near Undo told = record { state = Undo; spares = spares; end = Some end.Lost }
next_move limits plan spares near Clear told = record { state = Clear; spares = spares; end = Some end.Won }
