-- Where a descent stands in its place, and the page in hand.
use Rattle.std.specs.Prelude.{ℕ, Option, Some, None, ⊤}
use Rattle.tree_limits.specs.declared.limits.Limits.{Limits}
use Rattle.bw_model.specs.declared.step.Step.{Step as StepOf}
use Rattle.bw_model.specs.declared.step.Step.TheVariants as step
use Rattle.deltas.specs.declared.record.Record.{Record}
use Rattle.row_chain.specs.Placed.{PlacedChain}
use Rattle.structure_changes.specs.Versions.{Version}
use Rattle.round_model.specs.Descents as from_root
use Rattle.round_model.specs.Visits as visit
use Rattle.round_model.specs.Visits.{Sight}
use Rattle.rounds.specs.declared.asked.Asked.{Asked}
use Rattle.rounds.specs.declared.asked.Asked.TheVariants as asked
use Rattle.rounds.specs.declared.descents.WayStateKind.{WayStateKind}
use Rattle.rounds.specs.declared.descents.WayStateKind.TheVariants.{Root, Slot, Row}
use Rattle.rounds.specs.declared.descents.SightKind.{SightKind}
use Rattle.rounds.specs.declared.descents.SightKind.TheVariants.{More, Empty, Whole}

-- The way from the root, and the page in hand, which is the one that was read whole last.
pub record PlacedDescent : Type 0 where
  pub way : from_root.Descent
  pub page : Version

-- the state that a place is, with the records that were read of the page's chain
abbrev pub placed_state : Limits → WayStateKind → PlacedChain → from_root.WayState
placed_state limits Root part = from_root.Root
placed_state limits (Slot pid) part = from_root.Page (record { limits = limits; pid = pid; part = part.records; state = visit.Slot })
placed_state limits (Row pid row) part = from_root.Page (record { limits = limits; pid = pid; part = part.records; state = visit.Row part.head row })

-- by the row at which the page's chain begins
abbrev pub IsSoundAt : Limits → ℕ → WayStateKind → Type 0
IsSoundAt limits head Root = ⊤
IsSoundAt limits head (Slot pid) = visit.IsSoundState limits pid visit.Slot
IsSoundAt limits head (Row pid row) = visit.IsSoundState limits pid (visit.Row head row)

-- the step that is asked for
abbrev pub asked_step : Asked → StepOf Record
asked_step (asked.Slot pid) = step.Slot pid
asked_step (asked.Row row) = step.Row row

-- what a visit found, where the page that is whole is in hand
abbrev pub sight_of : SightKind → Version → Option Sight
sight_of More page = None
sight_of Empty page = Some visit.Empty
sight_of Whole page = Some (visit.Whole page)
