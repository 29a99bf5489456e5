-- The longest run only grows at its end: an order of calls in real time.
use Rattle.std.specs.Prelude.{◌≡◌, ◌≢◌, ℕ, List, ◌∷◌, ◌++◌, Some, slice_get, slice_set}
use mathlib.Core.Option.{some}
use lib.ListN.{get_elem?}
use Rattle.bw_model.specs.declared.command.Command.{Command}
use Rattle.tree_limits.specs.declared.limits.Limits.{Limits}
use Rattle.traces.specs.declared.trace.Entry.{Entry}
use Rattle.traces.specs.declared.trace.Entry.TheVariants.{Begin}
use Rattle.traces.specs.discipline.Disciplined.{Extends}
use Rattle.table_rule.specs.declared.view.Part.{Part}
use Rattle.table_rule.specs.declared.view.Reach.TheVariants.{Noted}
use Rattle.table_rule.specs.Moments.{IsLater, Moment, TakesStep}
use Rattle.table_rule.specs.Running.{Running, StartsWith}
use Rattle.table_rule.specs.Views.{Mine, seen_of}

-- A part of the actor's has seen this run.
pub record HasSeen (views : List (List Part)) (actor : ℕ) (run : List Entry) : Type 0 where
  pub id : ℕ
  pub view : List Part
  pub at : get_elem? views id ≡ some view
  pub place : ℕ
  pub part : Part
  pub there : slice_get view place ≡ Some part
  pub own : part.actor ≡ actor
  pub saw : part.seen ≡ run

-- By its seat, and no note, the actor has seen this run.
pub record HasSat (views : List (List Part)) (actor : ℕ) (run : List Entry) : Type 0 where
  pub saw : HasSeen views actor run
  pub stands : saw.part.reach ≢ Noted

-- Nothing that was seen is forgotten: what an actor has seen at a moment begins what it has seen at each later one.
abbrev pub SeesOn : (Limits → List Entry → Type 0) → Type 0
SeesOn law = (s t : Moment) → IsLater law s t → (actor : ℕ) (seen : List Entry) → HasSeen s.views actor seen
    → (run : List Entry) × HasSeen t.views actor run × StartsWith run seen

-- The longest run at a moment begins the longest run at each later one.
abbrev pub HistoryGrows : Limits → (Limits → List Entry → Type 0) → Type 0
HistoryGrows limits law = (s t : Moment) (now : Running limits (law limits) s) (later : Running limits (law limits) t) → IsLater law s t → StartsWith later.run now.run

-- Real time, at three moments, each later than the one before. At the first an actor has seen a run, as up to the leave of a call that has returned. At the
-- second another actor's seat has seen an old run. At the third it has seen that it began an operation, after a run that goes on from the old one by
-- steps of others alone. Then that run begins with what the first actor had seen: all of a call that has returned comes before a call that begins
-- afterwards.
abbrev pub KeepsRealTime : Limits → (Limits → List Entry → Type 0) → Type 0
KeepsRealTime limits law = (s t u : Moment) → Running limits (law limits) t → Running limits (law limits) u → IsLater law s t → IsLater law t u
    → (actor other : ℕ) (before old run rest : List Entry) (command : Command) → HasSeen s.views actor before → HasSat t.views other old
    → HasSeen u.views other (run ++ Begin other command ∷ rest) → Extends other old run → StartsWith run before

-- The next moment is that of a step: one seat has taken a step, and no other view has changed. Then the step stands right behind the run that was the
-- longest at the moment before, and the longest run is now the one that the seat has seen.
abbrev pub StepsExtendTheLongest : Limits → (Limits → List Entry → Type 0) → Type 0
StepsExtendTheLongest limits law = (s t : Moment) (now : Running limits (law limits) s) (later : Running limits (law limits) t) (id : ℕ) (me me' : Mine)
    → get_elem? s.views id ≡ some me.0 → t.views ≡ slice_set s.views id me'.0 → (did : TakesStep law me me') → (did.took.run ≡ now.run) × (later.run ≡ seen_of me')
