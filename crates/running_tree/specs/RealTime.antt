-- Calls in real time, at moments of the tree's table.
use Rattle.std.specs.Prelude.{◌≡◌, ℕ}
use mathlib.Core.Option.{some}
use lib.ListN.{get_elem?}
use Rattle.bw_model.specs.declared.command.Command.{Command}
use Rattle.bw_model.specs.declared.command.Reply.{Reply}
use Rattle.tree_limits.specs.declared.limits.Limits.{Limits}
use Rattle.table_rule.specs.declared.view.Reach.TheVariants.{Idle}
use Rattle.table_rule.specs.Moments.{IsLater, Moment}
use Rattle.table_rule.specs.Running.{Running}
use Rattle.table_rule.specs.Views.{alone}
use Rattle.running_tree.specs.Calls.{BeginsIn, EndsWith, IsCalled, IsResumed}
use Rattle.running_tree.specs.Runs.{IsLawfulRun, StartsWith}
use Rattle.running_tree.specs.Seats.{IsSame, Seat}
use Rattle.running_tree.specs.declared.called.Called.{Called}
use Rattle.running_tree.specs.declared.called.Called.TheVariants.{Done}

-- At this moment the rule of a tree of these limits holds, as it does between any two atomic operations of its threads.
abbrev pub IsTreeMoment : Limits → Moment → Type 0
IsTreeMoment limits s = Running limits (IsLawfulRun limits) s

-- The one moment of a tree's table is the other, or comes after it.
abbrev pub IsLaterMoment : Moment → Moment → Type 0
IsLaterMoment s t = IsLater IsLawfulRun s t

-- At this moment the seat is one of the table's, between two calls, and has seen just this run.
abbrev pub RestsAt : Moment → Seat → Type 0
RestsAt s seat = (id : ℕ) × (get_elem? s.views id ≡ some (alone seat.limits seat.actor seat.seen Idle))

-- All of what the first seat has seen, which ends with its operation's Leave and this reply, comes before the begin of the other seat's operation,
-- in the one history that this other seat has seen after its call.
pub record ComesBefore (first : Seat) (reply : Reply) (old : Seat) (command : Command) (new : Seat) : Type 0 where
  pub ends : EndsWith first reply
  pub begins : BeginsIn old command new.seen
  pub before : StartsWith begins.before first.seen

-- Real time: at a moment a seat rests that has this reply; at a later one another seat rests, and a call on it begins after that. At a still later
-- one it rests again, whatever came of its call. Then all of the first call comes before the second one.
abbrev pub CallsKeepRealTime : Limits → (Seat → Reply → Type 0) → Type 0
CallsKeepRealTime limits HasReplied = (s t u : Moment) → IsTreeMoment limits t → IsTreeMoment limits u → IsLaterMoment s t → IsLaterMoment t u
    → (first : Seat) (reply : Reply) → HasReplied first reply → RestsAt s first
    → (old new : Seat) (command : Command) (budget : ℕ) (called : Called) → IsSame old new → IsCalled old command budget called new → RestsAt t old → RestsAt u new
    → ComesBefore first reply old command new

-- A call on some seat is done with this reply, or was resumed and is done now, and has left the seat so.
abbrev pub HasCalled : Seat → Reply → Type 0
HasCalled first reply = (old : Seat) × (command : Command) × (budget : ℕ) × IsCalled old command budget (Done reply) first

abbrev pub HasResumed : Seat → Reply → Type 0
HasResumed first reply = (old : Seat) × (budget : ℕ) × IsResumed old budget (Done reply) first
