-- A call that was spent, and goes on.
use Rattle.running_tree.proofs.Words.{◌+◌, ◌++◌, ◌∷◌, List, append_assoc, Begin, StartsWith, ℕ, ap, ◌∙◌, arith, Command, Reply, IsCalled, IsDone, IsFinished}
use Rattle.running_tree.proofs.Words.{IsResumed, IsSpent, IsStill, answered_last, calls_in, Seat, Called}
use Rattle.std.specs.Prelude.{None}
use Rattle.traces.specs.declared.trace.Entry.{Entry}
use Rattle.running_tree.specs.Calls.{BeginsIn}
use Rattle.running_tree.specs.declared.called.Called.TheVariants as called
use Rattle.running_tree.proofs.Going.{answered_snoc, starts_on}

module _ (old mid new : Seat) (command : Command) (budget more : ℕ) (spent : IsSpent old command budget mid) where
  begins_then : StartsWith new.seen mid.seen → BeginsIn old command new.seen
  begins_then grows = record {
    before = spent.begins.before;
    extends = spent.begins.extends;
    after = spent.begins.after ++ grows.0;
    is = grows.1 ∙ ap (λ (run : List Entry). run ++ grows.0) spent.begins.is ∙ append_assoc spent.begins.before (Begin old.actor command ∷ spent.begins.after) grows.0;
  }

  done_then : (reply : Reply) → IsFinished mid more reply new → IsDone old command (budget + more) reply new
  done_then reply g = let before = spent.steps in let few = g.steps in record {
    grows = starts_on old.seen mid.seen new.seen spent.grows g.grows;
    begins = begins_then g.grows;
    ends = g.ends;
    steps = omega arith;
    calls = g.calls ∙ ap (λ calls. answered_last calls reply) spent.calls ∙ answered_snoc (calls_in old) command None reply;
    idle = g.idle;
  }

  spent_then : IsStill mid more new → IsSpent old command (budget + more) new
  spent_then g = let before = spent.steps in let then = g.steps in record {
    grows = starts_on old.seen mid.seen new.seen spent.grows g.grows;
    begins = begins_then g.grows;
    steps = omega arith;
    calls = g.calls ∙ spent.calls;
    busy = g.busy ∙ spent.busy;
  }

pub call_resumed : (old mid new : Seat) (command : Command) (budget more : ℕ) (result : Called) → IsSpent old command budget mid → IsResumed mid more result new
    → IsCalled old command (budget + more) result new
call_resumed old mid new command budget more (called.Done reply) spent g = done_then old mid new command budget more spent reply g
call_resumed old mid new command budget more called.Spent spent g = spent_then old mid new command budget more spent g
