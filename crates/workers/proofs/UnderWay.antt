-- A call that runs to its end, however often it is resumed.
use Rattle.workers.proofs.Words.{Command, None, Reply, Seat, Some, ap, same_on, starts_on, unfinished_command, ℕ, [], ◌++◌, ◌∙◌, ◌∷◌, ◌≡◌}
use Rattle.running_tree.specs.Calls.{IsCalled, IsDone, IsFinished, IsResumed, IsSpent, IsStill, answered_last, calls_in}
use Rattle.running_tree.specs.Runs.{StartsWith}
use Rattle.running_tree.specs.Seats.{IsSame}
use Rattle.running_tree.specs.declared.called.Called.{Called}
use Rattle.running_tree.specs.declared.called.Called.TheVariants.{Done, Spent}
use Rattle.running_tree.proofs.Going.{answered_snoc}
use Rattle.seats.specs.Replies.{GoesOn}

-- A command was begun on the seat, and isn't done.
pub record IsUnderWay (old : Seat) (command : Command) (new : Seat) : Type 0 where
  pub same : IsSame old new
  pub grows : StartsWith new.seen old.seen
  pub calls : calls_in new ≡ calls_in old ++ (command, None) ∷ []
  pub busy : unfinished_command new ≡ Some command

pub begun : (old : Seat) (command : Command) (budget : ℕ) (called : Called) (new : Seat) → IsSame old new → IsCalled old command budget called new → called ≡ Spent → IsUnderWay old command new
begun old command budget called new same is spent =
    let h : IsSpent old command budget new = rw spent at is in
    record { same = same; grows = h.grows; calls = h.calls; busy = h.busy }

pub ended : (old mid new : Seat) (command : Command) (budget : ℕ) (called : Called) (reply : Reply) → IsUnderWay old command mid → IsSame mid new
    → IsResumed mid budget called new → called ≡ Done reply → GoesOn old ((command, Some reply) ∷ []) new
ended old mid new command budget called reply before same is done =
    let h : IsFinished mid budget reply new = rw done at is in record {
      same = same_on old mid new before.same same;
      grows = starts_on old.seen mid.seen new.seen before.grows h.grows;
      calls = h.calls ∙ ap (λ z. answered_last z reply) before.calls ∙ answered_snoc (calls_in old) command None reply;
      idle = h.idle;
    }

-- a command that was done at once
pub done : (old new : Seat) (command : Command) (budget : ℕ) (called : Called) (reply : Reply) → IsSame old new → IsCalled old command budget called new
    → called ≡ Done reply → GoesOn old ((command, Some reply) ∷ []) new
done old new command budget called reply same is at_once =
    let h : IsDone old command budget reply new = rw at_once at is in
    record { same = same; grows = h.grows; calls = h.calls; idle = h.idle }

-- one that was resumed, and isn't done
pub still : (old mid new : Seat) (command : Command) (budget : ℕ) (called : Called) → IsUnderWay old command mid → IsSame mid new
    → IsResumed mid budget called new → called ≡ Spent → IsUnderWay old command new
still old mid new command budget called before same is spent =
    let h : IsStill mid budget new = rw spent at is in record {
      same = same_on old mid new before.same same;
      grows = starts_on old.seen mid.seen new.seen before.grows h.grows;
      calls = h.calls ∙ before.calls;
      busy = h.busy ∙ before.busy;
    }
