-- The reply of a seat's last operation, as its own entries tell it, and what its actor keeps of it.
use Rattle.std.specs.Prelude.{◌≡◌, ℕ, List, Option, Some, None, IsSome}
use Rattle.std.specs.List.{fold}
use Rattle.bw_model.specs.declared.command.Reply.{Reply}
use Rattle.tree_limits.specs.declared.limits.Limits.{Limits}
use Rattle.traces.specs.declared.trace.Entry.{Entry}
use Rattle.traces.specs.declared.trace.Entry.TheVariants.{Begin, Step}
use Rattle.traces.specs.discipline.Disciplined.{own_entries}
use Rattle.traces.specs.discipline.Knowledge.{knows}
use Rattle.traces.specs.trace.Trace.{command_of}
use Rattle.change_machine.specs.declared.taking.Kind.{Kind}
use Rattle.op_machine.specs.machine.Lacks.{HasLack}

abbrev pub reply_after : Option Reply → Entry → Option Reply
reply_after last (Begin actor command) = None
reply_after last (Step actor step answer None) = last
reply_after last (Step actor step answer (Some reply)) = Some reply

-- the reply of the operation that an actor began last, once it is finished
abbrev pub last_reply : ℕ → List Entry → Option Reply
last_reply actor run = fold reply_after None (own_entries actor run)

-- What is kept tells what ran out, where the last operation is finished with Full. One that is under way has no reply.
pub record KeepsLack (limits : Limits) (number : ℕ) (seen : List Entry) (lacks : Option Kind) : Type 0 where
  pub told : HasLack limits (knows seen number) (last_reply number seen) None lacks
  pub pending : IsSome (command_of seen number) → last_reply number seen ≡ None
