-- What ran out, where an operation found nothing free.
use Rattle.std.specs.Prelude.{◌≡◌, ◌≢◌, Option, Some, None}
use Rattle.bw_model.specs.declared.command.Reply.{Reply}
use Rattle.bw_model.specs.declared.command.Reply.TheVariants.{Full}
use Rattle.tree_limits.specs.declared.limits.Limits.{Limits}
use Rattle.traces.specs.discipline.Knowledge.{Knowledge}
use Rattle.change_machine.specs.Taking.{AllFull}
use Rattle.change_machine.specs.declared.taking.Kind.{Kind}

-- A kind is told where the reply is Full, and nowhere else; the operation has read each word of the free numbers of that kind as 0.
abbrev pub TellsLack : Limits → Knowledge → Reply → Option Kind → Type 0
TellsLack limits k reply None = reply ≢ Full
TellsLack limits k reply (Some kind) = (reply ≡ Full) × AllFull limits k.asked kind

-- A step with a reply tells what ran out; one without a reply leaves what was told.
abbrev pub HasLack : Limits → Knowledge → Option Reply → Option Kind → Option Kind → Type 0
HasLack limits k None old new = new ≡ old
HasLack limits k (Some reply) old new = TellsLack limits k reply new
