-- Replies that fit their commands.
use Rattle.std.proofs.Common.{◌≡◌, Option, Some, None, IsTrue, refl, subst}
use Rattle.std.specs.Prelude.{IfSome}
use Rattle.bw_model.specs.declared.command.Command.{Command}
use Rattle.bw_model.specs.declared.command.Reply.{Reply}
use Rattle.running_tree.specs.declared.called.Called.{Called}
use Rattle.running_tree.specs.declared.called.Called.TheVariants.{Done}
use Rattle.map_laws.specs.Fits.{CameFitting, fits}

pub done_fits : (command : Command) (called : Called) (reply : Reply) → called ≡ Done reply → CameFitting command called → IsTrue (fits command reply)
done_fits command called reply is came = subst (CameFitting command) is came

pub each_fits : (o : Option Command) (called : Called) → ((command : Command) → o ≡ Some command → CameFitting command called) → IfSome o (λ command. CameFitting command called)
each_fits None called fitting = tt
each_fits (Some command) called fitting = fitting command refl
