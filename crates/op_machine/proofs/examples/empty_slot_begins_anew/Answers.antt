use Rattle.op_machine.proofs.TurningLeft.{empty_anew}
use Rattle.op_machine.proofs.examples.empty_slot_begins_anew.Goals as goal

pub returns : goal.returns
returns c = empty_anew
