use Rattle.traces.proofs.PaidExamples as paid
use Rattle.traces.proofs.examples.paid_steps_are_told.Goals as goal

pub returns-clause-named : goal.returns-clause-named
returns-clause-named c = paid.named

pub returns-clause-unnamed : goal.returns-clause-unnamed
returns-clause-unnamed c = paid.unnamed

pub returns-clause-again : goal.returns-clause-again
returns-clause-again c = paid.again

pub returns-clause-won : goal.returns-clause-won
returns-clause-won c = paid.exchanged

pub returns-clause-lost : goal.returns-clause-lost
returns-clause-lost c = paid.lost

pub returns-clause-unrecalled : goal.returns-clause-unrecalled
returns-clause-unrecalled c = paid.unrecalled

pub returns-clause-ready : goal.returns-clause-ready
returns-clause-ready c = paid.ready

pub returns-clause-undo : goal.returns-clause-undo
returns-clause-undo c = paid.undo

pub returns-clause-removal : goal.returns-clause-removal
returns-clause-removal c = paid.removal

pub returns-clause-second : goal.returns-clause-second
returns-clause-second c = paid.second_removal

pub returns-clause-round : goal.returns-clause-round
returns-clause-round c = paid.new_round

pub returns-clause-outside : goal.returns-clause-outside
returns-clause-outside c = paid.outside

pub returns-clause-missed : goal.returns-clause-missed
returns-clause-missed c = paid.missed

pub returns-clause-forgotten : goal.returns-clause-forgotten
returns-clause-forgotten c = paid.forgotten
