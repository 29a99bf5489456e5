-- Where an operation stands after its sweep: a state without a machine is named by the step that it has asked for.
use Rattle.std.specs.Prelude.{ℕ, Option}
use Rattle.bw_model.specs.declared.command.Reply.{Reply}
use Rattle.round_model.specs.ReadRounds.{ReadRound}
use Rattle.round_model.specs.WriteRounds.{WriteRound}
use Rattle.change_machine.specs.Changes.{Change as ChangeOf}
use Rattle.change_machine.specs.declared.taking.Kind.{Kind}
use Rattle.op_parts.specs.declared.then.Then.{Then}

pub data State : Type 0 where
  Begun : State
  Epoch : State
  Enter : (epoch : ℕ) → State
  Read : (round : ReadRound) → State
  Write : (round : WriteRound) → State
  Change : (change : ChangeOf) (then : Then) → State
  Leave : (reply : Reply) (lacks : Option Kind) → State
