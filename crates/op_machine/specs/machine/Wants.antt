-- What an operation wants next: a step, or nothing, as it is done with a reply.
use Rattle.bw_model.specs.declared.command.Reply.{Reply}
use Rattle.bw_model.specs.declared.step.Step.{Step as StepOf}
use Rattle.deltas.specs.declared.record.Record.{Record}

pub data Want : Type 0 where
  Step : (asked : StepOf Record) → Want
  Done : (reply : Reply) → Want
