-- Operations and their own steps.
use Rattle.std.specs.Prelude.{◌≡◌, ◌<◌, ℕ, List, Option, None, Some, IsSome, slice_get, ⊤}
use Rattle.bw_model.specs.declared.command.Command.{Command}
use Rattle.bw_model.specs.declared.command.Reply.{Reply}
use Rattle.bw_model.specs.declared.step.Step.{Step as StepOf}
use Rattle.bw_model.specs.declared.step.Step.TheVariants.{Leave}
use Rattle.bw_model.specs.declared.step.Answer.{Answer}
use Rattle.deltas.specs.declared.record.Record.{Record}
use Rattle.traces.specs.declared.trace.Entry.{Entry}
use Rattle.traces.specs.declared.trace.Entry.TheVariants.{Begin, Step}

-- an operation: the place of its begin, its actor and its command
pub record Operation : Type 0 where
  pub start : ℕ
  pub actor : ℕ
  pub command : Command

module _ (entries : List Entry) where
  abbrev pub IsOperation : Operation → Type 0
  IsOperation operation = slice_get entries operation.start ≡ Some (Begin operation.actor operation.command)

  -- Entry n is a step of the operation, with this answer, and done with a reply or not.
  pub record IsOwnEntry (operation : Operation) (n : ℕ) (step : StepOf Record) (answer : Answer Record) (reply : Option Reply) : Type 0 where
    pub begun : operation.start < n
    pub entry : slice_get entries n ≡ Some (Step operation.actor step answer reply)
    pub not_ended : (later : ℕ) (command : Command) → operation.start < later → later < n → ¬ (slice_get entries later ≡ Some (Begin operation.actor command))

  abbrev pub TakesOwnStep : Operation → ℕ → StepOf Record → Answer Record → Type 0
  TakesOwnStep operation n step answer = (reply : Option Reply) × IsOwnEntry operation n step answer reply

  abbrev pub IsOwnStep : Operation → ℕ → Type 0
  IsOwnStep operation n = (step : StepOf Record) × (answer : Answer Record) × TakesOwnStep operation n step answer

  -- Step n ends the operation with the reply.
  abbrev pub Finishes : Operation → ℕ → Reply → Type 0
  Finishes operation n reply = (step : StepOf Record) × (answer : Answer Record) × IsOwnEntry operation n step answer (Some reply)

-- A Leave has a reply, and no other step has one.
abbrev pub RepliesAtLeave : Entry → Type 0
RepliesAtLeave (Begin actor command) = ⊤
RepliesAtLeave (Step actor Leave answer reply) = IsSome reply
RepliesAtLeave (Step actor step answer reply) = reply ≡ None

-- An operation leaves once, by its last step, which has its reply.
pub record EndAtLeaves (entries : List Entry) : Type 0 where
  pub each : (n : ℕ) (entry : Entry) → slice_get entries n ≡ Some entry → RepliesAtLeave entry
