-- What is proved of the tree: the opening memory meets the invariant, and each step of an actor that obeys its discipline
-- keeps it, whatever the other actors are about to do.
use Rattle.std.specs.Prelude.{◌≡◌, ◌<◌, ℕ, suc, List, [], Option, None}
use Rattle.bw_model.specs.declared.command.Command.{Command}
use Rattle.bw_model.specs.declared.command.Reply.{Reply}
use Rattle.tree_limits.specs.declared.limits.Limits.{Limits}
use Rattle.bw_model.specs.declared.step.Step.{Step as StepOf}
use Rattle.bw_model.specs.declared.step.Answer.{Answer}
use Rattle.bw_model.specs.Log.{Update}
use Rattle.deltas.specs.declared.record.Record.{Record}
use Rattle.deltas.specs.Memory.{Memory, opening}
use Rattle.traces.specs.trace.Steps.{IsAnswer, memory_after}
use Rattle.tree_law.specs.Indexed.{IsIndexed}
use Rattle.tree_law.specs.Keys.{Key, IsBelow, IsUpTo}
use Rattle.traces.specs.discipline.Knowledge.{Knowledge, nothing, after_begin, learn, after_reply}
use Rattle.traces.specs.discipline.Discipline.{MayAnswer, IsAllowed}
use Rattle.tree_law.specs.Next.{After}
use Rattle.tree_law.specs.Owners.{Owners}
use Rattle.tree_law.specs.Put.{put}
use Rattle.tree_law.specs.Replies.{IsRepliedAt}
use Rattle.tree_law.specs.Shared.{Shared, shared_part}
use Rattle.tree_law.specs.Times.{Times, Timed}
use Rattle.tree_law.specs.Tree.{IsTree}

-- The order of keys is total, and the empty key is lowest.
pub record KeyLaw : Type 0 where
  pub below_upto : (a b c : Key) → IsBelow a b → IsUpTo b c → IsBelow a c
  pub upto_below : (a b c : Key) → IsUpTo a b → IsBelow b c → IsBelow a c
  pub not_below : (a b : Key) → IsBelow a b → IsUpTo b a → ⊥
  pub upto_both : (a b : Key) → IsUpTo a b → IsUpTo b a → a ≡ b
  pub empty_lowest : (a : Key) → IsUpTo [] a

-- The opening memory meets the invariant at the empty log, while nobody knows anything.
abbrev pub OpenLaw : Type 0
OpenLaw = (limits : Limits) → (o : Owners) × IsTree (shared_part (opening limits)) [] o (λ actor. nothing) (λ actor. None) (λ actor. [])

-- An operation's begin keeps it.
abbrev pub BeginLaw : Type 0
BeginLaw = (m : Shared) (log : List Update) (o : Owners) (knows : ℕ → Knowledge) (point : ℕ → Option (List Update)) (logs : ℕ → List (List Update)) → IsTree m log o knows point logs
    → (a : ℕ) (command : Command) → IsTree m log o (put knows a (after_begin (knows a) command)) (put point a None) (put logs a [])

-- What a step leaves, and what actors hold then.
pub record Stepped (limits : Limits) (memory : Memory) (log : List Update) (o : Owners) (knows : ℕ → Knowledge) (point : ℕ → Option (List Update))
    (logs : ℕ → List (List Update)) (now a : ℕ) (s : StepOf Record) (x : Answer Record) (r : Option Reply) : Type
    0 where
  pub after : After a (shared_part memory) (shared_part (memory_after a s memory)) log o knows point logs s x r
  pub times : Times
  pub timed : Timed limits (memory_after a s memory) after.owners (put knows a (after_reply (learn (knows a) s x) r)) (suc now) times

-- Each allowed step with the memory's answer keeps the invariant, with what the step adds to the log, and what actors hold.
abbrev pub StepLaw : Type 0
StepLaw =
    (limits : Limits) (memory : Memory) (log : List Update) (o : Owners) (knows : ℕ → Knowledge) (point : ℕ → Option (List Update)) (logs : ℕ → List (List Update)) (now : ℕ) (t : Times)
    → IsTree (shared_part memory) log o knows point logs → Timed limits memory o knows now t
    → (a : ℕ) → a < limits.actors → (s : StepOf Record) (x : Answer Record) (r : Option Reply) → IsAllowed limits a (knows a) s r → IsAnswer memory s x
    → Stepped limits memory log o knows point logs now a s x r

-- A reply that an actor may give is its command's by a log of its operation.
abbrev pub AnswerLaw : Type 0
AnswerLaw = (m : Shared) (log : List Update) (o : Owners) (knows : ℕ → Knowledge) (point : ℕ → Option (List Update)) (logs : ℕ → List (List Update)) → IsTree m log o knows point logs
    → (a : ℕ) (command : Command) (reply : Reply) → MayAnswer a (knows a) command reply → IsRepliedAt a command reply (point a) (logs a)

-- The levels are whole side chains, and the index between them is exact.
abbrev pub IndexLaw : Type 0
IndexLaw =
    (memory : Memory) (log : List Update) (o : Owners) (knows : ℕ → Knowledge) (point : ℕ → Option (List Update)) (logs : ℕ → List (List Update))
    → IsTree (shared_part memory) log o knows point logs → IsIndexed memory o
