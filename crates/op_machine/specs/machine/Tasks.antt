-- What an operation was asked, and how it stands with its actor.
use Rattle.std.specs.Prelude.{◌≡◌, ℕ, List, None, Some, IfSome, true, false}
use Rattle.bw_model.specs.declared.command.Command.{Command}
use Rattle.tree_limits.specs.declared.limits.Limits.{Limits}
use Rattle.traces.specs.discipline.Knowledge.{Knowledge}
use Rattle.change_machine.specs.Spares.{HaveRoom, Rest, Spares}

-- whose an operation is, what it was asked, and which errands it has
pub record Task : Type 0 where
  pub limits : Limits
  pub actor : ℕ
  pub command : Command
  pub errands : List (List ℕ)

-- Whose the operation is, and its command, stay.
pub record IsSameTask (old new : Task) : Type 0 where
  pub limits : new.limits ≡ old.limits
  pub actor : new.actor ≡ old.actor
  pub command : new.command ≡ old.command

-- No change is under way: what the actor took and has not linked is its spares.
pub record HasSpares (limits : Limits) (spares : Spares) (k : Knowledge) : Type 0 where
  pub room : HaveRoom limits spares
  pub rest : Rest k.own spares

-- The spare PID is that of no page that was read.
abbrev pub IsUnreadPid : Spares → Knowledge → Type 0
IsUnreadPid spares k = IfSome spares.pid (λ pid. k.read.heads pid ≡ None)

-- between operations: outside, with spares of its own
pub record IsAtRest (limits : Limits) (spares : Spares) (k : Knowledge) : Type 0 where
  pub outside : k.inside ≡ false
  pub spare : HasSpares limits spares k

-- It is asked the command, and no update is linked.
pub record IsAsked (task : Task) (k : Knowledge) : Type 0 where
  pub going : k.asked.command ≡ Some task.command
  pub unlinked : k.asked.linked ≡ None

-- outside, with a command, and no update linked
pub record Waits (task : Task) (spares : Spares) (k : Knowledge) : Type 0 where
  pub rests : IsAtRest task.limits spares k
  pub unread : IsUnreadPid spares k
  pub asked : IsAsked task k

-- inside, with a command, no update linked, and no change under way
pub record Seeks (task : Task) (spares : Spares) (k : Knowledge) : Type 0 where
  pub inside : k.inside ≡ true
  pub spare : HasSpares task.limits spares k
  pub unread : IsUnreadPid spares k
  pub asked : IsAsked task k

-- inside, with a command, and no change under way
pub record IsBetweenChanges (task : Task) (spares : Spares) (k : Knowledge) : Type 0 where
  pub inside : k.inside ≡ true
  pub spare : HasSpares task.limits spares k
  pub going : k.asked.command ≡ Some task.command
