-- The calls of one actor about a key that nobody else changes.
use Rattle.std.specs.Prelude.{◌≡◌, ◌≤◌, ◌&&◌, ℕ, List, [], ◌∷◌, Bool, false, if◌then◌else◌, Option, Some, None, IsTrue, ⊤}
use Rattle.std.specs.Ordering.{is_eq}
use Rattle.bw_model.specs.Bytes.{key_cmp}
use Rattle.bw_model.specs.Log.{Update, updated_value}
use Rattle.bw_model.specs.Replies.{is_writer, reply_of, update_of}
use Rattle.bw_model.specs.declared.command.Command.{Command}
use Rattle.bw_model.specs.declared.command.Command.TheVariants.{Get, Insert, Upsert, Delete, DeleteIf, Swap, Add, Page, Back, Tidy}
use Rattle.bw_model.specs.declared.command.Reply.{Reply}
use Rattle.traces.specs.declared.trace.Entry.{Entry}
use Rattle.linearization.specs.Operations.{IsOperation, IsOwnStep, Operation}
use Rattle.linearization.specs.Points.{has_point}

-- whether the command is about the key's value; a cursor page of either direction and a tidying are not
abbrev pub is_about : List ℕ → Command → Bool
is_about key (Get other) = is_eq (key_cmp key other)
is_about key (Insert other value) = is_eq (key_cmp key other)
is_about key (Upsert other value) = is_eq (key_cmp key other)
is_about key (Delete other) = is_eq (key_cmp key other)
is_about key (DeleteIf other expected) = is_eq (key_cmp key other)
is_about key (Swap other expected value) = is_eq (key_cmp key other)
is_about key (Add other number) = is_eq (key_cmp key other)
is_about key (Page from) = false
is_about key (Back upto) = false
is_about key (Tidy other) = false

-- whether it may change that value
abbrev pub may_change : List ℕ → Command → Bool
may_change key command = is_about key command && is_writer command

-- the value after an update, if there is one
abbrev pub value_by : Option Update → Option (List ℕ) → Option (List ℕ)
value_by None before = before
value_by (Some update) before = updated_value update

-- what a command makes of its key's value
abbrev pub value_made : Command → Option (List ℕ) → Option (List ℕ)
value_made command before = value_by (update_of 0 command before) before

-- whether a call with this reply tells of the key: it is about it, and took effect, as it did not where the reply is Full
abbrev pub tells : List ℕ → Command → Reply → Bool
tells key command given = is_about key command && has_point given

-- the key's value after a call with this reply
abbrev pub value_then : List ℕ → Option (List ℕ) → Command → Reply → Option (List ℕ)
value_then key before command given = if tells key command given then value_made command before else before

-- A map with this one key, which has the value before, gives the replies of the calls that tell of the key, one after another. Other calls
-- are passed over, and so is one without a reply.
abbrev pub AreOwnReplies : List ℕ → Option (List ℕ) → List (Command × Option Reply) → Type 0
AreOwnReplies key before [] = ⊤
AreOwnReplies key before ((command, None) ∷ calls) = AreOwnReplies key before calls
AreOwnReplies key before ((command, Some given) ∷ calls) = (IsTrue (tells key command given) → reply_of command before ≡ Some given) × AreOwnReplies key (value_then key before command given) calls

-- the key's value after all of the calls
abbrev pub value_through : List ℕ → Option (List ℕ) → List (Command × Option Reply) → Option (List ℕ)
value_through key before [] = before
value_through key before ((command, None) ∷ calls) = value_through key before calls
value_through key before ((command, Some given) ∷ calls) = value_through key (value_then key before command given) calls

-- Each operation of the run that may change the key's value is this actor's.
pub record ChangesAlone (run : List Entry) (actor : ℕ) (key : List ℕ) : Type 0 where
  pub each : (operation : Operation) → IsOperation run operation → IsTrue (may_change key operation.command) → operation.actor ≡ actor

-- From this place on, each step of such an operation is this actor's.
pub record ChangesAloneSince (run : List Entry) (actor : ℕ) (key : List ℕ) (since : ℕ) : Type 0 where
  pub each : (operation : Operation) (n : ℕ) → since ≤ n → IsOperation run operation → IsOwnStep run operation n → IsTrue (may_change key operation.command) → operation.actor ≡ actor
