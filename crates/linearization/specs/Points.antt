-- Points: the own steps at which operations take effect, as a mark beside each entry.
use Rattle.std.specs.Prelude.{◌≡◌, ℕ, List, [], ◌∷◌, ◌++◌, length, Bool, true, false, if◌then◌else◌, Option, None, Some, slice_get, take, IsTrue, IsFalse}
use Rattle.std.specs.List.{fold, zip}
use Rattle.std.specs.Option.{option_to_list}
use Rattle.bw_model.specs.declared.command.Command.{Command}
use Rattle.bw_model.specs.declared.command.Reply.{Reply}
use Rattle.bw_model.specs.declared.command.Reply.TheVariants as kind
use Rattle.bw_model.specs.Log.{Update, logged_value}
use Rattle.bw_model.specs.Replies.{command_key, update_of}
use Rattle.traces.specs.declared.trace.Entry.{Entry}
use Rattle.traces.specs.declared.trace.Entry.TheVariants.{Begin, Step}
use Rattle.traces.specs.trace.Trace.{command_of}
use Rattle.linearization.specs.Operations.{Operation, IsOperation, IsOwnStep, Finishes}

-- the update, if any, that the actor's command makes at the log
abbrev pub updates_by : ℕ → Option Command → List Update → List Update
updates_by actor None log = []
updates_by actor (Some command) log = option_to_list (update_of actor command (logged_value log (command_key command)))

-- the same of the command of the operation that an entry is a step of, after the entries before it
abbrev pub updates_at : List Entry → Entry → List Update → List Update
updates_at before (Begin actor command) log = []
updates_at before (Step actor step answer reply) log = updates_by actor (command_of before actor) log

-- the entries so far and their log
pub record History : Type 0 where
  pub entries : List Entry
  pub log : List Update

abbrev pub history_after : History → Entry × Bool → History
history_after so_far marked = record {
  entries = so_far.entries ++ marked.0 ∷ [];
  log = if marked.1 then so_far.log ++ updates_at so_far.entries marked.0 so_far.log else so_far.log;
}

-- The log of the marked entries: each adds, in order, the update that its operation's command makes at the log so far.
abbrev pub log_of : List Entry → List Bool → List Update
log_of entries points = (fold history_after (record { entries = []; log = [] }) (zip entries points)).log

-- the log before step n
abbrev pub log_at : List Entry → List Bool → ℕ → List Update
log_at entries points n = log_of (take n entries) (take n points)

abbrev pub IsPoint : List Bool → ℕ → Type 0
IsPoint points n = slice_get points n ≡ Some true

-- whether an operation with this reply has a point
abbrev pub has_point : Reply → Bool
has_point (kind.Value value) = true
has_point kind.None = true
has_point kind.Inserted = true
has_point (kind.Exists value) = true
has_point kind.Set = true
has_point (kind.Replaced value) = true
has_point (kind.Deleted value) = true
has_point kind.Absent = true
has_point kind.Swapped = true
has_point (kind.Differs value) = true
has_point (kind.Page items next) = true
has_point (kind.BackPage items next) = true
has_point kind.Tidied = false
has_point kind.Full = false

-- Each mark is an own step of an operation, none has two, and a finished one has one exactly where its reply asks for it.
pub record HasPoints (entries : List Entry) (points : List Bool) : Type 0 where
  pub beside : length points ≡ length entries
  pub own : (n : ℕ) → IsPoint points n → (operation : Operation) × IsOperation entries operation × IsOwnStep entries operation n
  pub one : (operation : Operation) (m n : ℕ) → IsOperation entries operation → IsOwnStep entries operation m → IsOwnStep entries operation n → IsPoint points m → IsPoint points n → m ≡ n
  pub pointed : (operation : Operation) (n : ℕ) (reply : Reply) → IsOperation entries operation → Finishes entries operation n reply → IsTrue (has_point reply)
      → (m : ℕ) × IsOwnStep entries operation m × IsPoint points m
  pub pointless : (operation : Operation) (m n : ℕ) (reply : Reply) → IsOperation entries operation → Finishes entries operation n reply
      → IsFalse (has_point reply) → IsOwnStep entries operation m → ¬ IsPoint points m
