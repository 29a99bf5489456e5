-- Pairs that a seat loads, and trees that are opened with the pairs of another.
use Rattle.std.specs.Prelude.{◌≡◌, ◌≢◌, ◌<◌, ℕ, List, [], ◌∷◌, ◌++◌, map, take, length, Option, Some, None, slice_get, ⊤}
use Rattle.std.specs.List.Sorted.{IsStrictlySortedBy}
use Rattle.bw_model.specs.Bytes.{key_cmp}
use Rattle.bw_model.specs.declared.command.Command.{Command}
use Rattle.bw_model.specs.declared.command.Command.TheVariants.{Upsert}
use Rattle.bw_model.specs.declared.command.Reply.{Reply}
use Rattle.bw_model.specs.declared.command.Reply.TheVariants as reply
use Rattle.tree_limits.specs.declared.limits.Limits.{Limits}
use Rattle.traces.specs.declared.trace.Entry.{Entry}
use Rattle.traces.specs.discipline.Disciplined.{own_entries}
use Rattle.traces.specs.trace.Trace.{command_of}
use Rattle.listing.specs.Listed.{IsListing}
use Rattle.running_tree.specs.Calls.{IsCalled, calls_in, calls_of}
use Rattle.running_tree.specs.Runs.{IsOneHistory, StartsWith}
use Rattle.running_tree.specs.Seats.{IsSame, Seat, unfinished_command}
use Rattle.running_tree.specs.Trees.{Tree, fresh_seat}
use Rattle.running_tree.specs.declared.called.Called.{Called}
use Rattle.running_tree.specs.declared.called.Called.TheVariants as called
use Rattle.running_tree.specs.declared.called.LoadError.{LoadError}
use Rattle.running_tree.specs.declared.called.LoadError.TheVariants as refusal
use Rattle.running_tree.specs.declared.called.LoadStop.{LoadStop}
use Rattle.running_tree.specs.declared.called.LoadStop.TheVariants as stop

-- The keys ascend, and no two are the same.
abbrev pub KeysAscend : List (List ℕ × List ℕ) → Type 0
KeysAscend pairs = IsStrictlySortedBy key_cmp (map (λ pair. pair.0) pairs)

abbrev pub upsert_of : List ℕ × List ℕ → Command
upsert_of pair = Upsert pair.0 pair.1

-- The calls upsert the pairs, in order, each done with a reply other than Full.
abbrev pub HaveUpserted : List (List ℕ × List ℕ) → List (Command × Option Reply) → Type 0
HaveUpserted [] calls = calls ≡ []
HaveUpserted (pair ∷ pairs) calls = (given : Reply) × (rest : List (Command × Option Reply)) × (calls ≡ (upsert_of pair, Some given) ∷ rest) × (given ≢ reply.Full) × HaveUpserted pairs rest

-- The seat has upserted the pairs: what it has seen goes on from what it had seen, its calls are those before and then these, and none
-- is unfinished.
pub record HasLoaded (old : Seat) (pairs : List (List ℕ × List ℕ)) (new : Seat) : Type 0 where
  pub grows : StartsWith new.seen old.seen
  pub made : List (Command × Option Reply)
  pub upserted : HaveUpserted pairs made
  pub calls : calls_in new ≡ calls_in old ++ made
  pub idle : unfinished_command new ≡ None

-- The seat has upserted the pairs before the one at this place, and then its last call, which upserts this one, with the budget, came to
-- this.
pub record IsStoppedAt (old : Seat) (pairs : List (List ℕ × List ℕ)) (budget place : ℕ) (result : Called) (new : Seat) : Type 0 where
  pub pair : List ℕ × List ℕ
  pub at : slice_get pairs place ≡ Some pair
  pub before : Seat
  pub same : IsSame before new
  pub loaded : HasLoaded old (take place pairs) before
  pub call : IsCalled before (upsert_of pair) budget result new

abbrev pub HasStopped : Seat → List (List ℕ × List ℕ) → ℕ → LoadStop → Seat → Type 0
HasStopped old pairs budget (stop.Full place) new = IsStoppedAt old pairs budget place (called.Done reply.Full) new
HasStopped old pairs budget (stop.Spent place) new = IsStoppedAt old pairs budget place called.Spent new

-- a seat of the tree that has seen the run
abbrev pub seat_at : Tree → List Entry → ℕ → Seat
seat_at tree run actor = record { table = tree.table; limits = tree.limits; actor = actor; seen = run }

-- One seat for each actor, in order, each of which has seen the run.
pub record AreAt (tree : Tree) (run : List Entry) (seats : List Seat) : Type 0 where
  pub count : length seats ≡ tree.limits.actors
  pub each : (actor : ℕ) → actor < tree.limits.actors → slice_get seats actor ≡ Some (seat_at tree run actor)

-- All seats have seen one run, in which nobody has an unfinished operation. The operations of seat 0 are the upserts of the pairs, in
-- order, each of which replied Set; no other seat has one. The pairs of the run's log are these.
pub record AreLoaded (tree : Tree) (seats : List Seat) (pairs : List (List ℕ × List ℕ)) : Type 0 where
  pub run : List Entry
  pub stand : AreAt tree run seats
  pub idle : (actor : ℕ) → command_of run actor ≡ None
  pub history : IsOneHistory tree.limits run
  pub calls : calls_of 0 run ≡ map (λ pair. (upsert_of pair, Some reply.Set)) pairs
  pub others : (actor : ℕ) → actor ≢ 0 → own_entries actor run ≡ []
  pub listing : IsListing tree.limits run pairs

-- A tree of these limits was opened, in which no actor but the first had an operation: its seat upserted the pairs before one of them,
-- and the call that upserts this one, with the budget, came to this.
pub record IsStopped (limits : Limits) (pairs : List (List ℕ × List ℕ)) (budget : ℕ) (result : Called) : Type 0 where
  pub tree : Tree
  pub own : tree.limits ≡ limits
  pub seat : Seat
  pub place : ℕ
  pub stopped : IsStoppedAt (fresh_seat tree 0) pairs budget place result seat
  pub others : (actor : ℕ) → actor ≢ 0 → own_entries actor seat.seen ≡ []
  pub history : IsOneHistory limits seat.seen

-- A load goes on after a call that is done, with a reply other than Full.
abbrev pub GoesOnAfter : Called → Type 0
GoesOnAfter result = (given : Reply) × (result ≡ called.Done given) × (given ≢ reply.Full)

-- A call that replied Full, or was spent, ends a load there, with the stop that says so.
abbrev pub CallsOff : Called → ℕ → LoadStop → Type 0
CallsOff result at (stop.Full place) = (place ≡ at) × (result ≡ called.Done reply.Full)
CallsOff result at (stop.Spent place) = (place ≡ at) × (result ≡ called.Spent)

-- what justifies a refusal of a list in order: for Memory nothing
abbrev pub IsLoadStop : Limits → List (List ℕ × List ℕ) → ℕ → LoadError → Type 0
IsLoadStop limits pairs budget refusal.Order = ⊥
IsLoadStop limits pairs budget refusal.Memory = ⊤
IsLoadStop limits pairs budget refusal.Full = IsStopped limits pairs budget (called.Done reply.Full)
IsLoadStop limits pairs budget refusal.Spent = IsStopped limits pairs budget called.Spent
