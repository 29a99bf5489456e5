-- The pages of a walk down the keys, as a run tells of them.
use Rattle.std.specs.Prelude.{◌≡◌, ◌≤◌, ℕ, Bool, List, Option, None, Some, filter, if◌then◌else◌, IfSome, IsTrue, map, not}
use Rattle.std.specs.List.{Contains}
use Rattle.std.specs.List.Sorted.{IsStrictlySortedBy}
use Rattle.bw_model.specs.Bytes.{IsShort, is_below, is_in_range, key_cmp}
use Rattle.bw_model.specs.Log.{logged_value}
use Rattle.bw_model.specs.NextKeys.{key_after}
use Rattle.bw_model.specs.declared.command.Command.TheVariants as command
use Rattle.bw_model.specs.declared.command.Reply.TheVariants as reply
use Rattle.traces.specs.declared.trace.Entry.{Entry}
use Rattle.linearization.specs.Operations.{Finishes, IsOperation, IsOwnStep, Operation}
use Rattle.linearization.specs.Points.{IsPoint, log_at}

-- a page backward: the key up to which it goes, the key at which the walk goes on below it, if it does, the pairs that it shows, in ascending
-- order, and its operation: of which actor, and at which places of the run it was begun and was done
pub record BackPage : Type 0 where
  pub upto : List ℕ
  pub next : Option (List ℕ)
  pub pairs : List (List ℕ × List ℕ)
  pub actor : ℕ
  pub begun : ℕ
  pub done : ℕ

-- where a walk down goes on: at the key, unless it is below the walk's lowest key
abbrev pub place_from : List ℕ → Option (List ℕ) → Option (List ℕ)
place_from low None = None
place_from low (Some key) = if is_below key low then None else Some key

-- where a page's range begins: right above the key at which the walk goes on, or else at the walk's lowest key
abbrev pub begin_above : List ℕ → Option (List ℕ) → List ℕ
begin_above low None = low
begin_above low (Some next) = key_after next

-- the pairs whose keys are not below the lowest key
abbrev pub pairs_from : List ℕ → List (List ℕ × List ℕ) → List (List ℕ × List ℕ)
pairs_from low pairs = filter (λ pair. not (is_below pair.0 low)) pairs

abbrev pub back_operation : BackPage → Operation
back_operation page = record { start = page.begun; actor = page.actor; command = command.Back page.upto }

-- The page is what its operation has replied, a page backward, as far as that is not below the lowest key.
pub record IsBackOf (run : List Entry) (low : List ℕ) (page : BackPage) : Type 0 where
  pub begins : IsOperation run (back_operation page)
  pub items : List (List ℕ × List ℕ)
  pub below : Option (List ℕ)
  pub ends : Finishes run (back_operation page) page.done (reply.BackPage items below)
  pub next : page.next ≡ place_from low below
  pub pairs : page.pairs ≡ pairs_from low items

-- The list has each key of the range that has a value, with that value, where keys have at most 64 bytes; and nothing else. Its keys ascend.
pub record AreKeyPairs (value_at : List ℕ → Option (List ℕ)) (low : List ℕ) (high : Option (List ℕ)) (pairs : List (List ℕ × List ℕ)) : Type 0 where
  pub ascending : IsStrictlySortedBy key_cmp (map (λ pair. pair.0) pairs)
  pub only : (key value : List ℕ) → Contains pairs (key, value) → IsTrue (is_in_range low high key) × (value_at key ≡ Some value)
  pub all : (key value : List ℕ) → IsShort key → IsTrue (is_in_range low high key) → value_at key ≡ Some value → Contains pairs (key, value)

-- At its operation's point, a step of the operation's own, the map has exactly the page's pairs in the page's range. The walk goes on below the
-- key up to which the page goes.
pub record IsBackShown (run : List Entry) (points : List Bool) (low : List ℕ) (page : BackPage) : Type 0 where
  pub step : ℕ
  pub own : IsOwnStep run (back_operation page) step
  pub within : step ≤ page.done
  pub point : IsPoint points step
  pub ahead : IfSome page.next (λ next. IsTrue (is_below next page.upto))
  pub pairs : AreKeyPairs (logged_value (log_at run points step)) (begin_above low page.next) (Some (key_after page.upto)) page.pairs
