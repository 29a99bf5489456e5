-- The pages of a walk, as a run tells of them.
use Rattle.std.specs.Prelude.{◌≡◌, ◌≤◌, ℕ, Bool, List, Option, None, Some, filter, if◌then◌else◌, IsTrue}
use Rattle.bw_model.specs.Bytes.{is_under}
use Rattle.bw_model.specs.Pairs.{IsPairsOf}
use Rattle.bw_model.specs.declared.command.Command.TheVariants as command
use Rattle.bw_model.specs.declared.command.Reply.TheVariants as reply
use Rattle.traces.specs.declared.trace.Entry.{Entry}
use Rattle.linearization.specs.Operations.{Finishes, IsOperation, IsOwnStep, Operation}
use Rattle.linearization.specs.Points.{IsPoint, log_at}

-- a page: the key at which it begins, the key at which the walk goes on after it, if it does, the pairs that it shows, and its operation: of
-- which actor, and at which places of the run it was begun and was done
pub record WalkedPage : Type 0 where
  pub from : List ℕ
  pub next : Option (List ℕ)
  pub pairs : List (List ℕ × List ℕ)
  pub actor : ℕ
  pub begun : ℕ
  pub done : ℕ

-- where a walk goes on: at the key, if it is below the bound
abbrev pub place_under : Option (List ℕ) → Option (List ℕ) → Option (List ℕ)
place_under bound None = None
place_under bound (Some key) = if is_under key bound then Some key else None

-- where a page's range ends: where the walk goes on, or else at the bound
abbrev pub end_under : Option (List ℕ) → Option (List ℕ) → Option (List ℕ)
end_under bound None = bound
end_under bound (Some next) = Some next

-- the pairs whose keys are below the bound
abbrev pub pairs_under : Option (List ℕ) → List (List ℕ × List ℕ) → List (List ℕ × List ℕ)
pairs_under bound pairs = filter (λ pair. is_under pair.0 bound) pairs

abbrev pub page_operation : WalkedPage → Operation
page_operation page = record { start = page.begun; actor = page.actor; command = command.Page page.from }

-- The page is what its operation has replied, a cursor page, as far as that is below the bound.
pub record IsPageOf (run : List Entry) (bound : Option (List ℕ)) (page : WalkedPage) : Type 0 where
  pub begins : IsOperation run (page_operation page)
  pub items : List (List ℕ × List ℕ)
  pub high : Option (List ℕ)
  pub ends : Finishes run (page_operation page) page.done (reply.Page items high)
  pub next : page.next ≡ place_under bound high
  pub pairs : page.pairs ≡ pairs_under bound items

-- At its operation's point, a step of the operation's own, the map has exactly the page's pairs in the page's range. The walk goes on above
-- where the page begins.
pub record IsPageShown (run : List Entry) (points : List Bool) (bound : Option (List ℕ)) (page : WalkedPage) : Type 0 where
  pub step : ℕ
  pub own : IsOwnStep run (page_operation page) step
  pub within : step ≤ page.done
  pub point : IsPoint points step
  pub ahead : IsTrue (is_under page.from page.next)
  pub pairs : IsPairsOf (log_at run points step) page.from (end_under bound page.next) page.pairs
