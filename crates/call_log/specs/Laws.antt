-- What a log says of the calls in it, and of those who have seen it.
use Rattle.std.specs.Prelude.{◌≡◌, ◌<◌, ◌⊎◌, ◌++◌, ℕ, List, length}
use mathlib.Core.Option.{some}
use lib.ListN.{get_elem?}
use Rattle.atomic_table.specs.Table.{State}
use Rattle.call_log.specs.declared.log.Event.{Event}
use Rattle.call_log.specs.declared.log.Knows.{Knows}
use Rattle.call_log.specs.Logs.{Ends, GoesOn, HasAuthor, IsLog, by, cell_of, out, stage_of}
use Rattle.call_log.specs.Rule.{Holds}

module _ {S : Type 0} (ends : Ends S) where
  -- Of any two logs that were seen, whoever has seen them, one goes on from the other one.
  abbrev pub LogsAgree : Type 0
  LogsAgree = (opened : List S) (s : State S (Knows S)) → Holds ends opened s → (i j : ℕ) (one other : Knows S)
      → get_elem? s.views i ≡ some one → get_elem? s.views j ≡ some other → GoesOn one.log other.log ⊎ GoesOn other.log one.log

  -- No two seats have one author.
  abbrev pub AuthorsAreApart : Type 0
  AuthorsAreApart = (opened : List S) (s : State S (Knows S)) → Holds ends opened s → (i j author : ℕ) (one other : Knows S)
      → get_elem? s.views i ≡ some one → get_elem? s.views j ≡ some other → HasAuthor one.authors author → HasAuthor other.authors author → i ≡ j

  -- In any log that was seen, whoever has seen it, an author wrote no more than what whoever has it has seen.
  abbrev pub AuthorsAreKnown : Type 0
  AuthorsAreKnown = (opened : List S) (s : State S (Knows S)) → Holds ends opened s → (i j author : ℕ) (one other : Knows S)
      → get_elem? s.views i ≡ some one → get_elem? s.views j ≡ some other → HasAuthor one.authors author → GoesOn (by author one.log) (by author other.log)

  -- What an author has out stays so while it writes nothing, and an open tree stays open.
  pub record StaysOutAfter (opened : List S) (log more : List (Event S)) (author n : ℕ) (x : S) : Type 0 where
    pub out_still : cell_of opened (more ++ log) n ≡ out author x
    pub open_still : stage_of log ≡ 0 → stage_of (more ++ log) ≡ 0

  abbrev pub StaysOut : Type 0
  StaysOut = (opened : List S) (log more : List (Event S)) (author n : ℕ) (x : S) → IsLog ends opened (more ++ log) → by author (more ++ log) ≡ by author log
      → cell_of opened log n ≡ out author x → n < length opened → StaysOutAfter opened log more author n x
