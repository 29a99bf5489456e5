-- What a table leaves when it is closed.
use Rattle.std.specs.Prelude.{◌≡◌, ◌≤◌, ℕ, List, Some, length}
use Rattle.atomic_table.specs.Table.{Final, Seen}
use Rattle.tree_limits.specs.declared.limits.Limits.{Limits}
use Rattle.traces.specs.declared.trace.Entry.{Entry}
use Rattle.traces.specs.discipline.Disciplined.{Extends}
use Rattle.traces.specs.trace.Trace.{memory_of}
use Rattle.deltas.specs.declared.record.Record.{Record}
use Rattle.tree_words.specs.Words.{AreWordsOf}
use Rattle.table_rule.specs.declared.view.Reach.TheVariants.{Idle}
use Rattle.table_rule.specs.declared.view.Part.{Part}
use Rattle.table_rule.specs.Running.{BeginWithSteps, Each, IsSpelledRow, Running}

-- There are as many parts as actors, each between two steps. The rule says that no actor has two, so all have one.
pub record AllStand (limits : Limits) (parts : List Part) : Type 0 where
  pub all : limits.actors ≤ length parts
  pub idle : Each (λ part. part.reach ≡ Idle) parts

-- The words are those of the memory after a run with the law, which goes on from what each of the actors has seen by steps of
-- others alone. Where a record stands, there is the row, and the words spell it.
pub record AreLeft (limits : Limits) (law : List Entry → Type 0) (parts : List Part) (words : List ℕ) : Type 0 where
  pub run : List Entry
  pub legal : law run
  pub begins : BeginWithSteps run
  pub extends : Each (λ part. Extends part.actor part.seen run) parts
  pub are : AreWordsOf limits (memory_of limits run) words
  pub kept : (row : ℕ) (content : Record) → (memory_of limits run).rows row ≡ Some content → IsSpelledRow limits row content

-- So are the words of a table that was closed with a seat in which all actors stand.
abbrev pub LeavesWords : Limits → (List Entry → Type 0) → Type 0
LeavesWords limits law =
    (id : ℕ) (parts : List Part) (words : List ℕ) (homes : List (Unit {0})) → AllStand limits parts → Final (Seen (Running limits law) id parts) words homes → AreLeft limits law parts words
