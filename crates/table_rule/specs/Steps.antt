-- Steps of an actor by its seat: what one is asked, and what it tells.
use Rattle.std.specs.Prelude.{◌≡◌, ℕ, ◌+◌, ◌-◌, ◌*◌, ◌/◌, ◌%◌, ◌<◌, ◌≤◌, if◌then◌else◌, List, [], ◌∷◌, ◌++◌, true, length, max, slice_index, take, Option, None, Some}
use Rattle.atomic_table.specs.Table.{Step as Made}
use Rattle.bw_model.specs.declared.command.Command.{Command}
use Rattle.bw_model.specs.declared.command.Reply.{Reply}
use Rattle.tree_limits.specs.declared.limits.Limits.{Limits}
use Rattle.tree_limits.specs.Limits.{most_large_actors}
use Rattle.bw_model.specs.declared.step.Answer.{Answer}
use Rattle.bw_model.specs.declared.step.Answer.TheVariants.{Content, Done, Number}
use Rattle.bw_model.specs.declared.step.Step.{Step as StepOf}
use Rattle.bw_model.specs.declared.step.Step.TheVariants.{Row}
use Rattle.deltas.specs.declared.record.Record.{Record}
use Rattle.traces.specs.declared.trace.Entry.{Entry}
use Rattle.traces.specs.declared.trace.Entry.TheVariants.{Begin, Step}
use Rattle.traces.specs.discipline.Disciplined.{Extends}
use Rattle.traces.specs.discipline.Knowledge.{Knowledge, knows}
use Rattle.traces.specs.trace.Steps.{IsAnswer}
use Rattle.traces.specs.trace.Trace.{memory_of}
use Rattle.record_slots.specs.Layout.{count_unit, item_size, items_at, part_limit, row_size}
use Rattle.record_slots.specs.Spells.{HasSpelling}
use Rattle.tree_words.specs.Changes.{HasWord, changed_word, operation_of, answer_by}
use Rattle.tree_words.specs.declared.operations.Operation.TheVariants.{Load}
use Rattle.tree_words.specs.Layout.{row_at}
use Rattle.tree_words.specs.Words.{stored, used_in}
use Rattle.table_rule.specs.declared.view.Reach.{Reach}
use Rattle.table_rule.specs.declared.view.Reach.TheVariants.{Idle, Writing}
use Rattle.table_rule.specs.Running.{BeginWithSteps, KnowsReadable}
use Rattle.table_rule.specs.Views.{SitsAt, Mine, seen_of}

-- the begin that stands before a step with which an operation begins
abbrev pub begin_before : ℕ → Option Command → List Entry
begin_before actor None = []
begin_before actor (Some command) = Begin actor command ∷ []

-- the run with one more step, and its begin
abbrev pub with_step : List Entry → ℕ → Option Command → StepOf Record → Answer Record → Option Reply → List Entry
with_step run actor begun step answer reply = (run ++ begin_before actor begun) ++ Step actor step answer reply ∷ []

-- The actor may take the step, whatever the others have done since: the run keeps the law.
abbrev pub IsLawfulStep : (Limits → List Entry → Type 0) → Limits → ℕ → List Entry → Option Command → StepOf Record → Option Reply → Type 0
IsLawfulStep law limits actor seen begun step reply = (run : List Entry) (answer : Answer Record) → law limits run → Extends actor seen run → IsAnswer (memory_of limits run) step answer
    → law limits (with_step run actor begun step answer reply)

-- The actor took the step after the longest run, which goes on from what it had seen by steps of others alone; the answer is what
-- the memory gave there. In the run that its seat has seen then each begin stands directly before its operation's first step.
pub record Took (law : Limits → List Entry → Type 0) (limits : Limits) (actor : ℕ) (seen : List Entry) (begun : Option Command) (step : StepOf Record) (answer : Answer Record) (reply : Option Reply)
    (later : List Entry) : Type 0 where
  pub run : List Entry
  pub legal : law limits run
  pub extends : Extends actor seen run
  pub answered : IsAnswer (memory_of limits run) step answer
  pub grown : later ≡ with_step run actor begun step answer reply
  pub begins : BeginWithSteps later
  pub kept : law limits later

-- A record was read: this is its first word, and the record has a spelling.
abbrev pub ReadsFirst : (Limits → List Entry → Type 0) → Limits → ℕ → List Entry → ℕ → ℕ → List Entry → Type 0
ReadsFirst law limits actor seen row word later =
    (content : Record) × HasSpelling content × (word ≡ slice_index (stored limits content) 0) × Took law limits actor seen None (Row row) (Content content) None later

-- The actor may read the row, and has read this record there since it entered.
pub record HasReadRecord (k : Knowledge) (row : ℕ) (content : Record) : Type 0 where
  pub may : KnowsReadable k row
  pub seen : k.read.seen row ≡ Some content

-- What a step tells its seat, which stood there before.
abbrev pub Event : (Limits → List Entry → Type 0) → Option Command → StepOf Record → Option Reply → Reach → Mine → Answer Record → Mine → Type 0
Event law begun step reply reach me answer me' = (limits : Limits) (actor : ℕ) → SitsAt limits actor reach me
    → SitsAt limits actor Idle me' × Took law limits actor (seen_of me) begun step answer reply (seen_of me')

abbrev pub Acts : (Limits → List Entry → Type 0) → Option Command → StepOf Record → Option Reply → Mine → ℕ → Mine → Type 0
Acts law begun step reply me found me' = Event law begun step reply Idle me (answer_by step found) me'

-- The first word of a row is read, which is the step.
abbrev pub ReadsRow : (Limits → List Entry → Type 0) → Made (Unit {0}) → Mine → ℕ → Mine → Type 0
ReadsRow law made me found me' = (limits : Limits) (actor row : ℕ) → SitsAt limits actor Idle me → made.word ≡ row_at limits row 0
    → SitsAt limits actor Idle me' × ReadsFirst law limits actor (seen_of me) row found (seen_of me')

-- The seat has taken no step. The run that it has seen now goes on from what it had seen by steps of others alone, and a step that reads the
-- word would be told this number after just that run.
pub record Watched (law : Limits → List Entry → Type 0) (limits : Limits) (actor : ℕ) (seen : List Entry) (step : StepOf Record) (word : ℕ) (later : List Entry) : Type 0 where
  pub legal : law limits later
  pub extends : Extends actor seen later
  pub begins : BeginWithSteps later
  pub answered : IsAnswer (memory_of limits later) step (Number word)

abbrev pub Watches : (Limits → List Entry → Type 0) → Made (Unit {0}) → Mine → ℕ → Mine → Type 0
Watches law made me found me' =
    (limits : Limits) (actor : ℕ) (step : StepOf Record) → SitsAt limits actor Idle me → actor < most_large_actors → HasWord limits step
    → operation_of step ≡ Load → made.word ≡ changed_word limits actor step
    → SitsAt limits actor Idle me' × Watched law limits actor (seen_of me) step found (seen_of me')

-- A word of a row whose record was read is looked at, and the seat is as it was. It is a word of the record, if the record has so many; and
-- words can spell the record. No step is taken.
abbrev pub Looks : Made (Unit {0}) → Mine → ℕ → Mine → Type 0
Looks made me found me' =
    (me' ≡ me) × ((limits : Limits) (actor row place : ℕ) (content : Record) → SitsAt limits actor Idle me → place < row_size → place < used_in limits (Some content)
    → HasReadRecord (knows (seen_of me) actor) row content → made.word ≡ row_at limits row place → found ≡ slice_index (stored limits content) place)
    × ((limits : Limits) (actor row place : ℕ) (content : Record) → SitsAt limits actor Idle me → place < row_size → HasReadRecord (knows (seen_of me) actor) row content
    → made.word ≡ row_at limits row place → HasSpelling content)

-- how many words a record uses, by its first word; and how many the one or the other of two uses
abbrev pub used_by : ℕ → ℕ
used_by first = items_at + item_size * (first / count_unit % part_limit)

abbrev pub used_by_either : ℕ → ℕ → ℕ
used_by_either one other = max (used_by one) (used_by other)

-- what stands behind the header
abbrev pub tail_from : List ℕ → List ℕ
tail_from [] = []
tail_from (word ∷ words) = words

-- The words spell the record in a row of the tree.
pub record IsStored (limits : Limits) (content : Record) (words : List ℕ) : Type 0 where
  pub spelling : HasSpelling content
  pub are : stored limits content ≡ words

-- How many words are to be written behind the header of a row, where this first word stands until then: in a large tree those that the record
-- has. In a small one, behind the words that the one or the other record uses there are zeros, and stay.
abbrev pub words_over : Limits → ℕ → List ℕ → ℕ
words_over limits first words = if limits.is_large then length words - 1 else used_by_either first (slice_index words 0) - 1

abbrev pub written_over : Limits → ℕ → List ℕ → List ℕ
written_over limits first words = take (words_over limits first words) (tail_from words)

-- what is written behind the header by the operation with which a record begins to be placed: in a large tree, where each record has a
-- second word, that one
abbrev pub begun_over : Limits → List ℕ → List ℕ
begun_over limits words = take (if limits.is_large then 1 else 0) (tail_from words)

-- The first word of an own row is looked at, by which a record begins to be placed there; the row has all words that it says are used.
-- No step is taken.
abbrev pub Measures : Made (Unit {0}) → Mine → ℕ → Mine → Type 0
Measures made me found me' = (limits : Limits) (actor row : ℕ) → SitsAt limits actor Idle me → made.word ≡ row_at limits row 0
    → SitsAt limits actor (Writing row found []) me' × (seen_of me' ≡ seen_of me) × (used_by found ≤ row_size)

-- The second word of an own row is written, by which a record begins to be placed there in a large tree, whatever the first word is.
-- No step is taken.
abbrev pub Begins : Made (Unit {0}) → Mine → ℕ → Mine → Type 0
Begins made me found me' = (limits : Limits) (actor row : ℕ) → limits.is_large ≡ true → SitsAt limits actor Idle me → made.word ≡ row_at limits row 1
    → SitsAt limits actor (Writing row 0 (found ∷ [])) me' × (seen_of me' ≡ seen_of me)

-- One more word of a row is written behind the header, and the header, which is the step: it is told with the record.
abbrev pub Fills : Mine → ℕ → Mine → Type 0
Fills me found me' = (limits : Limits) (actor row first : ℕ) (written : List ℕ) → SitsAt limits actor (Writing row first written) me
    → SitsAt limits actor (Writing row first (written ++ found ∷ [])) me' × (seen_of me' ≡ seen_of me)

abbrev pub Places : (Limits → List Entry → Type 0) → StepOf Record → Mine → ℕ → Mine → Type 0
Places law step me found me' = (limits : Limits) (actor row first : ℕ) (written : List ℕ) → SitsAt limits actor (Writing row first written) me
    → SitsAt limits actor Idle me' × Took law limits actor (seen_of me) None step Done None (seen_of me')
