-- The rule: what the words of a table and the views of its seats have to do with each other between any two atomic operations.
use Rattle.std.specs.Prelude.{◌≡◌, ◌≢◌, ℕ, ◌+◌, ◌<◌, ◌≤◌, ◌==◌, if◌then◌else◌, List, [], ◌∷◌, ◌++◌, Bool, false, length, slice_index, Some, IsTrue, ⊤}
use mathlib.Core.Option.{some}
use lib.ListN.{get_elem?}
use Rattle.atomic_table.specs.Table.{State}
use Rattle.tree_limits.specs.declared.limits.Limits.{Limits}
use Rattle.deltas.specs.declared.record.Record.{Record}
use Rattle.traces.specs.declared.trace.Entry.{Entry}
use Rattle.traces.specs.declared.trace.Entry.TheVariants.{Begin, Step}
use Rattle.traces.specs.discipline.Discipline.{IsOwn, IsUnset}
use Rattle.traces.specs.discipline.Disciplined.{Extends}
use Rattle.traces.specs.discipline.Knowledge.{Knowledge, knows}
use Rattle.traces.specs.trace.Trace.{memory_of}
use Rattle.record_slots.specs.Layout.{row_size}
use Rattle.record_slots.specs.Spells.{HasSpelling}
use Rattle.tree_words.specs.Layout.{row_at, width, width_of}
use Rattle.tree_words.specs.Words.{stored, words_in, SpellsWhere}
use Rattle.table_rule.specs.declared.view.Reach.{Reach}
use Rattle.table_rule.specs.declared.view.Reach.TheVariants.{Idle, Writing, Noted}
use Rattle.table_rule.specs.declared.view.Part.{Part}

-- it holds of each element
abbrev pub Each : {A : Type 0} → (A → Type 0) → List A → Type 0
Each P [] = ⊤
Each P (x ∷ xs) = P x × Each P xs

-- By what it knows, an actor may read the row; it may place a record there.
abbrev pub KnowsReadable : Knowledge → ℕ → Type 0
KnowsReadable k row = IsTrue k.inside × IsTrue (k.read.learnt row)

abbrev pub KnowsPlaceable : Knowledge → ℕ → Type 0
KnowsPlaceable k row = IsTrue k.inside × IsOwn (k.own.rows row) × IsUnset k row

-- What the rule asks of the runs that there may be: into a row in which one actor may place a record, no other one may, and nobody
-- may read it; a row that may be read has a record, and what was read there since the actor entered is still there.
pub record KeepsRowsApart (limits : Limits) (law : List Entry → Type 0) : Type 0 where
  pub one_owner : (actor other row : ℕ) (run : List Entry) → law run → KnowsPlaceable (knows run actor) row → KnowsPlaceable (knows run other) row → actor ≡ other
  pub unread : (actor other row : ℕ) (run : List Entry) → law run → KnowsPlaceable (knows run actor) row → KnowsReadable (knows run other) row → ⊥
  pub placed : (actor row : ℕ) (run : List Entry) → law run → KnowsReadable (knows run actor) row → (content : Record) × ((memory_of limits run).rows row ≡ Some content)
  pub stands : (actor row : ℕ) (content : Record) (run : List Entry) → law run → (knows run actor).read.seen row ≡ Some content → (memory_of limits run).rows row ≡ Some content

-- The seat is not in the midst of placing a record into the row.
abbrev pub LeavesRow : ℕ → Reach → Type 0
LeavesRow row Idle = ⊤
LeavesRow row (Writing at first words) = at ≢ row
LeavesRow row Noted = ⊤

-- No seat is in the midst of placing a record into the row.
abbrev pub IsSettled : List (List Part) → ℕ → Type 0
IsSettled views row = (id : ℕ) (view : List Part) → get_elem? views id ≡ some view → Each (λ part. LeavesRow row part.reach) view

-- The other's part, with this reach, is a seat of the actor's, and no note.
abbrev pub is_at : ℕ → ℕ → Reach → Bool
is_at actor other Idle = other == actor
is_at actor other (Writing row first words) = other == actor
is_at actor other Noted = false

-- how many parts of the view are the actor's seats, and how many of all views
abbrev pub times : ℕ → List Part → ℕ
times actor [] = 0
times actor (part ∷ parts) = (if is_at actor part.actor part.reach then 1 else 0) + times actor parts

abbrev pub everywhere : ℕ → List (List Part) → ℕ
everywhere actor [] = 0
everywhere actor (view ∷ views) = times actor view + everywhere actor views

-- A row of the actor's own, into which it may place a record, is in part written: what was written stands behind the first word. In a small tree
-- the words of the record that the memory has there stand behind that, or zeros where it has none, and `first` is the first word that it has there.
-- In a large tree that word isn't known: it is not loaded, and `first` may be any number.
pub record IsPartWritten (limits : Limits) (words : List ℕ) (run : List Entry) (actor row first : ℕ) (written : List ℕ) : Type 0 where
  pub may : KnowsPlaceable (knows run actor) row
  pub there : row < limits.rows
  pub short : length written < width_of limits row
  pub old : limits.is_large ≡ false → first ≡ slice_index (words_in limits ((memory_of limits run).rows row)) 0
  pub front : (j : ℕ) → j < length written → slice_index words (row_at limits row (j + 1)) ≡ slice_index written j
  pub behind : limits.is_large ≡ false → (j : ℕ) → length written < j → j < row_size → slice_index words (row_at limits row j) ≡ slice_index (words_in limits ((memory_of limits run).rows row)) j

-- The words fit where the seat stands.
abbrev pub ReachFits : Limits → List ℕ → List Entry → ℕ → Reach → Type 0
ReachFits limits words run actor Idle = ⊤
ReachFits limits words run actor (Writing row first written) = IsPartWritten limits words run actor row first written
ReachFits limits words run actor Noted = ⊤

-- One run begins another.
abbrev pub StartsWith : List Entry → List Entry → Type 0
StartsWith later seen = (rest : List Entry) × (later ≡ seen ++ rest)

-- The run goes on from what was seen: by steps of others alone where the part is a seat's, by any where it is a note.
abbrev pub ExtendsFor : Reach → ℕ → List Entry → List Entry → Type 0
ExtendsFor Idle actor seen run = Extends actor seen run
ExtendsFor (Writing row first words) actor seen run = Extends actor seen run
ExtendsFor Noted actor seen run = StartsWith run seen

-- There is the row, which has room for the record that stands there, and a row of words can spell that.
pub record IsSpelledRow (limits : Limits) (row : ℕ) (content : Record) : Type 0 where
  pub there : row < limits.rows
  pub spelling : HasSpelling content
  pub fills : length (stored limits content) ≤ width_of limits row

-- The run goes on from what was seen, and the words fit where the seat stands.
pub record PartFits (limits : Limits) (words : List ℕ) (run : List Entry) (part : Part) : Type 0 where
  pub extends : ExtendsFor part.reach part.actor part.seen run
  pub reach : ReachFits limits words run part.actor part.reach
  pub there : part.actor < limits.actors
  pub own_limits : part.limits ≡ limits

-- The next entry is a step of the actor's.
abbrev pub GoesOnWithStep : ℕ → List Entry → Type 0
GoesOnWithStep actor [] = ⊥
GoesOnWithStep actor (Begin other command ∷ rest) = ⊥
GoesOnWithStep actor (Step other step answer reply ∷ rest) = other ≡ actor

-- Each begin stands directly before its operation's first step.
abbrev pub BeginWithSteps : List Entry → Type 0
BeginWithSteps [] = ⊤
BeginWithSteps (Begin actor command ∷ rest) = GoesOnWithStep actor rest × BeginWithSteps rest
BeginWithSteps (Step actor step answer reply ∷ rest) = BeginWithSteps rest

-- the actor whose entry it is
abbrev pub entry_actor : Entry → ℕ
entry_actor (Begin actor command) = actor
entry_actor (Step actor step answer reply) = actor

-- There is a longest run, which has the law, and which goes on from what each seat has seen. The words are those of the memory after it,
-- but for rows into which a seat is in the midst of placing a record. Each actor stands in exactly one seat, so the longest run is one
-- that a seat has seen (specs/Longest); of notes there may be any number.
pub record Running (limits : Limits) (law : List Entry → Type 0) (s : State (Unit {0}) (List Part)) : Type 0 where
  pub run : List Entry
  pub legal : law run
  pub wide : length s.words ≡ width limits
  pub spells : SpellsWhere limits s.words (memory_of limits run) (IsSettled s.views)
  pub kept : (row : ℕ) (content : Record) → (memory_of limits run).rows row ≡ Some content → IsSpelledRow limits row content
  pub begins : BeginWithSteps run
  pub actors : Each (λ entry. entry_actor entry < limits.actors) run
  pub once : (actor : ℕ) → everywhere actor s.views ≤ 1
  pub somewhere : (actor : ℕ) → actor < limits.actors → 1 ≤ everywhere actor s.views
  pub each : (id : ℕ) (view : List Part) → get_elem? s.views id ≡ some view → Each (PartFits limits s.words run) view
