-- What one atomic operation of a seat makes of a table, and which moments of a table come after one.
use Rattle.std.specs.Prelude.{◌≡◌, ◌≢◌, ◌<◌, ℕ, List, [], ◌∷◌, ◌++◌, Option, true, length, slice_index, slice_set}
use mathlib.Core.Option.{some}
use lib.ListN.{get_elem?}
use Rattle.atomic_table.specs.Table.{Act, Allows, Enters, Joins, Splits, State, Step as Made, carried_after, stepped}
use Rattle.bw_model.specs.declared.command.Command.{Command}
use Rattle.bw_model.specs.declared.command.Reply.{Reply}
use Rattle.bw_model.specs.declared.step.Answer.{Answer}
use Rattle.bw_model.specs.declared.step.Step.{Step as StepOf}
use Rattle.deltas.specs.declared.record.Record.{Record}
use Rattle.traces.specs.declared.trace.Entry.{Entry}
use Rattle.tree_limits.specs.declared.limits.Limits.{Limits}
use Rattle.tree_limits.specs.Limits.{most_large_actors}
use Rattle.tree_words.specs.Changes.{HasWord, changed_word, operation_of}
use Rattle.tree_words.specs.declared.operations.Operation.TheVariants.{Load}
use Rattle.tree_words.specs.Layout.{row_at}
use Rattle.table_rule.specs.declared.view.Part.{Part}
use Rattle.table_rule.specs.declared.view.Reach.{Reach}
use Rattle.table_rule.specs.declared.view.Reach.TheVariants.{Idle, Noted, Writing}
use Rattle.table_rule.specs.Running.{Running}
use Rattle.table_rule.specs.Steps.{Acts, Begins, Fills, Looks, Measures, Places, ReadsRow, Took, Watches}
use Rattle.table_rule.specs.Views.{HasPart, IsBlank, IsRefreshed, Mine, Refreshes, SitsAt, first_part, other_parts, part_note, seen_of}

-- a moment of a table: its words, and what each of its seats knows, those seats and notes included that were let go
abbrev pub Moment : Type 0
Moment = State (Unit {0}) (List Part)

-- The seat's actor took a step, as one operation or as the last store of a record that it placed.
pub record TakesStep (law : Limits → List Entry → Type 0) (me me' : Mine) : Type 0 where
  pub limits : Limits
  pub actor : ℕ
  pub reach : Reach
  pub stands : reach ≢ Noted
  pub sat : SitsAt limits actor reach me
  pub sits : SitsAt limits actor Idle me'
  pub begun : Option Command
  pub step : StepOf Record
  pub answer : Answer Record
  pub reply : Option Reply
  pub took : Took law limits actor (seen_of me) begun step answer reply (seen_of me')

-- The seat's actor began to place a record, or wrote one more word of it. It took no step, and has seen no more.
pub record GoesOnPlacing (me me' : Mine) : Type 0 where
  pub limits : Limits
  pub actor : ℕ
  pub reach : Reach
  pub reach' : Reach
  pub stands : reach ≢ Noted
  pub stands' : reach' ≢ Noted
  pub sat : SitsAt limits actor reach me
  pub sits : SitsAt limits actor reach' me'
  pub saw : seen_of me' ≡ seen_of me

-- What one operation on a word makes of what the seat knows that makes it: its actor takes a step; or goes on placing a record; or each of its parts
-- has now seen a run that goes on from what it had seen; or nothing.
pub data Turns (law : Limits → List Entry → Type 0) (me me' : Mine) : Type 0 where
  steps : TakesStep law me me' → Turns law me me'
  places : GoesOnPlacing me me' → Turns law me me'
  sees : (limits : Limits) → IsRefreshed (law limits) me me' → Turns law me me'
  looks : me' ≡ me → Turns law me me'

-- the moment, where the seats know this
abbrev pub with_views : Moment → List (List Part) → Moment
with_views s views = record { words = s.words; homes = s.homes; views = views }

-- What one atomic operation makes of the table. A seat turns, by an operation on one word, and no other seat's view changes; a seat is cut in two, by
-- its first part; a note is made of a seat's first part; a seat takes in the parts of another seat or note; there is a new seat, with no part;
-- or a seat or a note is let go, and what it had seen stays among the views.
pub data Operates (law : Limits → List Entry → Type 0) (s t : Moment) : Type 0 where
  turns : (id word number : ℕ) (me : Mine) (view : List Part) (did : Act (Unit {0})) → get_elem? s.views id ≡ some me.0 → t ≡ stepped s word number id me.1 view did
      → Turns law me (view, carried_after me.1 did) → Operates law s t
  cuts : (id : ℕ) (view : List Part) → get_elem? s.views id ≡ some view
      → t ≡ with_views s (slice_set s.views id (first_part view) ++ other_parts view ∷ []) → Operates law s t
  notes : (id : ℕ) (view : List Part) → get_elem? s.views id ≡ some view → t ≡ with_views s (slice_set s.views id view ++ part_note view ∷ []) → Operates law s t
  joins : (id other : ℕ) (view others : List Part) → get_elem? s.views id ≡ some view → other ≢ id → get_elem? s.views other ≡ some others
      → t ≡ with_views s (slice_set (slice_set s.views id (view ++ others)) other []) → Operates law s t
  seats : t ≡ with_views s (s.views ++ [] ∷ []) → Operates law s t
  lets_go : t ≡ s → Operates law s t

-- The second moment is the first one, or comes after it by any number of such operations.
pub data IsLater (law : Limits → List Entry → Type 0) (s : Moment) : Moment → Type 0 where
  same : IsLater law s s
  next : (t u : Moment) → IsLater law s t → Operates law t u → IsLater law s u

-- Each operation that this crate makes on a word turns its seat so, by what it tells its seat.
pub record OperationsTurn (law : Limits → List Entry → Type 0) : Type 0 where
  pub acts : (limits : Limits) (actor : ℕ) (begun : Option Command) (step : StepOf Record) (reply : Option Reply) (me me' : Mine) (found : ℕ)
      → SitsAt limits actor Idle me → Acts law begun step reply me found me' → Turns law me me'
  pub reads : (limits : Limits) (actor row : ℕ) (made : Made (Unit {0})) (me me' : Mine) (found : ℕ)
      → SitsAt limits actor Idle me → made.word ≡ row_at limits row 0 → ReadsRow law made me found me' → Turns law me me'
  pub looks : (made : Made (Unit {0})) (me me' : Mine) (found : ℕ) → Looks made me found me' → Turns law me me'
  pub watches : (limits : Limits) (actor : ℕ) (step : StepOf Record) (made : Made (Unit {0})) (me me' : Mine) (found : ℕ)
      → SitsAt limits actor Idle me → actor < most_large_actors → HasWord limits step → operation_of step ≡ Load → made.word ≡ changed_word limits actor step
      → Watches law made me found me' → Turns law me me'
  pub measures : (limits : Limits) (actor row : ℕ) (made : Made (Unit {0})) (me me' : Mine) (found : ℕ)
      → SitsAt limits actor Idle me → made.word ≡ row_at limits row 0 → Measures made me found me' → Turns law me me'
  pub begins : (limits : Limits) (actor row : ℕ) (made : Made (Unit {0})) (me me' : Mine) (found : ℕ)
      → limits.is_large ≡ true → SitsAt limits actor Idle me → made.word ≡ row_at limits row 1 → Begins made me found me' → Turns law me me'
  pub fills : (limits : Limits) (actor row first : ℕ) (written : List ℕ) (me me' : Mine) (found : ℕ)
      → SitsAt limits actor (Writing row first written) me → Fills me found me' → Turns law me me'
  pub places : (limits : Limits) (actor row first : ℕ) (written : List ℕ) (step : StepOf Record) (me me' : Mine) (found : ℕ)
      → SitsAt limits actor (Writing row first written) me → Places law step me found me' → Turns law me me'
  pub refreshes : (limits : Limits) (made : Made (Unit {0})) (me me' : Mine) (found : ℕ) → HasPart limits me.0 → Refreshes law made me found me' → Turns law me me'

-- There is a next moment, at which the rule holds.
abbrev pub LeadsOn : (Limits → List Entry → Type 0) → Limits → Moment → Type 0
LeadsOn law limits s = (t : Moment) × Operates law s t × Running limits (law limits) t

-- Whatever the table allows a seat by keeping the rule leads from each moment at which the rule holds to a next one at which it holds: an operation on a
-- word that turns the seat, a cut, a note, a join, and a new seat.
pub record AllowedOperate (law : Limits → List Entry → Type 0) : Type 0 where
  pub turns : (limits : Limits) (slots id word : ℕ) (me : Mine) (f : ℕ → ℕ) → Allows (Running limits (law limits)) slots id me word f (λ found me'. Turns law me me')
      → (s : Moment) → Running limits (law limits) s → length s.homes ≡ slots → get_elem? s.views id ≡ some me.0 → slice_index s.words word < 18446744073709551616 → LeadsOn law limits s
  pub cuts : (limits : Limits) (id : ℕ) (view : List Part) → Splits (Running limits (law limits)) id view (first_part view) (other_parts view)
      → (s : Moment) → Running limits (law limits) s → get_elem? s.views id ≡ some view → LeadsOn law limits s
  pub notes : (limits : Limits) (id : ℕ) (view : List Part) → Splits (Running limits (law limits)) id view view (part_note view)
      → (s : Moment) → Running limits (law limits) s → get_elem? s.views id ≡ some view → LeadsOn law limits s
  pub joins : (limits : Limits) (id other : ℕ) (view others : List Part) → Joins (Running limits (law limits)) id view other others (view ++ others) []
      → (s : Moment) → Running limits (law limits) s → get_elem? s.views id ≡ some view → other ≢ id → get_elem? (slice_set s.views id (view ++ others)) other ≡ some others
      → LeadsOn law limits s
  pub seats : (limits : Limits) (slots word : ℕ) → Enters (Running limits (law limits)) slots word (λ found view. IsBlank (view, []))
      → (s : Moment) → Running limits (law limits) s → length s.homes ≡ slots → slice_index s.words word < 18446744073709551616 → LeadsOn law limits s
