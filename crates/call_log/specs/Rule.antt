-- What a table has to do with a log, and what its seats know of that.
use Rattle.std.specs.Prelude.{◌≡◌, ◌+◌, ◌-◌, ◌<◌, ◌⊎◌, [], ℕ, List, length}
use mathlib.Core.Option.{Option, none, some}
use lib.ListN.{get_elem?}
use Rattle.atomic_table.specs.Table.{State}
use Rattle.call_log.specs.declared.log.Authors.{Authors}
use Rattle.call_log.specs.declared.log.Authors.TheVariants.{AllFrom}
use Rattle.call_log.specs.declared.log.Event.{Event}
use Rattle.call_log.specs.declared.log.Knows.{Knows}
use Rattle.call_log.specs.Logs.{Cell, Ends, GoesOn, HasAuthor, IsLog, by, cell_of, home, no_slot, out, stage_of}

module _ {S : Type 0} where
  abbrev pub knows : Authors → List S → List (Event S) → Knows S
  knows authors opened log = record { authors = authors; opened = opened; log = log }

  -- the view with which a table opens: it has all authors
  abbrev pub all_of : List S → Knows S
  all_of opened = knows (AllFrom 0) opened []

  -- How the word of a slot and what is at home in it stand for what is known of it: 0 where something is in it; 1 where it is out; 2 where it is out for good,
  -- the last slot once nothing waits.
  abbrev pub Stands : ℕ → ℕ → Cell S → ℕ → Option S → Type 0
  Stands more stage no_slot word there = ⊥
  Stands more stage (home x) word there = (word ≡ 0) × (there ≡ some x) × (more ≡ 0 → stage < 2)
  Stands more stage (out author x) word there = ((word ≡ 1) × (there ≡ none) × (more ≡ 0 → stage < 2)) ⊎ ((word ≡ 2) × (0 < stage) × (more ≡ 0 → stage ≡ 2))

  -- The slot of this number stands so.
  pub record HasSlot (opened : List S) (log : List (Event S)) (s : State S (Knows S)) (n : ℕ) : Type 0 where
    pub word : ℕ
    pub there : Option S
    pub word_at : get_elem? s.words n ≡ some word
    pub there_at : get_elem? s.homes n ≡ some there
    pub stands : Stands (length opened - (n + 1)) (stage_of log) (cell_of opened log n) word there

  -- What a view knows is so: it has seen how the log began, and all that its authors wrote, whom nobody else has.
  pub record IsTrueView (opened : List S) (log : List (Event S)) (writer : ℕ → ℕ) (i : ℕ) (view : Knows S) : Type 0 where
    pub opened_is : view.opened ≡ opened
    pub seen : GoesOn log view.log
    pub alone : (author : ℕ) → HasAuthor view.authors author → (writer author ≡ i) × (by author log ≡ by author view.log)

  -- The rule: there is a log, as the slots stand, and each view knows what is so.
  pub record Holds (ends : Ends S) (opened : List S) (s : State S (Knows S)) : Type 0 where
    pub log : List (Event S)
    pub writer : ℕ → ℕ
    pub legal : IsLog ends opened log
    pub slots : (n : ℕ) → n < length opened → HasSlot opened log s n
    pub each : (i : ℕ) (view : Knows S) → get_elem? s.views i ≡ some view → IsTrueView opened log writer i view
