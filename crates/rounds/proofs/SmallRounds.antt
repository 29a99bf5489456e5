-- What the definitions of rounds in place say of small cases.
use Rattle.rounds.proofs.Words.{◌≡◌, ℕ, Some, None, true, refl, option_map, Limits, Record, IsReadPage, Version, sight_of, More}
use Rattle.std.proofs.Common.{[], ◌∷◌}
use Rattle.bw_model.specs.declared.step.Step.TheVariants as step
use Rattle.round_model.specs.Descents.{going_to, wanted_at}
use Rattle.round_model.specs.ReadRounds as reader
use Rattle.round_model.specs.Descents as stands
use Rattle.round_model.specs.ReadGoals as goal
use Rattle.round_model.specs.ReadLegs as legs
use Rattle.round_model.specs.ReadEnds as end
use Rattle.round_model.specs.Visits as sight
use Rattle.rounds.specs.Descents.{placed_state, asked_step}
use Rattle.rounds.specs.ReadRounds.{AreReadFor, read_again_if, ended_read, read_goal}
use Rattle.rounds.specs.declared.asked.Asked.TheVariants as asked
use Rattle.rounds.specs.declared.descents.WayStateKind.TheVariants.{Root, Slot, Row}
use Rattle.rounds.specs.declared.descents.SightKind.TheVariants.{Empty, Whole}
use Rattle.rounds.specs.declared.read_round.ReadGoalKind.TheVariants.{Seek, Left}
use Rattle.rounds.specs.declared.read_round.ReadEndKind.TheVariants.{Removed, Beside}

module _ (limits : Limits) (one : Record) (round : reader.ReadRound) (first second : Version) where
  -- slot 0, then the slot of page 5, then row 8 under one that was read from row 9 on
  asks_slot_0 : wanted_at (placed_state limits Root (record { head = 9; records = [] })) ≡ step.Slot 0
  asks_slot_0 = refl

  goes_to_5 : placed_state limits (Slot 5) (record { head = 9; records = [] }) ≡ (going_to 5 (record { limits = limits; state = stands.Root })).state
  goes_to_5 = refl

  asks_slot_5 : wanted_at (placed_state limits (Slot 5) (record { head = 9; records = [] })) ≡ asked_step (asked.Slot 5)
  asks_slot_5 = refl

  asks_row_8 : wanted_at (placed_state limits (Row 5 8) (record { head = 9; records = one ∷ [] })) ≡ asked_step (asked.Row 8)
  asks_row_8 = refl

  -- the page that is whole is the one in hand
  sees_nothing_yet : sight_of More first ≡ None
  sees_nothing_yet = refl

  sees_none : sight_of Empty first ≡ Some sight.Empty
  sees_none = refl

  sees_first : sight_of Whole first ≡ Some (sight.Whole first)
  sees_first = refl

  -- with the second page aside, a round goes to the left of that one, and ends beside it
  goes_left_of_second : read_goal Left second ≡ goal.Left second
  goes_left_of_second = refl

  seeks : read_goal Seek second ≡ goal.Seek
  seeks = refl

  is_removed : ended_read (record { round = round; page = first; aside = second; met = second }) Removed ≡ end.Removed first
  is_removed = refl

  is_beside : ended_read (record { round = round; page = first; aside = second; met = second }) Beside ≡ end.Beside first second
  is_beside = refl

  goes_on : option_map (ended_read (record { round = round; page = first; aside = second; met = second })) None ≡ None
  goes_on = refl

  module _ (is_there : ℕ → Record → Type 0) where
    -- on the way to the leaf of the key, with no page above, the page in hand is looked at
    looks_at_first : IsReadPage is_there first → AreReadFor is_there (record round { goal = goal.Seek; leg = legs.Down None }) first
    looks_at_first read = record { page = read; aside = tt; leg = tt }

    -- to the left of the second page, that one is, too; so is the page above, and the page that a round goes round
    looks_at_aside : AreReadFor is_there (record round { goal = goal.Left second }) first → IsReadPage is_there second
    looks_at_aside are = are.aside

    looks_at_above : AreReadFor is_there (record round { leg = legs.Past (Some second) }) first → IsReadPage is_there second
    looks_at_above are = are.leg

    looks_at_removed : AreReadFor is_there (record round { leg = legs.Round second }) first → IsReadPage is_there second
    looks_at_removed are = are.leg

-- an empty slot ends a round
missing : read_again_if true ≡ Some end.Again
missing = refl
