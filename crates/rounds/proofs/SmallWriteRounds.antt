-- What the definitions of a writer's round in its place say of small cases.
use Rattle.rounds.proofs.Words.{◌≡◌, ℕ, true, false, Some, None, refl, option_map, Record, IsReadPage, Version, PlacedWrite}
use Rattle.structure_changes.specs.declared.after.After.{After}
use Rattle.structure_changes.specs.declared.plan.Plan.{Plan}
use Rattle.round_model.specs.Courses as kept
use Rattle.round_model.specs.WriteRounds as writer
use Rattle.round_model.specs.WriteEnds as end
use Rattle.rounds.specs.Courses.{write_goal, kept_if}
use Rattle.rounds.specs.WriteRounds.{AreReadToWrite, write_again_if, ended_write}
use Rattle.rounds.specs.declared.course.WriteGoalKind.TheVariants as kind
use Rattle.rounds.specs.declared.write_end_kind.WriteEndKind.TheVariants.{Removed, Due, Leaf}

module _ (round : writer.WriteRound) (first second third : Version) (plan : Plan) (after : After) where
  -- the first page is in hand, the second stands in the parent's place, the third in the left one's, and a change in the place of one
  abbrev stands : PlacedWrite
  stands = record { round = round; page = first; parent = second; left = third; plan = plan; after = after }

  is_removed : ended_write stands Removed ≡ end.Removed first
  is_removed = refl

  is_leaf : ended_write (record stands { round = record round { parent = Some second } }) Leaf ≡ end.Leaf (Some second) first
  is_leaf = refl

  is_due : ended_write stands Due ≡ end.Due plan after
  is_due = refl

  goes_on : option_map (ended_write stands) None ≡ None
  goes_on = refl

  -- to the left of page 5; to a page for the one in the left one's place, and for both
  goes_left : write_goal (kind.Left 5) second third ≡ kept.Left 5
  goes_left = refl

  for_one : write_goal kind.Merge second third ≡ kept.Merge third
  for_one = refl

  for_both : write_goal kind.Unterm second third ≡ kept.Unterm second third
  for_both = refl

  stands_there : kept_if false second ≡ None
  stands_there = refl

  is_kept : kept_if true second ≡ Some second
  is_kept = refl

  module _ (is_there : ℕ → Record → Type 0) where
    -- on the way to a leaf, with no page kept, the page in hand is looked at; to cut a term, both that are kept, too
    looks_at_first : IsReadPage is_there first → AreReadToWrite is_there (record round { goal = kept.Seek; parent = None; left = None }) first
    looks_at_first read = record { page = read; parent = tt; left = tt; goal = tt }

    looks_at_second : AreReadToWrite is_there (record round { parent = Some second }) first → IsReadPage is_there second
    looks_at_second are = are.parent

    looks_at_both : AreReadToWrite is_there (record round { goal = kept.Unterm second third }) first → IsReadPage is_there second × IsReadPage is_there third
    looks_at_both are = are.goal

-- an empty slot ends a round
missing : write_again_if true ≡ Some end.Again
missing = refl
