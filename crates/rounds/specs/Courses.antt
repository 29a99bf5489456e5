-- Where a writer's round goes, over a place for each of the two pages that it may keep on the way.
use Rattle.std.specs.Prelude.{Bool, true, false, Option, Some, None}
use Rattle.structure_changes.specs.Versions.{Version}
use Rattle.round_model.specs.Courses as kept
use Rattle.rounds.specs.declared.course.WriteGoalKind.{WriteGoalKind}
use Rattle.rounds.specs.declared.course.WriteGoalKind.TheVariants.{Seek, Left, Merge, Unterm}

-- The course, and the pages that stand in the two places, whether they are kept or were before.
pub record PlacedCourse : Type 0 where
  pub course : kept.Course
  pub parent : Version
  pub left : Version

-- the page in a place, where it is kept
abbrev pub kept_if : Bool → Version → Option Version
kept_if false page = None
kept_if true page = Some page

-- the goal of a kind, where the pages in the two places are these
abbrev pub write_goal : WriteGoalKind → Version → Version → kept.WriteGoal
write_goal Seek parent left = kept.Seek
write_goal (Left pid) parent left = kept.Left pid
write_goal Merge parent left = kept.Merge left
write_goal Unterm parent left = kept.Unterm parent left
