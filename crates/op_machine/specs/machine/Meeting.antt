-- Worked steps: an insert and a lookup that meet the removed leaf of the life of a page (theorem.Examples), before it is merged.
use Rattle.std.specs.Prelude.{codes, [], ◌∷◌, false, true, None, Some}
use Rattle.std.proofs.Common.{lit≤}
use Rattle.bw_model.specs.declared.command.Command.TheVariants.{Get, Insert}
use Rattle.structure_changes.specs.Versions.{Version}
use Rattle.round_model.specs.Courses as goal
use Rattle.round_model.specs.Descents.{Page, Root, WayState}
use Rattle.round_model.specs.ReadGoals as read_goal
use Rattle.round_model.specs.ReadLegs.{Down}
use Rattle.round_model.specs.ReadRounds.{ReadRound}
use Rattle.round_model.specs.Visits.{Row, Slot}
use Rattle.round_model.specs.WriteRounds.{WriteRound}
use Rattle.op_machine.specs.machine.Tasks.{Task}
use Rattle.linearization.specs.Examples.{hold_leaf, new_leaf, remove_leaf, root, small}

-- page 3, the index page, which has the term of page 2 held, and page 2, which is removed
abbrev pub held_above : Version
held_above = record { pid = 3; head = 5; chain = hold_leaf ∷ root ∷ []; is_pid = (lit≤ tt, lit≤ tt); is_row = (lit≤ tt, lit≤ tt) }

abbrev pub removed_version : Version
removed_version = record { pid = 2; head = 6; chain = remove_leaf ∷ new_leaf ∷ []; is_pid = (lit≤ tt, lit≤ tt); is_row = (lit≤ tt, lit≤ tt) }

-- the visit of page 2, whose slot is to be read, and whose removal was read
abbrev pub before_slot : WayState
before_slot = Page (record { limits = small; pid = 2; part = []; state = Slot })

abbrev pub before_base : WayState
before_base = Page (record { limits = small; pid = 2; part = remove_leaf ∷ []; state = Row 6 2 })

abbrev pub inserting : Task
inserting = record { limits = small; actor = 1; command = Insert (codes "p") (codes "1"); errands = [] }

abbrev pub looking : Task
looking = record { limits = small; actor = 1; command = Get (codes "p"); errands = [] }

-- the insert's round, and the lookup's, from the index page down to page 2
abbrev pub writing_down : WayState → WriteRound
writing_down state = record { limits = small; key = codes "p"; due = 8; tends = false; splits = true; floor = 0; goal = goal.Seek; parent = Some held_above; left = None; state = state }

abbrev pub reading_down : WayState → ReadRound
reading_down state = record { limits = small; key = codes "p"; goal = read_goal.Seek; leg = Down (Some held_above); state = state }

-- the insert's round to the left of page 2, which begins at "m", and the lookup's
abbrev pub writing_left : WriteRound
writing_left = record { limits = small; key = codes "m"; due = 8; tends = false; splits = true; floor = 0; goal = goal.Left 2; parent = None; left = None; state = Root }

abbrev pub reading_left : ReadRound
reading_left = record { limits = small; key = codes "p"; goal = read_goal.Left removed_version; leg = Down None; state = Root }
