-- A lookup beside a removed leaf, step by step: the second leaf of a small tree is removed and not merged.
use Rattle.std.specs.Prelude.{codes, ℕ, List, [], ◌∷◌, Option, None, Some}
use Rattle.std.proofs.Common.{lit≤}
use Rattle.bw_model.specs.declared.command.Command.TheVariants.{Get}
use Rattle.deltas.specs.Memory.{Memory}
use Rattle.deltas.specs.declared.record.Record.{Record}
use Rattle.traces.specs.trace.Trace.{memory_at}
use Rattle.structure_changes.specs.Versions.{Version}
use Rattle.round_model.specs.Descents.{Page}
use Rattle.round_model.specs.ReadGoals.{ReadGoal, Seek, Left}
use Rattle.round_model.specs.ReadLegs.{Down}
use Rattle.round_model.specs.ReadRounds.{ReadRound}
use Rattle.round_model.specs.Visits.{Slot, Row, VisitState}
use Rattle.op_machine.specs.machine.GoesLeft.{first_read, read_left_of}
use Rattle.op_machine.specs.machine.Tasks.{Task}
use Rattle.linearization.specs.Examples.{hold_leaf, new_leaf, page_life, remove_leaf, root, small, split_away}

-- Page 3 is the root, above the leaves 1 and 2; the term of page 2, at "m", is held.
abbrev pub beside_removal : Memory
beside_removal = memory_at small page_life 21

abbrev pub get_x : Task
get_x = record { limits = small; actor = 1; command = Get (codes "x"); errands = [] }

-- the pages as they are read
abbrev pub root_read : Version
root_read = record { pid = 3; head = 5; chain = hold_leaf ∷ root ∷ []; is_pid = (lit≤ tt, lit≤ tt); is_row = (lit≤ tt, lit≤ tt) }

abbrev pub removed_read : Version
removed_read = record { pid = 2; head = 6; chain = remove_leaf ∷ new_leaf ∷ []; is_pid = (lit≤ tt, lit≤ tt); is_row = (lit≤ tt, lit≤ tt) }

-- the round at a page
abbrev pub round_at : ReadGoal → Option Version → ℕ → List Record → VisitState → ReadRound
round_at goal above pid part state = record { limits = small; key = codes "x"; goal = goal; leg = Down above; state = Page (record { limits = small; pid = pid; part = part; state = state }) }

-- From the root to the removed leaf, and then, in a further round, to the leaf to its left.
abbrev pub lookup_rounds : List ReadRound
lookup_rounds = round_at Seek None 3 [] Slot
    ∷ round_at Seek None 3 [] (Row 5 5)
    ∷ round_at Seek None 3 (hold_leaf ∷ []) (Row 5 4)
    ∷ round_at Seek (Some root_read) 2 [] Slot
    ∷ round_at Seek (Some root_read) 2 [] (Row 6 6)
    ∷ round_at Seek (Some root_read) 2 (remove_leaf ∷ []) (Row 6 2)
    ∷ read_left_of removed_read (first_read get_x)
    ∷ round_at (Left removed_read) None 3 [] Slot
    ∷ round_at (Left removed_read) None 3 [] (Row 5 5)
    ∷ round_at (Left removed_read) None 3 (hold_leaf ∷ []) (Row 5 4)
    ∷ round_at (Left removed_read) (Some root_read) 1 [] Slot
    ∷ round_at (Left removed_read) (Some root_read) 1 [] (Row 3 3)
    ∷ round_at (Left removed_read) (Some root_read) 1 (split_away ∷ []) (Row 3 1)
    ∷ []

-- the same round, gone from slot 0 to the first leaf
abbrev pub wrong_rounds : List ReadRound
wrong_rounds = round_at Seek None 1 [] Slot ∷ []
