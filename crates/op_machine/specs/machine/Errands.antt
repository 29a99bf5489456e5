-- For which key an operation's rounds look, and what is due there.
use Rattle.std.specs.Prelude.{◌∷◌, [], ◌-◌, ℕ, List, Bool, false, true, length, not, slice_get, unwrap_or}
use Rattle.tree_limits.specs.declared.limits.Limits.{Limits}
use Rattle.bw_model.specs.declared.command.Command.{Command}
use Rattle.bw_model.specs.declared.command.Command.TheVariants.{Add, Back, Delete, DeleteIf, Get, Insert, Page, Swap, Tidy, Upsert}
use Rattle.bw_model.specs.Replies.{command_key}
use Rattle.structure_changes.specs.Sizes.{many_of}
use Rattle.op_machine.specs.machine.Upkeep.{tidies}

-- the newest errand's key, or the command's
abbrev pub way_key : List (List ℕ) → Command → List ℕ
way_key errands command = unwrap_or (slice_get errands (length errands - 1)) (command_key command)

-- At how many deltas a round consolidates the leaf that it looks for: at the leaf of its own key a tidying does at one.
abbrev pub due_of : Limits → List (List ℕ) → Command → ℕ
due_of limits [] (Tidy key) = 1
due_of limits [] (Get key) = many_of limits 0
due_of limits [] (Insert key value) = many_of limits 0
due_of limits [] (Upsert key value) = many_of limits 0
due_of limits [] (Delete key) = many_of limits 0
due_of limits [] (DeleteIf key expected) = many_of limits 0
due_of limits [] (Swap key expected value) = many_of limits 0
due_of limits [] (Add key number) = many_of limits 0
due_of limits [] (Page key) = many_of limits 0
due_of limits [] (Back key) = many_of limits 0
due_of limits (key ∷ errands) command = many_of limits 0

-- Whether a round holds and removes small index pages on its way: that of a deletion or a tidying for its own key does.
abbrev pub tends_of : List (List ℕ) → Command → Bool
tends_of [] command = tidies command
tends_of (key ∷ errands) command = false

-- Whether a round splits pages and makes roots on its way: in a small tree each does; in a large one that of an errand, or of a tidying.
abbrev pub splits_of : Limits → List (List ℕ) → Command → Bool
splits_of limits [] (Tidy key) = true
splits_of limits [] (Get key) = not limits.is_large
splits_of limits [] (Insert key value) = not limits.is_large
splits_of limits [] (Upsert key value) = not limits.is_large
splits_of limits [] (Delete key) = not limits.is_large
splits_of limits [] (DeleteIf key expected) = not limits.is_large
splits_of limits [] (Swap key expected value) = not limits.is_large
splits_of limits [] (Add key number) = not limits.is_large
splits_of limits [] (Page key) = not limits.is_large
splits_of limits [] (Back key) = not limits.is_large
splits_of limits (key ∷ errands) command = true
