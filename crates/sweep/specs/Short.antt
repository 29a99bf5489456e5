-- How many steps a sweep of a large tree takes at most, however many items are in limbo: it frees none but those that it compares.
use Rattle.std.specs.Prelude.{◌≡◌, ◌<◌, ◌+◌, ◌*◌, ◌-◌, ℕ, suc, List, [], ◌∷◌, if◌then◌else◌, Option, Some, None, ⊤}
use Rattle.tree_limits.specs.declared.limits.Limits.{Limits}
use Rattle.epochs.specs.declared.entry.Entry.{Entry}
use Rattle.epochs.specs.Limbo.{Limbo, is_passed}
use Rattle.sweep.specs.declared.sweep.State.{State}
use Rattle.sweep.specs.declared.sweep.State.TheVariants as state
use Rattle.sweep.specs.declared.sweep.TheConstants.{MOST_COMPARED}

-- how many of these may be freed, and of both lists
abbrev pub count_free : List Entry → ℕ
count_free [] = 0
count_free (entry ∷ entries) = if is_passed entry.stage then suc (count_free entries) else count_free entries

abbrev pub free_now : Limbo → ℕ
free_now limbo = count_free limbo.rows.entries + count_free limbo.pids.entries

-- a step for each actor and one more, and one for each item that is compared
abbrev pub most_short : Limits → ℕ
most_short limits = limits.actors + 1 + 2 * MOST_COMPARED

-- how many are left with the one that it has asked for
abbrev pub short_left : Limits → State → Limbo → ℕ
short_left limits state.Epoch limbo = most_short limits
short_left limits (state.Retire epoch) limbo = limits.actors + 2 * MOST_COMPARED
short_left limits (state.Announce announced) limbo = limits.actors + 2 * MOST_COMPARED - suc announced.count
short_left limits (state.Reuse reuse) limbo = suc (free_now limbo)

-- Nothing may be freed before all announced epochs were compared.
abbrev pub IsClear : State → Limbo → Type 0
IsClear (state.Reuse reuse) limbo = ⊤
IsClear state limbo = free_now limbo ≡ 0

-- A sweep that goes on has fewer steps left than this; one that has ended leaves nothing that may be freed.
abbrev pub GoesShort : Limits → ℕ → Option State → Limbo → Type 0
GoesShort limits bound None after = free_now after ≡ 0
GoesShort limits bound (Some next) after = IsClear next after × (short_left limits next after < bound)
