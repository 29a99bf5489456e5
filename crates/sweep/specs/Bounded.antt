-- How many steps a sweep takes at most: the words come in ascending order.
use Rattle.std.specs.Prelude.{◌<◌, ◌+◌, ◌-◌, ◌/◌, ℕ, suc, Bool, true, false}
use Rattle.tree_limits.specs.declared.limits.Limits.{Limits}
use Rattle.epochs.specs.declared.item.Reuse.{Reuse}
use Rattle.epochs.specs.declared.item.Reuse.TheVariants.{Rows, Pids}
use Rattle.sweep.specs.declared.sweep.State.{State}
use Rattle.sweep.specs.declared.sweep.State.TheVariants as state

abbrev pub reuses_left : Limits → Reuse → ℕ
reuses_left limits (Rows word bits) = limits.rows / 64 + limits.pids / 64 - word
reuses_left limits (Pids word bits) = limits.pids / 64 - word

-- how many steps a sweep takes at most: one for each word of free bits and for each actor, and one more
abbrev pub most_steps : Limits → ℕ
most_steps limits = limits.rows / 64 + limits.pids / 64 + limits.actors + 1

-- how many are left with the one that it has asked for
abbrev pub steps_left : Limits → State → ℕ
steps_left limits state.Epoch = most_steps limits
steps_left limits (state.Retire epoch) = limits.rows / 64 + limits.pids / 64 + limits.actors
steps_left limits (state.Announce announced) = limits.rows / 64 + limits.pids / 64 + limits.actors - suc announced.count
steps_left limits (state.Reuse reuse) = reuses_left limits reuse

-- A sweep that goes on has fewer steps left; one that has ended had one.
abbrev pub Spends : Limits → Bool → State → State → Type 0
Spends limits true old new = steps_left limits new < steps_left limits old
Spends limits false old new = 0 < steps_left limits old
