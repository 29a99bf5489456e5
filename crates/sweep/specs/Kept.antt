-- How an actor's limbo agrees with what the actor knows of what it took out of the tree.
use Rattle.std.specs.Prelude.{◌≡◌, ◌≢◌, ◌<◌, ◌≤◌, ℕ, [], Bool, Option, None, Some, IsTrue, ⊤}
use Rattle.tree_limits.specs.declared.limits.Limits.{Limits}
use Rattle.traces.specs.discipline.Knowledge as known
use Rattle.traces.specs.discipline.Knowledge.{Limbos}
use Rattle.epochs.specs.declared.entry.Stage.{Stage}
use Rattle.epochs.specs.declared.entry.Stage.TheVariants.{Unstamped, Stamped, Passed}
use Rattle.epochs.specs.Limbo.{Limbo, stage_of}

-- The stamp is not above the epoch that was read last.
abbrev pub IsReadStamp : Option ℕ → ℕ → Type 0
IsReadStamp None stamp = ⊥
IsReadStamp (Some last) stamp = stamp ≤ last

-- Each other actor is known to have passed.
abbrev pub HavePassed : Limits → ℕ → (ℕ → Bool) → Type 0
HavePassed limits actor passed = (other : ℕ) → other < limits.actors → other ≢ actor → IsTrue (passed other)

-- The stage that a number has in the list, and what is known of it, where this epoch was read last. It is in the list exactly
-- where it is known to be out of the tree. What has no stamp in the list may have one by what is known, as each epoch that is read
-- stamps what is known; a stamp in the list is not below the known one. What may be freed by the list each other actor is
-- known to have passed.
abbrev pub Agrees : Limits → ℕ → Option ℕ → Option Stage → known.LimboMark → Type 0
Agrees limits actor last None known.Absent = ⊤
Agrees limits actor last None known.Unstamped = ⊥
Agrees limits actor last None (known.Stamped epoch passed) = ⊥
Agrees limits actor last (Some Unstamped) known.Absent = ⊥
Agrees limits actor last (Some Unstamped) known.Unstamped = ⊤
Agrees limits actor last (Some Unstamped) (known.Stamped epoch passed) = IsReadStamp last epoch
Agrees limits actor last (Some (Stamped stamp)) known.Absent = ⊥
Agrees limits actor last (Some (Stamped stamp)) known.Unstamped = ⊥
Agrees limits actor last (Some (Stamped stamp)) (known.Stamped epoch passed) = IsReadStamp last epoch × (epoch ≤ stamp)
Agrees limits actor last (Some (Passed stamp)) known.Absent = ⊥
Agrees limits actor last (Some (Passed stamp)) known.Unstamped = ⊥
Agrees limits actor last (Some (Passed stamp)) (known.Stamped epoch passed) = IsReadStamp last epoch × (epoch ≤ stamp) × HavePassed limits actor passed

-- The lists are for the numbers that there are.
pub record IsLimboOf (limits : Limits) (limbo : Limbo) : Type 0 where
  pub rows : limbo.rows.limit ≡ limits.rows
  pub pids : limbo.pids.limit ≡ limits.pids

-- The limbo has what its actor is known to have taken out of the tree and not freed.
pub record AreKept (limits : Limits) (actor : ℕ) (limbo : Limbo) (known : Limbos) : Type 0 where
  pub lists : IsLimboOf limits limbo
  pub rows : (row : ℕ) → Agrees limits actor known.epoch (stage_of limbo.rows row) (known.rows row)
  pub pids : (pid : ℕ) → Agrees limits actor known.epoch (stage_of limbo.pids pid) (known.pids pid)

-- nothing, with room for the numbers that there are
abbrev pub empty_limbo : Limits → Limbo
empty_limbo limits = record { rows = record { limit = limits.rows; entries = [] }; pids = record { limit = limits.pids; entries = [] } }
