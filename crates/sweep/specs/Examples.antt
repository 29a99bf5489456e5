-- A small limbo, and what its actor may know.
use Rattle.std.specs.Prelude.{ℕ, Bool, true, false, [], ◌∷◌, Some}
use Rattle.tree_limits.specs.declared.limits.Limits.{Limits}
use Rattle.deltas.specs.Memory.{replaced_at}
use Rattle.traces.specs.discipline.Knowledge as known
use Rattle.traces.specs.discipline.Knowledge.{Limbos, LimboMark}
use Rattle.epochs.specs.declared.entry.Stage.TheVariants.{Unstamped, Stamped, Passed}
use Rattle.epochs.specs.Limbo.{Limbo}

-- Row 5 may be freed, row 6 has a stamp, row 7 and page 2 have none.
abbrev pub small_limbo : Limits → Limbo
small_limbo limits = record {
  rows = record { limit = limits.rows; entries = record { number = 5; stage = Passed 3 } ∷ record { number = 6; stage = Stamped 4 } ∷ record { number = 7; stage = Unstamped } ∷ [] };
  pids = record { limit = limits.pids; entries = record { number = 2; stage = Unstamped } ∷ [] };
}

abbrev pub all_passed : ℕ → Bool
all_passed actor = true

abbrev pub none_passed : ℕ → Bool
none_passed actor = false

-- This of row 5; and epoch 4, which was read last, when rows 6 and 7 were out of the tree and page 2 was not yet.
abbrev pub known_with : LimboMark → Limbos
known_with mark = record {
  epoch = Some 4;
  rows = replaced_at 5 mark (replaced_at 6 (known.Stamped 4 none_passed) (replaced_at 7 (known.Stamped 4 none_passed) (λ row. known.Absent)));
  pids = replaced_at 2 known.Unstamped (λ page. known.Absent);
}
