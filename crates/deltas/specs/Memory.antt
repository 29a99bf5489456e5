-- The memory that actors share.
use Rattle.std.specs.Prelude.{ℕ, zero, suc, ◌+◌, ◌==◌, nat_lt, nat_le, Bool, ◌&&◌, if◌then◌else◌, Option, None, Some}
use Rattle.tree_limits.specs.declared.limits.Limits.{Limits}
use Rattle.base_page.specs.Pages.{empty_leaf}
use Rattle.deltas.specs.declared.record.Record.{Record}
use Rattle.deltas.specs.declared.record.Record.TheVariants.{Base}

-- For each PID the row of its newest record, or 0; slot 0 has the root's PID. For each row the record placed there last.
-- The PIDs and rows that are free, the epoch, and for each actor the epoch that it announced, or 0.
pub record Memory : Type 0 where
  pub slots : ℕ → ℕ
  pub rows : ℕ → Option Record
  pub free_pids : ℕ → Bool
  pub free_rows : ℕ → Bool
  pub epoch : ℕ
  pub announced : ℕ → ℕ

-- f, with x at n
abbrev pub replaced_at : {X : Type 0} → ℕ → X → (ℕ → X) → ℕ → X
replaced_at n x f k = if k == n then x else f k

-- Row 1 is an empty leaf, the page of PID 1 and the root. PIDs and rows are free from 2 on.
abbrev pub opening : Limits → Memory
opening limits = record {
  slots = λ pid. if nat_le pid 1 then 1 else 0;
  rows = λ row. if row == 1 then Some (Base empty_leaf) else None;
  free_pids = λ pid. nat_le 2 pid && nat_lt pid limits.pids;
  free_rows = λ row. nat_le 2 row && nat_lt row limits.rows;
  epoch = limits.epoch;
  announced = λ actor. 0;
}

-- how many of the numbers below n are free
abbrev pub how_many : (ℕ → Bool) → ℕ → ℕ
how_many free zero = 0
how_many free (suc n) = how_many free n + (if free n then 1 else 0)
