-- A small limbo agrees with what is known, number by number.
use Rattle.sweep.proofs.Words.{ℕ, List, [], ◌∷◌, drop, eqb, Option, Some, true, false, refl, arith, if◌then◌else◌, Limits, replaced_at, Entry, Stage, Unstamped, Stamped, Passed, stage_in}
use Rattle.sweep.proofs.Words.{Agrees, AreKept}
use Rattle.traces.specs.discipline.Knowledge as known
use Rattle.sweep.specs.Examples.{all_passed, known_with, none_passed, small_limbo}
use Rattle.sweep.proofs.Unlinking.{eqb_turned}

module _ (limits : Limits) (actor : ℕ) (last : Option ℕ) where
  -- the entries and what is known agree with one number more
  one_more : (k : ℕ) (stage : Stage) (mark : known.LimboMark) (entries : List Entry) (marks : ℕ → known.LimboMark) → Agrees limits actor last (Some stage) mark
      → ((n : ℕ) → Agrees limits actor last (stage_in entries n) (marks n)) → (n : ℕ)
      → Agrees limits actor last (stage_in (record { number = k; stage = stage } ∷ entries) n) (replaced_at k mark marks n)
  one_more k stage mark entries marks here others n = rw (eqb_turned k n)
      (elim (eqb n k) as (λ b. Agrees limits actor last (if b then Some stage else stage_in entries n) (if b then mark else marks n)) [
        | true ↦ here
        | false ↦ others n
      ])

-- what is known of the rows, from row 7 on and from row 6 on
abbrev seventh : ℕ → known.LimboMark
seventh = replaced_at 7 (known.Stamped 4 none_passed) (λ row. known.Absent)

abbrev sixth : ℕ → known.LimboMark
sixth = replaced_at 6 (known.Stamped 4 none_passed) seventh

pub small_kept : (limits : Limits) → AreKept limits 0 (small_limbo limits) (known_with (known.Stamped 3 all_passed))
small_kept limits = record {
  lists = record { rows = refl; pids = refl };
  rows = one_more limits 0 (Some 4) 5 (Passed 3) (known.Stamped 3 all_passed) (drop 1 rows) sixth (omega arith, omega arith, λ other lt ne. refl)
      (one_more limits 0 (Some 4) 6 (Stamped 4) (known.Stamped 4 none_passed) (drop 2 rows) seventh (omega arith, omega arith)
      (one_more limits 0 (Some 4) 7 Unstamped (known.Stamped 4 none_passed) [] (λ row. known.Absent) (omega arith) (λ row. tt)));
  pids = one_more limits 0 (Some 4) 2 Unstamped known.Unstamped [] (λ page. known.Absent) tt (λ page. tt);
}
  where
    rows : List Entry
    rows = (small_limbo limits).rows.entries
