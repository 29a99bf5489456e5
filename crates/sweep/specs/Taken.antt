-- What an exchange takes out of the tree comes into limbo.
use Rattle.std.specs.Prelude.{◌≢◌, ◌++◌, ℕ, List, map, Option, None, Some, IfSome}
use Rattle.std.specs.List.{All, AllPairs}
use Rattle.tree_limits.specs.declared.limits.Limits.{Limits}
use Rattle.traces.specs.discipline.Knowledge.{Limbos}
use Rattle.epochs.specs.declared.entry.Entry.{Entry}
use Rattle.epochs.specs.declared.entry.Stage.TheVariants.{Unstamped}
use Rattle.epochs.specs.Limbo.{IsNew, Limbo, LimboList, with_entry}
use Rattle.sweep.specs.Kept.{AreKept}

-- a number without a stamp
abbrev pub fresh : ℕ → Entry
fresh number = record { number = number; stage = Unstamped }

-- the list with these numbers more
abbrev pub with_rows : List ℕ → LimboList → LimboList
with_rows rows list = record list { entries = list.entries ++ map fresh rows }

-- with the number, if there is one
abbrev pub with_pid : Option ℕ → LimboList → LimboList
with_pid None list = list
with_pid (Some pid) list = with_entry pid list

-- The rows are apart, and they and the PID are numbers of the tree that aren't in limbo.
pub record AreNew (rows : List ℕ) (pid : Option ℕ) (limbo : Limbo) : Type 0 where
  pub apart : AllPairs (λ one other. one ≢ other) rows
  pub new_rows : All (λ row. IsNew limbo.rows row) rows
  pub new_pid : IfSome pid (λ pid. IsNew limbo.pids pid)

-- the limbo with these rows, and with the PID
abbrev pub with_taken : List ℕ → Option ℕ → Limbo → Limbo
with_taken rows pid limbo = record { rows = with_rows rows limbo.rows; pids = with_pid pid limbo.pids }

-- The rows and the PID may come into limbo, which then agrees with this.
pub record IsTakenOut (limits : Limits) (actor : ℕ) (limbo : Limbo) (rows : List ℕ) (pid : Option ℕ) (now : Limbos) : Type 0 where
  pub new : AreNew rows pid limbo
  pub kept : AreKept limits actor (with_taken rows pid limbo) now
