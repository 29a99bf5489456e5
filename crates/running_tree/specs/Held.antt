-- What a seat holds back between operations, as the run that it has seen tells of it.
use Rattle.std.specs.Prelude.{◌≡◌, ◌≢◌, ◌↔◌, ℕ, List, length}
use Rattle.std.specs.List.{AllPairs, Contains}
use Rattle.traces.specs.discipline.Discipline.{IsOwn}
use Rattle.traces.specs.discipline.Knowledge.{Absent}
use Rattle.change_machine.specs.Spares.{IsUnlinked}
use Rattle.running_tree.specs.Seats.{Seat, known_to}
use Rattle.running_tree.specs.declared.held.Held.{Held}

-- There are so many such numbers: a list has each of them, none twice, and nothing else.
pub record AreSoMany (IsSuch : ℕ → Type 0) (count : ℕ) : Type 0 where
  pub numbers : List ℕ
  pub once : AllPairs (λ one other. one ≢ other) numbers
  pub exact : (number : ℕ) → Contains numbers number ↔ IsSuch number
  pub many : count ≡ length numbers

-- So many PIDs and rows the seat has taken and not linked, and so many it has taken out of the tree and not freed.
pub record HasHeld (seat : Seat) (held : Held) : Type 0 where
  pub spare_pids : AreSoMany (λ pid. IsUnlinked ((known_to seat).own.pages pid)) held.spare_pids
  pub spare_rows : AreSoMany (λ row. IsOwn ((known_to seat).own.rows row)) held.spare_rows
  pub limbo_pids : AreSoMany (λ pid. (known_to seat).limbo.pids pid ≢ Absent) held.limbo_pids
  pub limbo_rows : AreSoMany (λ row. (known_to seat).limbo.rows row ≢ Absent) held.limbo_rows
