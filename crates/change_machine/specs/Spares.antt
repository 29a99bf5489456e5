-- What an actor has taken and not linked.
use Rattle.std.specs.Prelude.{◌≡◌, ◌==◌, ◌<◌, ◌≤◌, ◌-◌, ℕ, zero, suc, List, [], ◌∷◌, Option, Some, false, length, get_or, unwrap_or, All, IfSome, ⊤}
use Rattle.std.specs.List.{Contains}
use Rattle.tree_limits.specs.declared.limits.Limits.{Limits}
use Rattle.deltas.specs.Spellable.{IsPid}
use Rattle.traces.specs.discipline.Discipline.{IsOwn}
use Rattle.traces.specs.discipline.Knowledge.{Belongings, OwnPage, OwnRow, Other, Empty, Ready, Gone}

-- a PID, if there is one, and rows, the last one taken last
pub record Spares : Type 0 where
  pub pid : Option ℕ
  pub rows : List ℕ

-- the spare PID, the last row and the one before it; 0 where there is none
abbrev pub pid_of : Spares → ℕ
pid_of spares = unwrap_or spares.pid 0

abbrev pub last_of : List ℕ → ℕ
last_of rows = get_or rows (length rows - 1) 0

abbrev pub second_of : List ℕ → ℕ
second_of rows = get_or rows (length rows - 2) 0

abbrev pub last_row : Spares → ℕ
last_row spares = last_of spares.rows

abbrev pub second_row : Spares → ℕ
second_row spares = second_of spares.rows

-- the least row at a place among the spares: only the first one may be narrow, and the fourth is wide
abbrev pub least_at : Limits → ℕ → ℕ
least_at limits zero = 0
least_at limits (suc zero) = limits.narrow_rows
least_at limits (suc (suc zero)) = limits.narrow_rows
least_at limits (suc (suc (suc place))) = limits.wide_from

-- From this place on each row is at least as wide as its place asks.
abbrev pub AreStacked : Limits → ℕ → List ℕ → Type 0
AreStacked limits place [] = ⊤
AreStacked limits place (row ∷ rows) = (least_at limits place ≤ row) × AreStacked limits (suc place) rows

-- The spares are numbers that there are. Where all rows have one width there are two rows at most, and else four: a row that is taken where the
-- last one is too narrow is wider than that one.
pub record HaveRoom (limits : Limits) (spares : Spares) : Type 0 where
  pub pid : IfSome spares.pid (λ pid. IsPid pid × (pid < limits.pids))
  pub rows : All (λ row. row < limits.rows) spares.rows
  pub few : length spares.rows ≤ 4
  pub alike : 2 < length spares.rows → 0 < limits.wide_from
  pub stacked : AreStacked limits 0 spares.rows

-- The row is none of these.
abbrev pub IsNoneOf : ℕ → List ℕ → Type 0
IsNoneOf row [] = Unit {0}
IsNoneOf row (spare ∷ spares) = ((spare == row) ≡ false) × IsNoneOf row spares

-- Each is the actor's own, and none is there twice; row 0 is none.
abbrev pub AreSpare : (ℕ → OwnRow) → List ℕ → Type 0
AreSpare own [] = Unit {0}
AreSpare own (spare ∷ spares) = (IsOwn (own spare) × (0 < spare)) × IsNoneOf spare spares × AreSpare own spares

-- The actor took the page and has not linked it; whether its slot is set or not.
abbrev pub IsUnlinked : OwnPage → Type 0
IsUnlinked Other = ⊥
IsUnlinked Empty = ⊤
IsUnlinked (Ready row) = ⊤
IsUnlinked Gone = ⊥

-- What the actor took and has not linked is the spares, and nothing else.
pub record AreTheSpares (own : Belongings) (spares : Spares) : Type 0 where
  pub rows : AreSpare own.rows spares.rows
  pub all_rows : (row : ℕ) → IsOwn (own.rows row) → Contains spares.rows row
  pub page : IfSome spares.pid (λ pid. (0 < pid) × IsUnlinked (own.pages pid))
  pub all_pages : (page : ℕ) → IsUnlinked (own.pages page) → spares.pid ≡ Some page

-- No own page has a row in its slot.
abbrev pub AreUnset : Belongings → Type 0
AreUnset own = (page row : ℕ) → own.pages page ≡ Ready row → ⊥

-- the same, between changes
pub record Rest (own : Belongings) (spares : Spares) : Type 0 where
  pub are : AreTheSpares own spares
  pub unset : AreUnset own
