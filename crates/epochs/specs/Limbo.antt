-- Limbo lists: what an actor has taken out of the tree, and has not freed yet.
use Rattle.std.specs.Prelude.{◌≢◌, ◌<◌, ◌≤◌, ◌==◌, ℕ, Bool, true, false, if◌then◌else◌, IsFalse, List, [], ◌∷◌, ◌++◌, Option, None, Some, drop, map, take}
use Rattle.std.specs.List.{All, AllPairs, list_any}
use Rattle.epochs.specs.declared.entry.Entry.{Entry}
use Rattle.epochs.specs.declared.entry.Stage.{Stage}
use Rattle.epochs.specs.declared.entry.Stage.TheVariants.{Unstamped, Stamped, Passed}
use Rattle.epochs.specs.declared.item.Item.{Item}
use Rattle.epochs.specs.declared.item.Item.TheVariants.{Row, Pid}
use Rattle.epochs.specs.Reclamation.{may_be_freed}

-- the numbers of one kind, all below a limit
pub record LimboList : Type 0 where
  pub limit : ℕ
  pub entries : List Entry

pub record Limbo : Type 0 where
  pub rows : LimboList
  pub pids : LimboList

abbrev pub is_unstamped : Stage → Bool
is_unstamped Unstamped = true
is_unstamped (Stamped stamp) = false
is_unstamped (Passed stamp) = false

abbrev pub is_passed : Stage → Bool
is_passed Unstamped = false
is_passed (Stamped stamp) = false
is_passed (Passed stamp) = true

-- after an epoch was read that is to be the stamp of all that has none
abbrev pub stamped_by : ℕ → Stage → Stage
stamped_by epoch Unstamped = Stamped epoch
stamped_by epoch (Stamped stamp) = Stamped stamp
stamped_by epoch (Passed stamp) = Passed stamp

-- After the announced epochs of all other actors were read: what has a stamp that each of them has passed may be freed.
abbrev pub compared_with : List ℕ → Stage → Stage
compared_with announces Unstamped = Unstamped
compared_with announces (Stamped stamp) = if may_be_freed stamp announces then Passed stamp else Stamped stamp
compared_with announces (Passed stamp) = if may_be_freed stamp announces then Passed stamp else Stamped stamp

-- The number of each entry stays, and its stage becomes this.
abbrev pub with_stages : (Stage → Stage) → List Entry → List Entry
with_stages stage_after entries = map {A = Entry} (λ entry. record entry { stage = stage_after entry.stage }) entries

-- Of the first entries alone, so many at most.
abbrev pub first_restaged : ℕ → (Stage → Stage) → List Entry → List Entry
first_restaged most stage_after entries = with_stages stage_after (take most entries) ++ drop most entries

-- all entries of both lists
abbrev pub all_restaged : (Stage → Stage) → Limbo → Limbo
all_restaged stage_after limbo = record {
  rows = record limbo.rows { entries = with_stages stage_after limbo.rows.entries };
  pids = record limbo.pids { entries = with_stages stage_after limbo.pids.entries };
}

-- the first entries of each list
abbrev pub firsts_restaged : ℕ → (Stage → Stage) → Limbo → Limbo
firsts_restaged most stage_after limbo = record {
  rows = record limbo.rows { entries = first_restaged most stage_after limbo.rows.entries };
  pids = record limbo.pids { entries = first_restaged most stage_after limbo.pids.entries };
}

abbrev pub is_in : LimboList → ℕ → Bool
is_in list number = list_any (λ entry. entry.number == number) list.entries

-- the stage of a number, if there is one
abbrev pub stage_in : List Entry → ℕ → Option Stage
stage_in [] number = None
stage_in (entry ∷ entries) number = if entry.number == number then Some entry.stage else stage_in entries number

abbrev pub stage_of : LimboList → ℕ → Option Stage
stage_of list number = stage_in list.entries number

-- the list with one number more, without a stamp
abbrev pub with_entry : ℕ → LimboList → LimboList
with_entry number list = record list { entries = list.entries ++ (record { number = number; stage = Unstamped } ∷ []) }

-- the limbo with one item more
abbrev pub with_item : Item → Limbo → Limbo
with_item (Row row) limbo = record limbo { rows = with_entry row limbo.rows }
with_item (Pid pid) limbo = record limbo { pids = with_entry pid limbo.pids }

-- a number below the limit that isn't in the list
pub record IsNew (list : LimboList) (number : ℕ) : Type 0 where
  pub below : number < list.limit
  pub out : IsFalse (is_in list number)

abbrev pub IsNewItem : Limbo → Item → Type 0
IsNewItem limbo (Row row) = IsNew limbo.rows row
IsNewItem limbo (Pid pid) = IsNew limbo.pids pid

-- Each number is there once, and is below the limit.
pub record IsLimboList (list : LimboList) : Type 0 where
  pub small : list.limit ≤ 67108864
  pub once : AllPairs (λ one other. one.number ≢ other.number) list.entries
  pub within : All (λ entry. entry.number < list.limit) list.entries
