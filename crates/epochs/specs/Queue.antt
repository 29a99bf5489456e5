-- The entries of one kind of numbers as they are kept in memory.
use Rattle.std.specs.Prelude.{◌++◌, ◌≤◌, ℕ, List, drop, length, take, IsTrue, IsFalse}
use Rattle.std.specs.List.{All, AllPairs}
use Rattle.epochs.specs.declared.entry.Entry.{Entry}
use Rattle.epochs.specs.Limbo.{IsLimboList, is_passed, is_unstamped}
use Rattle.epochs.specs.Words.{without}

-- the entries, and how many there is room for
pub record Queue : Type 0 where
  pub room : ℕ
  pub entries : List Entry

-- The entries without a stamp are the last ones.
abbrev pub AreLastUnstamped : List Entry → Type 0
AreLastUnstamped entries = AllPairs (λ one other. IsTrue (is_unstamped one.stage) → IsTrue (is_unstamped other.stage)) entries

abbrev pub AreStamped : List Entry → Type 0
AreStamped entries = All (λ entry. IsFalse (is_unstamped entry.stage)) entries

-- No entry may be freed.
abbrev pub NonePassed : List Entry → Type 0
NonePassed entries = All (λ entry. IsFalse (is_passed entry.stage)) entries

-- The queue has room for all numbers below the limit, and of its entries only the first ones, so many as were compared, may be freed.
pub record IsKeptList (limit compared : ℕ) (queue : Queue) : Type 0 where
  pub list : IsLimboList (record { limit = limit; entries = queue.entries })
  pub room : limit ≤ queue.room
  pub front : compared ≤ length queue.entries
  pub others : NonePassed (drop compared queue.entries)
  pub last : AreLastUnstamped queue.entries

-- the entries without those numbers of the word that may be freed among the first ones
abbrev pub without_first : ℕ → ℕ → List Entry → List Entry
without_first count word entries = without word (take count entries) ++ drop count entries
