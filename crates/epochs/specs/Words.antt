-- Numbers by words of 64 bits, and what one reuse hands on.
use Rattle.std.specs.Prelude.{◌≡◌, ◌≤◌, ◌==◌, ◌/◌, ◌&&◌, ℕ, Bool, min, not, IsTrue, IsFalse, List, Option, None, Some}
use Rattle.std.specs.List.{filter, list_any}
use Rattle.tree_limits.specs.Words.{is_among}
use Rattle.epochs.specs.declared.entry.Entry.{Entry}
use Rattle.epochs.specs.declared.item.Reuse.{Reuse}
use Rattle.epochs.specs.declared.item.Reuse.TheVariants.{Rows, Pids}
use Rattle.epochs.specs.Limbo.{Limbo, LimboList, is_in, is_passed}

-- The number is in the list, and may be freed.
abbrev pub may_go : List Entry → ℕ → Bool
may_go entries number = list_any (λ entry. (entry.number == number) && is_passed entry.stage) entries

-- No number may be freed.
abbrev pub HasNone : List Entry → Type 0
HasNone entries = (number : ℕ) → IsFalse (may_go entries number)

-- The word is the first with a number that may be freed.
pub record IsFirstWord (entries : List Entry) (word : ℕ) : Type 0 where
  pub some : (number : ℕ) × (number / 64 ≡ word) × IsTrue (may_go entries number)
  pub first : (number : ℕ) → IsTrue (may_go entries number) → word ≤ number / 64

-- the same, where there may be no such word
abbrev pub IsFirstPlace : List Entry → Option ℕ → Type 0
IsFirstPlace entries None = HasNone entries
IsFirstPlace entries (Some word) = IsFirstWord entries word

-- the lower of two words, if there are two
abbrev pub lower : Option ℕ → ℕ → ℕ
lower None word = word
lower (Some first) word = min first word

-- The bits of the word are those of its numbers that may be freed, and no others.
abbrev pub AreBitsOf : List Entry → ℕ → ℕ → Type 0
AreBitsOf entries word bits = (number : ℕ) → is_among word bits number ≡ ((number / 64 == word) && may_go entries number)

-- the list without the numbers of the word that may be freed
abbrev pub without : ℕ → List Entry → List Entry
without word entries = filter (λ entry. not ((entry.number / 64 == word) && is_passed entry.stage)) entries

-- The numbers of the first word that may be freed leave the list, so that none is handed on twice, and all else stays.
pub record HandsOn (list : LimboList) (word bits : ℕ) (after : LimboList) : Type 0 where
  pub first : IsFirstWord list.entries word
  pub exact : AreBitsOf list.entries word bits
  pub gone : (number : ℕ) → IsTrue (is_among word bits number) → IsFalse (is_in after number)
  pub rest : after ≡ record list { entries = without word list.entries }

-- Nothing may be freed, and nothing changes.
pub record HandsNothingOn (list after : LimboList) : Type 0 where
  pub none : HasNone list.entries
  pub rest : after ≡ list

-- What one reuse hands on, rows before PIDs.
abbrev pub IsHandedOn : Limbo → Option Reuse → Limbo → Type 0
IsHandedOn limbo None after = HandsNothingOn limbo.rows after.rows × HandsNothingOn limbo.pids after.pids
IsHandedOn limbo (Some (Rows word bits)) after = HandsOn limbo.rows word bits after.rows × (after.pids ≡ limbo.pids)
IsHandedOn limbo (Some (Pids word bits)) after = HandsNothingOn limbo.rows after.rows × HandsOn limbo.pids word bits after.pids
