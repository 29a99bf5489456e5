-- What C reads.
use Rattle.std.specs.Prelude.{slice_get, ◌<◌, ◌≡◌, ◌⊎◌, ℕ, List, Option, Some, None, take, length, false, true}
use Rattle.running_tree.specs.declared.room.Room.{Room}
use Rattle.tree_limits.specs.Limits.{AreLargeLimits, AreLimits, AreWidths}
use Rattle.tree_limits.specs.declared.limits.Limits.{Limits}
use Rattle.bw_tree_c.specs.declared.c_types.Bytes.{Bytes}
use Rattle.bw_tree_c.specs.declared.c_types.FreeRoom.{FreeRoom}
use Rattle.bw_tree_c.specs.declared.c_types.Page.{Page}
use Rattle.bw_tree_c.specs.declared.c_types.Pair.{Pair}
use Rattle.bw_tree_c.specs.declared.c_types.TreeLimits.{TreeLimits}

-- the bytes that C may read
abbrev pub bytes_in : Bytes → List ℕ
bytes_in b = take b.length b.bytes

-- The bytes are shown: C may read as many as there are.
abbrev pub ShowsBytes : List ℕ → Bytes → Type 0
ShowsBytes bytes at = (at.length ≡ length bytes) × (bytes_in at ≡ bytes)

-- What the limits are of: 0 is a small tree, 1 a large one whose rows are all wide, and 2 a large one with other rows.
abbrev pub IsOfKind : Limits → ℕ → Type 0
IsOfKind limits kind =
    ((limits.is_large ≡ false) × (kind ≡ 0)) ⊎ ((limits.is_large ≡ true) × (limits.wide_from ≡ 0) × (kind ≡ 1))
    ⊎ ((limits.is_large ≡ true) × (0 < limits.wide_from) × (kind ≡ 2))

-- The widths of the rows are shown.
pub record ShowsWidths (limits : Limits) (shows : TreeLimits) : Type 0 where
  pub narrow_rows : shows.narrow_rows ≡ limits.narrow_rows
  pub wide_from : shows.wide_from ≡ limits.wide_from
  pub narrow_words : shows.narrow_words ≡ limits.narrow_words
  pub page_words : shows.page_words ≡ limits.page_words

-- The limits are shown, and the widths where they have some.
pub record ShowsLimits (limits : Limits) (shows : TreeLimits) : Type 0 where
  pub actors : shows.actors ≡ limits.actors
  pub pids : shows.pids ≡ limits.pids
  pub rows : shows.rows ≡ limits.rows
  pub epoch : shows.epoch ≡ limits.epoch
  pub kind : IsOfKind limits shows.large
  pub widths : shows.large ≡ 2 → ShowsWidths limits shows

-- They are limits of a large tree with widths.
pub record HaveWidths (shows : TreeLimits) : Type 0 where
  pub allowed : AreLargeLimits shows.actors shows.pids shows.rows shows.epoch
  pub some : 0 < shows.wide_from
  pub widths : AreWidths shows.rows shows.narrow_rows shows.wide_from shows.narrow_words shows.page_words

-- They are limits of a small tree or of a large one.
abbrev pub AreOpenable : TreeLimits → Type 0
AreOpenable shows =
    ((shows.large ≡ 0) × AreLimits shows.actors shows.pids shows.rows shows.epoch)
    ⊎ ((shows.large ≡ 1) × AreLargeLimits shows.actors shows.pids shows.rows shows.epoch)
    ⊎ ((shows.large ≡ 2) × HaveWidths shows)

-- The room is shown.
abbrev pub ShowsRoom : Room → FreeRoom → Type 0
ShowsRoom room shows = (shows.free_pids ≡ room.free_pids) × (shows.free_rows ≡ room.free_rows)

-- The pair is shown.
abbrev pub ShowsPair : List ℕ × List ℕ → Pair → Type 0
ShowsPair pair at = ShowsBytes pair.0 at.key × ShowsBytes pair.1 at.value

-- The first pairs are shown, each at its place.
abbrev pub ShowFirst : ℕ → List (List ℕ × List ℕ) → List Pair → Type 0
ShowFirst count pairs ats = (n : ℕ) (pair : List ℕ × List ℕ) → n < count → slice_get pairs n ≡ Some pair → (at : Pair) × (slice_get ats n ≡ Some at) × ShowsPair pair at

-- All pairs are shown.
abbrev pub ShowsAllPairs : List (List ℕ × List ℕ) → Page → Type 0
ShowsAllPairs pairs page = (page.count ≡ length pairs) × ShowFirst (length pairs) pairs page.pairs

-- The key from which the next page goes on is shown, or that there is none.
abbrev pub ShowsNext : Option (List ℕ) → Page → Type 0
ShowsNext None page = page.more ≡ 0
ShowsNext (Some key) page = (page.more ≡ 1) × ShowsBytes key page.next

abbrev pub ShowsWholePage : List (List ℕ × List ℕ) → Option (List ℕ) → Page → Type 0
ShowsWholePage pairs next page = ShowsAllPairs pairs page × ShowsNext next page
