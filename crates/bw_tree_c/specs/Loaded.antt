-- Trees that are opened with the pairs that C gives.
use Rattle.std.specs.Prelude.{◌≡◌, ◌≤◌, ◌⊎◌, ℕ, List, map, Option, Some, None, slice_get}
use Rattle.tree_limits.specs.declared.limits.Limits.{Limits}
use Rattle.bw_model.specs.declared.command.Reply.TheVariants as reply
use Rattle.bw_model.specs.declared.short_bytes.TheConstants.{MAX_LENGTH}
use Rattle.running_tree.specs.declared.called.Called.{Called}
use Rattle.running_tree.specs.declared.called.Called.TheVariants as called
use Rattle.running_tree.specs.declared.filling.TheConstants.{LOAD_BUDGET}
use Rattle.running_tree.specs.Loaded.{AreLoaded, IsStopped, KeysAscend}
use Rattle.running_tree.specs.Seats.{Seat}
use Rattle.running_tree.specs.Trees.{Tree}
use Rattle.bw_tree_c.specs.Handles.{opened_in}
use Rattle.bw_tree_c.specs.Shown.{ShowsLimits, bytes_in}
use Rattle.bw_tree_c.specs.Slots.{HaveSeats}
use Rattle.bw_tree_c.specs.declared.statuses.TheConstants.{BAD_LIMITS, BAD_ORDER, FULL, NO_MEMORY, OK, OPEN, SPENT, TOO_LONG}
use Rattle.bw_tree_c.specs.declared.c_types.Pair.{Pair}
use Rattle.bw_tree_c.specs.declared.c_types.TreeLimits.{TreeLimits}
use Rattle.bw_tree_c.specs.declared.handle.shared.Shared.{Shared}

-- the pair that is given
abbrev pub given_pair : Pair → List ℕ × List ℕ
given_pair given = (bytes_in given.key, bytes_in given.value)

-- The key and the value have at most 64 bytes.
abbrev pub IsShortPair : Pair → Type 0
IsShortPair given = (given.key.length ≤ MAX_LENGTH) × (given.value.length ≤ MAX_LENGTH)

abbrev pub AreShort : List Pair → Type 0
AreShort given = (n : ℕ) (pair : Pair) → slice_get given n ≡ Some pair → IsShortPair pair

-- The seats are those of one tree of these limits, which was opened with these pairs.
pub record IsLoadedWith (asked : Limits) (pairs : List (List ℕ × List ℕ)) (seats : List Seat) : Type 0 where
  pub tree : Tree
  pub limits : tree.limits ≡ asked
  pub loaded : AreLoaded tree seats pairs

-- The slots of the handle have those seats.
pub record IsLoadedIn (asked : Limits) (pairs : List (List ℕ × List ℕ)) (shared : Shared) : Type 0 where
  pub seats : List Seat
  pub have : HaveSeats (opened_in shared) seats
  pub loaded : IsLoadedWith asked pairs seats

-- The pairs that are given are short, and the handle has the seats of a tree of the limits that are shown, which was opened with them.
abbrev pub HasOpenedWith : TreeLimits → List Pair → Option Shared → Type 0
HasOpenedWith shows given None = ⊥
HasOpenedWith shows given (Some shared) = AreShort given × (limits : Limits) × ShowsLimits limits shows × IsLoadedIn limits (map given_pair given) shared

-- Why no tree of these limits is opened with the pairs: the pairs that are given are too long, or not in order; or the upsert of one of them, in a tree
-- that is let go then, found nothing free or was spent; or memory was refused.
pub record IsUnloaded (limits : Limits) (given : List Pair) (told : ℕ) : Type 0 where
  pub not_done : told ≡ OK → ⊥
  pub not_limits : told ≡ BAD_LIMITS → ⊥
  pub not_open : told ≡ OPEN → ⊥
  pub long : told ≡ TOO_LONG → AreShort given → ⊥
  pub order : told ≡ BAD_ORDER → KeysAscend (map given_pair given) → ⊥
  pub full : told ≡ FULL → IsStopped limits (map given_pair given) LOAD_BUDGET (called.Done reply.Full)
  pub spent : told ≡ SPENT → IsStopped limits (map given_pair given) LOAD_BUDGET called.Spent

-- the statuses that say so
abbrev pub TellsUnloaded : ℕ → Type 0
TellsUnloaded told = (told ≡ TOO_LONG) ⊎ (told ≡ BAD_ORDER) ⊎ (told ≡ FULL) ⊎ (told ≡ SPENT) ⊎ (told ≡ NO_MEMORY)

-- The load of the pairs that are given, into a tree of the limits that are shown, ended with a call that came to this.
abbrev pub StopsLoad : TreeLimits → List Pair → Called → Type 0
StopsLoad shows given came = (limits : Limits) × ShowsLimits limits shows × IsStopped limits (map given_pair given) LOAD_BUDGET came
