-- What a handle keeps once its tree is opened.
use Rattle.std.specs.Prelude.{◌≡◌, ◌+◌, [], ℕ, List, Option, Some, None}
use Rattle.call_log.specs.declared.log.Authors.TheVariants.{AllFrom}
use Rattle.call_log.specs.Rule.{knows}
use Rattle.tree_limits.specs.declared.limits.Limits.{Limits}
use Rattle.tree_limits.specs.Room.{large_pids_for, large_rows_for, narrow_rows_for, narrow_words_for, page_words_for, pids_for, rows_for, wide_rows_for}
use Rattle.running_tree.specs.Seats.{Seat}
use Rattle.running_tree.specs.Trees.{AreFresh, Tree}
use Rattle.bw_tree_c.specs.Handles.{opened_in}
use Rattle.bw_tree_c.specs.Receipts.{SeatHand}
use Rattle.bw_tree_c.specs.Shown.{ShowsLimits}
use Rattle.bw_tree_c.specs.Slots.{HaveSeats}
use Rattle.bw_tree_c.specs.declared.c_types.TreeLimits.{TreeLimits}
use Rattle.bw_tree_c.specs.declared.handle.shared.Shared.{Shared}

-- The seats are those of one tree of these limits, one for each actor, in order, and have seen nothing.
pub record IsOpenedAt (asked : Limits) (seats : List Seat) : Type 0 where
  pub tree : Tree
  pub limits : tree.limits ≡ asked
  pub fresh : AreFresh tree seats

-- The slots of the handle have those seats.
pub record IsOpenedIn (asked : Limits) (shared : Shared) : Type 0 where
  pub seats : List Seat
  pub have : HaveSeats (opened_in shared) seats
  pub opened : IsOpenedAt asked seats

-- The handle has the seats of a new tree of the limits that are shown.
abbrev pub HasOpened : TreeLimits → Option Shared → Type 0
HasOpened shows None = ⊥
HasOpened shows (Some shared) = (limits : Limits) × ShowsLimits limits shows × IsOpenedIn limits shared

-- The note is a receipt of the handle's log with all its authors, into which nothing is written.
pub record IsFirstNote (shared : Shared) (note : SeatHand) : Type 0 where
  pub table : note.table_id ≡ shared.table.shared.table_id
  pub me : note.me ≡ (knows (AllFrom 0) (opened_in shared) [], [])

-- The limits that are shown are those of the rule for so many actors and keys.
pub record ProposesLimits (seats keys : ℕ) (shows : TreeLimits) : Type 0 where
  pub actors : shows.actors ≡ seats
  pub pids : shows.pids ≡ pids_for seats keys
  pub rows : shows.rows ≡ rows_for seats (pids_for seats keys)
  pub epoch : shows.epoch ≡ 1
  pub kind : shows.large ≡ 0

-- They are those for a large tree, whose rows are as wide as pairs with keys and values of so many bytes ask.
pub record ProposesPairLimits (seats keys key value : ℕ) (shows : TreeLimits) : Type 0 where
  pub actors : shows.actors ≡ seats
  pub pids : shows.pids ≡ large_pids_for seats keys
  pub rows : shows.rows ≡ large_rows_for seats (large_pids_for seats keys)
  pub epoch : shows.epoch ≡ 1
  pub kind : shows.large ≡ 2
  pub narrow : shows.narrow_rows ≡ narrow_rows_for seats (large_pids_for seats keys)
  pub wide : shows.rows ≡ shows.wide_from + wide_rows_for (large_pids_for seats keys)
  pub narrow_words : shows.narrow_words ≡ narrow_words_for key value
  pub page_words : shows.page_words ≡ page_words_for key value

-- They are those for pairs of any length.
abbrev pub ProposesLargeLimits : ℕ → ℕ → TreeLimits → Type 0
ProposesLargeLimits seats keys shows = ProposesPairLimits seats keys 64 64 shows
