-- The limits that settings ask for.
use Rattle.std.specs.Prelude.{◌≡◌, ℕ, Bool, ◌+◌, ◌≤◌, ◌^◌, false, true}
use Rattle.tree_limits.specs.declared.limits.Limits.{Limits}
use Rattle.tree_limits.specs.Limits.{AreLargeLimits, AreLimits, IsOneWidth}
use Rattle.tree_limits.specs.Room.{AreProposed, AreProposedPairs, pids_for, rows_for, large_pids_for, large_rows_for}
use Rattle.tree_limits.specs.Room.{narrow_rows_for, wide_rows_for, narrow_words_for, page_words_for}
use Rattle.shell_options.specs.declared.settings.Settings.{Settings}
use Rattle.shell_options.specs.declared.settings.TreeSize.{TreeSize}
use Rattle.shell_options.specs.declared.settings.TreeSize.TheVariants.{Small, Large, ForKeys, ForPairs}

-- an epoch that may open a tree
abbrev pub IsEpoch : ℕ → Type 0
IsEpoch epoch = (1 ≤ epoch) × (epoch ≤ 2 ^ 62)

-- A tree of this size may have so many actors, and open at this epoch.
abbrev pub MayOpenAs : TreeSize → ℕ → ℕ → Type 0
MayOpenAs (Small pids rows) actors epoch = AreLimits actors pids rows epoch
MayOpenAs (Large pids rows) actors epoch = AreLargeLimits actors pids rows epoch
MayOpenAs (ForKeys keys) actors epoch = AreProposed actors keys × IsEpoch epoch
MayOpenAs (ForPairs keys key_bytes value_bytes) actors epoch = AreProposedPairs actors keys key_bytes value_bytes × IsEpoch epoch

-- A tree may be opened with these settings.
abbrev pub MayOpen : Settings → Type 0
MayOpen line = MayOpenAs line.size line.actors line.epoch

-- The limits are so many page identifiers and rows, which are all wide.
pub record HasCounts (pids rows : ℕ) (is_large : Bool) (limits : Limits) : Type 0 where
  pub all_pids : limits.pids ≡ pids
  pub all_rows : limits.rows ≡ rows
  pub kind : limits.is_large ≡ is_large
  pub widths : IsOneWidth limits.narrow_rows limits.wide_from

-- The limits are those that are proposed of a small tree for so many keys.
pub record AreForKeys (actors keys : ℕ) (limits : Limits) : Type 0 where
  pub pids : limits.pids ≡ pids_for actors keys
  pub rows : limits.rows ≡ rows_for actors (pids_for actors keys)
  pub kind : limits.is_large ≡ false

-- The limits are those that are proposed of a large tree for so many keys, where keys and values have such lengths.
pub record AreForPairs (actors keys key_bytes value_bytes : ℕ) (limits : Limits) : Type 0 where
  pub pids : limits.pids ≡ large_pids_for actors keys
  pub rows : limits.rows ≡ large_rows_for actors (large_pids_for actors keys)
  pub narrow_rows : limits.narrow_rows ≡ narrow_rows_for actors (large_pids_for actors keys)
  pub wide_rows : limits.rows ≡ limits.wide_from + wide_rows_for (large_pids_for actors keys)
  pub narrow_words : limits.narrow_words ≡ narrow_words_for key_bytes value_bytes
  pub page_words : limits.page_words ≡ page_words_for key_bytes value_bytes
  pub kind : limits.is_large ≡ true

abbrev pub HasSize : TreeSize → ℕ → Limits → Type 0
HasSize (Small pids rows) actors limits = HasCounts pids rows false limits
HasSize (Large pids rows) actors limits = HasCounts pids rows true limits
HasSize (ForKeys keys) actors limits = AreForKeys actors keys limits
HasSize (ForPairs keys key_bytes value_bytes) actors limits = AreForPairs actors keys key_bytes value_bytes limits

-- The limits are those that the settings ask for.
pub record AreLimitsOf (line : Settings) (limits : Limits) : Type 0 where
  pub actors : limits.actors ≡ line.actors
  pub size : HasSize line.size line.actors limits
  pub epoch : limits.epoch ≡ line.epoch
