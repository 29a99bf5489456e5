-- Options that are outside their ranges.
use Rattle.std.specs.Prelude.{ℕ}
use Rattle.shell_options.specs.declared.ranges.LimitOption.{LimitOption}
use Rattle.shell_options.specs.declared.ranges.LimitOption.TheVariants.{Actors, Pids, Rows, Keys, KeyBytes, ValueBytes, Epoch}
use Rattle.shell_options.specs.declared.settings.Settings.{Settings}
use Rattle.shell_options.specs.declared.settings.TreeSize.{TreeSize}
use Rattle.shell_options.specs.declared.settings.TreeSize.TheVariants.{Small, Large, ForKeys, ForPairs}
use Rattle.shell_options.specs.Settings.{MayOpen}

-- the least size of such a tree
abbrev pub least : TreeSize → TreeSize
least (Small pids rows) = Small 64 64
least (Large pids rows) = Large 64 64
least (ForKeys keys) = Small 64 64
least (ForPairs keys key_bytes value_bytes) = Large 64 64

-- the size with the least number in place of each but the option's
abbrev pub size_alone : LimitOption → TreeSize → TreeSize
size_alone Pids (Small pids rows) = Small pids 64
size_alone Pids (Large pids rows) = Large pids 64
size_alone Rows (Small pids rows) = Small 64 rows
size_alone Rows (Large pids rows) = Large 64 rows
size_alone Keys (ForKeys keys) = ForKeys keys
size_alone Keys (ForPairs keys key_bytes value_bytes) = ForPairs keys 0 0
size_alone KeyBytes (ForPairs keys key_bytes value_bytes) = ForPairs 0 key_bytes 0
size_alone ValueBytes (ForPairs keys key_bytes value_bytes) = ForPairs 0 0 value_bytes
size_alone option size = least size

-- the settings with the least number in place of each but the option's; how many keys are allowed is a matter of the actors
abbrev pub alone : LimitOption → Settings → Settings
alone Actors line = record line { size = size_alone Actors line.size; epoch = 1 }
alone Keys line = record line { size = size_alone Keys line.size; epoch = 1 }
alone Epoch line = record line { actors = 1; size = size_alone Epoch line.size }
alone option line = record line { actors = 1; size = size_alone option line.size; epoch = 1 }

-- the option's number is outside its range: with it no tree may be opened, though each other number is the least one, but for the actors of a number of keys
abbrev pub IsOutside : LimitOption → Settings → Type 0
IsOutside option line = MayOpen (alone option line) → ⊥
