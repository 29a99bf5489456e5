-- What stands in a row of a core's table, as searches look at it.
use Rattle.std.specs.Prelude.{◌≡◌, ℕ, Option, None, Some}
use Rattle.deltas.specs.declared.record.Record.{Record}
use Rattle.deltas.specs.declared.record.Record.TheVariants.{Remove}
use Rattle.deltas.specs.Memory.{Memory}

-- the record of a row, or some record where none was placed
abbrev pub or_some : Option Record → Record
or_some None = Remove (record { level = 0; next = 1 })
or_some (Some content) = content

-- The record stands in the row.
abbrev pub StandsIn : Memory → ℕ → Record → Type 0
StandsIn memory row content = memory.rows row ≡ Some content
