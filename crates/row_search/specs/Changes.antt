-- Records that put a key, that delete one, and that split a page.
use Rattle.std.specs.Prelude.{Option, None, Some}
use Rattle.deltas.specs.declared.record.Delete.{Delete}
use Rattle.deltas.specs.declared.record.Put.{Put}
use Rattle.deltas.specs.declared.record.Record.{Record}
use Rattle.deltas.specs.declared.record.Record.TheVariants as kind
use Rattle.deltas.specs.declared.record.Split.{Split}

-- the put that a record is
abbrev pub put_of : Record → Option Put
put_of (kind.Put put) = Some put
put_of content = None

-- the delete that a record is
abbrev pub delete_of : Record → Option Delete
delete_of (kind.Delete delete) = Some delete
delete_of content = None

-- the split that a record is
abbrev pub split_of : Record → Option Split
split_of (kind.Split split) = Some split
split_of content = None
