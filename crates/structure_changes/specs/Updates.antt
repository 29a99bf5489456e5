-- The record of an update.
use Rattle.std.specs.Prelude.{ℕ, List, Option, Some, None}
use Rattle.deltas.specs.declared.record.Record.{Record}
use Rattle.deltas.specs.declared.record.Record.TheVariants.{Delete, Put}

-- a put, or a delete where there is no value
abbrev pub put_or_delete : ℕ → List ℕ → Option (List ℕ) → Record
put_or_delete next key (Some value) = Put (record { next = next; key = key; value = value })
put_or_delete next key None = Delete (record { next = next; key = key })
