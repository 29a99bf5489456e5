-- Records that name one key.
use Rattle.std.specs.Prelude.{List, ℕ, Bool, true, false, Option, None, Some}
use Rattle.deltas.specs.declared.record.Record.{Record}
use Rattle.deltas.specs.declared.record.Record.TheVariants.{Base, Put, Delete, Split, Term, Hold, Remove, Merge, Unterm}

-- the one key that a record names, and whether it says that the key is there
abbrev pub one_key : Record → Option (List ℕ × Bool)
one_key (Base page) = None
one_key (Put put) = Some (put.key, true)
one_key (Delete delete) = Some (delete.key, false)
one_key (Split split) = None
one_key (Term term) = Some (term.separator, true)
one_key (Hold hold) = Some (hold.separator, true)
one_key (Remove remove) = None
one_key (Merge merge) = None
one_key (Unterm unterm) = Some (unterm.separator, false)

-- the separator of a split
abbrev pub split_at : Record → Option (List ℕ)
split_at (Split split) = Some split.separator
split_at content = None
