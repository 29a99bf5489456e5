-- What linking a record does.
use Rattle.bw_model.specs.declared.step.Link.{Link}
use Rattle.bw_model.specs.declared.step.Link.TheVariants as link
use Rattle.deltas.specs.declared.record.Record.{Record}
use Rattle.deltas.specs.declared.record.Record.TheVariants.{Base, Put, Delete, Split, Term, Hold, Remove, Merge, Unterm}

-- the kind of the record
abbrev pub record_link : Record → Link
record_link (Base page) = link.Base
record_link (Put put) = link.Put
record_link (Delete delete) = link.Delete
record_link (Split split) = link.Split
record_link (Term term) = link.Term
record_link (Hold hold) = link.Hold
record_link (Remove remove) = link.Remove
record_link (Merge merge) = link.Merge
record_link (Unterm unterm) = link.Unterm
