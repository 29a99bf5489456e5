-- The items that a record says are there, and the keys that it takes away.
use Rattle.std.specs.Prelude.{ℕ, List, [], ◌∷◌, Bool, true, false, ◌&&◌}
use Rattle.base_page.specs.declared.item.Content.TheVariants.{Child}
use Rattle.base_page.specs.declared.item.Item.{Item}
use Rattle.deltas.specs.declared.record.Record.{Record}
use Rattle.deltas.specs.declared.record.Record.TheVariants.{Put, Term, Hold}
use Rattle.deltas.specs.Records.{names}
use Rattle.record_slots.specs.Parts.{items_of}

-- whether a record is a term, which may be held
abbrev pub is_term : Record → Bool
is_term (Term term) = true
is_term (Hold hold) = true
is_term content = false

-- the items that a record says are there
abbrev pub items_said : Record → List Item
items_said (Term term) = record { key = term.separator; content = Child term.child false } ∷ []
items_said (Hold hold) = record { key = hold.separator; content = Child hold.child true } ∷ []
items_said content = items_of content

-- Whether a record may say that a key is absent which it names: a put and a term never do.
abbrev pub may_take : Record → Bool
may_take (Put put) = false
may_take (Term term) = false
may_take (Hold hold) = false
may_take content = true

-- whether it decides the key so
abbrev pub takes : Record → List ℕ → Bool
takes content key = may_take content && names content key
