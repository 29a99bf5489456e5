-- Why a round begins again, or is done, where nothing is due.
use Rattle.round_model.proofs.Words.{Some, refl, Answer, Record, Recalled, recall}
use Rattle.deltas.proofs.Replaced.{replaced_same}
use Rattle.round_model.specs.Descents.{FoundNothing, Page}
use Rattle.round_model.specs.Visits.{FindsEmpty, Visit, wanted_step}

-- a slot that was read as 0 is recalled as 0
pub found_nothing : (r : Recalled) (visit : Visit) (told : Answer Record) → FindsEmpty visit told → FoundNothing (Page visit) (recall r (wanted_step visit) told)
found_nothing r visit told b = record { visit = visit; asked = refl; at_slot = b.asked; empty = rw (b.asked, b.is) (replaced_same visit.pid (Some 0) r.heads) }
