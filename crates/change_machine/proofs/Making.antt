-- What a change has made to be placed is of no matter to anything but the placing.
use Rattle.change_machine.proofs.Words.{ℕ, Option, None, Limits, Answer, Record, Knowledge, Change, Follows, IsSoundChange, Shows, Spares, End, State, Plan}
use Rattle.deltas.specs.declared.record.Record.TheVariants as kind
use Rattle.traces.specs.discipline.Recalled.{Recalled}
use Rattle.change_machine.specs.Bounded.{SpendsTo}

-- a change that has made nothing
abbrev pub bare_at : Limits → Plan → State → Change
bare_at limits plan state = record { limits = limits; plan = plan; state = state; near = 0; made = kind.Remove (record { level = 0; next = 0 }) }

abbrev pub bare : Change → Change
bare change = bare_at change.limits change.plan change.state

pub sound_bare : (change : Change) (spares : Spares) → IsSoundChange change spares → IsSoundChange (bare change) spares
sound_bare change spares h = record { room = h.room; state = h.state }

pub shows_bare : (actor : ℕ) (change : Change) (spares : Spares) (k : Knowledge) → Shows actor change spares k → Shows actor (bare change) spares k
shows_bare actor change spares k h = record { may = h.may; keeps = h.keeps; are = h.are; stands = h.stands }

pub shows_of_bare : (actor : ℕ) (change : Change) (spares : Spares) (k : Knowledge) → Shows actor (bare change) spares k → Shows actor change spares k
shows_of_bare actor change spares k h = record { may = h.may; keeps = h.keeps; are = h.are; stands = h.stands }

pub follows_bare : (actor : ℕ) (k now : Knowledge) (old : Change) (told : Answer Record) (new : Change) (has : Spares) (end : Option End)
    → Follows actor k now (bare old) told (bare new) has end → Follows actor k now old told new has end
follows_bare actor k now old told new has None h = record { shows = shows_of_bare actor new has now h.shows; like = h.like }
follows_bare actor k now old told new has end h = record { like = h.like; rest = h.rest; decided = h.decided }

pub spends_bare : (after : ℕ) (r : Recalled) (old : Change) (had : Spares) (told : Answer Record) (new : Change) (has : Spares) (end : Option End)
    → SpendsTo after r (bare old) had told (bare new) has end → SpendsTo after r old had told new has end
spends_bare after r old had told new has None h = (record { at = h.0.at; apart = h.0.apart }, h.1)
spends_bare after r old had told new has end h = h
