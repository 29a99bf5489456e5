-- Small runs with and without a removal.
use Rattle.progress.proofs.Words.{◌≡◌, Bool, true, false, refl, Place, Entry, Step, insert_and_lookup, page_life, PlacesNoRemoval}
use Rattle.std.specs.Prelude.{None}
use Rattle.bw_model.specs.declared.step.Answer.TheVariants.{Done}
use Rattle.deltas.specs.declared.record.Record.TheVariants.{Remove}
use Rattle.linearization.proofs.Listed.{passes_at}

places_none : Entry → Bool
places_none (Step actor (Place row (Remove remove)) answer reply) = false
places_none entry = true

pub none_removed : PlacesNoRemoval insert_and_lookup
unfolding places_none
none_removed n actor row remove answer is = let e : false ≡ true = passes_at (λ k. places_none) insert_and_lookup refl n _ is.1 in cc

pub one_removed : ¬ PlacesNoRemoval page_life
one_removed none = none 19 0 6 (record { level = 0; next = 2 }) Done (None, refl)
