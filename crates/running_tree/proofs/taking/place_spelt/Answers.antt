use Rattle.std.proofs.Common.{◌≡◌, ◌≤◌, ◌∙◌, List, ℕ, length, sym, subst, refl}
use Rattle.tree_words.proofs.RowFits.{stored_fits}
use Rattle.tree_words.specs.Layout.{width_of}
use Rattle.record_slots.specs.Spells.{HasSpelling, IsSpelling}
use Rattle.running_tree.proofs.Kept.{small_stored}
use Rattle.running_tree.proofs.taking.place_spelt.Goals as goal

-- a row can spell what is placed
pub place_row-requires-clause-spelt : goal.place_row-requires-clause-spelt
place_row-requires-clause-spelt c =
    let is = c.write_record.ensures.spells c.requires.within.2 in
    record {
      spelling = record { spellable = is.spellable; short = is.short; are = refl };
      are = small_stored c.args.limits.now c.requires.small c.args.content.now ∙ is.are ∙ sym c.words.ensures;
    }

-- the row has room for it
pub place_row-requires-clause-fits : goal.place_row-requires-clause-fits
place_row-requires-clause-fits c =
    let is = c.write_record.ensures.spells c.requires.within.2 in
    let spelling : HasSpelling c.args.content.now = record { spellable = is.spellable; short = is.short; are = refl } in
    subst (λ (ws : List ℕ). length ws ≤ width_of c.args.limits.now c.args.row) (small_stored c.args.limits.now c.requires.small c.args.content.now ∙ is.are ∙ sym c.words.ensures)
    (stored_fits c.args.limits.now c.args.row c.args.content.now spelling c.requires.within.3)
