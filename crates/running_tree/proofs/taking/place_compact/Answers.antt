use Rattle.std.proofs.Common.{◌≤◌, ◌∙◌, List, ℕ, length, sym, subst, refl}
use Rattle.record_slots.specs.Spells.{HasSpelling}
use Rattle.tree_words.proofs.RowFits.{stored_fits}
use Rattle.tree_words.specs.Layout.{width_of}
use Rattle.running_tree.proofs.Kept.{large_stored}
use Rattle.running_tree.proofs.taking.place_compact.Goals as goal

pub place_row-requires-clause-spelt : goal.place_row-requires-clause-spelt
place_row-requires-clause-spelt c =
    let is = c.compact_in.ensures in
    record {
      spelling = record { spellable = is.spellable; short = is.short; are = refl };
      are = large_stored c.args.limits.now c.requires.large c.args.content.now ∙ is.are ∙ sym c.words.ensures.words;
    }

-- the row has room for it
pub place_row-requires-clause-fits : goal.place_row-requires-clause-fits
place_row-requires-clause-fits c =
    let is = c.compact_in.ensures in
    let spelling : HasSpelling c.args.content.now = record { spellable = is.spellable; short = is.short; are = refl } in
    subst (λ (ws : List ℕ). length ws ≤ width_of c.args.limits.now c.args.row)
    (large_stored c.args.limits.now c.requires.large c.args.content.now ∙ is.are ∙ sym c.words.ensures.words)
    (stored_fits c.args.limits.now c.args.row c.args.content.now spelling c.requires.within.3)
