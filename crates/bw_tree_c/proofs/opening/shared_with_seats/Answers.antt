use Rattle.std.proofs.Common.{◌∙◌, ap, length, subst, sym}
use Rattle.bw_tree_c.specs.Slots.{AreSlots}
use Rattle.bw_tree_c.proofs.Filling.{are_slots}
use Rattle.bw_tree_c.proofs.opening.shared_with_seats.Goals as goal

pub of-requires-clause-words : goal.of-requires-clause-words
of-requires-clause-words c = c.in_ok-table.ensures.long ∙ ap length (sym c.in_ok-table.ensures.key)

pub of-requires-clause-own : goal.of-requires-clause-own
of-requires-clause-own c = subst (AreSlots c.args.limits) (sym c.in_ok-table.ensures.key)
    (are_slots c.args.limits c.in_ok-slots.slots.items c.args.seats.items c.in_ok-slots.ensures c.requires.one)
