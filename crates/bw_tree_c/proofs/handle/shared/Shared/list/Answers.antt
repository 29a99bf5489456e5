use Rattle.std.proofs.Common.{subst, sym}
use Rattle.bw_tree_c.specs.Handles.{opened_in}
use Rattle.bw_tree_c.specs.Slots.{HasAllOf}
use Rattle.bw_tree_c.specs.declared.handle.slots.Inside.TheVariants as inside
use Rattle.bw_tree_c.proofs.Handing.{held}
use Rattle.bw_tree_c.proofs.handle.shared.Shared.list.Goals as goal

pub listed-requires : goal.listed-requires
listed-requires c = c.requires.all.all

pub hand_over-requires-clause-closing : goal.hand_over-requires-clause-closing
hand_over-requires-clause-closing c = c.requires.closing

pub hand_over-requires-clause-left : goal.hand_over-requires-clause-left
hand_over-requires-clause-left c = record { seats = c.args.whole.value.seats.items; are = c.requires.all.are; left = c.in-Ok.ensures.left }

pub keep-requires-clause-closing : goal.keep-requires-clause-closing
keep-requires-clause-closing c = c.requires.closing

pub keep-requires-clause-waits : goal.keep-requires-clause-waits
keep-requires-clause-waits c = subst (HasAllOf (opened_in c.args.self.now) c.args.hand.me.0.log) (sym c.in-Err.ensures.back) c.requires.all

pub returns-in-Err-clause-memory : goal.returns-in-Err-clause-memory
returns-in-Err-clause-memory c = λ told since may last mid. held c.args.self.now since c.args.hand (inside.Whole c.in-Err.whole) c.keep.result.receipt (c.keep.ensures.kept since may last mid)
