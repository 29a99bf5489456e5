use Rattle.bw_tree_c.specs.Closing.{LooksOn}
use Rattle.bw_tree_c.specs.Handles.{MayCall}
use Rattle.bw_tree_c.specs.Shutting.{IsInside}
use Rattle.bw_tree_c.specs.declared.handle.slots.Inside.{Inside}
use Rattle.bw_tree_c.specs.declared.receipt.Receipt.{Receipt}
use Rattle.bw_tree_c.proofs.handle.shared.Shared.give_back.Given as goal

abbrev pub invariant-loop-slot : goal.invariant-loop-slot
invariant-loop-slot l = (since : Receipt) (may : MayCall l.self since) (last : Inside) → IsInside l.self since may 0 0 LooksOn last l.fn.hand → IsInside l.self since may l.slot 0 LooksOn last l.hand
