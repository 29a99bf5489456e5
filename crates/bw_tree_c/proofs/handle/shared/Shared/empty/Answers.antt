use Rattle.bw_tree_c.proofs.Lasting.{can_empty_it, emptied_it, emptied_none}
use Rattle.bw_tree_c.proofs.handle.shared.Shared.empty.Goals as goal

pub emptied-requires-clause-table : goal.emptied-requires-clause-table
emptied-requires-clause-table c = c.requires.closing.3.table

pub emptied-requires-clause-can : goal.emptied-requires-clause-can
emptied-requires-clause-can c = can_empty_it c.args.self.now c.requires.closing.0 c.requires.closing.1 c.requires.closing.2 c.args.hand c.requires.closing.3 c.last-slot.result c.last-slot.ensures

pub of-requires : goal.of-requires
of-requires c = record {
  empty = emptied_none c.args.self.now c.requires.closing.0 c.requires.closing.1 c.requires.closing.2 c.args.hand c.requires.closing.3 c.last-slot.result c.last-slot.ensures
      c.emptied.new.hand c.emptied.ensures.same c.emptied.ensures.emptied;
}

pub returns-clause-closed : goal.returns-clause-closed
returns-clause-closed c = λ since may last mid. emptied_it c.args.self.now since may last c.args.hand mid c.last-slot.result c.last-slot.ensures
    c.emptied.new.hand c.emptied.ensures.same c.emptied.ensures.emptied c.of.result.receipt c.of.ensures.table c.of.ensures.view
