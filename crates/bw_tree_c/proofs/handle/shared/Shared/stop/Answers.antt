use Rattle.bw_tree_c.proofs.Lasting.{can_stop, stopped_it, stopped_none}
use Rattle.bw_tree_c.proofs.handle.shared.Shared.stop.Goals as goal

pub ended-requires-clause-table : goal.ended-requires-clause-table
ended-requires-clause-table c = c.requires.closing.2.table

pub ended-requires-clause-can : goal.ended-requires-clause-can
ended-requires-clause-can c = can_stop c.args.self.now c.requires.closing.0 c.requires.closing.1 c.args.hand c.requires.closing.2 c.last-slot.result c.last-slot.ensures

pub of-requires : goal.of-requires
of-requires c = record {
  empty = stopped_none c.args.self.now c.requires.closing.0 c.requires.closing.1 c.args.hand c.requires.closing.2 c.last-slot.result c.last-slot.ensures
      c.ended.new.hand c.ended.ensures.same c.ended.ensures.ended;
}

pub returns-clause-stopped : goal.returns-clause-stopped
returns-clause-stopped c = λ since may mid. stopped_it c.args.self.now since may c.args.hand mid c.last-slot.result c.last-slot.ensures
    c.ended.new.hand c.ended.ensures.same c.ended.ensures.ended c.of.result.receipt c.of.ensures.table c.of.ensures.view
