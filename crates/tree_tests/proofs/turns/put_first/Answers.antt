use Rattle.std.proofs.Common.{sym, subst}
use Rattle.std.specs.Prelude.{is_ok}
use Rattle.running_tree.specs.Trees.{AreSeatsOf, IsSeatOf}
use Rattle.tree_tests.proofs.Inserted.{all_maybe_inserted}
use Rattle.tree_tests.proofs.turns.put_first.Goals as goal

pub returns : goal.returns
returns c = record {
  own = subst (AreSeatsOf c.args.tree.now) (sym c.insert.ensures.items)
      (all_maybe_inserted (IsSeatOf c.args.tree.now) c.args.seats.now.items c.args.seat (is_ok c.insert.result) c.requires.own c.requires.given);
}
