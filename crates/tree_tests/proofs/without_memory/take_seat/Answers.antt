use Rattle.std.proofs.Common.{subst}
use Rattle.std.specs.Prelude.{option_to_list}
use Rattle.running_tree.specs.Trees.{AreSeatsOf, IsSeatOf}
use Rattle.seats.proofs.Pushed.{all_before, last_of}
use Rattle.tree_tests.proofs.without_memory.take_seat.Goals as goal

pub returns-clause-left : goal.returns-clause-left
returns-clause-left g c = all_before (IsSeatOf c.args.tree.now) c.pop.new.self.items (option_to_list c.pop.result) (subst (AreSeatsOf c.args.tree.now) c.pop.ensures.items c.requires.own)

pub returns-clause-taken : goal.returns-clause-taken
returns-clause-taken g c = last_of (IsSeatOf c.args.tree.now) c.pop.new.self.items c.pop.result (subst (AreSeatsOf c.args.tree.now) c.pop.ensures.items c.requires.own)
