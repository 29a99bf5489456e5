use Rattle.bw_tree_c.proofs.Filling.{one_tree}
use Rattle.bw_tree_c.proofs.opening.shared_of.Goals as goal

pub shared_with_seats-requires-clause-one : goal.shared_with_seats-requires-clause-one
shared_with_seats-requires-clause-one c = one_tree c.in-Ok.tree c.args.limits c.in-Ok.seats.items c.in-Ok.ensures.limits c.in-Ok.ensures.fresh.count c.in-Ok.ensures.own

pub returns-clause-opened : goal.returns-clause-opened
returns-clause-opened c = record {
  seats = c.in-Ok.seats.items;
  have = c.in_ok-made.ensures.items;
  opened = record { tree = c.in-Ok.tree; limits = c.in-Ok.ensures.limits; fresh = c.in-Ok.ensures.fresh };
}
