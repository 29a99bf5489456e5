use Rattle.std.proofs.Common.{◌≡◌, ◌++◌, ◌∷◌, [], Some, ap, length, rules}
use Rattle.std.specs.Arc.{arc_value}
use Rattle.running_tree.specs.Trees.{IsSeatOf}
use Rattle.seats.proofs.Yielded.{all_yielded, one_yielded}
use Rattle.bw_tree_c.specs.declared.handle.slots.Inside.TheVariants as inside
use Rattle.bw_tree_c.proofs.Filling.{all_filled, none_filled, one_filled}
use Rattle.bw_tree_c.proofs.Yielded.{of_all}
use Rattle.bw_tree_c.proofs.opening.slots_of.Goals as goal

empty : (c : goal.After-into_iter-seat-iterator) → c.in_ok-slots.slots.items ≡ []
empty c = search rules

pub loop-seat-init : goal.loop-seat-init
loop-seat-init c = none_filled c.in_ok-slots.slots.items (empty c)

pub place_of-requires : goal.place_of-requires
place_of-requires c =
    let made = c.into_iter-seat-iterator.ensures.into_iter_gives in
    let turn = one_yielded c.args.seats c.into_iter-seat-iterator.result c.loop-seat.seat-iterator c.next.new.self c.loop-seat.yielded c.in-Some.seat
    c.next.result made.0 made.1 c.loop-seat.yielded_by c.in-Some.is c.next.ensures.steps in
    record { own = of_all (IsSeatOf (arc_value c.args.tree.now)) c.args.seats.items c.requires.own (length c.loop-seat.yielded) c.in-Some.seat turn.0 turn.1 }

pushed : (c : goal.In_ok-ok) → c.push.new.self.items ≡ c.loop-seat.slots.items ++ inside.Seat c.in_ok-place_of.field-0 ∷ []
pushed c = search rules

pub loop-seat-preserved : goal.loop-seat-preserved
loop-seat-preserved c = one_filled c.loop-seat.yielded c.loop-seat.slots.items c.push.new.self.items c.in-Some.seat (inside.Seat c.in_ok-place_of.field-0) c.loop-seat.invariant
    (pushed c) (ap Some c.in_ok-place_of.ensures)

pub returns : goal.returns
returns c =
    let made = c.into_iter-seat-iterator.ensures.into_iter_gives in
    let all = all_yielded c.args.seats c.into_iter-seat-iterator.result c.loop-seat.seat-iterator c.next.new.self c.loop-seat.yielded
    c.next.result made.0 made.1 c.loop-seat.yielded_by c.in-None.is c.next.ensures.steps in
    let pushed : c.push-2.new.self.items ≡ c.loop-seat.slots.items ++ inside.Nothing ∷ [] = search rules in
    all_filled c.args.seats.items c.loop-seat.yielded c.loop-seat.slots.items c.push-2.new.self.items c.loop-seat.invariant all pushed
