use Rattle.running_tree.proofs.Words.{count_ones, refl, subst, Number, Record, seen_of, IsAnswer, memory_of, HasWatched, Seat}
use Rattle.bw_model.specs.declared.step.Step.{Step}
use Rattle.running_tree.proofs.Advancing.{seat_of}
use Rattle.running_tree.proofs.Counting.{bits_counted}
use Rattle.running_tree.proofs.Meeting.{seat_extends}
use Rattle.running_tree.proofs.seat.BwSeat.watch_bits.Goals as goal

pub invariant_of-self : goal.invariant_of-self
invariant_of-self g c =
    let watched = c.watch.ensures.watched in
    seat_extends c.seats_last.ensures c.self.inside.limits c.self.inside.desk.number c.self.inside.desk.place.me c.watch.new.seat.me (seen_of c.watch.new.seat.me) c.self.inside.actor c.self.invariant
    record { lawful = watched.legal; begins = watched.begins } watched.extends c.watch.ensures.seat refl

pub returns-clause-watched : goal.returns-clause-watched
returns-clause-watched g c =
    let watched = c.watch.ensures.watched in
    subst (λ (old : Seat). HasWatched c.args.kind c.args.word old
    (seat_of c.watch.new.seat.table_id c.self.inside.limits c.self.inside.desk.number (seen_of c.watch.new.seat.me)) (count_ones c.watch.result))
    c.self.view_is
    record {
      extends = watched.extends;
      counted = bits_counted c.args.kind (memory_of c.self.inside.limits (seen_of c.watch.new.seat.me)) c.args.word c.watch.result
          (subst (λ (step : Step Record). IsAnswer (memory_of c.self.inside.limits (seen_of c.watch.new.seat.me)) step (Number c.watch.result)) c.bits-step.ensures watched.answered);
    }
