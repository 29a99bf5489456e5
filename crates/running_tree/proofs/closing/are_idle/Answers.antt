use Rattle.std.proofs.Common.{◌≡◌, Some, None, arith, sym, ap, subst, ◌∙◌}
use Rattle.running_tree.proofs.Words.{slice_get, unfinished_command, slice_get_below}
use mathlib.Core.Logic.{dite}
use native.Mathlib.Decide.{ℕ_discrete}
use Rattle.running_tree.proofs.Resting.{at_index, get_one, has_none, has_one}
use Rattle.running_tree.proofs.closing.are_idle.Goals as goal

pub returns-then-not-is_idle : goal.returns-then-not-is_idle
returns-then-not-is_idle g c =
    let at : slice_get c.args.seats.now c.loop-seat.seat-index ≡ Some c.seat-item.result = at_index c.args.seats.now c.loop-seat.seat-index c.seat-item.result c.loop-seat-test.true c.seat-item.is in
    (c.loop-seat.seat-index, c.seat-item.result, at, has_one (unfinished_command c.seat-item.result) (sym c.is_idle.ensures ∙ c.if-not-is_idle.true))

pub loop-seat-preserved : goal.loop-seat-preserved
loop-seat-preserved g c = λ n seat below there.
    let at : slice_get c.args.seats.now c.loop-seat.seat-index ≡ Some c.seat-item.result = at_index c.args.seats.now c.loop-seat.seat-index c.seat-item.result c.loop-seat-test.true c.seat-item.is in
    dite (ℕ_discrete n c.loop-seat.seat-index)
    (λ same. let one : c.seat-item.result ≡ seat = get_one c.args.seats.now n c.seat-item.result seat (ap (slice_get c.args.seats.now) same ∙ at) there in
    subst (λ s. unfinished_command s ≡ None) one (has_none (unfinished_command c.seat-item.result) (sym c.is_idle.ensures ∙ c.if-not-is_idle.false)))
    (λ other. c.loop-seat.invariant n seat (omega (arith, below, other)) there)

pub returns : goal.returns
returns g c = λ has.
    let (n, seat, there, busy) = has in
    let below = slice_get_below c.args.seats.now n seat there in
    busy (c.loop-seat.invariant n seat (omega (arith, below, c.loop-seat-test.false)) there)
