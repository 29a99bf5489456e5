use Rattle.std.proofs.Common.{◌∙◌, Some, ap, sym}
use Rattle.bw_tree_c.specs.Slots.{seat_in}
use Rattle.bw_tree_c.specs.declared.place.Place.{Place}
use Rattle.bw_tree_c.proofs.Idle.{idle_none, idle_seat, no_seat}
use Rattle.bw_tree_c.proofs.handle.shared.Shared.is_idle.Goals.{in-Seat, in_default}
use Rattle.bw_tree_c.proofs.handle.shared.Shared.is_idle.Goals as goal

pub returns-clause-idle : goal.returns-clause-idle
returns-clause-idle c = elim c.match-inside.branch [
  | in-Seat w ↦ idle_seat c.args.slot c.args.hand.now c.exchange-inside.result c.exchange-inside.ensures.2 c.match-inside.is_idle w.deref.result.now.seat
      (ap seat_in w.in-Seat.is ∙ ap (λ (p : Place). Some p.seat) (sym w.deref.ensures)) (w.is_idle-is ∙ w.is_idle-is_idle.ensures)
  | in_default w ↦ idle_none c.args.slot c.args.hand.now c.exchange-inside.result c.exchange-inside.ensures.2 c.match-inside.is_idle
      (no_seat c.exchange-inside.result w.in_default.not-Seat) w.is_idle-is
]
