use Rattle.std.proofs.Common.{inr}
use Rattle.round_model.proofs.Holding.{has_read}
use Rattle.round_model.proofs.round_laws.read_leaves_stood.Goals as goal

pub returns-clause-beside : goal.returns-clause-beside
returns-clause-beside c = λ limits k r key left removed h.
    inr (
      record { left = left.pid; head = left.head; basis = has_read h.aside.in_hand.seen h.aside.alive; other = removed.pid; right = h.right; order = h.after },
      h.page.gone,
    )
