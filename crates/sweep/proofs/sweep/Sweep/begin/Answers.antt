use Rattle.sweep.proofs.Words.{Some, None, refl}
use Rattle.sweep.proofs.Moving.{begins_show}
use Rattle.sweep.proofs.Sound.{begins_not, begins_sound}
use Rattle.sweep.proofs.sweep.Sweep.begin.Goals as goal

pub returns-in_err-state-clause-none : goal.returns-in_err-state-clause-none
returns-in_err-state-clause-none g c = rw c.from_residual.ensures (λ none. begins_not c.args.limits.now c.args.limbo.now c.first.new.limbo c.in_err-state.ensures, λ empty. refl)

pub returns-in_err-state-clause-shows : goal.returns-in_err-state-clause-shows
returns-in_err-state-clause-shows g c =
    λ k rests. rw c.from_residual.ensures
    (record { outside = rests.outside; kept = begins_show c.args.limits.now c.args.actor c.args.limbo.now c.first.new.limbo None c.requires.actor c.in_err-state.ensures k rests.kept })

pub invariant_of-result : goal.invariant_of-result
invariant_of-result g c = (
  c.requires.actor,
  (begins_sound c.args.limits.now c.args.actor c.args.limbo.now c.first.new.limbo c.in_ok-state.state c.has_each_once.ensures.rows
      c.has_each_once.ensures.pids c.requires.lists c.in_ok-state.ensures).0,
)

pub returns-clause-sound : goal.returns-clause-sound
returns-clause-sound g c =
    (begins_sound c.args.limits.now c.args.actor c.args.limbo.now c.first.new.limbo c.in_ok-state.state c.has_each_once.ensures.rows
    c.has_each_once.ensures.pids c.requires.lists c.in_ok-state.ensures).1

pub returns-clause-shows : goal.returns-clause-shows
returns-clause-shows g c =
    λ k rests. record {
      outside = rests.outside;
      stands = begins_show c.args.limits.now c.args.actor c.args.limbo.now c.first.new.limbo
          (Some c.in_ok-state.state) c.requires.actor c.in_ok-state.ensures k rests.kept;
    }
