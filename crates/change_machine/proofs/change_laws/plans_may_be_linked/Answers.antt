use Rattle.change_machine.proofs.Planned.{base_may, hold_may, merge_may, remove_may, removed_read, split_may, term_may, unterm_may, update_may}
use Rattle.change_machine.proofs.change_laws.plans_may_be_linked.Goals as goal

pub returns-clause-base : goal.returns-clause-base
returns-clause-base c = λ actor k page base seen alive due fits. base_may actor k page seen alive base due fits

pub returns-clause-update : goal.returns-clause-update
returns-clause-update c = λ actor k page content seen alive due fits. update_may actor k page seen alive content due fits

pub returns-clause-term : goal.returns-clause-term
returns-clause-term c = λ actor k parent page term seen alive is met order. term_may actor k parent seen alive page term (λ now. c.plans_are_due.ensures.term now parent page term is) is met order

pub returns-clause-split : goal.returns-clause-split
returns-clause-split c = λ actor k page plan seen is. split_may actor k page seen is.can.alive plan (λ now right base. c.plans_are_due.ensures.split now page plan right base is) is

pub returns-clause-hold : goal.returns-clause-hold
returns-clause-hold c = λ actor k parent page hold seen alive chain is. hold_may actor k parent seen alive hold (c.plans_are_due.ensures.hold parent page hold is chain) is.fits

pub returns-clause-remove : goal.returns-clause-remove
returns-clause-remove c = λ actor k parent page remove above alive chain level seen is.
    remove_may actor k page seen is.can.alive remove parent (λ now. c.plans_are_due.ensures.remove now parent page remove is chain alive level) is.fits above

pub returns-clause-merge : goal.returns-clause-merge
returns-clause-merge c = λ actor k left removed merge seen is met.
    merge_may actor k left seen is.can.alive merge removed (λ now. c.plans_are_due.ensures.merge now left removed merge is) is.fits met

pub returns-clause-unlink : goal.returns-clause-unlink
returns-clause-unlink c = λ actor k parent left removed unterm seen alive chain level is below order met. (
  unterm_may actor k parent seen alive left unterm (λ now. c.plans_are_due.ensures.unterm now parent left removed unterm is chain level) is.fits below order,
  removed_read actor k parent left removed unterm is met,
)
