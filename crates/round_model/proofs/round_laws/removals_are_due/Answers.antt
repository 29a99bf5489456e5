use Rattle.round_model.proofs.round_laws.removals_are_due.Goals as goal

pub returns-clause-hold : goal.returns-clause-hold
returns-clause-hold c = λ limits k r parent page hold h plan. c.plans_are_due.ensures.hold parent page hold plan h.page.in_hand.sound.is_chain

pub returns-clause-remove : goal.returns-clause-remove
returns-clause-remove c = λ limits k r parent page remove h plan. c.plans_are_due.ensures.remove k parent page remove plan h.page.in_hand.sound.is_chain h.page.alive h.up h.page.in_hand.seen

pub returns-clause-merge : goal.returns-clause-merge
returns-clause-merge c = λ round k r left removed merge h. c.plans_are_due.ensures.merge k left removed merge h.plan h.gone.in_hand.seen

pub returns-clause-unterm : goal.returns-clause-unterm
returns-clause-unterm c = λ round k r parent left removed unterm h. c.plans_are_due.ensures.unterm k parent left removed unterm h.plan h.page.in_hand.sound.is_chain h.up h.aside.in_hand.seen h.after
