use Rattle.std.proofs.Common.{◌∙◌, eqb, bit_and, bit_or}
use prog.Atomic.{either}
use Rattle.tree_words.specs.declared.operations.Operation.TheVariants.{Load, Store, Exchange, And, Or}
use Rattle.table_rule.proofs.Acting.{arm, exchanged, left_as, quiet_as, store_arm}
use Rattle.table_rule.proofs.steps.operate.Goals as goal

pub load-requires : goal.load-requires
load-requires g c =
    arm c.steps_change_one_word.ensures.changes c.steps_change_one_word.ensures.places _ _ _ _ _ c.requires.table _ _ _ _ _ _ c.requires.seat c.requires.actor _
    c.requires.range c.requires.bits c.requires.may
    _ c.requires.place (λ n. n) (left_as c.operations_are_steps.ensures.leave g.C.Telling.step _ Load c.in-Load.is c.requires.operation)

pub returns-in-Load-clause-seat : goal.returns-in-Load-clause-seat
returns-in-Load-clause-seat g c = (c.load.ensures.2 c.args.limits.now c.args.actor c.requires.seat).0

pub returns-in-Load-clause-took : goal.returns-in-Load-clause-took
returns-in-Load-clause-took g c = (c.load.ensures.2 c.args.limits.now c.args.actor c.requires.seat).1

pub store-requires : goal.store-requires
store-requires g c =
    store_arm c.steps_change_one_word.ensures.changes c.steps_change_one_word.ensures.places _ _ _ _ _ c.requires.table _ _ _ _ _ _ c.requires.seat
    c.requires.actor _ c.requires.range c.requires.bits c.requires.may
    _ c.requires.place c.in-Store.word
    (left_as c.operations_are_steps.ensures.leave g.C.Telling.step _ (Store c.in-Store.word) c.in-Store.is c.requires.operation)
    (quiet_as c.operations_are_steps.ensures.quiet g.C.Telling.step _ (Store c.in-Store.word) c.in-Store.is c.requires.operation)

pub returns-in-Store-clause-seat : goal.returns-in-Store-clause-seat
returns-in-Store-clause-seat g c = (c.store.ensures.2 c.args.limits.now c.args.actor c.requires.seat).0

pub returns-in-Store-clause-took : goal.returns-in-Store-clause-took
returns-in-Store-clause-took g c = (c.store.ensures.2 c.args.limits.now c.args.actor c.requires.seat).1

pub compare_exchange-requires : goal.compare_exchange-requires
compare_exchange-requires g c =
    arm c.steps_change_one_word.ensures.changes c.steps_change_one_word.ensures.places _ _ _ _ _ c.requires.table _ _ _ _ _ _ c.requires.seat c.requires.actor _
    c.requires.range c.requires.bits c.requires.may
    _ c.requires.place (λ n. either (eqb n c.in-Exchange.old) c.in-Exchange.new n)
    (λ n. exchanged c.in-Exchange.old c.in-Exchange.new n ∙
    (left_as c.operations_are_steps.ensures.leave g.C.Telling.step _ (Exchange c.in-Exchange.old c.in-Exchange.new) c.in-Exchange.is c.requires.operation)
    n)

pub returns-in-Exchange-clause-seat : goal.returns-in-Exchange-clause-seat
returns-in-Exchange-clause-seat g c = (c.compare_exchange.ensures.2 c.args.limits.now c.args.actor c.requires.seat).0

pub returns-in-Exchange-clause-took : goal.returns-in-Exchange-clause-took
returns-in-Exchange-clause-took g c = (c.compare_exchange.ensures.2 c.args.limits.now c.args.actor c.requires.seat).1

pub fetch_and-requires : goal.fetch_and-requires
fetch_and-requires g c =
    arm c.steps_change_one_word.ensures.changes c.steps_change_one_word.ensures.places _ _ _ _ _ c.requires.table _ _ _ _ _ _ c.requires.seat c.requires.actor _
    c.requires.range c.requires.bits c.requires.may
    _ c.requires.place (λ n. bit_and n c.in-And.bits) (left_as c.operations_are_steps.ensures.leave g.C.Telling.step _ (And c.in-And.bits) c.in-And.is c.requires.operation)

pub returns-in-And-clause-seat : goal.returns-in-And-clause-seat
returns-in-And-clause-seat g c = (c.fetch_and.ensures.2 c.args.limits.now c.args.actor c.requires.seat).0

pub returns-in-And-clause-took : goal.returns-in-And-clause-took
returns-in-And-clause-took g c = (c.fetch_and.ensures.2 c.args.limits.now c.args.actor c.requires.seat).1

pub fetch_or-requires : goal.fetch_or-requires
fetch_or-requires g c =
    arm c.steps_change_one_word.ensures.changes c.steps_change_one_word.ensures.places _ _ _ _ _ c.requires.table _ _ _ _ _ _ c.requires.seat c.requires.actor _
    c.requires.range c.requires.bits c.requires.may
    _ c.requires.place (λ n. bit_or n c.in-Or.bits) (left_as c.operations_are_steps.ensures.leave g.C.Telling.step _ (Or c.in-Or.bits) c.in-Or.is c.requires.operation)

pub returns-in-Or-clause-seat : goal.returns-in-Or-clause-seat
returns-in-Or-clause-seat g c = (c.fetch_or.ensures.2 c.args.limits.now c.args.actor c.requires.seat).0

pub returns-in-Or-clause-took : goal.returns-in-Or-clause-took
returns-in-Or-clause-took g c = (c.fetch_or.ensures.2 c.args.limits.now c.args.actor c.requires.seat).1
