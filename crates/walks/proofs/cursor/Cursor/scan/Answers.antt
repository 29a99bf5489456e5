use Rattle.walks.proofs.Words.{arith, inl, inr, refl, same_on}
use Rattle.walks.proofs.Walked.{has_told, spent_on, walked_counted, walked_more, walked_nothing}
use Rattle.walks.proofs.cursor.Cursor.scan.Goals as goal

pub loop-init : goal.loop-init
loop-init g c = record {
  same = record { table = refl; limits = refl; actor = refl };
  ready = c.requires.ready;
  walked = walked_nothing c.args.self.now c.args.seat.now c.args.list.now.items;
  told = has_told c.args.self.now c.args.seat.now c.args.list.now.items c.args.list.now.items c.args.self.now c.args.seat.now (walked_nothing c.args.self.now c.args.seat.now c.args.list.now.items).0;
}

pub loop-preserved : goal.loop-preserved
loop-preserved g c =
    let h = c.in_ok-add_page.ensures in
    let walked =
    walked_counted c.args.self.now c.loop.self c.add_page.new.self c.args.seat.now c.loop.seat c.add_page.new.seat c.args.budget c.in_ok-add_page.field-0
    c.args.list.now.items c.loop.list.items c.add_page.new.list.items h.same h.next h.list c.in-Page.is c.loop.counter c.loop.invariant.walked in record {
      same = same_on c.args.seat.now c.loop.seat c.add_page.new.seat c.loop.invariant.same h.same;
      ready = h.ready;
      walked = walked;
      told = has_told c.args.self.now c.args.seat.now c.args.list.now.items c.add_page.new.list.items c.add_page.new.self c.add_page.new.seat walked.0;
    }

pub returns-in-Spent-clause-walked : goal.returns-in-Spent-clause-walked
returns-in-Spent-clause-walked g c =
    let h = c.in_ok-add_page.ensures in
    walked_more c.args.self.now c.loop.self c.add_page.new.self c.args.seat.now c.loop.seat c.add_page.new.seat c.args.budget c.in_ok-add_page.field-0
    c.args.list.now.items c.loop.list.items c.add_page.new.list.items h.same h.next h.list c.loop.invariant.walked.0

pub returns-in-Spent-clause-stopped : goal.returns-in-Spent-clause-stopped
returns-in-Spent-clause-stopped g c =
    let h = c.in_ok-add_page.ensures in
    inl (spent_on c.args.self.now c.loop.self c.add_page.new.self c.args.seat.now c.loop.seat c.add_page.new.seat c.args.budget c.in_ok-add_page.field-0
    c.args.list.now.items c.loop.list.items c.add_page.new.list.items h.same h.next h.list c.in-Spent.is c.loop.invariant.walked.0)

pub returns-clause-stopped : goal.returns-clause-stopped
returns-clause-stopped g c = let count = c.loop.invariant.walked.1 in inr (c.loop.invariant.walked.0, omega (arith, count, c.loop.auto.counter-end, c.loop-test.false))

pub returns-in-Spent-clause-same : goal.returns-in-Spent-clause-same
returns-in-Spent-clause-same g c = same_on c.args.seat.now c.loop.seat c.add_page.new.seat c.loop.invariant.same c.in_ok-add_page.ensures.same

pub returns-in-Spent-clause-ready : goal.returns-in-Spent-clause-ready
returns-in-Spent-clause-ready g c = c.in_ok-add_page.ensures.ready

pub returns-in-End-clause-same : goal.returns-in-End-clause-same
returns-in-End-clause-same g c = same_on c.args.seat.now c.loop.seat c.add_page.new.seat c.loop.invariant.same c.in_ok-add_page.ensures.same

pub returns-in-End-clause-ready : goal.returns-in-End-clause-ready
returns-in-End-clause-ready g c = c.in_ok-add_page.ensures.ready

pub returns-in-End-clause-walked : goal.returns-in-End-clause-walked
returns-in-End-clause-walked g c =
    let h = c.in_ok-add_page.ensures in
    walked_more c.args.self.now c.loop.self c.add_page.new.self c.args.seat.now c.loop.seat c.add_page.new.seat c.args.budget c.in_ok-add_page.field-0
    c.args.list.now.items c.loop.list.items c.add_page.new.list.items h.same h.next h.list c.loop.invariant.walked.0

pub returns-clause-same : goal.returns-clause-same
returns-clause-same g c = c.loop.invariant.same

pub returns-clause-ready : goal.returns-clause-ready
returns-clause-ready g c = c.loop.invariant.ready

pub returns-clause-walked : goal.returns-clause-walked
returns-clause-walked g c = c.loop.invariant.walked.0

pub returns-in-Spent-clause-told : goal.returns-in-Spent-clause-told
returns-in-Spent-clause-told g c =
    let h = c.in_ok-add_page.ensures in
    has_told c.args.self.now c.args.seat.now c.args.list.now.items c.add_page.new.list.items c.add_page.new.self c.add_page.new.seat
    (walked_more c.args.self.now c.loop.self c.add_page.new.self c.args.seat.now c.loop.seat c.add_page.new.seat c.args.budget c.in_ok-add_page.field-0
    c.args.list.now.items c.loop.list.items c.add_page.new.list.items h.same h.next h.list c.loop.invariant.walked.0)

pub returns-in-End-clause-told : goal.returns-in-End-clause-told
returns-in-End-clause-told g c =
    let h = c.in_ok-add_page.ensures in
    has_told c.args.self.now c.args.seat.now c.args.list.now.items c.add_page.new.list.items c.add_page.new.self c.add_page.new.seat
    (walked_more c.args.self.now c.loop.self c.add_page.new.self c.args.seat.now c.loop.seat c.add_page.new.seat c.args.budget c.in_ok-add_page.field-0
    c.args.list.now.items c.loop.list.items c.add_page.new.list.items h.same h.next h.list c.loop.invariant.walked.0)

pub returns-clause-told : goal.returns-clause-told
returns-clause-told g c = c.loop.invariant.told
