use Rattle.walks.proofs.Words.{added_back, ap, arith, inl, inr, refl, reverse, same_on, sym, [], ◌∙◌, ◌≡◌}
use Rattle.walks.proofs.BackWalked.{back_has_told, back_spent_on, walked_back_counted, walked_back_more, walked_back_nothing}
use Rattle.walks.proofs.Cuts.{no_item}
use Rattle.walks.proofs.back_cursor.BackCursor.seek.Goals as goal

pub loop-init : goal.loop-init
loop-init g c = record {
  same = record { table = refl; limits = refl; actor = refl };
  ready = c.requires.ready;
  walked = walked_back_nothing c.args.self.now c.args.seat.now [];
}

pub loop-preserved : goal.loop-preserved
loop-preserved g c =
    let none : c.next.new.self.pairs ≡ [] = sym c.pairs.ensures.pairs ∙ no_item c.pairs.result.now (sym c.is_empty.ensures ∙ c.if-is_empty.true) in record {
      same = same_on c.args.seat.now c.loop.seat c.next.new.seat c.loop.invariant.same c.next.ensures.same;
      ready = c.next.ensures.ready;
      walked = walked_back_counted c.args.self.now c.loop.self c.next.new.self c.args.seat.now c.loop.seat c.next.new.seat c.args.budget c.next.result
          [] [] [] c.next.ensures.same c.next.ensures.next (sym (ap (λ one. added_back one c.next.new.self) c.in-Page.is ∙ ap reverse none)) c.in-Page.is
          c.loop.counter c.loop.invariant.walked;
    }

pub returns-in-Page-2-clause-walked : goal.returns-in-Page-2-clause-walked
returns-in-Page-2-clause-walked g c =
    walked_back_more c.args.self.now c.loop.self c.next.new.self c.args.seat.now c.loop.seat c.next.new.seat c.args.budget c.next.result
    [] [] _ c.next.ensures.same c.next.ensures.next (sym (ap (λ one. added_back one c.next.new.self) c.in-Page-2.is)) c.loop.invariant.walked.0

pub returns-in-Page-2-clause-told : goal.returns-in-Page-2-clause-told
returns-in-Page-2-clause-told g c =
    back_has_told c.args.self.now c.args.seat.now [] _ c.next.new.self c.next.new.seat (returns-in-Page-2-clause-walked g c)

pub returns-in-Spent-clause-walked : goal.returns-in-Spent-clause-walked
returns-in-Spent-clause-walked g c =
    walked_back_more c.args.self.now c.loop.self c.next.new.self c.args.seat.now c.loop.seat c.next.new.seat c.args.budget c.next.result
    [] [] [] c.next.ensures.same c.next.ensures.next (sym (ap (λ one. added_back one c.next.new.self) c.in-Spent.is)) c.loop.invariant.walked.0

pub returns-in-Spent-clause-told : goal.returns-in-Spent-clause-told
returns-in-Spent-clause-told g c =
    back_has_told c.args.self.now c.args.seat.now [] [] c.next.new.self c.next.new.seat (returns-in-Spent-clause-walked g c)

pub returns-in-Spent-clause-sought : goal.returns-in-Spent-clause-sought
returns-in-Spent-clause-sought g c =
    inl (back_spent_on c.args.self.now c.loop.self c.next.new.self c.args.seat.now c.loop.seat c.next.new.seat c.args.budget c.next.result
    [] [] [] c.next.ensures.same c.next.ensures.next (sym (ap (λ one. added_back one c.next.new.self) c.in-Spent.is)) c.in-Spent.is c.loop.invariant.walked.0)

pub returns-in-End-clause-walked : goal.returns-in-End-clause-walked
returns-in-End-clause-walked g c =
    walked_back_more c.args.self.now c.loop.self c.next.new.self c.args.seat.now c.loop.seat c.next.new.seat c.args.budget c.next.result
    [] [] [] c.next.ensures.same c.next.ensures.next (sym (ap (λ one. added_back one c.next.new.self) c.in-End.is)) c.loop.invariant.walked.0

pub returns-in-End-clause-told : goal.returns-in-End-clause-told
returns-in-End-clause-told g c =
    back_has_told c.args.self.now c.args.seat.now [] [] c.next.new.self c.next.new.seat (returns-in-End-clause-walked g c)

pub returns-clause-told : goal.returns-clause-told
returns-clause-told g c = back_has_told c.args.self.now c.args.seat.now [] [] c.loop.self c.loop.seat c.loop.invariant.walked.0

pub returns-clause-sought : goal.returns-clause-sought
returns-clause-sought g c = let count = c.loop.invariant.walked.1 in inr (c.loop.invariant.walked.0, omega (arith, count, c.loop.auto.counter-end, c.loop-test.false))
