use Rattle.std.proofs.Common.{refl, subst, sym}
use Rattle.bw_tree_c.specs.Closing.{LooksOn}
use Rattle.bw_tree_c.specs.Shutting.{IsClosing, IsInside}
use Rattle.bw_tree_c.specs.declared.handle.slots.Inside.TheVariants as inside
use Rattle.bw_tree_c.proofs.Ending.{all_left, all_out}
use Rattle.bw_tree_c.proofs.Stopping.{stopped_busy, stopped_mid}
use Rattle.bw_tree_c.proofs.handle.shared.Shared.close_open.Goals as goal

pub take_out-requires-clause-closing : goal.take_out-requires-clause-closing
take_out-requires-clause-closing c = subst (λ k. IsClosing c.args.self.now k 0 LooksOn c.args.hand) (sym c.last.ensures) (c.requires.0, c.requires.1, inside.Nothing, c.requires.2)

pub stop-requires : goal.stop-requires
stop-requires c = record {
  closing = (
    c.requires.0,
    c.requires.1,
    stopped_mid c.args.self.now c.requires.0 c.requires.1 c.last.result c.last.ensures c.in-Err.field-0 c.take_out.new.hand
        (c.in-Err.ensures.stopped c.requires.0 c.requires.1 inside.Nothing
        (subst (λ k. IsInside c.args.self.now c.requires.0 c.requires.1 k 0 LooksOn inside.Nothing c.args.hand) (sym c.last.ensures) c.requires.2)),
  );
}

pub returns-in-Err-clause-busy : goal.returns-in-Err-clause-busy
returns-in-Err-clause-busy c = λ told since may mid.
    let stopped = c.in-Err.ensures.stopped since may inside.Nothing (subst (λ k. IsInside c.args.self.now since may k 0 LooksOn inside.Nothing c.args.hand) (sym c.last.ensures) mid) in
    stopped_busy c.args.self.now since may c.last.result c.last.ensures c.in-Err.field-0 c.take_out.new.hand stopped c.stop.result.receipt
    (c.stop.ensures.stopped since may (stopped_mid c.args.self.now since may c.last.result c.last.ensures c.in-Err.field-0 c.take_out.new.hand stopped))
    (c.in-Err.ensures.busy refl)

pub drop_all-requires : goal.drop_all-requires
drop_all-requires c = record {
  closing = (
    c.requires.0,
    c.requires.1,
    inside.Nothing,
    all_out c.args.self.now c.requires.0 c.requires.1 c.last.result c.last.ensures c.args.hand c.requires.2 c.take_out.new.hand c.in_default.ensures.ok,
  );
}

pub empty-requires : goal.empty-requires
empty-requires c = record {
  closing = (
    c.requires.0,
    c.requires.1,
    inside.Nothing,
    all_left c.args.self.now c.requires.0 c.requires.1 c.last.result c.last.ensures c.args.hand c.requires.2 c.take_out.new.hand c.in_default.ensures.ok c.drop_all.new.hand
        c.drop_all.ensures.all,
  );
}

pub returns-clause-ok : goal.returns-clause-ok
returns-clause-ok c = λ told since may mid. (c.empty.ensures.closed since may inside.Nothing (all_left c.args.self.now since may c.last.result c.last.ensures c.args.hand mid
    c.take_out.new.hand c.in_default.ensures.ok c.drop_all.new.hand c.drop_all.ensures.all)).closed
