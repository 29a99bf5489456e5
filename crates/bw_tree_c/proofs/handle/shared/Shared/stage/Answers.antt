use Rattle.std.proofs.Common.{◌∙◌, Some, arith, subst, sym, ⊎_elim}
use Rattle.bw_tree_c.specs.Closing.{IsClosed, IsInUse}
use Rattle.bw_tree_c.proofs.handle.shared.Shared.stage.Goals.{then-status-eq-CLOSED, else-status-eq-CLOSED}
use Rattle.bw_tree_c.proofs.handle.shared.Shared.stage.Goals as goal

pub put_back-requires : goal.put_back-requires
put_back-requires c = (c.args.since, c.requires.may, c.in-Ok.ensures.begun c.requires.may)

pub returns-in-Ok-clause-open : goal.returns-in-Ok-clause-open
returns-in-Ok-clause-open c = λ told. c.put_back.ensures.open c.args.since c.requires.may (c.in-Ok.ensures.begun c.requires.may)

pub returns-in-Ok-clause-vacant : goal.returns-in-Ok-clause-vacant
returns-in-Ok-clause-vacant c = λ ok. absurd (let told = c.put_back.ensures.told in omega (arith, ok, told))

pub returns-after-status-eq-CLOSED-clause-vacant : goal.returns-after-status-eq-CLOSED-clause-vacant
returns-after-status-eq-CLOSED-clause-vacant c = λ ok. elim c.if-status-eq-CLOSED.branch [
  | then-status-eq-CLOSED w ↦ ⊎_elim (λ t. let busy = t.0 in let is = w.if-status-eq-CLOSED.true in absurd (omega (arith, busy, is)))
      (λ t. subst (IsClosed (Some c.args.self.now) c.args.since) (sym c.refused.ensures.back) t.1) c.in-Err.ensures.refused
  | else-status-eq-CLOSED w ↦ absurd (let e = sym ok ∙ c.refused.ensures.status ∙ w.refused-is in omega (arith, e))
]

pub returns-after-status-eq-CLOSED-clause-open : goal.returns-after-status-eq-CLOSED-clause-open
returns-after-status-eq-CLOSED-clause-open c = λ told. elim c.if-status-eq-CLOSED.branch [
  | then-status-eq-CLOSED w ↦ absurd (let e = sym told ∙ c.refused.ensures.status ∙ w.refused-is in omega (arith, e))
  | else-status-eq-CLOSED w ↦ ⊎_elim (λ t. subst (IsInUse (Some c.args.self.now) c.args.since) (sym c.refused.ensures.back) t.2)
      (λ t. absurd (w.if-status-eq-CLOSED.false t.0)) c.in-Err.ensures.refused
]
