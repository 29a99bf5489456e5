use Rattle.std.proofs.Common.{◌∙◌, Some, ap, arith, inl, inr, subst, sym, ⊎_elim}
use Rattle.bw_tree_c.specs.Closing.{IsBusy, IsClosedBy}
use Rattle.bw_tree_c.proofs.Stopping.{begun_open, begun_to_end}
use Rattle.bw_tree_c.specs.declared.receipt.Told.{Told}
use Rattle.bw_tree_c.proofs.handle.shared.Shared.close.Goals.{in-Nothing, in_default}
use Rattle.bw_tree_c.proofs.handle.shared.Shared.close.Goals as goal

pub close_open-requires : goal.close_open-requires
close_open-requires c = (c.args.since, c.requires, begun_open c.args.self.now c.args.since c.requires c.in-Ok.begun.inside c.in-Ok.begun.hand (c.in-Ok.ensures.begun c.requires) c.in-Nothing.is)

pub empty-requires : goal.empty-requires
empty-requires c = record {
  closing = (
    c.args.since,
    c.requires,
    c.in-Ok.begun.inside,
    begun_to_end c.args.self.now c.args.since c.requires c.in-Ok.begun.inside c.in-Ok.begun.hand (c.in-Ok.ensures.begun c.requires) c.in_default.not-Nothing,
  );
}

pub returns-in-Err-clause-told : goal.returns-in-Err-clause-told
returns-in-Err-clause-told c = ⊎_elim (λ t. inr (inr t.0)) (λ t. inr (inl t.0)) c.in-Err.ensures.refused

pub returns-in-Err-clause-ok : goal.returns-in-Err-clause-ok
returns-in-Err-clause-ok c = λ ok. absurd (⊎_elim (λ t. let busy = t.0 in omega (arith, ok, busy)) (λ t. let closed = t.0 in omega (arith, ok, closed)) c.in-Err.ensures.refused)

pub returns-in-Err-clause-busy : goal.returns-in-Err-clause-busy
returns-in-Err-clause-busy c = λ busy. ⊎_elim (λ t. t.1) (λ t. let closed = t.0 in absurd (omega (arith, busy, closed))) c.in-Err.ensures.refused

pub returns-in-Err-clause-closed : goal.returns-in-Err-clause-closed
returns-in-Err-clause-closed c = λ closed. ⊎_elim (λ t. let busy = t.0 in absurd (omega (arith, busy, closed))) (λ t. t.1) c.in-Err.ensures.refused

pub returns-clause-ok : goal.returns-clause-ok
returns-clause-ok c = λ ok. elim c.match-inside.branch [
  | in-Nothing w ↦ subst (λ r. IsClosedBy c.args.self.now c.args.since r.receipt) (sym w.result-is)
      (w.close_open.ensures.ok (ap (λ (r : Told). r.status) (sym w.result-is) ∙ ok) c.args.since c.requires
      (begun_open c.args.self.now c.args.since c.requires c.in-Ok.begun.inside c.in-Ok.begun.hand (c.in-Ok.ensures.begun c.requires) w.in-Nothing.is))
  | in_default w ↦ subst (λ r. IsClosedBy c.args.self.now c.args.since r.receipt) (sym w.result-is) (w.empty.ensures.closed c.args.since c.requires c.in-Ok.begun.inside
      (begun_to_end c.args.self.now c.args.since c.requires c.in-Ok.begun.inside c.in-Ok.begun.hand (c.in-Ok.ensures.begun c.requires) w.in_default.not-Nothing)).closed
]

pub returns-clause-busy : goal.returns-clause-busy
returns-clause-busy c = λ busy. elim c.match-inside.branch [
  | in-Nothing w ↦ subst (λ r. IsBusy (Some c.args.self.now) c.args.since r.receipt) (sym w.result-is) (w.close_open.ensures.busy (ap (λ (r : Told). r.status) (sym w.result-is) ∙ busy) c.args.since
      c.requires (begun_open c.args.self.now c.args.since c.requires c.in-Ok.begun.inside c.in-Ok.begun.hand (c.in-Ok.ensures.begun c.requires) w.in-Nothing.is))
  | in_default w ↦ absurd (let told = ap (λ (r : Told). r.status) w.result-is ∙ w.empty.ensures.status in omega (arith, busy, told))
]
