use Rattle.std.proofs.Common.{◌≡◌, None, sym, subst}
use Rattle.traces.specs.declared.trace.Turn.{Turn}
use Rattle.traces.specs.declared.trace.Turn.TheVariants.{Step}
use Rattle.step_core.proofs.Cored.{core_leaves, core_leaving, core_shown}
use Rattle.step_core.specs.Turns.{BeginsOrLeaves, refusal_of}
use Rattle.step_core.proofs.machine.Core.goes_on.Goals as goal

pub is_leaving-requires-clause-shown : goal.is_leaving-requires-clause-shown
is_leaving-requires-clause-shown g c =
    let goes : refusal_of c.args.self.now (Step c.in-Step.actor) ≡ None = subst (λ (t : Turn). refusal_of c.args.self.now t ≡ None) c.in-Step.is c.requires.goes in
    (core_shown _ _ _ _ _ _ c.index.result.now c.self.invariant _ _ c.self.view_is goes c.from.ensures c.index.ensures).0

pub is_leaving-requires-clause-running : goal.is_leaving-requires-clause-running
is_leaving-requires-clause-running g c =
    let goes : refusal_of c.args.self.now (Step c.in-Step.actor) ≡ None = subst (λ (t : Turn). refusal_of c.args.self.now t ≡ None) c.in-Step.is c.requires.goes in
    (core_shown _ _ _ _ _ _ c.index.result.now c.self.invariant _ _ c.self.view_is goes c.from.ensures c.index.ensures).1

pub returns-then-is_leaving-clause-none : goal.returns-then-is_leaving-clause-none
returns-then-is_leaving-clause-none g c = λ none.
    let goes : refusal_of c.args.self.now (Step c.in-Step.actor) ≡ None = subst (λ (t : Turn). refusal_of c.args.self.now t ≡ None) c.in-Step.is c.requires.goes in
    subst (λ (t : Turn). BeginsOrLeaves c.args.self.now t) (sym c.in-Step.is)
    (core_leaves _ _ _ _ _ _ c.index.result.now _ c.self.invariant _ c.self.view_is goes c.from.ensures c.index.ensures c.if-is_leaving.ensures)

pub returns-else-is_leaving-clause-some : goal.returns-else-is_leaving-clause-some
returns-else-is_leaving-clause-some g c =
    let goes : refusal_of c.args.self.now (Step c.in-Step.actor) ≡ None = subst (λ (t : Turn). refusal_of c.args.self.now t ≡ None) c.in-Step.is c.requires.goes in
    (c.in-Step.is, λ leaves. c.if-is_leaving.ensures (core_leaving _ _ _ _ _ _ c.index.result.now _ c.self.invariant _ c.self.view_is goes c.from.ensures c.index.ensures leaves))
