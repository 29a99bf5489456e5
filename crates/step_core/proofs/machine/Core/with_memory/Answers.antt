use Rattle.std.proofs.Common.{◌≡◌, length, None, Some, arith, inl, inr, ◌∙◌}
use Rattle.step_core.proofs.Cored.{core_opens}
use Rattle.step_core.proofs.Replaced.{push_cases}
use Rattle.step_core.proofs.machine.Core.with_memory.Goals as goal

pub loop-init : goal.loop-init
loop-init g c = (
  c.in_ok-actors.ensures.len,
  λ a at e. let none : None ≡ Some at = rw c.in_ok-actors.ensures.items at e in cc,
)

pub loop-preserved : goal.loop-preserved
loop-preserved g c = (
  omega (arith, c.in_ok-push.ensures.len, c.loop.invariant.0),
  λ a at e. elim (push_cases _ _ a at (rw c.in_ok-push.ensures.items at e)) [ inl before ↦ c.loop.invariant.1 a at before | inr last ↦ last ∙ c.in-Ok.ensures.ok ],
)

pub invariant_of-result : goal.invariant_of-result
invariant_of-result g c =
    let count : length c.loop.actors.items ≡ c.args.limits.actors = omega (arith, c.loop.invariant.0, c.loop.actors.ok.0, c.loop-test.false, c.loop.auto.counter-end) in
    core_opens _ _ _ _ c.in_ok-memory.ensures.limits c.in_ok-memory.ensures.opening count c.loop.invariant.1 c.idle_actors_rest.ensures (c.opens.ensures _)
    (c.opens_directly.ensures _) (c.opens_paid.ensures _) (c.opens_with_readers.ensures _) (c.opens_with_writers.ensures _) c.new.ensures
