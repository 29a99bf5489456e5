use Rattle.std.proofs.Common.{◌≡◌, ℕ, subst, rules}
use Rattle.traces.specs.declared.trace.Turn.TheVariants.{Begin}
use Rattle.bw_shell.specs.Refusal.{refusal_by}
use Rattle.bw_shell.specs.Turns.{trace_of, Refuses}
use Rattle.bw_shell.proofs.Refusals.{refused_turn}
use Rattle.bw_shell.proofs.turns.begin.Goals as goal

pub returns-in-Err-clause-refused : goal.returns-in-Err-clause-refused
returns-in-Err-clause-refused c =
    let same : c.in-Ok.actor ≡ c.args.actor = search rules in
    rw c.of_turn.ensures
    (subst (λ (actor : ℕ). Refuses (trace_of c.args.core.now) (Begin actor c.args.command) (refusal_by c.in-Err.error)) same
    (refused_turn c.args.core.now (Begin c.in-Ok.actor c.args.command) c.in-Err.error c.in-Err.ensures.refused (λ h. (c.in-Err.ensures.memory h).0)))
