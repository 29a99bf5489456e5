use Rattle.std.proofs.Common.{◌≡◌, Some, rules, sym, ap, ◌∙◌}
use Rattle.structure_changes.proofs.Words.{same_Some, high_in, low_in, right_in}
use Rattle.structure_changes.proofs.Places.{decides_key, same_records}
use Rattle.structure_changes.proofs.neighbours.is_next_to.Goals as goal

pub returns-in-Some-clause-next : goal.returns-in-Some-clause-next
returns-in-Some-clause-next g c =
    let same = decides_key c.in-Some.high c.low.result c.is_eq.result (rw (← c.cmp.ensures) c.is_eq.ensures) in
    let low = c.low.ensures.low ∙ ap low_in (same_records c.chain-in-Some.ensures) in
    let high : Some c.in-Some.high ≡ high_in c.args.left.now.chain = sym c.in-Some.is ∙ c.high.ensures.high ∙ ap high_in (same_records c.chain-2.ensures) in
    let right : right_in c.args.left.now.chain ≡ Some c.args.other.now.pid = rw (← same_records c.chain.ensures) (search rules) in (
      (λ yes. record { right = right; high = sym high ∙ ap Some (same.0 yes ∙ low) }),
      (λ m. same.1 (same_Some _ _ (high ∙ m.high ∙ ap Some (sym low)))),
    )
