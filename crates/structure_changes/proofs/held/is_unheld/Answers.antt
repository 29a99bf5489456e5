use Rattle.structure_changes.proofs.Words.{ap, refl, sym, ◌∙◌, ◌≡◌, arith, held_count}
use Rattle.std.proofs.lemmas.Bool.Decides.{nat_tests}
use Rattle.structure_changes.proofs.Places.{from_made, of_made}
use Rattle.structure_changes.proofs.Unheld.{leaf_unheld}
use Rattle.structure_changes.proofs.held.is_unheld.Goals as goal

pub returns-then-level-eq0-clause-unheld : goal.returns-then-level-eq0-clause-unheld
returns-then-level-eq0-clause-unheld g c = (
  (λ yes. leaf_unheld c.args.chain.now.records c.keeps_rules.ensures.fitted (sym c.level.ensures ∙ c.if-level-eq0.true)),
  λ none. refl,
)

pub returns-clause-unheld : goal.returns-clause-unheld
returns-clause-unheld g c =
    let made = c.page-made.result in
    let makes = c.page-made.ensures.makes in
    let count = c.held_count.ensures ∙ ap held_count (c.as_slice.ensures.items ∙ c.items.ensures) in (
      (λ yes. from_made c.args.chain.now.records made (λ items. held_count items ≡ 0) makes (grind (arith, nat_tests, yes, count))),
      (λ none. let free = of_made c.args.chain.now.records made (λ items. held_count items ≡ 0) makes none in grind (arith, nat_tests, free, count)),
    )
