use Rattle.row_chain.proofs.Words.{◌∷◌, refl, arith, is_left}
use Rattle.std.proofs.Common.{[]}
use Rattle.std.specs.Prelude.{None}
use Rattle.row_chain.proofs.ChildWalks.{child_best}
use Rattle.row_chain.proofs.Inside.{child_before}
use Rattle.row_chain.proofs.Winners.{none_left}
use Rattle.row_chain.proofs.chain.walk.greatest_in_base.Goals as goal

pub returns-then-count-eq0-clause-child : goal.returns-then-count-eq0-clause-child
returns-then-count-eq0-clause-child g c =
    let row = c.args.base.now.content in
    let passes = is_left c.args.below c.args.bound.now in
    let left = none_left row [] c.keeps_spelling.ensures.spellable passes c.passing-count.ensures.items c.passing-count.result.0
    c.passing-count.ensures.passed None (λ key pass. refl) 0 (λ i d from to. absurd (omega (arith, from, to))) refl in
    child_best (row ∷ []) c.requires.alone.fitted passes None None (left, refl)

pub returns-clause-child : goal.returns-clause-child
returns-clause-child g c =
    let some = c.if-count-eq0.false in
    child_before c.args.base.now.content c.requires.alone.fitted c.keeps_spelling.ensures.spellable (is_left c.args.below c.args.bound.now)
    c.passing-count.ensures.items c.passing-count.result.0 c.passing-count.ensures.passed (omega (arith, some)) c.child_at.result c.child_at.ensures.child
