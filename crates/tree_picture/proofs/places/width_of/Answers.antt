use Rattle.std.proofs.Common.{◌≤◌, ap, arith, length, subst}
use Rattle.std.specs.List.{All}
use Rattle.std.proofs.lemmas.List.{take_all}
use Rattle.tree_picture.specs.Sizes.{IsWideFor}
use Rattle.tree_picture.proofs.Heights.{all_next}
use Rattle.tree_picture.proofs.places.width_of.Goals.{then-row-width, else-row-width}
use Rattle.tree_picture.proofs.places.width_of.Goals as goal

pub loop-level-preserved : goal.loop-level-preserved
loop-level-preserved c =
    let width = c.if-row-width.width in
    let row = c.row_width.ensures in
    let own = ap length c.pages.ensures.pages in
    let few = c.beside.ensures.few in
    let before = c.loop-level.invariant.few in
    let wider : c.loop-level.width ≤ width = elim c.if-row-width.branch [
      | then-row-width w ↦ omega (arith, w.width-is, w.if-row-width.true)
      | else-row-width w ↦ omega (arith, w.width-is)
    ] in
    let fits : IsWideFor width (length c.level-item.result) = λ many there most.
    let all = c.beside.ensures.all many (omega (arith, there, own)) most in
    elim c.if-row-width.branch [
      | then-row-width w ↦ omega (arith, w.width-is, row, all)
      | else-row-width w ↦ omega (arith, w.width-is, w.if-row-width.false, row, all)
    ] in
    record {
      wide = all_next (λ level. IsWideFor width (length level)) c.args.levels.now c.loop-level.level-index c.level-item.result c.loop-level-test.true c.level-item.is
          (λ k d there many within most. let was = c.loop-level.invariant.wide k d there many within most in omega (arith, was, wider)) fits;
      few = elim c.if-row-width.branch [
        | then-row-width w ↦ omega (arith, w.width-is, row, few)
        | else-row-width w ↦ omega (arith, w.width-is, before)
      ];
    }

pub returns-clause-wide : goal.returns-clause-wide
returns-clause-wide c = subst (All (λ level. IsWideFor c.loop-level.width (length level))) (take_all c.loop-level.level-index c.args.levels.now c.loop-level-test.false) c.loop-level.invariant.wide
