use Rattle.std.proofs.Common.{◌≤◌, arith, subst}
use Rattle.std.specs.List.{All}
use Rattle.std.proofs.lemmas.List.{take_all}
use Rattle.tree_picture.specs.Sizes.{page_height}
use Rattle.tree_picture.proofs.Heights.{all_next}
use Rattle.tree_picture.proofs.places.highest.Goals.{then-own-height, else-own-height}
use Rattle.tree_picture.proofs.places.highest.Goals as goal

pub loop-page-preserved : goal.loop-page-preserved
loop-page-preserved c =
    let height = c.if-own-height.height in
    let own = c.page_height-own.ensures in
    let before = c.loop-page.invariant in
    let higher : c.loop-page.height ≤ height = elim c.if-own-height.branch [
      | then-own-height w ↦ omega (arith, w.height-is, w.if-own-height.true)
      | else-own-height w ↦ omega (arith, w.height-is)
    ] in
    let fits : page_height c.page-item.result ≤ height = elim c.if-own-height.branch [
      | then-own-height w ↦ omega (arith, w.height-is, own.exact)
      | else-own-height w ↦ omega (arith, w.height-is, w.if-own-height.false, own.exact)
    ] in
    record {
      all = all_next (λ page. page_height page ≤ height) c.args.pages.now c.loop-page.page-index c.page-item.result c.loop-page-test.true c.page-item.is
          (λ k d there. let was = before.all k d there in omega (arith, was, higher)) fits;
      few = elim c.if-own-height.branch [
        | then-own-height w ↦ omega (arith, own.few, w.height-is)
        | else-own-height w ↦ omega (arith, before.few, w.height-is)
      ];
    }

pub returns-clause-all : goal.returns-clause-all
returns-clause-all c = subst (All (λ page. page_height page ≤ c.loop-page.height)) (take_all c.loop-page.page-index c.args.pages.now c.loop-page-test.false) c.loop-page.invariant.all
