use Rattle.std.proofs.Common.{◌≡◌, ◌+◌, ℕ, arith, length-set, subst, ◌∙◌}
use lib.ListN.{get_elem?}
use mathlib.Core.Option.{some}
use Rattle.tree_words.specs.Layout.{row_at}
use Rattle.tree_words.proofs.RowWidths.{row_few}
use Rattle.running_tree.proofs.Kept.{row_set}
use Rattle.running_tree.proofs.closing.closed_rows.row_of.Goals as goal

pub loop-j-preserved : goal.loop-j-preserved
loop-j-preserved g c =
    let place : c.row_place-base.result + c.loop-j.j ≡ row_at c.args.limits.now c.args.row c.loop-j.j = omega (arith, c.row_place-base.ensures) in
    let there : get_elem? c.args.closed.now.words.items (row_at c.args.limits.now c.args.row c.loop-j.j) ≡ some c.word.result = subst
    (λ (i : ℕ). get_elem? c.args.closed.now.words.items i ≡ some c.word.result) place c.word.ensures in
    record {
      long = length-set c.loop-j.words c.loop-j.j c.word.result ∙ c.loop-j.invariant.long;
      read = row_set c.args.limits.now c.loop-j.words c.args.closed.now.words.items c.args.row c.loop-j.j c.word.result c.loop-j.invariant.read
          (omega (arith, c.loop-j-test.true, c.loop-j.invariant.long)) there;
    }

pub overflow_add-base : goal.overflow_add-base
overflow_add-base g c = let few = row_few c.args.limits.now c.args.row c.requires.range in omega (arith, few, c.row_place-base.ensures, c.loop-j-test.true)
