use Rattle.row_chain.proofs.Words.{get_or, sym, ap, ◌∙◌, option_copied, items_said, is_above}
use Rattle.std.specs.Ordering.{is_gt}
use Rattle.row_search.proofs.RowTexts.{below_turned}
use Rattle.row_chain.proofs.chain.walk.is_above.Goals as goal

pub returns-in-Some-clause-above : goal.returns-in-Some-clause-above
returns-in-Some-clause-above g c d =
    let key = (get_or (items_said c.args.row.now.content) c.args.place d).key in
    c.is_gt.ensures ∙ ap is_gt (c.compare_said.ensures.compared d) ∙ sym (below_turned c.in-Some.best.now key) ∙ ap (λ o. is_above (option_copied o) key) (sym c.in-Some.is)
