use Rattle.std.proofs.Common.{◌-◌, ℕ, get_or, sym, ap, ◌∙◌}
use Rattle.bw_model.specs.Bytes.{is_below}
use Rattle.row_search.proofs.Words.{is_gt, items_of}
use Rattle.row_search.proofs.RowTexts.{below_turned}
use Rattle.row_search.proofs.row_at.RowAt.is_below_last.Goals as goal

pub returns-clause-below : goal.returns-clause-below
returns-clause-below g c some d =
    let items = items_of c.args.self.now.content in
    let key = c.args.key.now in
    c.is_gt.ensures ∙ ap is_gt (c.compare_item.ensures.compared d) ∙ sym (below_turned key (get_or items (c.item_count-count.result - 1) d).key)
    ∙ ap (λ (n : ℕ). is_below key (get_or items (n - 1) d).key) c.item_count-count.ensures.count
