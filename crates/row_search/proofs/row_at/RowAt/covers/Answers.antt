use Rattle.std.proofs.Common.{◌≡◌, true, false, sym, ap, ◌∙◌}
use Rattle.row_search.proofs.Words.{is_gt, key_cmp, row_of}
use Rattle.row_search.proofs.RowTexts.{names_merge, names_merge_under}
use Rattle.row_search.proofs.row_at.RowAt.covers.Goals as goal

pub returns-then-is_gt-clause-covers : goal.returns-then-is_gt-clause-covers
returns-then-is_gt-clause-covers g c =
    let low : is_gt (key_cmp (row_of c.args.self.now.content).first c.args.key.now) ≡ true = ap is_gt (sym c.compare_first.ensures.compared) ∙ sym c.is_gt.ensures ∙ c.if-is_gt.true in
    sym (names_merge c.args.key.now c.args.self.now.content c.requires.merge low)

pub returns-clause-covers : goal.returns-clause-covers
returns-clause-covers g c =
    let low : is_gt (key_cmp (row_of c.args.self.now.content).first c.args.key.now) ≡ false = ap is_gt (sym c.compare_first.ensures.compared) ∙ sym c.is_gt.ensures ∙ c.if-is_gt.false in
    c.is_below_second.ensures.under ∙ sym (names_merge_under c.args.key.now c.args.self.now.content c.requires.merge low)
