use Rattle.walks.proofs.Words.{ap, drop, false, is_below, pairs_from, place_from, prefix_len, ◌∙◌}
use Rattle.walks.proofs.BackCuts.{rest_is}
use Rattle.walks.proofs.Cuts.{Pair}
use Rattle.walks.proofs.back_cursor.BackCursor.show.Goals as goal

pub returns : goal.returns
returns c =
    let counted = c.count_below-self-inside.ensures.count ∙ ap (prefix_len (λ (pair : Pair). is_below pair.0 c.self.inside.low)) c.as_slice.ensures.pairs in
    let cut = ap (λ n. drop n c.args.items) counted ∙ rest_is c.self.inside.low c.args.items c.requires.ascend
    ∙ ap (λ z. pairs_from z.low c.args.items) c.self.view_is in
    let at = c.over-self-inside.ensures ∙ ap (λ z. place_from z.low c.args.below) c.self.view_is in
    λ i. record { at = at i; low = (c.self.view_is i).low; asked = false; pairs = cut i }
