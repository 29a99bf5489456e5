use Rattle.walks.proofs.Words.{ap, false, is_under, pairs_under, place_under, prefix_len, take, ◌∙◌}
use Rattle.walks.proofs.Cuts.{Pair, cut_is}
use Rattle.walks.proofs.cursor.Cursor.show.Goals as goal

pub returns : goal.returns
returns c =
    let counted = c.count_under-self-inside.ensures.count ∙ ap (prefix_len (λ (pair : Pair). is_under pair.0 c.self.inside.bound)) c.as_slice.ensures.pairs in
    let cut = ap (λ n. take n c.args.items) counted ∙ cut_is c.self.inside.bound c.args.items c.requires.ascend ∙ ap (λ z. pairs_under z.bound c.args.items) c.self.view_is in
    let at = c.under-self-inside.ensures ∙ ap (λ z. place_under z.bound c.args.high) c.self.view_is in
    λ i. record { at = at i; bound = (c.self.view_is i).bound; asked = false; pairs = cut i }
