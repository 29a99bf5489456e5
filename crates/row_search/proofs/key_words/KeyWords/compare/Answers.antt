use Rattle.std.proofs.Common.{List, ℕ, take, ◌∙◌}
use Rattle.row_search.proofs.Words.{ordering_then, key_cmp, bytes_of}
use Rattle.row_search.proofs.WordsCmp.{by_words}
use Rattle.row_search.proofs.key_words.KeyWords.compare.Goals as goal

pub returns : goal.returns
returns c =
    let one : List ℕ = take c.self.inside.count (bytes_of c.self.inside.words) in
    let two : List ℕ = take c.other.inside.count (bytes_of c.other.inside.words) in
    c.then.ensures
    ∙ (λ i. ordering_then (c.cmp.ensures i) (c.cmp-2.ensures i))
    ∙ by_words c.self.inside.count c.other.inside.count c.self.inside.words c.other.inside.words one two c.self.invariant c.other.invariant
    ∙ (λ i. key_cmp (c.self.view_is i) (c.other.view_is i))
