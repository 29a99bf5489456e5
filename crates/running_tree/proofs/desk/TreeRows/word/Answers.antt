use Rattle.std.proofs.Common.{ap, sym, ◌∙◌, subst}
use Rattle.row_search.specs.Begins.{Begins}
use Rattle.running_tree.proofs.Standing.{one_read}
use Rattle.running_tree.proofs.Words.{Tree}
use Rattle.running_tree.proofs.desk.TreeRows.word.Goals as goal

pub word_spread-requires-clause-has : goal.word_spread-requires-clause-has
word_spread-requires-clause-has g c =
    let a = c.requires.lies.0 in
    let h = c.requires.lies.1 in
    (a, (h.0, h.1.spelt, sym h.0.large ∙ c.if-place.true), c.requires.lies.2)

pub word_spread-requires-clause-first : goal.word_spread-requires-clause-first
word_spread-requires-clause-first g c content h =
    subst (Begins c.args.place.first) (one_read _ _ _ _ _ _ c.requires.lies.0 content c.requires.lies.1.0.stands h.0.stands) c.requires.lies.1.1
