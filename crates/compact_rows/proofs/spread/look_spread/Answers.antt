use Rattle.compact_rows.proofs.Words.{◌≤◌, ◌∙◌, arith, compact_words}
use Rattle.compact_rows.proofs.Spreading.{at_items}
use Rattle.compact_rows.proofs.spread.look_spread.Goals as goal

pub returns-then-at-lt21-clause-word : goal.returns-then-at-lt21-clause-word
returns-then-at-lt21-clause-word g c content h =
    c.keys_look.ensures.word content h ∙ c.words_are_seen.ensures content (compact_words content) (c.keeps_spelling.ensures c.args.row content h) c.args.at c.requires.within

pub returns-clause-word : goal.returns-clause-word
returns-clause-word g c content h =
    let high : 21 ≤ c.args.at = omega (arith, c.if-at-lt21.false) in
    c.items_look.ensures.word content h
    ∙ at_items (compact_words content) c.args.at high
    ∙ c.words_are_seen.ensures content (compact_words content) (c.keeps_spelling.ensures c.args.row content h) c.args.at c.requires.within
