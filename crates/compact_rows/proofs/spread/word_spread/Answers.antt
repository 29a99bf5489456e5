use Rattle.compact_rows.proofs.Words.{◌+◌, get_or, ◌∙◌, sym, ap, words_of}
use Rattle.row_search.specs.TextsOf.{length_at}
use Rattle.row_search.specs.declared.rows.Text.{Text}
use Rattle.compact_rows.proofs.Looking.{content_by, first_by, item_by, key_by, second_by}
use Rattle.compact_rows.proofs.spread.word_spread.Goals as goal

pub returns-in-Key-clause-word : goal.returns-in-Key-clause-word
returns-in-Key-clause-word g c content h =
    let spelt = c.keeps_spelling.ensures c.args.row content h in
    let there = item_by c.requires.has.0 (c.keeps_spelling.ensures c.args.row c.requires.has.0 c.requires.has.1) c.args.first (c.requires.first c.requires.has.0 c.requires.has.1)
    c.in-Key.item (rw c.in-Key.is at c.requires.has.2) in
    c.key_look.ensures.word content h
    ∙ key_by content spelt c.args.first (c.requires.first content h) c.in-Key.item there c.args.at c.requires.within
    ∙ ap (λ (t : Text). get_or (words_of content) (length_at t + 1 + c.args.at) 0) (sym c.in-Key.is)

pub returns-in-Content-clause-word : goal.returns-in-Content-clause-word
returns-in-Content-clause-word g c content h =
    let spelt = c.keeps_spelling.ensures c.args.row content h in
    let there = item_by c.requires.has.0 (c.keeps_spelling.ensures c.args.row c.requires.has.0 c.requires.has.1) c.args.first (c.requires.first c.requires.has.0 c.requires.has.1)
    c.in-Content.item (rw c.in-Content.is at c.requires.has.2) in
    c.content_look.ensures.word content h
    ∙ content_by content spelt c.args.first (c.requires.first content h) c.in-Content.item there c.args.at c.requires.within
    ∙ ap (λ (t : Text). get_or (words_of content) (length_at t + 1 + c.args.at) 0) (sym c.in-Content.is)

pub returns-in-First-clause-word : goal.returns-in-First-clause-word
returns-in-First-clause-word g c content h =
    let spelt = c.keeps_spelling.ensures c.args.row content h in
    c.first_look.ensures.word content h
    ∙ first_by content spelt c.args.first (c.requires.first content h) c.args.at c.requires.within
    ∙ ap (λ (t : Text). get_or (words_of content) (length_at t + 1 + c.args.at) 0) (sym c.in-First.is)

pub returns-in-Second-clause-word : goal.returns-in-Second-clause-word
returns-in-Second-clause-word g c content h =
    let spelt = c.keeps_spelling.ensures c.args.row content h in
    c.second_look.ensures.word content h
    ∙ second_by content spelt c.args.first (c.requires.first content h) c.args.at c.requires.within
    ∙ ap (λ (t : Text). get_or (words_of content) (length_at t + 1 + c.args.at) 0) (sym c.in-Second.is)
