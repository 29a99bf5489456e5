use Rattle.compact_rows.proofs.Words.{get_or, ◌∙◌, sym, ap, words_of}
use Rattle.row_search.specs.TextsOf.{length_at}
use Rattle.row_search.specs.declared.rows.Text.{Text}
use Rattle.compact_rows.proofs.Looking.{content_length_by, item_by, key_length_by, room_by}
use Rattle.compact_rows.proofs.spread.length_spread.Goals as goal

pub look-requires-in-Key : goal.look-requires-in-Key
look-requires-in-Key g c =
    let content = c.requires.has.0 in
    let h = c.requires.has.1 in
    let spelt = c.keeps_spelling.ensures c.args.row content h in
    let there = item_by content spelt c.args.first (c.requires.first content h) c.in-Key.item (rw c.in-Key.is at c.requires.has.2) in
    record { has = (content, h, room_by content spelt c.args.first (c.requires.first content h) c.in-Key.item there) }

pub returns-in-Key-clause-word : goal.returns-in-Key-clause-word
returns-in-Key-clause-word g c content h =
    let spelt = c.keeps_spelling.ensures c.args.row content h in
    let there = item_by c.requires.has.0 (c.keeps_spelling.ensures c.args.row c.requires.has.0 c.requires.has.1) c.args.first (c.requires.first c.requires.has.0 c.requires.has.1)
    c.in-Key.item (rw c.in-Key.is at c.requires.has.2) in
    key_length_by content spelt c.args.first (c.requires.first content h) c.in-Key.item there c.look-in-Key.result (c.look-in-Key.ensures.word content h)
    ∙ ap (λ (t : Text). get_or (words_of content) (length_at t) 0) (sym c.in-Key.is)

pub look-requires-in-Content : goal.look-requires-in-Content
look-requires-in-Content g c =
    let content = c.requires.has.0 in
    let h = c.requires.has.1 in
    let spelt = c.keeps_spelling.ensures c.args.row content h in
    let there = item_by content spelt c.args.first (c.requires.first content h) c.in-Content.item (rw c.in-Content.is at c.requires.has.2) in
    record { has = (content, h, room_by content spelt c.args.first (c.requires.first content h) c.in-Content.item there) }

pub returns-in-Content-clause-word : goal.returns-in-Content-clause-word
returns-in-Content-clause-word g c content h =
    let spelt = c.keeps_spelling.ensures c.args.row content h in
    let there = item_by c.requires.has.0 (c.keeps_spelling.ensures c.args.row c.requires.has.0 c.requires.has.1) c.args.first (c.requires.first c.requires.has.0 c.requires.has.1)
    c.in-Content.item (rw c.in-Content.is at c.requires.has.2) in
    content_length_by content spelt c.args.first (c.requires.first content h) c.in-Content.item there c.look-in-Content.result (c.look-in-Content.ensures.word content h)
    ∙ ap (λ (t : Text). get_or (words_of content) (length_at t) 0) (sym c.in-Content.is)
