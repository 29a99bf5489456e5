use Rattle.compact_rows.proofs.Words.{◌+◌, ◌*◌, ◌/◌, ◌%◌, ◌∙◌, ap, text_seen, compact_words, words_for}
use Rattle.compact_rows.proofs.Within.{first_room}
use Rattle.compact_rows.proofs.spread.first_look.Goals as goal

pub text_look-requires-clause-has : goal.text_look-requires-clause-has
text_look-requires-clause-has g c =
    let a = c.requires.has.0 in
    let h = c.requires.has.1 in (
      a,
      rw c.look-second.ensures.same h,
      first_room a (c.requires.spelt a h) c.args.count (c.requires.counts a h) c.look-second.result c.words_for-size.result (c.look-second.ensures.word a h) c.words_for-size.ensures,
    )

pub returns-clause-word : goal.returns-clause-word
returns-clause-word g c content h =
    let words = compact_words content in
    let there = rw (← c.look-second.ensures.same) at h in
    c.text_look.ensures.word content there
    ∙ (λ i. text_seen words (2 + 2 * c.requires.counts content h i)
    ((c.words_for-size.ensures ∙ ap (λ n. words_for (n / 4294967296 % 256)) (c.look-second.ensures.word content h)) i) c.args.place)
