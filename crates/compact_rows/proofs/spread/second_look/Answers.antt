use Rattle.compact_rows.proofs.Words.{◌+◌, ◌*◌, ◌/◌, ◌%◌, ◌∙◌, ap, bound_size, text_seen, compact_words, words_for}
use Rattle.compact_rows.proofs.Within.{second_room}
use Rattle.compact_rows.proofs.spread.second_look.Goals as goal

pub text_look-requires-clause-has : goal.text_look-requires-clause-has
text_look-requires-clause-has g c =
    let a = c.requires.has.0 in
    let h = c.requires.has.1 in (
      a,
      rw c.look-second.ensures.same h,
      second_room a (c.requires.spelt a h) c.args.count (c.requires.counts a h) c.look-second.result c.words_for-before.result c.bound_size-size.result
          (c.look-second.ensures.word a h) c.words_for-before.ensures c.bound_size-size.ensures,
    )

pub returns-clause-word : goal.returns-clause-word
returns-clause-word g c content h =
    let words = compact_words content in
    let there = rw (← c.look-second.ensures.same) at h in
    let two = c.look-second.ensures.word content h in
    c.text_look.ensures.word content there
    ∙ (λ i. text_seen words (2 + 2 * c.requires.counts content h i + (c.words_for-before.ensures ∙ ap (λ n. words_for (n / 4294967296 % 256)) two) i)
    ((c.bound_size-size.ensures ∙ ap (λ n. bound_size (n / 1099511627776)) two) i) c.args.place)
