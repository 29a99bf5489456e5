use Rattle.compact_rows.proofs.Words.{◌<◌, ◌+◌, ◌*◌, ◌/◌, ◌%◌, ◌-◌, ◌∙◌, ap, arith, text_seen, compact_words, words_for}
use Rattle.compact_rows.proofs.Spreading.{at_first}
use Rattle.compact_rows.proofs.Within.{first_room, second_room}
use Rattle.compact_rows.proofs.spread.keys_look.Goals as goal

pub text_look-requires-clause-has : goal.text_look-requires-clause-has
text_look-requires-clause-has g c =
    let a = c.requires.has.0 in
    let h = c.requires.has.1 in (
      a,
      rw c.look-second.ensures.same h,
      first_room a (c.requires.spelt a h) (c.args.first / 65536 % 256) (ap (λ n. n / 65536 % 256) (c.requires.first a h))
          c.look-second.result c.words_for.result (c.look-second.ensures.word a h) c.words_for.ensures,
    )

pub text_look-requires-2-clause-has : goal.text_look-requires-2-clause-has
text_look-requires-2-clause-has g c =
    let a = c.requires.has.0 in
    let h = c.requires.has.1 in (
      a,
      rw c.look-second.ensures.same h,
      second_room a (c.requires.spelt a h) (c.args.first / 65536 % 256) (ap (λ n. n / 65536 % 256) (c.requires.first a h))
          c.look-second.result c.words_for-2.result c.bound_size.result (c.look-second.ensures.word a h)
          c.words_for-2.ensures c.bound_size.ensures,
    )

pub returns-then-at-lt12-clause-word : goal.returns-then-at-lt12-clause-word
returns-then-at-lt12-clause-word g c content h =
    let words = compact_words content in
    let there = rw (← c.look-second.ensures.same) at h in
    let high : 3 < c.args.at = omega (arith, c.requires.low, c.if-at-eq2.false, c.if-at-eq3.false) in
    c.text_look.ensures.word content there
    ∙ (λ i. text_seen words (2 + 2 * (c.requires.first content h i / 65536 % 256))
    ((c.words_for.ensures ∙ ap (λ n. words_for (n / 4294967296 % 256)) (c.look-second.ensures.word content h)) i) (c.args.at - 4))
    ∙ at_first words c.args.at high c.if-at-lt12.true
