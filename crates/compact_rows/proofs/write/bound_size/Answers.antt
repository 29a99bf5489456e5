use Rattle.compact_rows.proofs.Words.{◌∙◌, sym, ap, length, words_for}
use Rattle.compact_rows.proofs.Texts.{packed_long}
use Rattle.compact_rows.proofs.write.bound_size.Goals as goal

pub returns-in-Some-clause-size : goal.returns-in-Some-clause-size
returns-in-Some-clause-size c =
    rw c.in-Some.is (c.words_for.ensures.words ∙ ap (λ bytes. words_for (length bytes)) c.key_bytes.ensures.bytes ∙ sym (packed_long c.in-Some.key.now))
