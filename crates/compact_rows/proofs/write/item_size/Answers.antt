use Rattle.compact_rows.proofs.Words.{◌≡◌, ◌-◌, ◌∙◌, sym, ap, drop, length, arith, length-append, length-drop, content_text, packed, words_for}
use Rattle.compact_rows.proofs.Texts.{packed_long}
use Rattle.compact_rows.proofs.write.item_size.Goals as goal

pub returns-in-Value-clause-size : goal.returns-in-Value-clause-size
returns-in-Value-clause-size c =
    let item = c.args.item.now in
    let key : c.words_for-key.result ≡ length (packed (drop 8 item.key)) =
    c.words_for-key.ensures.words
    ∙ ap words_for (c.saturating_sub.ensures ∙ ap (λ bytes. length bytes - 8) c.key_bytes.ensures.bytes ∙ sym (length-drop 8 item.key)) ∙ sym (packed_long (drop 8 item.key)) in
    let value : c.words_for.result ≡ length (packed c.in-Value.value) =
    c.words_for.ensures.words ∙ ap (λ bytes. words_for (length bytes)) c.value_bytes.ensures.bytes ∙ sym (packed_long c.in-Value.value) in
    let is = ap (λ content. length (content_text content)) c.in-Value.is in
    let both = length-append (packed (drop 8 item.key)) (content_text item.content) in
    omega arith

pub returns-in-Child-clause-size : goal.returns-in-Child-clause-size
returns-in-Child-clause-size c =
    let item = c.args.item.now in
    let key : c.words_for-key.result ≡ length (packed (drop 8 item.key)) =
    c.words_for-key.ensures.words
    ∙ ap words_for (c.saturating_sub.ensures ∙ ap (λ bytes. length bytes - 8) c.key_bytes.ensures.bytes ∙ sym (length-drop 8 item.key)) ∙ sym (packed_long (drop 8 item.key)) in
    let is = ap (λ content. length (content_text content)) c.in-Child.is in
    let both = length-append (packed (drop 8 item.key)) (content_text item.content) in
    omega arith
