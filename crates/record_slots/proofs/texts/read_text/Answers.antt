use Rattle.std.proofs.Common.{◌≡◌, true, take, sym, subst, ◌∙◌, arith}
use Rattle.record_slots.specs.Texts.{IsText, ends_there}
use Rattle.record_slots.proofs.TextLaws.{is_text, no_text}
use Rattle.record_slots.proofs.texts.read_text.Goals as goal

pub returns-then-count-clause-text : goal.returns-then-count-clause-text
returns-then-count-clause-text c ends =
    let words = c.args.words.now in
    let count = c.args.count in
    let ended : ends_there count words ≡ true = sym c.read_bytes.ensures.rest ∙ ends in
    subst (λ bytes. IsText count words (take count bytes)) (sym c.read_bytes.ensures.bytes)
    (is_text count words (λ i. omega (arith, c.type_inv.words i)) c.requires.words (omega (arith, c.if-count.true)) ended)

pub returns-then-count-clause-none : goal.returns-then-count-clause-none
returns-then-count-clause-none c stops = no_text c.args.count c.args.words.now (sym c.read_bytes.ensures.rest ∙ stops)
