use Rattle.compact_rows.proofs.Words.{◌≡◌, ◌==◌, ◌+◌, ◌-◌, ℕ, List, get_or, ◌∙◌, sym, ap, ne_eqb, code_at, code_tail, count_seen, text_seen, compact_words}
use Rattle.compact_rows.proofs.Texts.{if_false}
use Rattle.compact_rows.proofs.Within.{code_room, text_within}
use Rattle.compact_rows.proofs.spread.key_look.Goals as goal

pub look-code-requires : goal.look-code-requires
look-code-requires g c =
    let a = c.requires.has.0 in
    let h = c.requires.has.1 in
    record { has = (a, h, code_room a (c.requires.spelt a h) c.args.count c.args.item (c.requires.counts a h) c.requires.there) }

pub text_look-requires-clause-has : goal.text_look-requires-clause-has
text_look-requires-clause-has g c =
    let a = c.requires.has.0 in
    let h = c.requires.has.1 in
    let words : List ℕ = compact_words a in
    let there = rw (c.requires.counts a h) at c.requires.there in
    let code : c.look-code.result ≡ get_or words (2 + count_seen words + c.args.item) 0 =
    c.look-code.ensures.word a h ∙ ap (λ n. get_or words (2 + n + c.args.item) 0) (c.requires.counts a h) in
    let same : c.code_at.result + c.code_tail.result ≡ code_at (get_or words (2 + count_seen words + c.args.item) 0) + code_tail (get_or words (2 + count_seen words + c.args.item) 0) =
    λ i. (c.code_at.ensures.at ∙ ap code_at code) i + (c.code_tail.ensures.tail ∙ ap code_tail code) i in (
      a,
      rw c.look-code.ensures.same h,
      rw same (text_within a (c.requires.spelt a h) c.args.item there).key,
    )

pub returns-clause-word : goal.returns-clause-word
returns-clause-word g c content h =
    let words : List ℕ = compact_words content in
    let there = rw (← c.look-code.ensures.same) at h in
    let code : c.look-code.result ≡ get_or words (2 + count_seen words + c.args.item) 0 =
    c.look-code.ensures.word content h ∙ ap (λ n. get_or words (2 + n + c.args.item) 0) (c.requires.counts content h) in
    c.text_look.ensures.word content there
    ∙ (λ i. text_seen words ((c.code_at.ensures.at ∙ ap code_at code) i) ((c.code_tail.ensures.tail ∙ ap code_tail code) i) (c.args.place - 1))
    ∙ sym (if_false (c.args.place == 0) (get_or words (2 + c.args.item) 0)
    (text_seen words (code_at (get_or words (2 + count_seen words + c.args.item) 0)) (code_tail (get_or words (2 + count_seen words + c.args.item) 0)) (c.args.place - 1))
    (ne_eqb c.args.place 0 c.if-place-eq0.false))
