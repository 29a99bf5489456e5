use Rattle.compact_rows.proofs.Words.{◌≡◌, ◌==◌, ◌≤◌, ◌+◌, ℕ, List, get_or, ◌∙◌, sym, ap, arith, eq-eqb, ne_eqb, code_at, code_number, code_tail, count_seen, level_seen, text_seen}
use Rattle.compact_rows.proofs.Words.{compact_words, words_for}
use Rattle.compact_rows.proofs.Texts.{if_false, if_true}
use Rattle.compact_rows.proofs.Within.{code_room, text_within}
use Rattle.compact_rows.proofs.spread.content_look.Goals as goal

pub look-code-requires : goal.look-code-requires
look-code-requires g c =
    let a = c.requires.has.0 in
    let h = c.requires.has.1 in
    record { has = (a, h, code_room a (c.requires.spelt a h) c.args.count c.args.item (c.requires.counts a h) c.requires.there) }

none : (level : ℕ) → level ≤ 0 → level ≡ 0
none level h = omega arith

pub text_look-requires-clause-has : goal.text_look-requires-clause-has
text_look-requires-clause-has g c =
    let a = c.requires.has.0 in
    let h = c.requires.has.1 in
    let words : List ℕ = compact_words a in
    let there = rw (c.requires.counts a h) at c.requires.there in
    let other : ℕ = get_or words (2 + count_seen words + c.args.item) 0 in
    let code : c.look-code.result ≡ other = c.look-code.ensures.word a h ∙ ap (λ n. get_or words (2 + n + c.args.item) 0) (c.requires.counts a h) in
    let same : c.code_at.result + c.code_tail.result + c.words_for.result ≡ code_at other + code_tail other + words_for (code_number other) =
    λ i. (c.code_at.ensures.at ∙ ap code_at code) i + (c.code_tail.ensures.tail ∙ ap code_tail code) i + (c.words_for.ensures ∙ ap (λ n. words_for (code_number n)) code) i in
    let leaf : level_seen words ≡ 0 = sym (c.requires.levels a h) ∙ none c.args.level c.if-level-gt0.false in (
      a,
      rw c.look-code.ensures.same h,
      rw same ((text_within a (c.requires.spelt a h) c.args.item there).value leaf),
    )

pub returns-then-level-gt0-clause-word : goal.returns-then-level-gt0-clause-word
returns-then-level-gt0-clause-word g c content h =
    let words : List ℕ = compact_words content in
    let other : ℕ = get_or words (2 + count_seen words + c.args.item) 0 in
    let level = c.requires.levels content h in
    sym (if_false (level_seen words == 0) (text_seen words (code_at other + code_tail other) (words_for (code_number other)) c.args.place) 0
    (ne_eqb (level_seen words) 0 (λ e. let zeroth : c.args.level ≡ 0 = level ∙ e in omega (arith, zeroth, c.if-level-gt0.true))))

pub returns-clause-word : goal.returns-clause-word
returns-clause-word g c content h =
    let words : List ℕ = compact_words content in
    let there = rw (← c.look-code.ensures.same) at h in
    let other : ℕ = get_or words (2 + count_seen words + c.args.item) 0 in
    let code : c.look-code.result ≡ other = c.look-code.ensures.word content h ∙ ap (λ n. get_or words (2 + n + c.args.item) 0) (c.requires.counts content h) in
    let leaf : level_seen words ≡ 0 = sym (c.requires.levels content h) ∙ none c.args.level c.if-level-gt0.false in
    c.text_look.ensures.word content there
    ∙ (λ i. text_seen words ((c.code_at.ensures.at ∙ ap code_at code) i + (c.code_tail.ensures.tail ∙ ap code_tail code) i)
    ((c.words_for.ensures ∙ ap (λ n. words_for (code_number n)) code) i) c.args.place)
    ∙ sym (if_true (level_seen words == 0) (text_seen words (code_at other + code_tail other) (words_for (code_number other)) c.args.place) 0 (eq-eqb (level_seen words) 0 leaf))
