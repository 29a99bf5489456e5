use Rattle.std.proofs.Common.{◌≡◌, ◌+◌, ◌/◌, ℕ, List, length, get_or, refl, ap, sym, ◌∙◌, take, arith}
use Rattle.row_search.proofs.Words.{nat_cmp, key_cmp, bytes_of, row_words_of}
use Rattle.row_search.specs.TextsOf.{length_at}
use Rattle.row_search.proofs.WordByWord.{by_first_other, by_lengths, same_word}
use Rattle.row_search.proofs.key_words.KeyWords.compare_words.Goals as goal

pub returns-then-not-is_eq-clause-other : goal.returns-then-not-is_eq-clause-other
returns-then-not-is_eq-clause-other g c ne count text is =
    let key : List ℕ = take c.self.inside.count (bytes_of c.self.inside.words) in
    let o = c.cmp-order.ensures ∙ ap (λ (w : ℕ). nat_cmp w (get_or c.self.inside.words 0 0)) c.text_word.ensures.word in
    by_first_other (row_words_of c.args.row.now) (length_at c.args.text + 1) count c.self.inside.count c.self.inside.words text key is c.self.invariant
    0 c.cmp-order.result (omega arith) (λ j below. absurd (omega arith)) o (sym c.is_eq.ensures ∙ c.if-not-is_eq.true)
    ∙ ap (key_cmp text) c.self.view_is

pub loop-at-init : goal.loop-at-init
loop-at-init g c =
    let first = same_word (get_or (row_words_of c.args.row.now) (length_at c.args.text + 1 + 0) 0) (get_or c.self.inside.words 0 0) c.cmp-order.result
    (c.cmp-order.ensures ∙ ap (λ (w : ℕ). nat_cmp w (get_or c.self.inside.words 0 0)) c.text_word.ensures.word) (sym c.is_eq.ensures ∙ c.if-not-is_eq.false) in
    record {
      within = omega arith;
      same = refl;
      alike = λ j below. let start : j ≡ 0 = omega arith in rw start first;
    }

pub returns-then-not-is_eq-2-clause-other : goal.returns-then-not-is_eq-2-clause-other
returns-then-not-is_eq-2-clause-other g c ne count text is =
    let v = c.loop-at.invariant in
    let key : List ℕ = take c.self.inside.count (bytes_of c.self.inside.words) in
    let o = c.cmp-order-in-loop-at.ensures ∙ ap (λ (w : ℕ). nat_cmp w (get_or c.self.inside.words c.loop-at.at 0)) c.text_word-word.ensures.word in
    let s = c.self.invariant.short.short in
    let n = c.self.invariant.counts in
    by_first_other (row_words_of c.args.row.now) (length_at c.args.text + 1) count c.self.inside.count c.self.inside.words text key is c.self.invariant
    c.loop-at.at c.cmp-order-in-loop-at.result (omega (arith, c.loop-at-test.true)) v.alike o (sym c.is_eq-in-loop-at.ensures ∙ c.if-not-is_eq-2.true)
    ∙ ap (key_cmp text) c.self.view_is

pub returns-clause-alike : goal.returns-clause-alike
returns-clause-alike g c e count text is =
    let v = c.loop-at.invariant in
    let key : List ℕ = take c.self.inside.count (bytes_of c.self.inside.words) in
    let s = c.self.invariant.short.short in
    let n = c.self.invariant.counts in
    ap (λ (k : List ℕ). nat_cmp count (length k)) (sym c.self.view_is)
    ∙ by_lengths (row_words_of c.args.row.now) (length_at c.args.text + 1) count c.self.inside.count c.self.inside.words text key is c.self.invariant
    ((c.self.inside.count + 7) / 8) (omega arith) (omega arith)
    (λ j below. v.alike j (let w = v.within in omega (arith, c.loop-at-test.false)))
    ∙ ap (key_cmp text) c.self.view_is
