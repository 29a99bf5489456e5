use Rattle.std.proofs.Common.{◌≡◌, ◌+◌, ◌*◌, ◌-◌, ◌++◌, ℕ, suc, List, length, take, drop, replicate, subst, sym, ap, ◌∙◌, arith, length-append, length-drop}
use Rattle.std.proofs.lemmas.List.{length-take-le, take_all}
use Rattle.widening.specs.Spread.{first_field, grown_by, spread_fields}
use Rattle.widening.proofs.SpreadLaws.{field_more, spread_none}
use Rattle.widening.proofs.spread.push_fields.Goals as goal

pub loop-place-preserved : goal.loop-place-preserved
loop-place-preserved c =
    let place = c.loop-place.place in
    let words = c.args.words.now in
    let before = c.loop-place.wide.items in
    let left : ℕ = c.args.count - (place + 1) in
    let one : first_field * place + first_field - first_field * place ≡ first_field = omega arith in
    let now = c.push_zeros.new.wide.items in
    let some : c.args.count - place ≡ suc left = omega (arith, c.loop-place-test.true) in
    let field : c.push_words.new.wide.items ≡ before ++ take first_field (drop (first_field * place) words) = c.push_words.ensures ∙ ap
    (λ n. before ++ take n (drop (first_field * place) words)) one in
    let gap : List ℕ = replicate grown_by 0 in
    let more : now ≡ (before ++ take first_field (drop (first_field * place) words)) ++ gap = c.push_zeros.ensures ∙ ap (λ ws. ws ++ gap) field in
    let dropped = length-drop (first_field * place) words in
    let taken = length-take-le first_field (drop (first_field * place) words) (omega (arith, c.loop-place-test.true, c.requires.many)) in
    let one_length = length-append before (take first_field (drop (first_field * place) words)) in
    let all_length = length-append (before ++ take first_field (drop (first_field * place) words)) gap in
    let now_length = ap length more in
    record {
      written = field_more left place c.args.count words before now (c.args.wide.now.items ++ spread_fields c.args.count words) (omega (arith, c.loop-place-test.true))
          (subst (λ n. before ++ spread_fields n (drop (first_field * place) words) ≡ c.args.wide.now.items ++ spread_fields c.args.count words) some c.loop-place.invariant.written) more;
      counts = omega (arith, c.loop-place.invariant.counts);
    }

pub returns : goal.returns
returns c =
    let place = c.loop-place.place in
    let words = c.args.words.now in
    let before = c.loop-place.wide.items in
    let end : place ≡ c.args.count = omega (arith, c.loop-place-test.false, c.loop-place.auto.place-end) in
    let none : c.args.count - place ≡ 0 = omega arith in
    let rest : before ++ drop (first_field * c.args.count) words ≡ c.args.wide.now.items ++ spread_fields c.args.count words =
    ap (λ n. before ++ drop (first_field * n) words) (sym end) ∙ ap (λ ws. before ++ ws) (sym (spread_none (drop (first_field * place) words)))
    ∙ ap (λ n. before ++ spread_fields n (drop (first_field * place) words)) (sym none) ∙ c.loop-place.invariant.written in
    let tail : List ℕ = drop (first_field * c.args.count) words in
    let tail_length : length tail ≡ length words - first_field * c.args.count = length-drop (first_field * c.args.count) words in
    c.push_words-2.ensures ∙ ap (λ ws. before ++ ws) (take_all (length words - first_field * c.args.count) tail (omega arith)) ∙ rest
