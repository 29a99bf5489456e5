use Rattle.std.proofs.Common.{◌≡◌, ◌≤◌, ◌+◌, ◌*◌, ℕ, length, refl, sym, ◌∙◌, ⊎_elim, arith}
use Rattle.row_search.proofs.Words.{cases_lt, item_size, items_at, row_size, row_of, words_of, counts}
use Rattle.std.proofs.lemmas.List.{length-replicate}
use Rattle.record_slots.proofs.Unused.{zero_behind, zeros_are}
use Rattle.row_search.proofs.WordByWord.{same_lists}
use Rattle.row_search.proofs.row_at.RowAt.words.Goals as goal

pub loop-place-init : goal.loop-place-init
loop-place-init g c = record {
  within = omega arith;
  room = let few = c.item_count.ensures.few in omega (arith, few);
  same = refl;
  long = length-replicate {A = ℕ} row_size 0;
  read = λ j below. absurd (omega (arith, below));
  rest = λ j above. zeros_are row_size j;
}

pub returns-clause-words : goal.returns-clause-words
returns-clause-words g c =
    let v = c.loop-place.invariant in
    let content = c.args.self.now.content in
    let spelt = c.keeps_spelling.ensures in
    let all : length (words_of content) ≡ row_size = c.rows_have_words.ensures.all content (words_of content) spelt in
    let many : items_at + item_size * (row_of content).count ≤ c.loop-place.place = let n = counts content in let is = c.item_count.ensures.count in let w =
    v.within in omega (arith, c.loop-place-test.false) in
    same_lists c.loop-place.words (words_of content) (v.long ∙ sym all)
    (λ j below. ⊎_elim (λ low. v.read j low) (λ high. v.rest j high ∙ sym (zero_behind (words_of content) content spelt j (omega (arith, many, high)))) (cases_lt j c.loop-place.place))
