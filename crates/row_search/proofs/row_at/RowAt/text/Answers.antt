use Rattle.std.proofs.Common.{◌≡◌, ◌<◌, ◌≤◌, ◌+◌, ◌/◌, ◌-◌, ℕ, List, drop, length, take, get_or, refl, sym, ap, ◌∙◌, ⊎_elim, arith, length-drop}
use Rattle.std.proofs.lemmas.List.{get_or-drop, get_or-take, length-replicate, length-take-le}
use Rattle.record_slots.proofs.Unused.{zeros_are}
use Rattle.row_search.proofs.Words.{cases_lt, row_size, text_size, words_of}
use Rattle.row_search.specs.TextsOf.{length_at}
use Rattle.row_search.proofs.WordByWord.{behind_text, same_lists}
use Rattle.row_search.proofs.row_at.RowAt.text.Goals as goal

pub loop-at-init : goal.loop-at-init
loop-at-init g c = record {
  within = omega arith;
  same = refl;
  long = length-replicate {A = ℕ} text_size 0;
  read = λ j below. absurd (omega (arith, below));
  rest = λ j above. zeros_are text_size j;
}

pub returns-clause-text : goal.returns-clause-text
returns-clause-text g c =
    let v = c.loop-at.invariant in
    let words : List ℕ = words_of c.args.self.now.content in
    let at : ℕ = length_at c.args.text + 1 in
    let is = c.requires.text.1 in
    let all : length words ≡ row_size = c.rows_have_words.ensures.all c.args.self.now.content words c.keeps_spelling.ensures in
    let rest : length (drop at words) ≡ length words - at = length-drop at words in
    let part : length (take text_size (drop at words)) ≡ text_size = length-take-le text_size (drop at words) (let room = c.has_room.ensures in omega (arith, room)) in
    let done : (c.args.count + 7) / 8 ≤ c.loop-at.at = let w = v.within in omega (arith, c.loop-at-test.false) in
    same_lists c.loop-at.words (take text_size (drop at words)) (v.long ∙ sym part)
    (λ j below. let low : j < text_size = let l = v.long in omega arith in
    ⊎_elim (λ read. v.read j read ∙ sym (get_or-take text_size (drop at words) j 0 low ∙ get_or-drop at words j 0))
    (λ behind. v.rest j behind ∙ sym (ap (λ (ws : List ℕ). get_or ws j 0) (sym is.are)
    ∙ behind_text text_size j c.requires.text.0 (let n = is.counts in omega (arith, done, behind))))
    (cases_lt j c.loop-at.at))
