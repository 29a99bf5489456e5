use Rattle.std.proofs.Common.{◌≡◌, ◌==◌, ◌+◌, ◌∷◌, drop, get_or, ap, sym, ◌∙◌, drop-cons, add-one}
use Rattle.std.specs.Prelude.{◌&&◌}
use Rattle.record_slots.specs.Parts.{are_zeros}
use Rattle.record_slots.proofs.RowLaws.{zeros_more}
use Rattle.record_slots.proofs.row.are_zeros.Goals as goal

pub loop-word-preserved : goal.loop-word-preserved
loop-word-preserved c =
    let words = c.args.words.now in
    let i = c.loop-word.word-index in
    let word = get_or words i 0 in
    let cut : drop i words ≡ word ∷ drop (i + 1) words = rw add-one (drop-cons words i 0 c.loop-word-test.true) in
    zeros_more c.loop-word.all word (drop (i + 1) words) ∙ ap (λ rest. (c.loop-word.all == 0) && are_zeros rest) (sym cut) ∙ c.loop-word.invariant
