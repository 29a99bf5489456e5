use Rattle.std.proofs.Common.{◌≡◌, ◌≤◌, ◌+◌, ◌-◌, ◌*◌, ◌++◌, drop, length, take}
use Rattle.bw_model.specs.Bytes.{longest}
use Rattle.row_search.proofs.Words.{bytes_of, row_words_of, text_size}
use Rattle.row_search.specs.TextsOf.{length_at}
use Rattle.row_search.proofs.row_at.RowAt.bytes.Given as goal

abbrev pub invariant-loop-at : goal.invariant-loop-at
invariant-loop-at g l =
    let words = take text_size (drop (length_at l.text + 1) (row_words_of l.self)) in
    record {
      within : l.at ≤ l.used;
      same : l.pass ≡ l.initial.pass;
      long : length l.bytes ≡ longest;
      front : take (8 * l.at) l.bytes ++ bytes_of (drop l.at words) ≡ bytes_of words;
    }

abbrev pub decreases-loop-at : goal.decreases-loop-at
decreases-loop-at g l = l.used - l.at
