use Rattle.std.proofs.Common.{◌≡◌, ◌∙◌, ◌++◌, ◌+◌, ◌*◌, ◌<◌, ◌≤◌, ℕ, List, ap, drop, get_or, length, refl, sym, take, arith}
use Rattle.std.specs.Int.{w64, to_be_bytes}
use Rattle.std.proofs.lemmas.List.{append_assoc, at_drop_more, length-drop, length-take-le, take-append-le, take-take}
use Rattle.record_slots.proofs.TextLaws.{two_parts}
use Rattle.row_search.proofs.Words.{bytes_of, get_or-drop, get_or-take, row_words_of, text_size}
use Rattle.row_search.specs.TextsOf.{length_at}
use Rattle.row_search.proofs.row_at.RowAt.bytes.Goals as goal

pub loop-at-init : goal.loop-at-init
loop-at-init g c = record { within = omega arith; same = refl; long = refl; front = refl }

pub loop-at-preserved : goal.loop-at-preserved
loop-at-preserved g c =
    let before = c.loop-at.invariant in
    let all : List ℕ = row_words_of c.args.self.now in
    let at : ℕ = c.loop-at.at in
    let start : ℕ = length_at c.args.text + 1 in
    let words : List ℕ = take text_size (drop start all) in
    let low : at < text_size = let w = before.within in omega (arith, c.loop-at-test.true, c.requires.few) in
    let long : length words ≡ text_size =
    length-take-le text_size (drop start all) (let size = length-drop start all in let room = c.has_room.ensures in
    let whole = c.rows_have_words.ensures.all c.args.self.now.content all c.keeps_spelling.ensures in omega (arith, room)) in
    let is : c.text_word.result ≡ get_or words at 0 = c.text_word.ensures.word ∙ sym (get_or-take text_size (drop start all) at 0 low ∙ get_or-drop start all at 0) in
    let front : List ℕ = take (8 * at) c.loop-at.bytes in
    let word : List ℕ = to_be_bytes w64 c.text_word.result in
    let rest = drop (at + 1) words in
    let counts : length front ≡ 8 * at = length-take-le (8 * at) c.loop-at.bytes (let l = before.long in omega (arith, l, low)) in
    let taken : take (8 * (at + 1)) c.write_word.new.bytes ≡ front ++ word =
    ap (take (8 * (at + 1))) c.write_word.ensures ∙ two_parts (8 * (at + 1)) front word (drop (8 * at + 8) c.loop-at.bytes) (omega (arith, counts)) in
    record {
      within = let w = before.within in omega (arith, c.loop-at-test.true);
      same = c.text_word.ensures.same ∙ before.same;
      long = c.write_word.array_long;
      front =
          ap (λ z. z ++ bytes_of rest) taken ∙ append_assoc front word (bytes_of rest)
          ∙ ap (λ z. front ++ (to_be_bytes w64 z ++ bytes_of rest)) is
          ∙ ap (λ z. front ++ z) (sym (at_drop_more bytes_of words at 0 (omega (arith, low, long)))) ∙ before.front;
    }

pub returns-clause-bytes : goal.returns-clause-bytes
returns-clause-bytes g c =
    let is = c.loop-at.invariant in
    let at : ℕ = c.loop-at.at in
    let count : ℕ = c.args.count in
    let words : List ℕ = take text_size (drop (length_at c.args.text + 1) (row_words_of c.args.self.now)) in
    let used : count ≤ 8 * at = let w = is.within in omega (arith, c.loop-at-test.false) in
    let low : 8 * at ≤ length c.loop-at.bytes = let l = is.long in let w = is.within in omega (arith, c.requires.few) in
    let counts : length (take (8 * at) c.loop-at.bytes) ≡ 8 * at = length-take-le (8 * at) c.loop-at.bytes low in
    sym (ap (take count) (sym is.front) ∙ take-append-le count (take (8 * at) c.loop-at.bytes) (bytes_of (drop at words)) (omega (arith, used, counts))
    ∙ take-take count (8 * at) c.loop-at.bytes used)
