use Rattle.std.proofs.Common.{◌≡◌, ◌≤◌, length, ap, arith}
use Rattle.std.specs.Rc.{rc_slice_items}
use Rattle.core_memory.proofs.WholeRows.{word_past}
use Rattle.core_memory.proofs.shared.SharedRecord.word.Goals as goal

pub returns-else-at-words : goal.returns-else-at-words
returns-else-at-words g c =
    let items = rc_slice_items c.self.inside.words in
    let long : length c.as_slice-words.result.now ≡ length items = ap length c.as_slice-words.ensures.value in
    let past : length items ≤ c.args.at = omega arith in
    word_past items c.args.self.now c.args.at c.self.view_is c.self.invariant past
