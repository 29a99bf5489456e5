use Rattle.running_tree.proofs.Words.{◌≡◌, ◌<◌, ℕ, subst, arith, slot_at}
use lib.ListN.{get_elem?}
use mathlib.Core.Option.{some}
use Rattle.running_tree.proofs.Kept.{slot_is, slot_small}
use Rattle.running_tree.proofs.closing.closed_rows.ClosedRowsRecordRows.slot.Goals as goal

pub overflow_cast-result : goal.overflow_cast-result
overflow_cast-result g c =
    let (memory, content, has, at) = c.requires.stands in
    let there : get_elem? c.args.self.now.closed.now.words.items (slot_at c.args.self.now.limits.now c.args.pid) ≡ some c.word.result = subst
    (λ (i : ℕ). get_elem? c.args.self.now.closed.now.words.items i ≡ some c.word.result) c.slot_place.ensures c.word.ensures in
    let is : c.word.result ≡ memory.slots c.args.pid = slot_is c.args.self.now.limits.now c.args.self.now.closed.now.words.items memory c.args.pid c.word.result has.1 c.requires.range there in
    let small : memory.slots c.args.pid < 4294967296 = slot_small c.args.self.now.limits.now c.args.self.now.closed.now.words.items memory c.args.pid content has.1 at in
    let fits : c.word.result < 4294967296 = omega (arith, is, small) in
    record { fits = fits }

pub returns : goal.returns
returns g c = λ memory has.
    let there : get_elem? c.args.self.now.closed.now.words.items (slot_at c.args.self.now.limits.now c.args.pid) ≡ some c.word.result = subst
    (λ (i : ℕ). get_elem? c.args.self.now.closed.now.words.items i ≡ some c.word.result) c.slot_place.ensures c.word.ensures in
    slot_is c.args.self.now.limits.now c.args.self.now.closed.now.words.items memory c.args.pid c.word.result has.1 c.requires.range there
