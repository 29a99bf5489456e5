use Rattle.std.proofs.Common.{◌≡◌, ◌<◌, ◌+◌, ℕ, [], length, Some}
use Rattle.running_tree.proofs.Words.{slice_get, dealt_from, seat_at}
use Rattle.running_tree.proofs.Gathering.{AllExtend}
use Rattle.running_tree.proofs.Opened.{left_of}
use Rattle.running_tree.proofs.dealing.dealt_out.Given as goal

abbrev pub invariant-loop-number : goal.invariant-loop-number
invariant-loop-number g l = record {
  table : l.rest.table_id ≡ l.tree.table;
  rest : (left : ℕ) × (l.number + left ≡ l.layout.actors) × (l.rest.me ≡ (left_of l.layout l.fn.first.seen l.number left, [])) × AllExtend l.fn.first.seen (dealt_from l.layout l.number left);
  count : length l.seats.items ≡ l.number;
  dealt : (n : ℕ) → n < l.number → slice_get l.seats.items n ≡ Some (seat_at l.tree l.fn.first.seen n);
}
