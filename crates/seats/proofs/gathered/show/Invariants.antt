use Rattle.std.proofs.Common.{◌≡◌}
use Rattle.running_tree.specs.Notes.{note_of}
use Rattle.seats.proofs.Showing.{HaveHeededBefore}
use Rattle.seats.proofs.gathered.show.Given as goal

abbrev pub invariant-loop-place : goal.invariant-loop-place
invariant-loop-place g l = record {
  one : l.one ≡ l.initial.one;
  shown : HaveHeededBefore (note_of l.initial.one) l.place l.initial.seats l.seats;
}
