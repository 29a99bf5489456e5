use Rattle.std.proofs.Common.{◌≡◌, ◌-◌, take}
use Rattle.tree_picture.specs.Stands.{slot_read}
use Rattle.tree_picture.proofs.stands.slot_read.Given as goal

abbrev pub invariant-loop-back : goal.invariant-loop-back
invariant-loop-back l = slot_read l.entries.items l.number ≡ slot_read (take (l.many - l.back) l.entries.items) l.number
