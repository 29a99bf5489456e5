use Rattle.std.proofs.Common.{◌≡◌, ◌-◌, length}
use Rattle.filming.specs.Places.{place_below}
use Rattle.filming.proofs.places.place_of.Given as goal

abbrev pub invariant-loop-back : goal.invariant-loop-back
invariant-loop-back l = place_below l.log l.command l.reply (length l.log) ≡ place_below l.log l.command l.reply (l.many - l.back)
