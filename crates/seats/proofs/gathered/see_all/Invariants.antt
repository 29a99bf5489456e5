use Rattle.std.proofs.Common.{◌≡◌}
use Rattle.seats.specs.Gathered.{SeesOn}
use Rattle.seats.proofs.Seeing.{HasSeenBefore}
use Rattle.seats.proofs.gathered.see_all.Given as goal

abbrev pub invariant-loop-place : goal.invariant-loop-place
invariant-loop-place g l = record {
  others : l.others ≡ l.initial.others;
  on : SeesOn l.initial.one l.one;
  seen : HasSeenBefore l.initial.others l.place l.one;
}
