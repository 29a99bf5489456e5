use Rattle.std.proofs.Common.{◌≡◌, false}
use Rattle.std.specs.Io.KnownBytes.{Consumes}
use Rattle.race.proofs.taken.read_all.Given as goal

abbrev pub invariant-reads : goal.invariant-reads
invariant-reads g l = record {
  taken : Consumes (g.I.Input.remaining l.initial.input) (g.I.Input.remaining l.input) l.bytes.items;
  sound : g.I.Input.failed l.input ≡ false;
}

abbrev pub decreases-reads : goal.decreases-reads
decreases-reads g l = g.I.Input.reads_left l.input
