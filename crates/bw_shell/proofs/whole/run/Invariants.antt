use Rattle.std.proofs.Common.{◌≡◌, ℕ, ◌+◌, ◌*◌, ◌≤◌, List, [], false}
use Rattle.std.specs.Io.KnownBytes.{Consumes}
use Rattle.arrayvec.specs.ArrayVec.{array_vec_len}
use Rattle.bw_shell.specs.Turns.{trace_of}
use Rattle.byte_streams.specs.Output.{Prints}
use Rattle.bw_shell.specs.Weave.{Weaves}
use Rattle.bw_shell.proofs.whole.run.Given as goal

abbrev pub invariant-reads : goal.invariant-reads
invariant-reads g l = record {
  woven : (taken : List ℕ) × (text : List ℕ) × Consumes (g.I.Input.remaining l.initial.input) (g.I.Input.remaining l.input) taken
      × Weaves l.language 1 (trace_of l.initial.weaver.core) [] taken l.weaver.number (trace_of l.weaver.core) l.weaver.part.items text
      × Prints (g.O.Output.state l.initial.out) (g.O.Output.state l.out) text;
  sound_in : g.I.Input.failed l.input ≡ false;
  sound_out : (g.O.Output.state l.out).failed ≡ false;
  short : array_vec_len l.weaver.part ≤ 1024;
  count : l.weaver.number + 4096 * g.I.Input.reads_left l.input ≤ 8796093022209;
}

abbrev pub decreases-reads : goal.decreases-reads
decreases-reads g l = g.I.Input.reads_left l.input
