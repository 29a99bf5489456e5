use Rattle.std.proofs.Common.{◌≡◌, ℕ, ◌+◌, ◌≤◌, List, take, false}
use Rattle.arrayvec.specs.ArrayVec.{array_vec_len}
use Rattle.bw_shell.specs.Turns.{trace_of}
use Rattle.byte_streams.specs.Output.{Prints}
use Rattle.bw_shell.specs.Weave.{Weaves}
use Rattle.bw_shell.proofs.pieces.feed.Given as goal

abbrev pub invariant-loop-b : goal.invariant-loop-b
invariant-loop-b g l = record {
  woven : (text : List ℕ) × Weaves l.language l.initial.weaver.number (trace_of l.initial.weaver.core) l.initial.weaver.part.items (take l.b-index l.bytes)
      l.weaver.number (trace_of l.weaver.core) l.weaver.part.items text
      × Prints (g.O.Output.state l.initial.out) (g.O.Output.state l.out) text;
  sound : (g.O.Output.state l.out).failed ≡ false;
  short : array_vec_len l.weaver.part ≤ 1024;
  count : l.weaver.number ≤ l.initial.weaver.number + l.b-index;
}
