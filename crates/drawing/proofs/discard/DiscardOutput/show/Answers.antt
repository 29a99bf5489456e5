use Rattle.std.proofs.Common.{[], refl, sym}
use Rattle.std.proofs.lemmas.List.{append-nil}
use Rattle.drawing.proofs.discard.DiscardOutput.show.Goals as goal

pub returns : goal.returns
returns c = record {
  puts = λ _. record { written = c.args.bytes.now; rest = []; splits = sym (append-nil c.args.bytes.now); appends = tt; all = λ _. refl };
  stays = λ e. cc e;
}
