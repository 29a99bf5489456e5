use Rattle.std.proofs.Common.{◌∙◌, sym}
use Rattle.workers.proofs.begun.work.Goals as goal
use Rattle.workers.proofs.begun.work.Goals.{then-value, else-value}

pub returns : goal.returns
returns g c = record {
  told = c.told-told.ensures;
  comes = elim c.if-value.branch [
    | then-value w ↦
        rw (sym c.value.ensures ∙ w.if-value.true) (rw w.worker-is (w.work.ensures.done, w.work.ensures.history))
    | else-value w ↦ rw (sym c.value.ensures ∙ w.if-value.false) w.worker-is
  ];
}
