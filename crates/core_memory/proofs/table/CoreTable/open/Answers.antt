use Rattle.std.proofs.Common.{◌∙◌, ap, length, set}
use Rattle.std.proofs.lemmas.List.{length-replicate, length-set}
use Rattle.std.proofs.Math.ListN.{replicate}
use Rattle.core_memory.proofs.Tables.{opening_is}
use Rattle.core_memory.proofs.table.CoreTable.open.Goals as goal

pub returns-clause-opening : goal.returns-clause-opening
returns-clause-opening g c =
    opening_is c.args.limits.now _ _ _ _ _ c.in_ok-slots.ensures c.in_ok-rows.ensures c.in_ok-pid_bits.ensures.free c.in_ok-row_bits.ensures.free
    (c.in_ok-announced.ensures.items_if_clones_equal (λ y e. e))

pub invariant_of-result : goal.invariant_of-result
invariant_of-result g c = record {
  slots =
      ap length c.in_ok-slots.ensures ∙ length-set (set (replicate c.args.limits.now.pids 0) 0 1) 1 1 ∙ length-set (replicate c.args.limits.now.pids 0) 0 1 ∙ length-replicate c.args.limits.now.pids 0;
  rows = ap length c.in_ok-rows.ensures ∙ length-set (replicate c.args.limits.now.rows _) 1 _ ∙ length-replicate c.args.limits.now.rows _;
  pid_bits = c.in_ok-pid_bits.ensures.len;
  row_bits = c.in_ok-row_bits.ensures.len;
  announced = ap length (c.in_ok-announced.ensures.items_if_clones_equal (λ y e. e)) ∙ length-replicate c.args.limits.now.actors 0;
}
