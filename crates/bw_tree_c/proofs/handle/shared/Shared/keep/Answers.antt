use Rattle.std.proofs.Common.{◌∷◌, ◌∙◌, ap, sym}
use Rattle.atomic_table.specs.Table.{rest}
use Rattle.bw_tree_c.specs.Closing.{LooksOn, RunsNothing}
use Rattle.bw_tree_c.specs.declared.handle.slots.Inside.TheVariants as inside
use Rattle.bw_tree_c.proofs.Lasting.{can_keep_it, kept_it, kept_none}
use Rattle.bw_tree_c.proofs.Shut.{only_last}
use Rattle.bw_tree_c.proofs.handle.shared.Shared.keep.Goals as goal

pub exchange-requires : goal.exchange-requires
exchange-requires c = (
  c.requires.closing.3.table,
  (
    inside.Nothing,
    let e = only_last c.args.self.now c.requires.closing.0 c.requires.closing.1 1 RunsNothing c.requires.closing.2 c.args.hand c.requires.closing.3 in
        ap (λ m. m.1) e ∙ (λ i. (sym c.last-slot.ensures i, inside.Nothing) ∷ rest (sym e i).1),
  ),
)

pub ended-requires-clause-can : goal.ended-requires-clause-can
ended-requires-clause-can c = can_keep_it c.args.self.now c.requires.closing.0 c.requires.closing.1 RunsNothing c.requires.closing.2 c.args.hand c.requires.closing.3 c.args.inside
    c.requires.waits (λ e. e) c.last-slot.result c.last-slot.ensures c.exchange.new.seat c.exchange.ensures.0 c.exchange.ensures.3

pub of-requires : goal.of-requires
of-requires c = record {
  empty = kept_none c.args.self.now c.requires.closing.0 c.requires.closing.1 RunsNothing c.requires.closing.2 c.args.hand c.requires.closing.3 c.args.inside
      c.requires.waits (λ e. e) c.last-slot.result c.last-slot.ensures c.exchange.new.seat c.exchange.ensures.0 c.exchange.ensures.3
      c.ended.new.hand c.ended.ensures.same c.ended.ensures.ended;
}

pub returns-clause-kept : goal.returns-clause-kept
returns-clause-kept c = λ since may last mid. kept_it c.args.self.now since may RunsNothing last c.args.hand mid c.args.inside
    c.requires.waits (λ e. e) c.last-slot.result c.last-slot.ensures c.exchange.new.seat c.exchange.ensures.0 c.exchange.ensures.3
    c.ended.new.hand c.ended.ensures.same c.ended.ensures.ended c.of.result.receipt c.of.ensures.table c.of.ensures.view

pub returns-clause-looked : goal.returns-clause-looked
returns-clause-looked c = λ since may last mid. kept_it c.args.self.now since may LooksOn last c.args.hand mid c.args.inside
    c.requires.waits (λ e. e) c.last-slot.result c.last-slot.ensures c.exchange.new.seat c.exchange.ensures.0 c.exchange.ensures.3
    c.ended.new.hand c.ended.ensures.same c.ended.ensures.ended c.of.result.receipt c.of.ensures.table c.of.ensures.view
