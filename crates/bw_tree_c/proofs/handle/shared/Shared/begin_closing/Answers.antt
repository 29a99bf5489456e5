use Rattle.std.proofs.Common.{◌∷◌, ◌∙◌, ap, arith, subst}
use Rattle.atomic_table.specs.Table.{rest}
use Rattle.call_log.specs.Steps.{HasTried}
use Rattle.bw_tree_c.specs.Slots.{IsPutBack}
use Rattle.bw_tree_c.specs.declared.handle.slots.Inside.TheVariants as inside
use Rattle.bw_tree_c.proofs.Shut.{begun_closing, refused_closing}
use Rattle.bw_tree_c.proofs.handle.shared.Shared.begin_closing.Goals.{then-found-eq-GONE, else-found-eq-GONE}
use Rattle.bw_tree_c.proofs.handle.shared.Shared.begin_closing.Goals as goal

pub returns-then-found-ne-HOME-clause-refused : goal.returns-then-found-ne-HOME-clause-refused
returns-then-found-ne-HOME-clause-refused c =
    refused_closing c.args.self.now c.args.since c.requires c.seen_by-hand.result c.begun-found.new.hand c.seen_by-hand.ensures c.begun-found.ensures.same c.begun-found.result
    (subst (λ n. HasTried IsPutBack n c.begun-found.result c.seen_by-hand.result.me c.begun-found.new.hand.me) c.last-slot.ensures c.begun-found.ensures.tried)
    c.if-found-ne-HOME.true c.of.result c.of.ensures.table c.of.ensures.view
    (λ one. elim c.if-found-eq-GONE.branch [
      | then-found-eq-GONE w ↦ absurd (let two = w.if-found-eq-GONE.true in omega (arith, one, two))
      | else-found-eq-GONE w ↦ c.of.ensures.status ∙ w.of-is
    ])
    (λ two. elim c.if-found-eq-GONE.branch [
      | then-found-eq-GONE w ↦ c.of.ensures.status ∙ w.of-is
      | else-found-eq-GONE w ↦ absurd (w.if-found-eq-GONE.false two)
    ])

pub returns-clause-begun : goal.returns-clause-begun
returns-clause-begun c = λ may.
    begun_closing c.args.self.now c.args.since may c.seen_by-hand.result c.begun-found.new.hand c.seen_by-hand.ensures c.begun-found.ensures.same c.begun-found.result
    (subst (λ n. HasTried IsPutBack n c.begun-found.result c.seen_by-hand.result.me c.begun-found.new.hand.me) c.last-slot.ensures c.begun-found.ensures.tried)
    c.if-found-ne-HOME.false c.exchange-inside.new.seat c.exchange-inside.ensures.0 c.exchange-inside.result
    (c.exchange-inside.ensures.2 ∙ ap (λ k. (k, c.exchange-inside.result) ∷ rest c.begun-found.new.hand.me.1) c.last-slot.ensures)
    (c.exchange-inside.ensures.3 ∙ ap (λ k. (c.begun-found.new.hand.me.0, (k, inside.Nothing) ∷ rest c.begun-found.new.hand.me.1)) c.last-slot.ensures)
