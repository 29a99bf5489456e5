use Rattle.running_tree.proofs.Words.{if◌then◌else◌, is_some, IsOwn, IsUnlinked, Spares, Hand, IsAtRestWith, seen_of, Seat}
use Rattle.std.proofs.Common.{◌≡◌, ◌≢◌, length, ap, subst, sym, ◌∙◌}
use Rattle.traces.specs.discipline.Knowledge.{Absent, Knowledge, knows}
use Rattle.epochs.specs.Limbo.{IsLimboList, Limbo}
use Rattle.running_tree.specs.Held.{AreSoMany, HasHeld}
use Rattle.running_tree.proofs.Begun.{idle_of}
use Rattle.running_tree.proofs.Holding.{at_rest, in_limbo, pids_spare, rows_spare}
use Rattle.running_tree.proofs.seat.BwSeat.held.Goals as goal

pub returns : goal.returns
returns g c =
    let hand = c.self.inside.actor.hand in
    let k : Knowledge = knows (seen_of c.self.inside.desk.place.me) c.self.inside.desk.number in
    let rest : IsAtRestWith c.self.inside.limits c.self.inside.desk.number hand k = at_rest c.self.inside.limits c.self.inside.desk.number k _
    c.self.inside.actor c.self.invariant.seated.shows (c.self.invariant.seated.runs ∙ idle_of _ _ c.self.view_is c.requires.idle) in
    let rows : c.rows.result.now ≡ hand.spares.rows = c.rows.ensures ∙ ap (λ (s : Spares). s.rows) (c.spares.ensures ∙ ap (λ (h : Hand). h.spares) c.hand-hand.ensures) in
    let limbo : c.limbo-limbo.result.now ≡ hand.limbo = c.limbo-limbo.ensures ∙ ap (λ (h : Hand). h.limbo) c.hand-hand.ensures in
    let out_pids : c.pids.result.now ≡ hand.limbo.pids.entries = c.pids.ensures ∙ ap (λ (l : Limbo). l.pids.entries) limbo in
    let out_rows : c.rows-2.result.now ≡ hand.limbo.rows.entries = c.rows-2.ensures ∙ ap (λ (l : Limbo). l.rows.entries) limbo in
    record {
      held = subst
          (λ (s : Seat). HasHeld s (record { spare_pids = c.spare_pids.result; spare_rows = length c.rows.result.now; limbo_pids = length c.pids.result.now; limbo_rows = length c.rows-2.result.now }))
          c.self.view_is (record {
            spare_pids =
                subst (AreSoMany (λ pid. IsUnlinked (k.own.pages pid)))
                (sym (c.spare_pids.ensures ∙ ap (λ (h : Hand). if is_some h.spares.pid then 1 else 0) c.hand-hand.ensures))
                (pids_spare k.own hand.spares rest.spares.spare.rest.are);
            spare_rows = subst (λ rs. AreSoMany (λ row. IsOwn (k.own.rows row)) (length rs)) (sym rows) (rows_spare k.own hand.spares rest.spares.spare.rest.are);
            limbo_pids =
                subst (λ es. AreSoMany (λ pid. k.limbo.pids pid ≢ Absent) (length es)) (sym out_pids) (in_limbo c.self.inside.limits c.self.inside.desk.number
                k.limbo.epoch hand.limbo.pids k.limbo.pids (subst (λ (l : Limbo). IsLimboList l.pids) limbo c.has_each_once.ensures.pids) rest.limbo.pids);
            limbo_rows =
                subst (λ es. AreSoMany (λ row. k.limbo.rows row ≢ Absent) (length es)) (sym out_rows) (in_limbo c.self.inside.limits c.self.inside.desk.number
                k.limbo.epoch hand.limbo.rows k.limbo.rows (subst (λ (l : Limbo). IsLimboList l.rows) limbo c.has_each_once.ensures.rows) rest.limbo.rows);
          });
    }
