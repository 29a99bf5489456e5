use Rattle.std.proofs.Common.{◌∙◌, ◌*◌, ◌≤◌, ap, length, subst, sym}
use Rattle.std.specs.Prelude.{MatchOption}
use Rattle.std.specs.Arc.{arc_value}
use Rattle.std.specs.Vec.{vec_capacity}
use Rattle.running_tree.specs.Trees.{AreClosed, AreSeatsOf}
use Rattle.bw_tree_c.specs.declared.closing.whole.Whole.{Whole}
use Rattle.bw_tree_c.proofs.Wholes.{all_there, pairs_left, room_there}
use Rattle.bw_tree_c.proofs.closing.whole.Whole.listed.Goals as goal

pub listed-requires-clause-all : goal.listed-requires-clause-all
listed-requires-clause-all c =
    let own : AreSeatsOf c.in-Ok.tree c.args.whole.value.seats.items = subst (λ t. AreSeatsOf t c.args.whole.value.seats.items) (sym c.in-Ok.ensures.ok)
    (subst (λ o. MatchOption o ⊥ (λ share. AreSeatsOf (arc_value share) c.args.whole.value.seats.items))
    (ap (λ (w : Whole). w.share) (sym c.deref_mut.ensures.value) ∙ sym c.in-Some.ensures.value) c.requires.own) in
    let seats = ap (λ (w : Whole). w.seats.items) (c.into_inner-seats.ensures) ∙ ap (λ (w : Whole). w.seats.items) c.deref_mut.ensures.value in
    subst (λ s. c.in-Ok.tree.limits.actors ≤ length s) (sym seats) (all_there c.args.whole.value c.requires c.in-Ok.tree own)

pub listed-requires-clause-room : goal.listed-requires-clause-room
listed-requires-clause-room c =
    let own : AreSeatsOf c.in-Ok.tree c.args.whole.value.seats.items = subst (λ t. AreSeatsOf t c.args.whole.value.seats.items) (sym c.in-Ok.ensures.ok)
    (subst (λ o. MatchOption o ⊥ (λ share. AreSeatsOf (arc_value share) c.args.whole.value.seats.items))
    (ap (λ (w : Whole). w.share) (sym c.deref_mut.ensures.value) ∙ sym c.in-Some.ensures.value) c.requires.own) in
    let room = ap (λ (w : Whole). w.room) (c.into_inner-seats.ensures) ∙ ap (λ (w : Whole). w.room) c.deref_mut.ensures.value in
    subst (λ v. 24 * c.in-Ok.tree.limits.pids ≤ vec_capacity v) (sym room) (room_there c.args.whole.value c.requires c.in-Ok.tree own)

pub returns-in-Ok-clause-left : goal.returns-in-Ok-clause-left
returns-in-Ok-clause-left c =
    let own : AreSeatsOf c.in-Ok.tree c.args.whole.value.seats.items = subst (λ t. AreSeatsOf t c.args.whole.value.seats.items) (sym c.in-Ok.ensures.ok)
    (subst (λ o. MatchOption o ⊥ (λ share. AreSeatsOf (arc_value share) c.args.whole.value.seats.items))
    (ap (λ (w : Whole). w.share) (sym c.deref_mut.ensures.value) ∙ sym c.in-Some.ensures.value) c.requires.own) in
    let seats = ap (λ (w : Whole). w.seats.items) (c.into_inner-seats.ensures) ∙ ap (λ (w : Whole). w.seats.items) c.deref_mut.ensures.value in
    pairs_left c.args.whole.value c.requires c.in-Ok.tree own c.listed.result.items (subst (λ s. AreClosed c.in-Ok.tree.limits s c.listed.result.items) seats c.listed.ensures)
