use Rattle.std.proofs.Common.{◌≡◌, ◌∙◌, Some, ap, arith, length, refl, slice_index_or, subst, sym}
use Rattle.std.specs.Prelude.{slice_get}
use Rattle.running_tree.specs.Notes.{HasHeeded, IsNoteOf, note_of}
use Rattle.running_tree.specs.Trees.{IsSeatOf}
use Rattle.seats.proofs.Seeing.{at_index, heeded, seen_one_more, sees_on, sees_self, set_same}
use Rattle.traces.proofs.Pushes.{slice_get_below}
use Rattle.seats.proofs.gathered.see_all.Goals as goal

pub loop-place-init : goal.loop-place-init
loop-place-init g c = record {
  others = refl;
  on = sees_self c.args.one.now;
  seen = λ n seat below at. absurd (omega (arith, below));
}

pub note-note-requires : goal.note-note-requires
note-note-requires g c =
    let below = c.loop-place-test.true in
    let same = c.loop-place.invariant.others in
    let long = ap length same in
    let there = at_index c.loop-place.others c.loop-place.place c.index-others-place.result (omega (arith, below, long)) c.index-others-place.is in
    let own : IsSeatOf c.args.tree.now c.index-others-place.result = c.requires.others c.loop-place.place c.index-others-place.result
    (subst (λ z. slice_get z c.loop-place.place ≡ Some c.index-others-place.result) same there) in
    record { own = subst (IsSeatOf c.args.tree.now) c.index-others-place.is own }

pub heed-requires-clause-note : goal.heed-requires-clause-note
heed-requires-clause-note g c =
    let below = c.loop-place-test.true in
    let same = c.loop-place.invariant.others in
    let long = ap length same in
    let at = slice_index_or c.loop-place.others c.loop-place.place c.index-others-place.result in
    let there = at_index c.loop-place.others c.loop-place.place c.index-others-place.result (omega (arith, below, long)) c.index-others-place.is in
    let own : IsSeatOf c.args.tree.now c.index-others-place.result = c.requires.others c.loop-place.place c.index-others-place.result
    (subst (λ z. slice_get z c.loop-place.place ≡ Some c.index-others-place.result) same there) in
    let is : IsSeatOf c.args.tree.now at = subst (IsSeatOf c.args.tree.now) c.index-others-place.is own in
    let note : IsNoteOf c.args.tree.now (note_of at) = record { table = is.table; limits = is.limits } in
    subst (IsNoteOf c.args.tree.now) (sym c.note-note.ensures.noted) note

pub loop-place-preserved : goal.loop-place-preserved
loop-place-preserved g c =
    let below = c.loop-place-test.true in
    let same = c.loop-place.invariant.others in
    let long = ap length same in
    let place = c.loop-place.place in
    let at = slice_index_or c.loop-place.others c.loop-place.place c.index-others-place.result in
    let there = at_index c.loop-place.others place c.index-others-place.result (omega (arith, below, long)) c.index-others-place.is ∙ ap Some c.index-others-place.is in
    let kept : slice_get c.loop-place.others place ≡ Some c.note-note.new.seat = there ∙ ap Some (sym c.note-note.ensures.stays) in
    let heeds : HasHeeded c.loop-place.one (note_of at) c.heed.new.seat = subst (λ n. HasHeeded c.loop-place.one n c.heed.new.seat) c.note-note.ensures.noted c.heed.ensures.heeds in
    record {
      others = set_same c.loop-place.others place c.note-note.new.seat kept ∙ same;
      on = sees_on c.args.one.now c.loop-place.one c.heed.new.seat c.loop-place.invariant.on (heeded c.own_lasts.ensures c.loop-place.one c.heed.new.seat c.note-note.result c.heed.ensures.heeds);
      seen = seen_one_more c.args.others.now place c.loop-place.one c.heed.new.seat at (subst (λ z. slice_get z place ≡ Some at) same there) heeds c.loop-place.invariant.seen;
    }

pub returns-clause-seen : goal.returns-clause-seen
returns-clause-seen g c =
    let end = c.loop-place-test.false in record {
      each = λ n seat at. let within = slice_get_below c.args.others.now n seat at in c.loop-place.invariant.seen n seat (omega (arith, end, within)) at;
      history = c.saw_one_history.ensures;
    }
