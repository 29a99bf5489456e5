use Rattle.std.proofs.Common.{◌≡◌, ◌∙◌, Some, ap, arith, refl, slice_index_or, subst, sym}
use Rattle.std.specs.Prelude.{slice_get}
use Rattle.running_tree.specs.Notes.{HasHeeded, note_of}
use Rattle.running_tree.specs.Trees.{IsSeatOf}
use Rattle.seats.proofs.Seeing.{at_index}
use Rattle.seats.proofs.Showing.{heeded_one_more, none_heeded}
use Rattle.traces.proofs.Pushes.{slice_get_below}
use Rattle.seats.proofs.gathered.show.Goals as goal

pub loop-place-init : goal.loop-place-init
loop-place-init g c = record {
  one = refl;
  shown = none_heeded (note_of c.args.one.now) c.args.seats.now;
}

pub heed-requires-clause-own : goal.heed-requires-clause-own
heed-requires-clause-own g c =
    let below = c.loop-place-test.true in
    let place = c.loop-place.place in
    let shown = c.loop-place.invariant.shown in
    let count = shown.count in
    let there = at_index c.loop-place.seats place c.index-seats-place.result (omega (arith, below, count)) c.index-seats-place.is in
    let own : IsSeatOf c.args.tree.now c.index-seats-place.result = c.requires.seats place c.index-seats-place.result (sym (shown.rest place (omega arith)) ∙ there) in
    subst (IsSeatOf c.args.tree.now) c.index-seats-place.is own

pub loop-place-preserved : goal.loop-place-preserved
loop-place-preserved g c =
    let below = c.loop-place-test.true in
    let place = c.loop-place.place in
    let shown = c.loop-place.invariant.shown in
    let count = shown.count in
    let at = slice_index_or c.loop-place.seats place c.index-seats-place.result in
    let there : slice_get c.loop-place.seats place ≡ Some at = at_index c.loop-place.seats place c.index-seats-place.result (omega (arith, below, count))
    c.index-seats-place.is ∙ ap Some c.index-seats-place.is in
    let noted = c.note-note.ensures.noted ∙ ap note_of c.loop-place.invariant.one in
    let heeds : HasHeeded at (note_of c.args.one.now) c.heed.new.seat = subst (λ note. HasHeeded at note c.heed.new.seat) noted c.heed.ensures.heeds in
    record {
      one = c.note-note.ensures.stays ∙ c.loop-place.invariant.one;
      shown = heeded_one_more (note_of c.args.one.now) place c.args.seats.now c.loop-place.seats at c.heed.new.seat there heeds c.heed.ensures.history shown;
    }

pub returns-clause-heeded : goal.returns-clause-heeded
returns-clause-heeded g c =
    let end = c.loop-place-test.false in
    let shown = c.loop-place.invariant.shown in
    record {
      count = shown.count;
      each = λ n before after at at_new. let within = slice_get_below c.args.seats.now n before at in shown.each n before after (omega (arith, end, within)) at at_new;
    }
