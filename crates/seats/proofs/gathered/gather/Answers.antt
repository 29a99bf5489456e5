use Rattle.std.proofs.Common.{◌∷◌, ◌∙◌, [], Some, arith, subst, sym}
use Rattle.running_tree.specs.Notes.{note_of}
use Rattle.running_tree.specs.Trees.{AreSeatsOf, IsSeatOf}
use Rattle.seats.specs.Gathered.{HasSeenAll, HaveHeeded}
use Rattle.seats.proofs.Gathering.{all_gathered, own_gathered}
use Rattle.seats.proofs.Pushed.{all_before, last_of, pushed_behind}
use Rattle.seats.proofs.gathered.gather.Goals as goal

pub see_all-requires-clause-own : goal.see_all-requires-clause-own
see_all-requires-clause-own g c = last_of (IsSeatOf c.args.tree.now) c.pop.new.self.items (Some c.in-Some.last) (subst (AreSeatsOf c.args.tree.now) c.in-Some.ensures.items c.requires.own)

pub see_all-requires-clause-others : goal.see_all-requires-clause-others
see_all-requires-clause-others g c =
    subst (AreSeatsOf c.args.tree.now) (sym c.as_mut_slice-others.ensures.value)
    (all_before (IsSeatOf c.args.tree.now) c.pop.new.self.items (c.in-Some.last ∷ []) (subst (AreSeatsOf c.args.tree.now) c.in-Some.ensures.items c.requires.own))

pub show-requires-clause-own : goal.show-requires-clause-own
show-requires-clause-own g c =
    let was : IsSeatOf c.args.tree.now c.in-Some.last = last_of (IsSeatOf c.args.tree.now) c.pop.new.self.items (Some c.in-Some.last)
    (subst (AreSeatsOf c.args.tree.now) c.in-Some.ensures.items c.requires.own) in
    let same = c.see_all.ensures.on.same in
    record { table = same.table ∙ was.table; limits = same.limits ∙ was.limits }

pub show-requires-clause-seats : goal.show-requires-clause-seats
show-requires-clause-seats g c =
    subst (AreSeatsOf c.args.tree.now) (sym (c.see_all.ensures.others ∙ c.as_mut_slice-others.ensures.value))
    (all_before (IsSeatOf c.args.tree.now) c.pop.new.self.items (c.in-Some.last ∷ []) (subst (AreSeatsOf c.args.tree.now) c.in-Some.ensures.items c.requires.own))

pub returns-clause-gathered : goal.returns-clause-gathered
returns-clause-gathered g c =
    let front = c.pop.new.self.items in
    let later = c.see_all.new.one in
    let seen : HasSeenAll front later = subst (λ z. HasSeenAll z later) c.as_mut_slice-others.ensures.value c.see_all.ensures.seen in
    let heeds : HaveHeeded (note_of later) front c.show.new.seats = subst (λ z. HaveHeeded (note_of later) z c.show.new.seats)
    (c.see_all.ensures.others ∙ c.as_mut_slice-others.ensures.value) c.show.ensures.heeded in
    let count = heeds.count in
    let long = c.pop.new.self.ok.0 in
    let after = pushed_behind c.pop.new.self.len c.show.new.seats front c.push_reserved.new.self.items c.show.new.one later (omega (arith, count, long))
    c.push_reserved.ensures.items c.show.ensures.one in
    let all = subst (AreSeatsOf c.args.tree.now) c.in-Some.ensures.items c.requires.own in
    all_gathered c.own_lasts.ensures c.args.tree.now front c.show.new.seats c.args.seats.now.items c.push_reserved.new.self.items c.in-Some.last later c.in-Some.ensures.items after
    (all_before (IsSeatOf c.args.tree.now) front (c.in-Some.last ∷ []) all) (last_of (IsSeatOf c.args.tree.now) front (Some c.in-Some.last) all) c.see_all.ensures.on seen heeds

pub returns-clause-own : goal.returns-clause-own
returns-clause-own g c = own_gathered c.args.tree.now c.args.seats.now.items c.push_reserved.new.self.items (returns-clause-gathered g c) c.requires.own
