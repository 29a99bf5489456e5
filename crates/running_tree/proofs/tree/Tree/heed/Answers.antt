use Rattle.running_tree.proofs.Words.{◌≡◌, ℕ, refl, sym, ap, subst, ◌∙◌, Limits, Extends, Idle, Noted, SitsAt, Mine, seen_of, IsSeenRun, StartsWith, IsSeat, Seat, Tree}
use Rattle.running_tree.specs.Notes.{Note}
use Rattle.running_tree.proofs.Meeting.{has_part, left_extends, left_run, left_seat, left_starts}
use Rattle.running_tree.proofs.Owning.{is_of, still_of}
use Rattle.running_tree.proofs.tree.Tree.heed.Goals as goal

-- A seat and a note of a tree have its limits, and sit at places of it.
both_sit : {at tree : Tree} {one was : Seat} {note noted : Note} (n m : ℕ) (me kept : Mine) → at ≡ tree → one ≡ was
    → was.limits ≡ tree.limits → note ≡ noted → noted.limits ≡ tree.limits → SitsAt one.limits n Idle me → SitsAt note.limits m Noted kept
    → (one.limits ≡ at.limits) × SitsAt at.limits n Idle me × SitsAt at.limits m Noted kept
both_sit {at} {tree} {one} {was} {note} {noted} n m me kept tree_is one_is own note_is own_note sits sits_note =
    let whole : tree.limits ≡ at.limits = sym (ap (λ (t : Tree). t.limits) tree_is) in
    let same : one.limits ≡ at.limits = ap (λ (s : Seat). s.limits) one_is ∙ own ∙ whole in
    let same_note : note.limits ≡ at.limits = ap (λ (n : Note). n.limits) note_is ∙ own_note ∙ whole in
    (same, subst (λ (l : Limits). SitsAt l n Idle me) same sits, subst (λ (l : Limits). SitsAt l m Noted kept) same_note sits_note)

pub refresh-requires-clause-some : goal.refresh-requires-clause-some
refresh-requires-clause-some g c =
    let (same, at, at_note) = both_sit c.seat.inside.desk.number c.note.invariant.0 c.seat.inside.desk.place.me c.note.inside.place.me
    c.self.view_is c.seat.view_is c.requires.own.limits c.note.view_is c.requires.note.limits c.seat.invariant.place c.note.invariant.1 in
    has_part c.self.inside.limits c.seat.inside.desk.number c.note.invariant.0 Noted c.seat.inside.desk.place.me c.note.inside.place.me c.join.new.seat.me
    at at_note c.join.ensures.both

pub invariant_of-seat : goal.invariant_of-seat
invariant_of-seat g c =
    let (same, at, at_note) = both_sit c.seat.inside.desk.number c.note.invariant.0 c.seat.inside.desk.place.me c.note.inside.place.me
    c.self.view_is c.seat.view_is c.requires.own.limits c.note.view_is c.requires.note.limits c.seat.invariant.place c.note.invariant.1 in
    let seat : IsSeat c.self.inside.limits c.seat.inside.desk.number c.seat.inside.desk.place.me c.seat.inside.actor = subst
    (λ (l : Limits). IsSeat l c.seat.inside.desk.number c.seat.inside.desk.place.me c.seat.inside.actor) same c.seat.invariant in
    subst (λ (l : Limits). IsSeat l c.seat.inside.desk.number c.cut.new.seat.me c.seat.inside.actor) (sym same)
    (left_seat c.self.inside.limits c.seat.inside.desk.number c.note.invariant.0 Noted c.seat.inside.desk.place.me c.note.inside.place.me c.join.new.seat.me seat.place
    at_note c.join.ensures.both
    c.refresh.new.seat.me c.cut.new.seat.me c.cut.result.me c.refresh.ensures.saw c.cut.ensures.first c.cut.ensures.others c.seats_last.ensures c.seat.inside.actor seat)

pub returns-clause-heeds : goal.returns-clause-heeds
returns-clause-heeds g c =
    let (same, at, at_note) = both_sit c.seat.inside.desk.number c.note.invariant.0 c.seat.inside.desk.place.me c.note.inside.place.me
    c.self.view_is c.seat.view_is c.requires.own.limits c.note.view_is c.requires.note.limits c.seat.invariant.place c.note.invariant.1 in
    let ours : Extends c.seat.inside.desk.number (seen_of c.seat.inside.desk.place.me) (seen_of c.cut.new.seat.me) =
    left_extends c.self.inside.limits c.seat.inside.desk.number c.note.invariant.0 Noted c.seat.inside.desk.place.me c.note.inside.place.me c.join.new.seat.me at at_note c.join.ensures.both
    c.refresh.new.seat.me c.cut.new.seat.me c.cut.result.me c.refresh.ensures.saw c.cut.ensures.first c.cut.ensures.others in
    let begins : StartsWith (seen_of c.cut.new.seat.me) (seen_of c.note.inside.place.me) =
    left_starts c.self.inside.limits c.seat.inside.desk.number c.note.invariant.0 Noted c.seat.inside.desk.place.me c.note.inside.place.me c.join.new.seat.me at at_note c.join.ensures.both
    c.refresh.new.seat.me c.cut.new.seat.me c.cut.result.me c.refresh.ensures.saw c.cut.ensures.first c.cut.ensures.others refl in
    record {
      same = record {
        table = c.cut.ensures.same ∙ c.refresh.ensures.same ∙ c.join.ensures.same ∙ ap (λ (s : Seat). s.table) c.seat.view_is;
        limits = ap (λ (s : Seat). s.limits) c.seat.view_is;
        actor = ap (λ (s : Seat). s.actor) c.seat.view_is;
      };
      extends = subst (λ (s : Seat). Extends s.actor s.seen (seen_of c.cut.new.seat.me)) c.seat.view_is ours;
      begins = subst (λ (n : Note). StartsWith (seen_of c.cut.new.seat.me) n.seen) c.note.view_is begins;
    }

pub join-requires-clause-table : goal.join-requires-clause-table
join-requires-clause-table g c = is_of _ _ _ _ _ _ _ _ _ c.self.invariant c.self.view_is c.seat.view_is c.requires.own

pub join-requires-clause-other : goal.join-requires-clause-other
join-requires-clause-other g c = ap (λ (n : Note). n.table) c.note.view_is ∙ c.requires.note.table ∙ sym (ap (λ (t : Tree). t.table) c.self.view_is)

pub join-requires-clause-home : goal.join-requires-clause-home
join-requires-clause-home g c = ap (λ me. me.1) c.note.invariant.1

pub refresh-requires-clause-table : goal.refresh-requires-clause-table
refresh-requires-clause-table g c = still_of _ _ _ _ _ (is_of _ _ _ _ _ _ _ _ _ c.self.invariant c.self.view_is c.seat.view_is c.requires.own) c.join.ensures.same

pub cut-requires : goal.cut-requires
cut-requires g c = record { table = still_of _ _ _ _ _ (is_of _ _ _ _ _ _ _ _ _ c.self.invariant c.self.view_is c.seat.view_is c.requires.own) (c.refresh.ensures.same ∙ c.join.ensures.same) }

pub returns-clause-history : goal.returns-clause-history
returns-clause-history g c =
    let (same, at, at_note) = both_sit c.seat.inside.desk.number c.note.invariant.0 c.seat.inside.desk.place.me c.note.inside.place.me
    c.self.view_is c.seat.view_is c.requires.own.limits c.note.view_is c.requires.note.limits c.seat.invariant.place c.note.invariant.1 in
    c.runs_are_one_history.ensures c.seat.inside.limits (seen_of c.cut.new.seat.me) (subst (λ (l : Limits). IsSeenRun l (seen_of c.cut.new.seat.me)) (sym same)
    (left_run c.self.inside.limits c.seat.inside.desk.number c.note.invariant.0 Noted c.seat.inside.desk.place.me c.note.inside.place.me c.join.new.seat.me at at_note c.join.ensures.both
    c.refresh.new.seat.me c.cut.new.seat.me c.cut.result.me c.refresh.ensures.saw c.cut.ensures.first c.cut.ensures.others))
