use Rattle.running_tree.proofs.Words.{◌≡◌, ℕ, List, refl, sym, ap, subst, ◌∙◌, Limits, Extends, Idle, SitsAt, Mine, seen_of, IsSeenRun, IsSeat, IsSeatOf, Seat, Tree}
use Rattle.traces.specs.declared.trace.Entry.{Entry}
use Rattle.running_tree.proofs.Meeting.{has_part, left_extends, left_run, left_seat, right_extends, right_run, right_seat, saw_one}
use Rattle.running_tree.proofs.Owning.{is_of, still_of}
use Rattle.running_tree.proofs.tree.Tree.meet.Goals as goal

-- Two seats of a tree have its limits, and sit at places of it, the other one in what was taken from its desk.
both_sit : {at tree : Tree} {one was other were : Seat} (n m : ℕ) (me you yours : Mine) → at ≡ tree → one ≡ was
    → IsSeatOf tree was → other ≡ were → IsSeatOf tree were → you ≡ yours → SitsAt one.limits n Idle me → SitsAt other.limits m Idle yours
    → (one.limits ≡ at.limits) × (other.limits ≡ at.limits) × SitsAt at.limits n Idle me × SitsAt at.limits m Idle you
both_sit {at} {tree} {one} {was} {other} {were} n m me you yours tree_is one_is own other_is own_other moved sits sits_other =
    let whole : tree.limits ≡ at.limits = sym (ap (λ (t : Tree). t.limits) tree_is) in
    let same : one.limits ≡ at.limits = ap (λ (s : Seat). s.limits) one_is ∙ own.limits ∙ whole in
    let same_other : other.limits ≡ at.limits = ap (λ (s : Seat). s.limits) other_is ∙ own_other.limits ∙ whole in (
      same,
      same_other,
      subst (λ (l : Limits). SitsAt l n Idle me) same sits,
      subst (SitsAt at.limits m Idle) (sym moved) (subst (λ (l : Limits). SitsAt l m Idle yours) same_other sits_other),
    )

pub refresh-requires-clause-some : goal.refresh-requires-clause-some
refresh-requires-clause-some g c =
    let (same, same_other, at, at_other) = both_sit c.one.inside.desk.number c.other.inside.desk.number c.one.inside.desk.place.me c.replace-others.result.me
    c.other.inside.desk.place.me c.self.view_is c.one.view_is c.requires.own c.other.view_is c.requires.own_other
    (ap (λ place. place.me) c.replace-others.ensures.value) c.one.invariant.place c.other.invariant.place in
    has_part c.self.inside.limits c.one.inside.desk.number c.other.inside.desk.number Idle c.one.inside.desk.place.me c.replace-others.result.me c.join.new.seat.me
    at at_other c.join.ensures.both

pub invariant_of-one : goal.invariant_of-one
invariant_of-one g c =
    let (same, same_other, at, at_other) = both_sit c.one.inside.desk.number c.other.inside.desk.number c.one.inside.desk.place.me c.replace-others.result.me
    c.other.inside.desk.place.me c.self.view_is c.one.view_is c.requires.own c.other.view_is c.requires.own_other
    (ap (λ place. place.me) c.replace-others.ensures.value) c.one.invariant.place c.other.invariant.place in
    let seat : IsSeat c.self.inside.limits c.one.inside.desk.number c.one.inside.desk.place.me c.one.inside.actor = subst
    (λ (l : Limits). IsSeat l c.one.inside.desk.number c.one.inside.desk.place.me c.one.inside.actor) same c.one.invariant in
    subst (λ (l : Limits). IsSeat l c.one.inside.desk.number c.cut.new.seat.me c.one.inside.actor) (sym same)
    (left_seat c.self.inside.limits c.one.inside.desk.number c.other.inside.desk.number Idle c.one.inside.desk.place.me c.replace-others.result.me
    c.join.new.seat.me seat.place at_other c.join.ensures.both
    c.refresh.new.seat.me c.cut.new.seat.me c.cut.result.me c.refresh.ensures.saw c.cut.ensures.first c.cut.ensures.others c.seats_last.ensures c.one.inside.actor seat)

pub invariant_of-other : goal.invariant_of-other
invariant_of-other g c =
    let (same, same_other, at, at_other) = both_sit c.one.inside.desk.number c.other.inside.desk.number c.one.inside.desk.place.me c.replace-others.result.me
    c.other.inside.desk.place.me c.self.view_is c.one.view_is c.requires.own c.other.view_is c.requires.own_other
    (ap (λ place. place.me) c.replace-others.ensures.value) c.one.invariant.place c.other.invariant.place in
    let seat : IsSeat c.self.inside.limits c.other.inside.desk.number c.replace-others.result.me c.other.inside.actor = subst
    (λ (m : Mine). IsSeat c.self.inside.limits c.other.inside.desk.number m c.other.inside.actor) (sym (ap (λ place. place.me) c.replace-others.ensures.value))
    (subst (λ (l : Limits). IsSeat l c.other.inside.desk.number c.other.inside.desk.place.me c.other.inside.actor) same_other c.other.invariant) in
    subst (λ (l : Limits). IsSeat l c.other.inside.desk.number c.cut.result.me c.other.inside.actor) (sym same_other)
    (right_seat c.self.inside.limits c.one.inside.desk.number c.other.inside.desk.number Idle c.one.inside.desk.place.me c.replace-others.result.me c.join.new.seat.me
    at seat.place c.join.ensures.both
    c.refresh.new.seat.me c.cut.new.seat.me c.cut.result.me c.refresh.ensures.saw c.cut.ensures.first c.cut.ensures.others c.seats_last.ensures c.other.inside.actor refl seat)

pub returns-clause-met : goal.returns-clause-met
returns-clause-met g c =
    let (same, same_other, at, at_other) = both_sit c.one.inside.desk.number c.other.inside.desk.number c.one.inside.desk.place.me c.replace-others.result.me
    c.other.inside.desk.place.me c.self.view_is c.one.view_is c.requires.own c.other.view_is c.requires.own_other
    (ap (λ place. place.me) c.replace-others.ensures.value) c.one.invariant.place c.other.invariant.place in
    let ours : Extends c.one.inside.desk.number (seen_of c.one.inside.desk.place.me) (seen_of c.cut.new.seat.me) =
    left_extends c.self.inside.limits c.one.inside.desk.number c.other.inside.desk.number Idle c.one.inside.desk.place.me c.replace-others.result.me c.join.new.seat.me at at_other c.join.ensures.both
    c.refresh.new.seat.me c.cut.new.seat.me c.cut.result.me c.refresh.ensures.saw c.cut.ensures.first c.cut.ensures.others in
    let theirs : Extends c.other.inside.desk.number (seen_of c.replace-others.result.me) (seen_of c.cut.result.me) =
    right_extends c.self.inside.limits c.one.inside.desk.number c.other.inside.desk.number Idle c.one.inside.desk.place.me c.replace-others.result.me c.join.new.seat.me at at_other c.join.ensures.both
    c.refresh.new.seat.me c.cut.new.seat.me c.cut.result.me c.refresh.ensures.saw c.cut.ensures.first c.cut.ensures.others refl in
    let back : seen_of c.replace-others.result.me ≡ seen_of c.other.inside.desk.place.me = ap (λ place. seen_of place.me) c.replace-others.ensures.value in
    let table = c.cut.ensures.same ∙ c.refresh.ensures.same ∙ c.join.ensures.same ∙ ap (λ (s : Seat). s.table) c.one.view_is in
    let table_other = c.cut.ensures.table ∙ c.refresh.ensures.same ∙ c.join.ensures.same ∙ ap (λ (s : Seat). s.table) c.one.view_is ∙ c.requires.own.table ∙ sym c.requires.own_other.table in
    record {
      same = record { table = table; limits = ap (λ (s : Seat). s.limits) c.one.view_is; actor = ap (λ (s : Seat). s.actor) c.one.view_is };
      same_other = record { table = table_other; limits = ap (λ (s : Seat). s.limits) c.other.view_is; actor = ap (λ (s : Seat). s.actor) c.other.view_is };
      extends = subst (λ (s : Seat). Extends s.actor s.seen (seen_of c.cut.new.seat.me)) c.one.view_is ours;
      extends_other =
          subst (λ (s : Seat). Extends s.actor s.seen (seen_of c.cut.result.me)) c.other.view_is
          (subst (λ (z : List Entry). Extends c.other.inside.desk.number z (seen_of c.cut.result.me)) back theirs);
      one =
          saw_one c.self.inside.limits c.one.inside.desk.number c.other.inside.desk.number Idle c.one.inside.desk.place.me c.replace-others.result.me c.join.new.seat.me at at_other c.join.ensures.both
          c.refresh.new.seat.me c.cut.new.seat.me c.cut.result.me c.refresh.ensures.saw c.cut.ensures.first c.cut.ensures.others;
    }

pub join-requires-clause-table : goal.join-requires-clause-table
join-requires-clause-table g c = is_of _ _ _ _ _ _ _ _ _ c.self.invariant c.self.view_is c.one.view_is c.requires.own

pub join-requires-clause-other : goal.join-requires-clause-other
join-requires-clause-other g c =
    let of = is_of _ _ _ _ _ _ _ _ _ c.self.invariant c.self.view_is c.other.view_is c.requires.own_other in
    ap (λ place. place.table_id) c.replace-others.ensures.value ∙ of.same

pub join-requires-clause-home : goal.join-requires-clause-home
join-requires-clause-home g c = ap (λ place. place.me.1) c.replace-others.ensures.value ∙ ap (λ me. me.1) c.other.invariant.place

pub refresh-requires-clause-table : goal.refresh-requires-clause-table
refresh-requires-clause-table g c = still_of _ _ _ _ _ (is_of _ _ _ _ _ _ _ _ _ c.self.invariant c.self.view_is c.one.view_is c.requires.own) c.join.ensures.same

pub cut-requires : goal.cut-requires
cut-requires g c = record { table = still_of _ _ _ _ _ (is_of _ _ _ _ _ _ _ _ _ c.self.invariant c.self.view_is c.one.view_is c.requires.own) (c.refresh.ensures.same ∙ c.join.ensures.same) }

pub returns-clause-history : goal.returns-clause-history
returns-clause-history g c =
    let (same, same_other, at, at_other) = both_sit c.one.inside.desk.number c.other.inside.desk.number c.one.inside.desk.place.me c.replace-others.result.me
    c.other.inside.desk.place.me c.self.view_is c.one.view_is c.requires.own c.other.view_is c.requires.own_other
    (ap (λ place. place.me) c.replace-others.ensures.value) c.one.invariant.place c.other.invariant.place in
    c.runs_are_one_history.ensures c.one.inside.limits (seen_of c.cut.new.seat.me) (subst (λ (l : Limits). IsSeenRun l (seen_of c.cut.new.seat.me)) (sym same)
    (left_run c.self.inside.limits c.one.inside.desk.number c.other.inside.desk.number Idle c.one.inside.desk.place.me c.replace-others.result.me c.join.new.seat.me at at_other c.join.ensures.both
    c.refresh.new.seat.me c.cut.new.seat.me c.cut.result.me c.refresh.ensures.saw c.cut.ensures.first c.cut.ensures.others))

pub returns-clause-history_other : goal.returns-clause-history_other
returns-clause-history_other g c =
    let (same, same_other, at, at_other) = both_sit c.one.inside.desk.number c.other.inside.desk.number c.one.inside.desk.place.me c.replace-others.result.me
    c.other.inside.desk.place.me c.self.view_is c.one.view_is c.requires.own c.other.view_is c.requires.own_other
    (ap (λ place. place.me) c.replace-others.ensures.value) c.one.invariant.place c.other.invariant.place in
    c.runs_are_one_history.ensures c.other.inside.limits (seen_of c.cut.result.me) (subst (λ (l : Limits). IsSeenRun l (seen_of c.cut.result.me)) (sym same_other)
    (right_run c.self.inside.limits c.one.inside.desk.number c.other.inside.desk.number Idle c.one.inside.desk.place.me c.replace-others.result.me c.join.new.seat.me at at_other c.join.ensures.both
    c.refresh.new.seat.me c.cut.new.seat.me c.cut.result.me c.refresh.ensures.saw c.cut.ensures.first c.cut.ensures.others))
