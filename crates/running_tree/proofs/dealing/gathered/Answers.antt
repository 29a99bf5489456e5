use Rattle.running_tree.proofs.Words.{◌≡◌, sym, ap, subst, ◌∙◌, Limits, Idle, SitsAt, seen_of, Extends, IsSeenRun, IsSeat, Seat, Tree}
use Rattle.running_tree.proofs.Gathering.{first_extends, first_run, first_seat, others_are, others_extend, some_part}
use Rattle.running_tree.proofs.Owning.{is_of, still_of}
use Rattle.running_tree.proofs.dealing.gathered.Goals as goal

pub refresh-requires-clause-some : goal.refresh-requires-clause-some
refresh-requires-clause-some g c =
    let tree : c.args.tree.now.limits ≡ c.tree.inside.limits = sym (ap (λ (t : Tree). t.limits) c.tree.view_is) in
    let same : c.seat.inside.limits ≡ c.tree.inside.limits = ap (λ (s : Seat). s.limits) c.seat.view_is ∙ c.requires.own.limits ∙ tree in
    some_part c.tree.inside.limits c.seat.inside.desk.number c.seat.inside.desk.place.me c.args.others.me c.join.new.seat.me
    (subst (λ (l : Limits). SitsAt l c.seat.inside.desk.number Idle c.seat.inside.desk.place.me) same c.seat.invariant.place) c.join.ensures.both

pub invariant_of-seat : goal.invariant_of-seat
invariant_of-seat g c =
    let tree : c.args.tree.now.limits ≡ c.tree.inside.limits = sym (ap (λ (t : Tree). t.limits) c.tree.view_is) in
    let same : c.seat.inside.limits ≡ c.tree.inside.limits = ap (λ (s : Seat). s.limits) c.seat.view_is ∙ c.requires.own.limits ∙ tree in
    let seat : IsSeat c.tree.inside.limits c.seat.inside.desk.number c.seat.inside.desk.place.me c.seat.inside.actor = subst
    (λ (l : Limits). IsSeat l c.seat.inside.desk.number c.seat.inside.desk.place.me c.seat.inside.actor) same c.seat.invariant in
    subst (λ (l : Limits). IsSeat l c.seat.inside.desk.number c.cut.new.seat.me c.seat.inside.actor) (sym same)
    (first_seat c.tree.inside.limits c.seat.inside.desk.number c.seat.inside.desk.place.me c.args.others.me c.join.new.seat.me seat.place c.join.ensures.both
    c.refresh.new.seat.me c.cut.new.seat.me c.cut.result.me c.refresh.ensures.saw c.cut.ensures.first c.cut.ensures.others c.seats_last.ensures c.seat.inside.actor seat)

pub returns-clause-each : goal.returns-clause-each
returns-clause-each g c =
    let tree : c.args.tree.now.limits ≡ c.tree.inside.limits = sym (ap (λ (t : Tree). t.limits) c.tree.view_is) in
    let same : c.seat.inside.limits ≡ c.tree.inside.limits = ap (λ (s : Seat). s.limits) c.seat.view_is ∙ c.requires.own.limits ∙ tree in
    others_extend c.tree.inside.limits c.seat.inside.desk.number c.seat.inside.desk.place.me c.args.others.me c.join.new.seat.me
    (subst (λ (l : Limits). SitsAt l c.seat.inside.desk.number Idle c.seat.inside.desk.place.me) same c.seat.invariant.place) c.join.ensures.both
    c.refresh.new.seat.me c.cut.new.seat.me c.cut.result.me c.refresh.ensures.saw c.cut.ensures.first c.cut.ensures.others

pub join-requires-clause-table : goal.join-requires-clause-table
join-requires-clause-table g c = is_of _ _ _ _ _ _ _ _ _ c.tree.invariant c.tree.view_is c.seat.view_is c.requires.own

pub refresh-requires-clause-table : goal.refresh-requires-clause-table
refresh-requires-clause-table g c = still_of _ _ _ _ _ (is_of _ _ _ _ _ _ _ _ _ c.tree.invariant c.tree.view_is c.seat.view_is c.requires.own) c.join.ensures.same

pub cut-requires : goal.cut-requires
cut-requires g c = record { table = still_of _ _ _ _ _ (is_of _ _ _ _ _ _ _ _ _ c.tree.invariant c.tree.view_is c.seat.view_is c.requires.own) (c.refresh.ensures.same ∙ c.join.ensures.same) }

pub returns-clause-same : goal.returns-clause-same
returns-clause-same g c = record {
  table = c.cut.ensures.same ∙ c.refresh.ensures.same ∙ c.join.ensures.same ∙ ap (λ (s : Seat). s.table) c.seat.view_is;
  limits = ap (λ (s : Seat). s.limits) c.seat.view_is;
  actor = ap (λ (s : Seat). s.actor) c.seat.view_is;
}

pub returns-clause-extends : goal.returns-clause-extends
returns-clause-extends g c =
    let tree : c.args.tree.now.limits ≡ c.tree.inside.limits = sym (ap (λ (t : Tree). t.limits) c.tree.view_is) in
    let same : c.seat.inside.limits ≡ c.tree.inside.limits = ap (λ (s : Seat). s.limits) c.seat.view_is ∙ c.requires.own.limits ∙ tree in
    subst (λ (s : Seat). Extends s.actor s.seen (seen_of c.cut.new.seat.me)) c.seat.view_is
    (first_extends c.tree.inside.limits c.seat.inside.desk.number c.seat.inside.desk.place.me c.args.others.me c.join.new.seat.me
    (subst (λ (l : Limits). SitsAt l c.seat.inside.desk.number Idle c.seat.inside.desk.place.me) same c.seat.invariant.place) c.join.ensures.both
    c.refresh.new.seat.me c.cut.new.seat.me c.cut.result.me c.refresh.ensures.saw c.cut.ensures.first c.cut.ensures.others)

pub returns-clause-history : goal.returns-clause-history
returns-clause-history g c =
    let tree : c.args.tree.now.limits ≡ c.tree.inside.limits = sym (ap (λ (t : Tree). t.limits) c.tree.view_is) in
    let same : c.seat.inside.limits ≡ c.tree.inside.limits = ap (λ (s : Seat). s.limits) c.seat.view_is ∙ c.requires.own.limits ∙ tree in
    c.runs_are_one_history.ensures c.seat.inside.limits (seen_of c.cut.new.seat.me) (subst (λ (l : Limits). IsSeenRun l (seen_of c.cut.new.seat.me)) (sym same)
    (first_run c.tree.inside.limits c.seat.inside.desk.number c.seat.inside.desk.place.me c.args.others.me c.join.new.seat.me
    (subst (λ (l : Limits). SitsAt l c.seat.inside.desk.number Idle c.seat.inside.desk.place.me) same c.seat.invariant.place) c.join.ensures.both
    c.refresh.new.seat.me c.cut.new.seat.me c.cut.result.me c.refresh.ensures.saw c.cut.ensures.first c.cut.ensures.others))

pub returns-clause-table : goal.returns-clause-table
returns-clause-table g c = c.cut.ensures.table ∙ c.refresh.ensures.same ∙ c.join.ensures.same ∙ ap (λ (s : Seat). s.table) c.seat.view_is ∙ c.requires.own.table

pub returns-clause-others : goal.returns-clause-others
returns-clause-others g c =
    let tree : c.args.tree.now.limits ≡ c.tree.inside.limits = sym (ap (λ (t : Tree). t.limits) c.tree.view_is) in
    let same : c.seat.inside.limits ≡ c.tree.inside.limits = ap (λ (s : Seat). s.limits) c.seat.view_is ∙ c.requires.own.limits ∙ tree in
    others_are c.tree.inside.limits c.seat.inside.desk.number c.seat.inside.desk.place.me c.args.others.me c.join.new.seat.me
    (subst (λ (l : Limits). SitsAt l c.seat.inside.desk.number Idle c.seat.inside.desk.place.me) same c.seat.invariant.place) c.join.ensures.both
    c.refresh.new.seat.me c.cut.new.seat.me c.cut.result.me c.refresh.ensures.saw c.cut.ensures.first c.cut.ensures.others
