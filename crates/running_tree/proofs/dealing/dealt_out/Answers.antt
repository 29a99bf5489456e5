use Rattle.std.proofs.Common.{◌≡◌, ◌+◌, ◌-◌, ◌++◌, [], ◌∷◌, Some, length, length-append, sym, ap, subst, arith, ◌∙◌}
use Rattle.running_tree.proofs.Words.{slice_get, Limits, seat_at, Seat, Tree, Idle, IsSeenRun, alone, seen_of}
use Rattle.running_tree.proofs.Opened.{first_seat_at, fresh_then, deals_one, extends_one, first_left, first_extend, leaves_others, one_more, seat_is}
use Rattle.running_tree.proofs.dealing.dealt_out.Goals as goal

pub loop-number-init : goal.loop-number-init
loop-number-init g c =
    let tree : c.args.tree.now.limits ≡ c.tree.inside.limits = sym (ap (λ (t : Tree). t.limits) c.tree.view_is) in
    let some = c.tree.inside.limits.allowed.some_actor in
    let items : c.push.new.self.items ≡ c.args.first ∷ [] = c.in_ok-push.ensures.items ∙ ap (λ seats. seats ++ c.args.first ∷ []) c.in_ok-seats.ensures.items in
    record {
      table = c.requires.table;
      rest = (
        c.tree.inside.limits.actors - 1,
        omega (arith, some),
        first_left c.args.tree.now.limits c.tree.inside.limits c.args.first.seen c.args.others.me tree c.requires.others,
        first_extend c.args.tree.now.limits c.tree.inside.limits c.args.first.seen tree c.requires.each,
      );
      count = ap length items;
      dealt = λ n below. subst (λ items. slice_get items n ≡ Some (seat_at c.args.tree.now c.args.first.seen n)) (sym items)
          (first_seat_at c.args.tree.now c.args.first c.requires.own c.requires.first n below);
    }

pub cut-others-requires : goal.cut-others-requires
cut-others-requires g c =
    let same = c.loop-number.invariant.table ∙ sym (ap (λ (t : Tree). t.table) c.tree.view_is) in
    record { table = record { same = same; wide = c.tree.invariant.wide; own = c.tree.invariant.own } }

pub invariant_of-push : goal.invariant_of-push
invariant_of-push g c =
    let (left, all, is, each) = c.loop-number.invariant.rest in
    let test = rw c.limits-limits.ensures at c.loop-number-test.true in
    let tree : c.args.tree.now.limits ≡ c.tree.inside.limits = sym (ap (λ (t : Tree). t.limits) c.tree.view_is) in
    let same : c.first.inside.limits ≡ c.tree.inside.limits = ap (λ (s : Seat). s.limits) c.first.view_is ∙ c.requires.own.limits ∙ tree in
    let seen : seen_of c.first.inside.desk.place.me ≡ c.args.first.seen = ap (λ (s : Seat). s.seen) c.first.view_is in
    let alone_is : c.cut-others.new.seat.me ≡ (alone c.tree.inside.limits c.loop-number.number c.args.first.seen Idle, []) = deals_one c.tree.inside.limits
    c.args.first.seen c.loop-number.number left c.loop-number.rest.me c.cut-others.new.seat.me test all is c.cut-others.ensures.first
    in
    rw (c.of.ensures, c.limits-limits.ensures)
    (fresh_then c.seats_last.ensures c.tree.inside.limits c.loop-number.number c.args.first.seen c.replace-place.result.me c.in-Ok.actor
    c.idle_actors_rest.ensures (c.empty_run_is_lawful.ensures c.tree.inside.limits)
    (subst (IsSeenRun c.tree.inside.limits) seen
    (subst (λ (l : Limits). IsSeenRun l (seen_of c.first.inside.desk.place.me)) same (record { lawful = c.first.invariant.seated.lawful; begins = c.first.invariant.begins })))
    (extends_one c.tree.inside.limits c.args.first.seen c.loop-number.number left test all each) test
    (ap (λ place. place.me) c.replace-place.ensures.value ∙ alone_is) (rw c.limits-limits.ensures at c.in-Ok.ensures.ok))

pub loop-number-preserved : goal.loop-number-preserved
loop-number-preserved g c =
    let (left, all, is, each) = c.loop-number.invariant.rest in
    let test = rw c.limits-limits.ensures at c.loop-number-test.true in
    let tree : c.args.tree.now.limits ≡ c.tree.inside.limits = sym (ap (λ (t : Tree). t.limits) c.tree.view_is) in
    let alone_is : c.cut-others.new.seat.me ≡ (alone c.tree.inside.limits c.loop-number.number c.args.first.seen Idle, []) = deals_one c.tree.inside.limits
    c.args.first.seen c.loop-number.number left c.loop-number.rest.me c.cut-others.new.seat.me test all is c.cut-others.ensures.first
    in
    let mine : c.replace-place.result.me ≡ (alone c.tree.inside.limits c.loop-number.number c.args.first.seen Idle, []) = ap (λ place. place.me) c.replace-place.ensures.value ∙ alone_is in
    let table : c.replace-place.result.table_id ≡ c.args.tree.now.table = ap (λ place. place.table_id) c.replace-place.ensures.value ∙ c.cut-others.ensures.same ∙ c.loop-number.invariant.table in
    let (fewer, sum, others, extend) = leaves_others c.tree.inside.limits c.args.first.seen c.loop-number.number left c.loop-number.rest.me
    c.cut-others.result.me test all is each c.cut-others.ensures.others in
    record {
      table = ap (λ place. place.table_id) c.replace-place.ensures.after ∙ c.cut-others.ensures.table ∙ c.loop-number.invariant.table;
      rest = (fewer, sum, ap (λ place. place.me) c.replace-place.ensures.after ∙ others, extend);
      count = ap length c.in_ok-push-2.ensures.items ∙ length-append c.loop-number.seats.items _ ∙ ap (λ n. n + 1) c.loop-number.invariant.count;
      dealt = λ n below. subst (λ items. slice_get items n ≡ Some (seat_at c.args.tree.now c.args.first.seen n)) (sym c.in_ok-push-2.ensures.items)
          (one_more (seat_at c.args.tree.now c.args.first.seen) c.loop-number.seats.items c.loop-number.number _ c.loop-number.invariant.count c.loop-number.invariant.dealt
          (seat_is c.args.tree.now c.args.first.seen c.loop-number.number c.of.result c.replace-place.result.table_id c.replace-place.result.me
          (c.of.ensures ∙ c.limits-limits.ensures ∙ sym tree) table (rw (c.of.ensures, c.limits-limits.ensures) mine)) n below);
    }

pub returns : goal.returns
returns g c =
    let (left, all, is, each) = c.loop-number.invariant.rest in
    let own : c.args.tree.now.limits.actors ≡ c.tree.inside.limits.actors = sym (ap (λ (t : Tree). t.limits.actors) c.tree.view_is) in
    let end = rw c.limits-limits.ensures at c.loop-number-test.false in
    let many : c.loop-number.number ≡ c.tree.inside.limits.actors = omega (arith, all, end) in
    record {
      count = c.loop-number.invariant.count ∙ many ∙ sym own;
      each = λ actor below. c.loop-number.invariant.dealt actor (omega (arith, below, own, many));
    }
