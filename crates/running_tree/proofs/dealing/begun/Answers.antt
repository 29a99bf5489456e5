use Rattle.running_tree.proofs.Words.{[], refl, sym, ap, subst, ◌∙◌, opening, IsLawfulRun, Running, Mine, dealt, other_parts}
use Rattle.running_tree.proofs.Opened.{deals_first, fresh, is_tree, seat_is}
use Rattle.running_tree.proofs.dealing.begun.Goals as goal

pub of_words-requires : goal.of_words-requires
of_words-requires g c =
    subst (λ words. Running c.args.limits (IsLawfulRun c.args.limits) (opening words [] (dealt c.args.limits)))
    (sym (c.as_slice.ensures.value ∙ c.in_ok-words.ensures)) (c.opening_keeps.ensures c.args.limits (c.empty_run_is_lawful.ensures c.args.limits))

pub cut-others-requires : goal.cut-others-requires
cut-others-requires g c =
    let tree = is_tree c.args.limits c.in_ok-table.table.shared.key c.in_ok-table.table.shared.table_id c.as_slice.result.now c.in_ok-table.ensures.0
    c.in_ok-table.ensures.1 c.in_ok-table.ensures.5 (c.as_slice.ensures.value ∙ c.in_ok-words.ensures)
    (c.opening_keeps.ensures c.args.limits (c.empty_run_is_lawful.ensures c.args.limits)) in
    rw c.of-layout.ensures record { table = record { same = c.in_ok-table.ensures.2; wide = tree.wide; own = tree.own } }

pub invariant_of-first : goal.invariant_of-first
invariant_of-first g c =
    rw c.of.ensures
    (fresh c.args.limits 0 c.cut-others.new.seat.me c.in-Ok.actor c.idle_actors_rest.ensures (c.empty_run_is_lawful.ensures c.args.limits) c.args.limits.allowed.some_actor
    (deals_first c.args.limits c.in_ok-table.place.me c.cut-others.new.seat.me c.in_ok-table.ensures.4 c.cut-others.ensures.first) c.in-Ok.ensures.ok)

pub invariant_of-result : goal.invariant_of-result
invariant_of-result g c =
    rw c.of-layout.ensures
    (is_tree c.args.limits c.in_ok-table.table.shared.key c.in_ok-table.table.shared.table_id c.as_slice.result.now c.in_ok-table.ensures.0
    c.in_ok-table.ensures.1 c.in_ok-table.ensures.5 (c.as_slice.ensures.value ∙ c.in_ok-words.ensures)
    (c.opening_keeps.ensures c.args.limits (c.empty_run_is_lawful.ensures c.args.limits)))

pub returns-clause-first : goal.returns-clause-first
returns-clause-first g c =
    rw (c.of.ensures, c.of-layout.ensures)
    (seat_is (record { limits = c.args.limits; table = c.in_ok-table.table.shared.table_id }) [] 0 c.args.limits c.cut-others.new.seat.table_id
    c.cut-others.new.seat.me refl (c.cut-others.ensures.same ∙ c.in_ok-table.ensures.2)
    (deals_first c.args.limits c.in_ok-table.place.me c.cut-others.new.seat.me c.in_ok-table.ensures.4 c.cut-others.ensures.first))

pub returns-clause-table : goal.returns-clause-table
returns-clause-table g c = c.cut-others.ensures.table ∙ c.in_ok-table.ensures.2

pub returns-clause-others : goal.returns-clause-others
returns-clause-others g c = c.cut-others.ensures.others ∙ ap (λ (m : Mine). (other_parts m.0, [])) c.in_ok-table.ensures.4
