use Rattle.running_tree.proofs.Words.{[], sym, ap, ◌∙◌, Limits, Seat, dealt, other_parts}
use Rattle.running_tree.proofs.Opened.{at_fresh, fresh_extend, fresh_left}
use Rattle.running_tree.proofs.tree.Tree.opened.Goals as goal

pub dealt_out-requires-clause-others : goal.dealt_out-requires-clause-others
dealt_out-requires-clause-others g c =
    fresh_left c.in_ok-tree.tree.limits c.in_ok-tree.first.seen c.in_ok-tree.others.me (ap (λ (s : Seat). s.seen) c.in_ok-tree.ensures.first)
    (c.in_ok-tree.ensures.others ∙ ap (λ (l : Limits). (other_parts (dealt l), [])) (sym c.in_ok-tree.ensures.limits))

pub dealt_out-requires-clause-each : goal.dealt_out-requires-clause-each
dealt_out-requires-clause-each g c = fresh_extend c.in_ok-tree.tree.limits c.in_ok-tree.first.seen (ap (λ (s : Seat). s.seen) c.in_ok-tree.ensures.first)

pub returns-clause-seats : goal.returns-clause-seats
returns-clause-seats g c = at_fresh c.in_ok-tree.tree c.in_ok-tree.first.seen c.in_ok-seats.seats.items (ap (λ (s : Seat). s.seen) c.in_ok-tree.ensures.first) c.in_ok-seats.ensures
