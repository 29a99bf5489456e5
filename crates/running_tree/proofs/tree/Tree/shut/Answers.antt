use Rattle.running_tree.proofs.Words.{◌≤◌, ◌∙◌, length, sym, subst, ClosedTree, IsClosedWith, Tree}
use Rattle.running_tree.proofs.Leaving.{by_run, closes}
use Rattle.running_tree.proofs.Listing.{first_near}
use Rattle.running_tree.proofs.tree.Tree.shut.Goals as goal

pub invariant_of-result : goal.invariant_of-result
invariant_of-result g c =
    let many : c.self.inside.limits.actors ≤ length c.args.seats.items = subst (λ (t : Tree). t.limits.actors ≤ length c.args.seats.items) (sym c.self.view_is) c.requires.all in
    rw c.limits.ensures
    record {
      full = c.close_with-words.ensures.values.0;
      none = c.close_with-words.ensures.counts.1 ∙ c.self.invariant.slots;
      left = by_run c.self.inside.limits c.self.inside.table.shared.key c.self.invariant.own c.closing_spells.ensures c.args.seats.items c.joined-whole.result.me.0 c.joined-whole.result.id
          c.close_with-words.result.words.items c.close_with-words.result.slots.items many c.joined-whole.ensures.parts c.close_with-words.ensures.values.2;
      near = first_near (record { limits = c.self.inside.limits; words = c.close_with-words.result.words.items });
    }

pub returns : goal.returns
returns g c =
    let many : c.self.inside.limits.actors ≤ length c.args.seats.items = subst (λ (t : Tree). t.limits.actors ≤ length c.args.seats.items) (sym c.self.view_is) c.requires.all in
    let left : ClosedTree = record { limits = c.self.inside.limits; words = c.close_with-words.result.words.items } in
    rw c.limits.ensures
    (subst (λ (t : Tree). IsClosedWith t.limits c.args.seats.items left) c.self.view_is
    (closes c.self.inside.limits c.self.inside.table.shared.key c.self.invariant.own c.closing_spells.ensures c.args.seats.items c.joined-whole.result.me.0 c.joined-whole.result.id
    c.close_with-words.result.words.items c.close_with-words.result.slots.items many c.joined-whole.ensures.parts c.close_with-words.ensures.values.2
    c.runs_are_one_history.ensures))

pub joined-whole-requires-clause-own : goal.joined-whole-requires-clause-own
joined-whole-requires-clause-own g c = rw (← c.self.view_is) at c.requires.own
