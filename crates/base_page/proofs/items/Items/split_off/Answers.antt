use Rattle.std.proofs.Common.{◌≡◌, drop, arith}
use Rattle.std.proofs.lemmas.Grind.{common_steps}
use Rattle.base_page.proofs.PlaceLaws.{AreItems-drop}
use Rattle.base_page.proofs.items.Items.split_off.Goals as goal

pub invariant_of-result : goal.invariant_of-result
invariant_of-result c =
    let back : c.loop-item.back.items ≡ drop c.args.place c.self.inside.items.items = grind (arith, common_steps) in
    rw back (AreItems-drop _ c.self.invariant c.args.place)

pub returns-clause-others : goal.returns-clause-others
returns-clause-others c = invariant_of-result c
