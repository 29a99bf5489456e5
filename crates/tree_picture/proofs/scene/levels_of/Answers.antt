use Rattle.std.proofs.Common.{[], ◌∷◌, ◌+◌, ap, length, sym, ◌∙◌, arith}
use Rattle.std.proofs.lemmas.List.{length-append}
use Rattle.tree_picture.proofs.Descents.{is_few, levels_end, levels_more, stands_next}
use Rattle.tree_picture.proofs.scene.levels_of.Goals as goal

pub level_from-requires : goal.level_from-requires
level_from-requires g c =
    let at = c.loop.invariant.down c.requires.stands in
    record { limits = c.requires.limits; stands = (at.number, stands_next _ _ c.requires.stands _ _ _ at) }

pub returns-in-None-clause-are : goal.returns-in-None-clause-are
returns-in-None-clause-are g c =
    let at = c.loop.invariant.down c.requires.stands in
    rw c.in_ok-push.ensures.items
    (levels_end _ _ c.requires.stands _ _ _ at c.in_ok-level.level (c.in_ok-level.ensures at.number (stands_next _ _ c.requires.stands _ _ _ at)) (sym c.first_child-child.ensures ∙ c.in-None.is))

pub loop-preserved : goal.loop-preserved
loop-preserved g c = record {
  down = λ has.
      let at = c.loop.invariant.down has in
      rw c.in_ok-push.ensures.items
      (levels_more _ _ has _ _ _ at c.in_ok-level.level (c.in_ok-level.ensures at.number (stands_next _ _ has _ _ _ at)) _ (sym c.first_child-child.ensures ∙ c.in-Some.is));
  counted = ap length c.in_ok-push.ensures.items ∙ length-append c.loop.levels.items (c.in_ok-level.level ∷ []) ∙ ap (λ n. n + 1) c.loop.invariant.counted;
}

pub unreachable-requires : goal.unreachable-requires
unreachable-requires g c =
    let few = is_few _ _ c.requires.stands _ _ _ (c.loop.invariant.down c.requires.stands) in
    omega (arith, few, c.loop-test.false)
