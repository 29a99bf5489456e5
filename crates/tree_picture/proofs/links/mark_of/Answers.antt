use Rattle.std.proofs.Common.{Bool, subst, sym, ◌∙◌}
use Rattle.tree_picture.specs.Marks.{HasTermOf}
use Rattle.tree_picture.proofs.links.mark_of.Goals as goal

pub returns-in-None : goal.returns-in-None
returns-in-None c = (
  sym c.page.ensures.removed ∙ sym c.is_removed.ensures ∙ c.if-is_removed.false,
  λ is. c.if-pid-root.false (c.pid.ensures ∙ is),
  rw c.pid-2.ensures at c.in-None.ensures,
)
