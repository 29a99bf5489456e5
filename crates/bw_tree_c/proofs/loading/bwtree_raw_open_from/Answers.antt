use Rattle.std.proofs.Common.{◌∙◌, subst, sym}
use Rattle.bw_tree_c.specs.Loaded.{HasOpenedWith}
use Rattle.bw_tree_c.proofs.loading.bwtree_raw_open_from.Goals as goal

pub returns-in-Ok-clause-ok : goal.returns-in-Ok-clause-ok
returns-in-Ok-clause-ok c ok = subst (HasOpenedWith c.args.limits.now c.args.pairs.now) (sym c.of.ensures) (c.in-Ok.ensures.short, c.in-Some.limits, c.in-Some.ensures, c.in-Ok.ensures.ok)

pub returns-in-Err-clause-full : goal.returns-in-Err-clause-full
returns-in-Err-clause-full c told = (c.in-Some.limits, c.in-Some.ensures, c.in-Err.ensures.err.full (sym c.alone-in-Err.ensures ∙ told))

pub returns-in-Err-clause-spent : goal.returns-in-Err-clause-spent
returns-in-Err-clause-spent c told = (c.in-Some.limits, c.in-Some.ensures, c.in-Err.ensures.err.spent (sym c.alone-in-Err.ensures ∙ told))
