use Rattle.row_chain.proofs.Words.{ap, sym, get_or, ◌∙◌, items_said, contents, is_taken}
use Rattle.row_chain.proofs.chain.walk.is_taken.Goals as goal

pub returns-then-not-any_may_take-clause-taken : goal.returns-then-not-any_may_take-clause-taken
returns-then-not-any_may_take-clause-taken g c d = sym (c.any_may_take.ensures.none c.if-not-any_may_take.true (get_or (items_said c.args.row.now.content) c.args.place d).key)

pub returns-clause-taken : goal.returns-clause-taken
returns-clause-taken g c d = c.any_takes.ensures.taken ∙ ap (is_taken (contents c.args.newer.now)) (c.key_said-key.ensures.key d)
