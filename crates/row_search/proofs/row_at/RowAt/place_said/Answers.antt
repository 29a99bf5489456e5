use Rattle.std.proofs.Common.{sym, ◌∙◌}
use Rattle.row_search.proofs.SaidItems.{are_one, at_it, before_it, behind_it, standing}
use Rattle.row_search.proofs.row_at.RowAt.place_said.Goals as goal

pub returns-then-not-is_term-clause-found : goal.returns-then-not-is_term-clause-found
returns-then-not-is_term-clause-found g c = rw (standing c.args.self.now.content (sym c.is_term.ensures ∙ c.if-not-is_term.true)) c.place_of.ensures.found

pub returns-then-not-is_term-clause-absent : goal.returns-then-not-is_term-clause-absent
returns-then-not-is_term-clause-absent g c = rw (standing c.args.self.now.content (sym c.is_term.ensures ∙ c.if-not-is_term.true)) c.place_of.ensures.absent

pub returns-then-not-is_term-clause-items : goal.returns-then-not-is_term-clause-items
returns-then-not-is_term-clause-items g c = rw (standing c.args.self.now.content (sym c.is_term.ensures ∙ c.if-not-is_term.true)) c.place_of.ensures.items

pub returns-in-Less-clause-absent : goal.returns-in-Less-clause-absent
returns-in-Less-clause-absent g c = behind_it c.args.self.now.content (sym c.is_term.ensures ∙ c.if-not-is_term.false) c.args.key.now c.in-Less.ensures.compared

pub returns-in-Less-clause-items : goal.returns-in-Less-clause-items
returns-in-Less-clause-items g c = are_one c.args.self.now.content (sym c.is_term.ensures ∙ c.if-not-is_term.false)

pub returns-in-Equal-clause-found : goal.returns-in-Equal-clause-found
returns-in-Equal-clause-found g c = at_it c.args.self.now.content (sym c.is_term.ensures ∙ c.if-not-is_term.false) c.args.key.now c.in-Equal.ensures.compared

pub returns-in-Equal-clause-items : goal.returns-in-Equal-clause-items
returns-in-Equal-clause-items g c = are_one c.args.self.now.content (sym c.is_term.ensures ∙ c.if-not-is_term.false)

pub returns-in-Greater-clause-absent : goal.returns-in-Greater-clause-absent
returns-in-Greater-clause-absent g c = before_it c.args.self.now.content (sym c.is_term.ensures ∙ c.if-not-is_term.false) c.args.key.now c.in-Greater.ensures.compared

pub returns-in-Greater-clause-items : goal.returns-in-Greater-clause-items
returns-in-Greater-clause-items g c = are_one c.args.self.now.content (sym c.is_term.ensures ∙ c.if-not-is_term.false)
