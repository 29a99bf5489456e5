use Rattle.row_chain.proofs.Words.{sym, subst, FitsOnPage}
use Rattle.row_chain.proofs.chain.pages.change_decoded.Goals as goal

pub apply-requires : goal.apply-requires
apply-requires g c = subst (FitsOnPage c.args.page.now) (sym c.record.ensures.record) c.requires.fits

pub returns-clause-applies : goal.returns-clause-applies
returns-clause-applies g c = rw (← c.record.ensures.record) c.apply.ensures.applies
