use Rattle.row_chain.proofs.Words.{sym, subst, FitsOnPage}
use Rattle.row_search.proofs.ChangeLaws.{delete_there}
use Rattle.row_chain.proofs.chain.pages.change_unless_put.Goals as goal

pub apply-requires : goal.apply-requires
apply-requires g c = subst (FitsOnPage c.args.page.now) (delete_there c.args.row.now.content c.in-Some.delete (sym c.in-Some.ensures.delete)) c.requires.fits

pub returns-in-Some-clause-applies : goal.returns-in-Some-clause-applies
returns-in-Some-clause-applies g c =
    rw (delete_there c.args.row.now.content c.in-Some.delete (sym c.in-Some.ensures.delete)) c.apply.ensures.applies
