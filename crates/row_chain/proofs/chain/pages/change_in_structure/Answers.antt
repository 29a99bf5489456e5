use Rattle.row_chain.proofs.Words.{sym, subst, FitsOnPage}
use Rattle.row_search.proofs.ChangeLaws.{split_there}
use Rattle.row_chain.proofs.chain.pages.change_in_structure.Goals as goal

pub apply-requires : goal.apply-requires
apply-requires g c = subst (FitsOnPage c.args.page.now) (split_there c.args.row.now.content c.in-Some.split (sym c.in-Some.ensures.split)) c.requires.fits

pub returns-in-Some-clause-applies : goal.returns-in-Some-clause-applies
returns-in-Some-clause-applies g c =
    rw (split_there c.args.row.now.content c.in-Some.split (sym c.in-Some.ensures.split)) c.apply.ensures.applies
