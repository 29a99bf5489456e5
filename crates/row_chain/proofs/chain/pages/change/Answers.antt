use Rattle.row_chain.proofs.Words.{sym, subst, FitsOnPage}
use Rattle.row_search.proofs.ChangeLaws.{put_there}
use Rattle.row_chain.proofs.chain.pages.change.Goals as goal

pub apply-requires : goal.apply-requires
apply-requires g c = subst (FitsOnPage c.args.page.now) (put_there c.args.row.now.content c.in-Some.put (sym c.in-Some.ensures.put)) c.requires.fits

pub returns-in-Some-clause-applies : goal.returns-in-Some-clause-applies
returns-in-Some-clause-applies g c =
    rw (put_there c.args.row.now.content c.in-Some.put (sym c.in-Some.ensures.put)) c.apply.ensures.applies
