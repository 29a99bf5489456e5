use Rattle.filming.proofs.PageLaws.{back_told, page_told}
use Rattle.filming.proofs.laws.pages_are_told.Goals as goal

pub returns-clause-page : goal.returns-clause-page
returns-clause-page c = page_told

pub returns-clause-back : goal.returns-clause-back
returns-clause-back c = back_told c.keys_have_neighbours.ensures.first c.keys_have_neighbours.ensures.before c.keys_have_neighbours.ensures.after
