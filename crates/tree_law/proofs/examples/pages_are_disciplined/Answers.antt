use Rattle.tree_law.proofs.runs.PagesRun.{back_page_disciplined, upkeep_disciplined, last_page_disciplined}
use Rattle.tree_law.proofs.examples.pages_are_disciplined.Goals as goal

pub returns-clause-upkeep : goal.returns-clause-upkeep
returns-clause-upkeep c = upkeep_disciplined

pub returns-clause-last_page : goal.returns-clause-last_page
returns-clause-last_page c = last_page_disciplined

pub returns-clause-back_page : goal.returns-clause-back_page
returns-clause-back_page c = back_page_disciplined
