use Rattle.traces.proofs.FittedLaws.{page_of, ruled}
use Rattle.traces.proofs.trace_laws.chains_make_pages.Goals as goal

pub returns : goal.returns
returns c chain is = let made = page_of chain is.fitted in (made.0, made.1, ruled chain made.0 is.fitted made.1)
