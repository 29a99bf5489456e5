use Rattle.std.proofs.lemmas.List.{append-nil}
use Rattle.byte_streams.proofs.Showing.{no_text, shows_then}
use Rattle.byte_streams.proofs.Showing.{writes_whole}
use Rattle.byte_streams.proofs.traits.outputs_add_up.Goals as goal

pub returns-clause-none : goal.returns-clause-none
returns-clause-none c = no_text

pub returns-clause-both : goal.returns-clause-both
returns-clause-both c a b d t u p q = shows_then p q

pub returns-clause-whole : goal.returns-clause-whole
returns-clause-whole c a b t p = writes_whole a b t (rw append-nil p)
