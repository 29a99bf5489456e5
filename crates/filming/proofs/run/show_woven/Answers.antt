use Rattle.std.proofs.Common.{[], refl}
use Rattle.byte_streams.proofs.Showing.{no_text}
use Rattle.filming.proofs.run.show_woven.Goals as goal

pub returns-in-Some : goal.returns-in-Some
returns-in-Some g c = rw c.in-Some.is c.show_taken.ensures

pub returns-in-None : goal.returns-in-None
returns-in-None g c = ([], rw (c.in-None.is, c.if-read_failed.true) (refl, refl), no_text _)
