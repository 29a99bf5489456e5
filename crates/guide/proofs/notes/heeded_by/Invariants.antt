use Rattle.std.specs.Prelude.{Some}
use Rattle.guide.proofs.notes.heeded_by.Given as goal

abbrev pub ghosts-tell_and_heed : goal.ghosts-tell_and_heed
ghosts-tell_and_heed g a = record { tree = Some a.tree.now }
