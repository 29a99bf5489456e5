use Rattle.table_rule.proofs.Words.{None, Place}
use Rattle.table_rule.proofs.placing.place_row.Given as goal

abbrev pub ghosts-place_header : goal.ghosts-place_header
ghosts-place_header g a = record { step = Place a.placed.now.row a.placed.now.content.now; begun = None; reply = None }
