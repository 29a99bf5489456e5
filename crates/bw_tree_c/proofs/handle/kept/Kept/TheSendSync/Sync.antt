use denote.Param.Send.{IsSync, part_keyless}
use Rattle.bw_tree_c.specs.contracts.handle.kept.Kept.{the_row}
use Rattle.bw_tree_c.proofs.handle.kept.Kept.TheSendSync.Send.{send}

pub sync : IsSync the_row
sync = record { shared = λ d b o κ q. part_keyless the_row send q d b o }
