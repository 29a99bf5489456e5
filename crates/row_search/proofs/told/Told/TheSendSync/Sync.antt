use denote.Param.Send.{IsSync, part_keyless}
use denote.RattleType.{RattleType}
use Rattle.row_search.specs.contracts.told.Told.{the_row}
use Rattle.row_search.proofs.told.Told.TheSendSync.Send.{send}

pub sync : (T : RattleType) → IsSync (the_row T)
sync T = record { shared = λ d b o κ q. part_keyless (the_row T) (send T) q d b o }
