use denote.Param.Send.{IsSend}
use denote.RattleType.{RattleType}
use Rattle.row_search.specs.contracts.told.Told.{the_row}

pub send : (T : RattleType) → IsSend (the_row T)
send T = record { owned = λ d vs. ((λ vss. (tt, ((λ uss. (tt, tt)), tt))), tt); leaving = λ k f vs. tt }
