use Rattle.map_laws.proofs.RealTime.{apart_in_history}
use Rattle.map_laws.proofs.later_calls.later_calls_take_effect_later.Goals as goal

pub returns : goal.returns
returns c = λ old first command budget given is later new asked comes same history. apart_in_history old first command budget given same is later new asked comes history
