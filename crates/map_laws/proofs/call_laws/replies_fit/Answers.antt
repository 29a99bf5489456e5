use Rattle.map_laws.proofs.Fitting.{call_fits, reply_fits}
use Rattle.map_laws.proofs.call_laws.replies_fit.Goals as goal

pub returns : goal.returns
returns c = record {
  operations = λ limits turns run operation done given linear is ends. reply_fits limits turns run linear operation done given is ends;
  calls = λ limits turns run actor place asked given linear at. call_fits limits turns run linear actor place asked given at;
}
