use Rattle.map_laws.proofs.Words.{[], refl, calls_of}
use Rattle.map_laws.proofs.InOrder.{are_in_order, each_ended}
use Rattle.map_laws.proofs.Told.{told_call}
use Rattle.map_laws.proofs.call_laws.calls_are_operations.Goals as goal

pub returns : goal.returns
returns c = record {
  each = λ limits run actor place asked given is_run at. each_ended run actor 0 (calls_of actor run) place asked given (are_in_order limits [] run actor is_run refl) at;
  order = are_in_order;
  all = λ run operation is. told_call run operation.actor operation.start operation.command is;
}
