use Rattle.sweep.proofs.Words.{stage_of, refl}
use Rattle.sweep.proofs.Agreeing.{read_agrees}
use Rattle.sweep.proofs.limbo_laws.limbos_are_kept.Goals as goal

pub returns-clause-new : goal.returns-clause-new
returns-clause-new c = λ limits actor. record { lists = record { rows = refl; pids = refl }; rows = λ row. tt; pids = λ pid. tt }

pub returns-clause-read : goal.returns-clause-read
returns-clause-read c = λ limits actor epoch limbo k kept fits. record {
  lists = kept.lists;
  rows = λ row. read_agrees limits actor epoch k.limbo.epoch (stage_of limbo.rows row) (k.limbo.rows row) fits.2 (kept.rows row);
  pids = λ pid. read_agrees limits actor epoch k.limbo.epoch (stage_of limbo.pids pid) (k.limbo.pids pid) fits.2 (kept.pids pid);
}
