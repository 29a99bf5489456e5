use Rattle.traces.proofs.Updated.{put_fits, delete_fits}
use Rattle.traces.proofs.trace_laws.updates_fit.Goals as goal

pub returns-clause-put : goal.returns-clause-put
returns-clause-put c = put_fits

pub returns-clause-delete : goal.returns-clause-delete
returns-clause-delete c = delete_fits
