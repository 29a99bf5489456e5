use Rattle.progress.proofs.Alone.{lone_end}
use Rattle.progress.proofs.Causes.{readers_end}
use Rattle.progress.proofs.Later.{operations_end}
use Rattle.progress.proofs.Together.{lock_free}
use Rattle.progress.proofs.until_removal.runs_progress_until_removal.Goals as goal

pub returns : goal.returns
returns c limits entries run keeps direct changes = record {
  readers = readers_end limits entries run keeps direct;
  ends = operations_end limits entries run keeps direct;
  alone = lone_end limits entries run keeps direct changes;
  together = lock_free limits entries run keeps direct changes;
}
