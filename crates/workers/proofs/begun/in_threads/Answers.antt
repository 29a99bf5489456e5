use denote.Param.Send.{sendable}
use Rattle.workers.proofs.begun.in_threads.Goals as goal

pub scoped-requires : goal.scoped-requires
scoped-requires g c =
    let given = c.requires in
    let bounds = c.type_bounds in record {
      at = λ scope. (
        given.own,
        (
          given.idle,
          (
            given.room,
            (
              given.empty,
              (
                given.space,
                (
                  search sendable,
                  record { shared = bounds.sync-R.shared },
                  record { shared = bounds.sync-G.shared },
                  record { shared = bounds.sync-A.shared },
                  record { frees = bounds.frees-A-Allocator.frees },
                ),
              ),
            ),
          ),
        ),
      );
    }
