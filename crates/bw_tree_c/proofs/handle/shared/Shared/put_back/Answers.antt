use Rattle.bw_tree_c.proofs.Handing.{in_use_of}
use Rattle.bw_tree_c.proofs.Stopping.{begun_closed, begun_open, begun_to_end, begun_waits}
use Rattle.bw_tree_c.proofs.handle.shared.Shared.put_back.Goals as goal

pub stop-requires : goal.stop-requires
stop-requires c = record { closing = (c.requires.0, c.requires.1, begun_open c.args.self.now c.requires.0 c.requires.1 c.args.inside c.args.hand c.requires.2 c.in-Nothing.is) }

pub keep-requires-clause-closing : goal.keep-requires-clause-closing
keep-requires-clause-closing c = (
  c.requires.0,
  c.requires.1,
  c.args.inside,
  begun_to_end c.args.self.now c.requires.0 c.requires.1 c.args.inside c.args.hand c.requires.2 c.in_default.not-Nothing,
)

pub keep-requires-clause-waits : goal.keep-requires-clause-waits
keep-requires-clause-waits c = begun_waits c.args.self.now c.requires.0 c.requires.1 c.args.inside c.args.hand c.requires.2 c.in_default.not-Nothing

pub returns-in-Nothing-clause-open : goal.returns-in-Nothing-clause-open
returns-in-Nothing-clause-open c = λ since may begun.
    let mid = begun_open c.args.self.now since may c.args.inside c.args.hand begun c.in-Nothing.is in
    in_use_of c.args.self.now since may 0 _ _ c.args.hand c.stop.result.receipt mid (c.stop.ensures.stopped since may mid)

pub returns-in_default-clause-open : goal.returns-in_default-clause-open
returns-in_default-clause-open c = λ since may begun.
    let mid = begun_closed c.args.self.now since may c.args.inside c.args.hand begun c.in_default.not-Nothing in
    in_use_of c.args.self.now since may 1 _ _ c.args.hand c.keep.result.receipt mid (c.keep.ensures.looked since may c.args.inside mid)
