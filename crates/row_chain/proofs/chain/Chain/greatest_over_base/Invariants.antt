use Rattle.row_chain.proofs.Words.{◌≡◌, take, content_in, is_left, contents}
use Rattle.row_chain.proofs.ChildWalks.{IsBest}
use Rattle.row_chain.proofs.chain.Chain.greatest_over_base.Given as goal

abbrev pub invariant-loop-place : goal.invariant-loop-place
invariant-loop-place g l = record {
  same : l.pass ≡ l.initial.pass;
  best : IsBest (content_in (contents (take l.place l.records))) (is_left l.below l.bound) l.best l.child;
}
