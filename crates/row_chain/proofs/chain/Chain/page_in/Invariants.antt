use Rattle.row_chain.proofs.Words.{◌≡◌, drop, Makes}
use Rattle.row_chain.proofs.chain.Chain.page_in.Given as goal

abbrev pub invariant-loop-place : goal.invariant-loop-place
invariant-loop-place g l = record {
  same : l.pass ≡ l.initial.pass;
  makes : Makes (drop l.place l.self.records) l.page;
}
