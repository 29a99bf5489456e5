use Rattle.row_chain.proofs.Words.{◌≡◌, drop, All, contents}
use Rattle.traces.specs.chain.Chains.{right_in}
use Rattle.row_chain.proofs.chain.Chain.right.Given as goal

abbrev pub invariant-loop-newest : goal.invariant-loop-newest
invariant-loop-newest g l = record {
  same : l.pass ≡ l.initial.pass;
  there : All (λ placed. g.R.Rows.has l.rows l.initial.pass placed.row placed.content) (drop l.newest-index l.newest-items);
  right : right_in (contents (drop l.newest-index l.newest-items)) ≡ right_in l.self.records;
}
