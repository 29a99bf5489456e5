use Rattle.row_chain.proofs.Words.{◌≡◌, drop, All, contents, is_taken}
use Rattle.row_chain.proofs.chain.walk.any_takes.Given as goal

abbrev pub invariant-loop-newest : goal.invariant-loop-newest
invariant-loop-newest g l = record {
  same : l.pass ≡ l.initial.pass;
  there : All (λ placed. g.R.Rows.has l.rows l.initial.pass placed.row placed.content) (drop l.newest-index l.newer);
  taken : is_taken (contents (drop l.newest-index l.newer)) l.key ≡ is_taken (contents l.newer) l.key;
}
