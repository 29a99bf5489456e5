use Rattle.row_chain.proofs.Words.{◌≡◌, ◌++◌, drop, All, Record, content_in, is_named, contents}
use Rattle.std.proofs.Common.{List}
use Rattle.row_chain.proofs.chain.search.newest_of.Given as goal

abbrev pub invariant-loop-newest : goal.invariant-loop-newest
invariant-loop-newest g l = record {
  same : l.pass ≡ l.initial.pass;
  there : All (λ placed. g.R.Rows.has l.rows l.initial.pass placed.row placed.content) (drop l.newest-index l.records);
  said : (under : List Record) → content_in (contents (drop l.newest-index l.records) ++ under) l.key ≡ content_in (contents l.records ++ under) l.key;
  named : is_named (contents (drop l.newest-index l.records)) l.key ≡ is_named (contents l.records) l.key;
}
