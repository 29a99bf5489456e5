use Rattle.row_chain.proofs.Words.{◌≡◌, true, AllWithin, Item, items_said, contents, is_named}
use Rattle.row_chain.proofs.chain.walk.winner.Given as goal

abbrev pub invariant-loop-place : goal.invariant-loop-place
invariant-loop-place g l = record {
  same : l.pass ≡ l.initial.pass;
  named : AllWithin (λ (item : Item). is_named (contents l.newer) item.key ≡ true) (items_said l.row.content) l.place l.count;
}
