use Rattle.row_chain.proofs.Words.{sym, ◌∙◌, items_of}
use Rattle.row_chain.proofs.CountLaws.{count_all, count_cut}
use Rattle.row_chain.proofs.chain.count.items_under.Goals as goal

pub returns-in-None-clause-count : goal.returns-in-None-clause-count
returns-in-None-clause-count g c = rw c.in-None.is (c.item_count.ensures.count ∙ sym (count_all (items_of c.args.row.now.content)))

pub returns-in-Some-clause-count : goal.returns-in-Some-clause-count
returns-in-Some-clause-count g c = rw c.in-Some.is (sym (count_cut (items_of c.args.row.now.content) c.in-Some.bound.now c.items_below.result c.items_below.ensures.cut))
