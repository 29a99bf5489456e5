use Rattle.rounds.proofs.Words.{List, arith, Record}
use Rattle.std.proofs.lemmas.Bool.{leb-false, leb-true}
use Rattle.rounds.proofs.Turning.{few_by_count, few_by_most, many_by_count, records_of}
use Rattle.rounds.proofs.write_round.WriteRound.has_merge_room.Goals as goal

pub returns-then-most_items-le-MERGE_ITEMS-clause-yes : goal.returns-then-most_items-le-MERGE_ITEMS-clause-yes
returns-then-most_items-le-MERGE_ITEMS-clause-yes g c = λ told.
    let chain : List Record = c.chain-chain.result.now.records in
    rw (records_of c.chain-chain.ensures c.page.ensures) at
    (few_by_most chain c.most_items.result c.most_items.ensures c.keeps_rules.ensures.fitted c.if-most_items-le-MERGE_ITEMS.true)

pub returns-clause-yes : goal.returns-clause-yes
returns-clause-yes g c = λ told.
    let chain : List Record = c.chain-chain.result.now.records in
    let count = c.item_count.result in
    rw (records_of c.chain-chain.ensures c.page.ensures) at
    (few_by_count chain count c.item_count.ensures.count c.keeps_rules.ensures.fitted (leb-true count 16 told))

pub returns-clause-no : goal.returns-clause-no
returns-clause-no g c = λ told.
    let chain : List Record = c.chain-chain.result.now.records in
    let count = c.item_count.result in
    let more = leb-false count 16 told in
    rw (records_of c.chain-chain.ensures c.page.ensures) at
    (many_by_count chain count c.item_count.ensures.count c.keeps_rules.ensures.fitted (omega (arith, more)))
