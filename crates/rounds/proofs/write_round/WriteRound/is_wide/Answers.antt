use Rattle.rounds.proofs.Words.{List, arith, Record}
use Rattle.std.proofs.lemmas.Bool.{leb-true, le-leb}
use Rattle.std.specs.Bool.{Decides}
use Rattle.std.proofs.Math.Dec.{leb}
use Rattle.structure_changes.specs.Sizes.{HasManyItems}
use Rattle.rounds.proofs.Turning.{count_of_many, many_by_count, records_of}
use Rattle.rounds.proofs.write_round.WriteRound.is_wide.Goals as goal

pub returns-clause-wide : goal.returns-clause-wide
returns-clause-wide g c =
    let chain : List Record = c.chain-chain.result.now.records in
    let count = c.item_count.result in
    let decides : Decides (leb 16 count) (HasManyItems chain) = (
      λ many. many_by_count chain count c.item_count.ensures.count c.keeps_rules.ensures.fitted (leb-true 16 count many),
      λ many. le-leb 16 count (count_of_many chain count c.item_count.ensures.count many),
    ) in
    rw (records_of c.chain-chain.ensures c.page.ensures) at decides

pub returns-then-most_items-lt-MANY_ITEMS-clause-wide : goal.returns-then-most_items-lt-MANY_ITEMS-clause-wide
returns-then-most_items-lt-MANY_ITEMS-clause-wide g c =
    rw (← records_of c.chain-chain.ensures c.page.ensures) (
      λ no. cc,
      λ many. let most = c.most_items.ensures many.0 many.1 in let long = many.2 in let less = c.if-most_items-lt-MANY_ITEMS.true in absurd (omega arith),
    )
