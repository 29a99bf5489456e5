use Rattle.std.proofs.Common.{◌≡◌, sym, ap, subst, ◌∙◌}
use Rattle.row_chain.specs.Placed.{PlacedChain}
use Rattle.traces.specs.chain.Chains.{IsChainFrom}
use Rattle.traces.specs.chain.Fitted.{IsPageChain}
use Rattle.structure_changes.specs.Reads.{chain_of}
use Rattle.layer_tests.specs.Held.{page_record}
use Rattle.layer_tests.proofs.built.shelf.Shelf.tried.Goals as goal

pub receive-requires-clause-chain : goal.receive-requires-clause-chain
receive-requires-clause-chain g c = subst IsPageChain (ap (λ (p : PlacedChain). p.records) (sym (c.fill.ensures.part c.if-not-fill.false))) c.keeps_rules.ensures

pub returns : goal.returns
returns g c =
    let page = c.args.page.now in
    let same : chain_of c.receive.new.self ≡ chain_of page = c.receive.ensures.chain ∙ c.fill.ensures.part c.if-not-fill.false in (
      same,
      record {
        seen = page_record page;
        leads = subst (λ (p : PlacedChain). IsChainFrom (page_record page) p.head p.records) (sym same) (c.fill.ensures.read c.if-not-fill.false);
        stand = c.requires;
      },
    )
