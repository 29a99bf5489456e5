use Rattle.row_chain.proofs.Words.{◌≡◌, ◌++◌, length, drop, map, sym, ap, ◌∙◌, arith, drop_all, PlacedRecord, PlacedChain}
use Rattle.std.proofs.Common.{ℕ, List, []}
use Rattle.std.proofs.lemmas.List.{append-nil}
use Rattle.traces.specs.chain.Chains.{chain_rows}
use Rattle.row_chain.proofs.Standing.{length-contents}
use Rattle.row_chain.proofs.chain.Chain.rows.Goals as goal

pub loop-record-init : goal.loop-record-init
loop-record-init g c =
    let all = length-contents c.as_slice-record-items.result.now c.args.self.now.records (c.as_slice-record-items.ensures.records ∙ ap (λ (chain : PlacedChain). chain.records) c.self.view_is) in
    let short = c.keeps_rules.ensures.short in
    let none = c.new-rows.ensures in
    let empty : length c.new-rows.result.items ≡ 0 = ap length none in
    record {
      short = omega (arith, all, short);
      count = omega (arith, empty);
      rows = ap (λ (rows : List ℕ). rows ++ map (λ (placed : PlacedRecord). placed.row) c.as_slice-record-items.result.now) none;
    }

pub returns : goal.returns
returns g c =
    let items = c.as_slice-record-items.result.now in
    let none : drop c.loop-record.record-index items ≡ [] = drop_all c.loop-record.record-index items c.loop-record-test.false in
    sym (append-nil c.loop-record.rows.items) ∙ ap (λ (rest : List PlacedRecord). c.loop-record.rows.items ++ map (λ (placed : PlacedRecord). placed.row) rest) (sym none)
    ∙ c.loop-record.invariant.rows ∙ c.as_slice-record-items.ensures.from ∙ (λ i. chain_rows (c.self.view_is i).head ((c.as_slice-record-items.ensures.records
    ∙ ap (λ (chain : PlacedChain). chain.records) c.self.view_is) i))
