use Rattle.std.proofs.Common.{◌≡◌, ◌∙◌, ◌++◌, ◌∷◌, ◌+◌, [], ap, arith, suc, sym, take}
use Rattle.std.proofs.Math.Seq.{take-suc}
use Rattle.std.proofs.lemmas.List.{append_assoc}
use Rattle.walks.proofs.scan.add.Goals as goal

pub loop-key-preserved : goal.loop-key-preserved
loop-key-preserved g c =
    let before = c.loop-key.invariant in
    let first = take c.loop-key.key-index c.args.pairs.now in
    let item = c.loop-key-item.result in
    let copied : (c.copied.result, c.copied-in-loop-key.result) ≡ item = λ i. (c.copied.ensures i, c.copied-in-loop-key.ensures i) in
    let next : c.loop-key.key-index + 1 ≡ suc c.loop-key.key-index = omega arith in
    let longer = ap (λ n. take n c.args.pairs.now) next ∙ take-suc c.args.pairs.now c.loop-key.key-index item c.loop-key-test.true in
    let count = before.count in
    let more = c.push_reserved.ensures.len in record {
      added =
          c.push_reserved.ensures.items ∙ (λ i. before.added i ++ copied i ∷ []) ∙ append_assoc c.args.list.now.items first (item ∷ [])
          ∙ ap (λ z. c.args.list.now.items ++ z) (ap (λ z. first ++ z ∷ []) c.loop-key-item.is ∙ sym longer);
      count = omega (arith, count, more);
      room = c.push_reserved.ensures.capacity ∙ before.room;
    }
