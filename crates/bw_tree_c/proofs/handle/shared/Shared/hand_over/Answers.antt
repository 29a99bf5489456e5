use Rattle.std.proofs.Common.{◌∙◌, arith, length, refl, subst}
use Rattle.bw_tree_c.specs.Shown.{ShowFirst}
use Rattle.bw_tree_c.specs.declared.handle.slots.Inside.TheVariants as inside
use Rattle.bw_tree_c.proofs.Handing.{handed, keeps_pairs}
use Rattle.bw_tree_c.proofs.handle.shared.Shared.hand_over.Goals as goal

pub keep-requires-clause-closing : goal.keep-requires-clause-closing
keep-requires-clause-closing c = c.requires.closing

pub keep-requires-clause-waits : goal.keep-requires-clause-waits
keep-requires-clause-waits c = c.requires.left

pub empty-requires : goal.empty-requires
empty-requires c = record { closing = c.requires.closing }

pub returns-then-pairs-len-clause-more : goal.returns-then-pairs-len-clause-more
returns-then-pairs-len-clause-more c = λ is since may last mid. keeps_pairs c.args.self.now since may last c.args.hand mid c.args.left.items c.requires.left c.keep.result.receipt
    (inside.Pairs c.args.left) (c.keep.ensures.kept since may last mid) refl (length c.args.pairs.now) c.len.result (c.len.ensures ∙ c.args.left.ok.0)
    (let more = c.if-pairs-len.true in let count = c.len-2.ensures ∙ c.args.left.ok.0 in omega (arith, more, count))

pub returns-clause-ok : goal.returns-clause-ok
returns-clause-ok c = λ is since may last mid. handed c.args.self.now since may last c.args.hand mid c.args.left.items c.requires.left c.empty.result.receipt
    (c.empty.ensures.closed since may last mid) c.len.result c.set_pairs.new.pairs (c.len.ensures ∙ c.args.left.ok.0)
    (subst (λ items. ShowFirst (length items) items c.set_pairs.new.pairs) c.as_slice.ensures.value c.set_pairs.ensures.shows)
