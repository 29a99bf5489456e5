use Rattle.row_chain.proofs.Words.{◌≡◌, ◌-◌, true, get_or, sym, ◌∙◌, arith, option_copied, Child, Item, items_said, contents, is_named}
use Rattle.std.proofs.Common.{[]}
use Rattle.std.specs.Prelude.{false}
use Rattle.row_chain.proofs.WalkLaws.{one_more, taken_named}
use Rattle.row_chain.proofs.Winners.{none_left, outdone, wins}
use Rattle.row_chain.proofs.chain.walk.winner.Goals as goal

none : Item
none = record { key = []; content = Child 0 false }

pub loop-place-preserved : goal.loop-place-preserved
loop-place-preserved g c =
    let v = c.loop-place.invariant in
    let newer = contents c.args.newer.now in
    record {
      same = c.is_taken.ensures.same ∙ c.is_above.ensures.same ∙ v.same;
      named = one_more (λ (item : Item). is_named newer item.key ≡ true) (items_said c.args.row.now.content) c.loop-place.place c.args.count c.loop-place-test.true v.named
          (λ d. taken_named newer (get_or (items_said c.args.row.now.content) (c.loop-place.place - 1) d).key (sym (c.is_taken.ensures.taken d) ∙ c.if-not-is_taken.false));
    }

pub returns-then-not-is_above-clause-wins : goal.returns-then-not-is_above-clause-wins
returns-then-not-is_above-clause-wins g c passes are cut best =
    let place = c.loop-place.auto.place in
    outdone c.args.row.now.content (contents c.args.newer.now) c.keeps_spelling.ensures.spellable passes are c.args.count cut (option_copied c.args.best) best
    c.loop-place.place c.loop-place.invariant.named
    none c.loop-place-test.true (omega (arith, place)) (sym (c.is_above.ensures.above none) ∙ c.if-not-is_above.true)

pub returns-then-not-is_taken-clause-wins : goal.returns-then-not-is_taken-clause-wins
returns-then-not-is_taken-clause-wins g c passes are cut best d =
    let place = c.loop-place.auto.place in
    wins c.args.row.now.content (contents c.args.newer.now) c.keeps_spelling.ensures.spellable passes are c.args.count cut (option_copied c.args.best) best
    c.loop-place.place c.loop-place.invariant.named
    d c.loop-place-test.true (omega (arith, place)) (sym (c.is_above.ensures.above d) ∙ c.if-not-is_above.false) (sym (c.is_taken.ensures.taken d) ∙ c.if-not-is_taken.true)

pub returns-clause-wins : goal.returns-clause-wins
returns-clause-wins g c passes are cut best =
    none_left c.args.row.now.content (contents c.args.newer.now) c.keeps_spelling.ensures.spellable passes are c.args.count cut (option_copied c.args.best) best
    c.loop-place.place c.loop-place.invariant.named
    (let end = c.loop-place-test.false in omega (arith, end))
