use Rattle.std.proofs.Common.{◌≡◌, ◌<◌, ◌+◌, ◌*◌, ◌/◌, ◌%◌, ℕ, List, length, get_or, take, drop, ◌∙◌, arith}
use Rattle.row_search.proofs.Words.{Ordering, Less, Equal, Greater, key_cmp, Item, held_mark, item_size, items_at, text_size, items_of, words_of, IsSpelling, IsText, Record}
use Rattle.row_search.proofs.Bisect.{lower, upper, found_at, gap_at}
use Rattle.row_search.proofs.ItemTexts.{decided}
use Rattle.row_search.proofs.RowTexts.{stands}
use Rattle.row_search.proofs.row_at.RowAt.place_of.Goals as goal

-- what is said of the text at an item's place
at_item : (content : Record) (spelled : IsSpelling content (words_of content)) (key : List ℕ) (o : Ordering) (place : ℕ) → place < length (items_of content)
    → ((text : List ℕ) → IsText (get_or (words_of content) (items_at + item_size * place) 0 % held_mark)
    (take text_size (drop (items_at + item_size * place + 1) (words_of content))) text → o ≡ key_cmp text key)
    → (d : Item) → key_cmp (get_or (items_of content) place d).key key ≡ o
at_item content spelled key o place within said =
    decided (words_of content) (items_of content) (stands (words_of content) content spelled) key o place within said

pub loop-low-preserved-in-Less : goal.loop-low-preserved-in-Less
loop-low-preserved-in-Less g c =
    let v = c.loop-low.invariant in
    let content = c.args.self.now.content in
    let stand = stands (words_of content) content c.keeps_spelling.ensures in
    let middle : ℕ = (c.loop-low.low + c.loop-low.high) / 2 in
    let lt : middle < c.loop-low.high = omega (arith, c.loop-low-test.true) in
    let top = v.top in
    let within : middle < length (items_of content) = omega arith in
    record {
      same = c.in-Less.ensures.same ∙ v.same;
      ordered = omega arith;
      few = v.few;
      top = v.top;
      below = lower (items_of content) stand.ascending c.args.key.now middle within
          (at_item content c.keeps_spelling.ensures c.args.key.now Less middle within c.in-Less.ensures.compared);
      above = v.above;
    }

pub returns-in-Equal-clause-found : goal.returns-in-Equal-clause-found
returns-in-Equal-clause-found g c =
    let v = c.loop-low.invariant in
    let content = c.args.self.now.content in
    let stand = stands (words_of content) content c.keeps_spelling.ensures in
    let middle : ℕ = (c.loop-low.low + c.loop-low.high) / 2 in
    let lt : middle < c.loop-low.high = omega (arith, c.loop-low-test.true) in
    let top = v.top in
    let within : middle < length (items_of content) = omega arith in
    found_at (items_of content) stand.ascending c.args.key.now middle within
    (at_item content c.keeps_spelling.ensures c.args.key.now Equal middle within c.in-Equal.ensures.compared)

pub loop-low-preserved : goal.loop-low-preserved
loop-low-preserved g c =
    let v = c.loop-low.invariant in
    let content = c.args.self.now.content in
    let stand = stands (words_of content) content c.keeps_spelling.ensures in
    let middle : ℕ = (c.loop-low.low + c.loop-low.high) / 2 in
    let lt : middle < c.loop-low.high = omega (arith, c.loop-low-test.true) in
    let top = v.top in
    let within : middle < length (items_of content) = omega arith in
    record {
      same = c.in-Greater.ensures.same ∙ v.same;
      ordered = omega (arith, c.loop-low-test.true);
      few = let f = v.few in omega arith;
      top = omega arith;
      below = v.below;
      above = upper (items_of content) stand.ascending c.args.key.now middle within
          (at_item content c.keeps_spelling.ensures c.args.key.now Greater middle within c.in-Greater.ensures.compared);
    }

pub returns-clause-absent : goal.returns-clause-absent
returns-clause-absent g c =
    let v = c.loop-low.invariant in
    let content = c.args.self.now.content in
    let done : c.loop-low.high ≡ c.loop-low.low = let o = v.ordered in omega (arith, c.loop-low-test.false) in
    let top = v.top in
    gap_at (items_of content) c.args.key.now c.loop-low.low (omega arith) v.below (rw (← done) v.above)

pub returns-in-Equal-clause-items : goal.returns-in-Equal-clause-items
returns-in-Equal-clause-items g c = let stand = stands (words_of c.args.self.now.content) c.args.self.now.content c.keeps_spelling.ensures in record { few = stand.few; ascending = stand.ascending }

pub returns-clause-items : goal.returns-clause-items
returns-clause-items g c = let stand = stands (words_of c.args.self.now.content) c.args.self.now.content c.keeps_spelling.ensures in record { few = stand.few; ascending = stand.ascending }
