use Rattle.row_chain.proofs.Words.{◌≡◌, ◌≤◌, ◌+◌, ◌∷◌, ◌++◌, length, get_or, take, drop, sym, ap, subst, ◌∙◌, arith, take_all, Child, Item, IsGreatest, Record, items_said, content_in, contents}
use Rattle.row_chain.proofs.Words.{is_left, IsGreatestKey}
use Rattle.std.proofs.Common.{ℕ, List, []}
use Rattle.std.specs.Prelude.{Option, false}
use Rattle.row_chain.proofs.ChildWalks.{IsBest, at_bound, best_kept, best_new, child_best, child_found}
use Rattle.row_chain.proofs.Passing.{one_further, parted}
use Rattle.row_chain.proofs.chain.Chain.greatest_over_base.Goals.{in-None, in-Some+else-is_last+else-place-records}
use Rattle.row_chain.proofs.chain.Chain.greatest_over_base.Goals as goal

none : Item
none = record { key = []; content = Child 0 false }

pub loop-place-preserved : goal.loop-place-preserved
loop-place-preserved g c =
    let v = c.loop-place.invariant in
    let rows = c.as_read-records.result.now in
    let row = c.index-records-place.result in
    let place = c.loop-place.place in
    let front = contents (take place rows) in
    let whole = front ++ row.content ∷ [] in
    let passes = is_left c.args.below c.args.bound.now in
    let further = one_further rows place row (let within = c.loop-place-test.true in omega (arith, within)) c.index-records-place.is in
    let before = subst (IsGreatestKey (content_in front) passes) (sym c.as_ref.ensures.value) v.best.0 in
    elim c.match-winner.branch [
      | in-None w ↦
          let after = w.in-None.ensures.wins passes c.passing-count.ensures.items c.passing-count.ensures.passed before in
          let best = best_kept front (row.content ∷ []) passes c.loop-place.best c.loop-place.child v.best (subst (IsGreatestKey (content_in whole) passes) c.as_ref.ensures.value after) in
          record {
            same = w.pass-is ∙ c.winner.ensures.same ∙ c.passing-count.ensures.same ∙ v.same;
            best = subst (λ (z : List Record × (Option (List ℕ) × Option ℕ)). IsBest (content_in z.0) passes z.1.0 z.1.1) (λ i. (sym further i, (sym w.best-is i, sym w.child-is i))) best;
          }
      | in-Some+else-is_last+else-place-records w ↦
          let item = get_or (items_said row.content) w.in-Some.won none in
          let after = w.in-Some.ensures.wins passes c.passing-count.ensures.items c.passing-count.ensures.passed before none in
          let greatest = subst (λ (key : List ℕ). IsGreatest (content_in whole) passes key item.content) (sym (w.key_said.ensures.key none)) after in
          let best = best_new whole passes w.key_said.result item.content w.child_at-child.result greatest (w.child_at-child.ensures.child none) in
          record {
            same = w.pass-is ∙ w.key_said.ensures.same ∙ w.child_at-child.ensures.same ∙ c.winner.ensures.same ∙ c.passing-count.ensures.same ∙ v.same;
            best = subst (λ (z : List Record × (Option (List ℕ) × Option ℕ)). IsBest (content_in z.0) passes z.1.0 z.1.1) (λ i. (sym further i, (sym w.best-is i, sym w.child-is i))) best;
          }
    ]

-- at the bound
pub returns-then-is_last-clause-child : goal.returns-then-is_last-clause-child
returns-then-is_last-clause-child g c =
    let v = c.loop-place.invariant in
    let chain = c.args.self.now.records in
    let rows = c.as_read-records.result.now in
    let row = c.index-records-place.result in
    let place = c.loop-place.place in
    let front = contents (take place rows) in
    let whole = front ++ row.content ∷ [] in
    let rest = contents (drop (place + 1) rows) in
    let passes = is_left c.args.below c.args.bound.now in
    let won = c.in-Some.won in
    let item = get_or (items_said row.content) won none in
    let before = subst (IsGreatestKey (content_in front) passes) (sym c.as_ref.ensures.value) v.best.0 in
    let after = c.in-Some.ensures.wins passes c.passing-count.ensures.items c.passing-count.ensures.passed before none in
    let last = c.is_last.ensures.last c.if-is_last.true in
    let at = c.passing-count.ensures.at_bound last.0 in
    let key_is = ap (λ n. (get_or (items_said row.content) n none).key) last.1 ∙ at.1.found none in
    let further = one_further rows place row (let within = c.loop-place-test.true in omega (arith, within)) c.index-records-place.is in
    let all : whole ++ rest ≡ chain = ap (λ records. records ++ rest) (sym further) ∙ sym (parted rows (place + 1)) ∙ c.as_read-records.ensures.records in
    let greatest = at_bound whole rest c.args.below c.args.bound.now item.key item.content at.0 key_is after in
    child_found chain c.keeps_rules.ensures.fitted passes item.key item.content c.child_at-child.result
    (rw (← all) greatest) (c.child_at-child.ensures.child none)

-- of the last record
pub returns-then-place-records-clause-child : goal.returns-then-place-records-clause-child
returns-then-place-records-clause-child g c =
    let v = c.loop-place.invariant in
    let chain = c.args.self.now.records in
    let rows = c.as_read-records.result.now in
    let row = c.index-records-place.result in
    let place = c.loop-place.place in
    let front = contents (take place rows) in
    let whole = front ++ row.content ∷ [] in
    let passes = is_left c.args.below c.args.bound.now in
    let won = c.in-Some.won in
    let item = get_or (items_said row.content) won none in
    let before = subst (IsGreatestKey (content_in front) passes) (sym c.as_ref.ensures.value) v.best.0 in
    let after = c.in-Some.ensures.wins passes c.passing-count.ensures.items c.passing-count.ensures.passed before none in
    let further = one_further rows place row (let within = c.loop-place-test.true in omega (arith, within)) c.index-records-place.is in
    let end : length rows ≤ place + 1 = (let last = c.if-place-records.true in omega (arith, last)) in
    let all : whole ≡ chain = sym further ∙ ap contents (take_all (place + 1) rows end) ∙ c.as_read-records.ensures.records in
    child_found chain c.keeps_rules.ensures.fitted passes item.key item.content c.child_at-child.result
    (rw (← all) after) (c.child_at-child.ensures.child none)

-- after the last one
pub returns-clause-child : goal.returns-clause-child
returns-clause-child g c =
    let chain = c.args.self.now.records in
    let rows = c.as_read-records.result.now in
    let place = c.loop-place.place in
    let passes = is_left c.args.below c.args.bound.now in
    let end : length rows ≤ place = c.loop-place-test.false in
    let all : contents (take place rows) ≡ chain = ap contents (take_all place rows end) ∙ c.as_read-records.ensures.records in
    child_best chain c.keeps_rules.ensures.fitted passes c.loop-place.best c.loop-place.child
    (rw (← all) c.loop-place.invariant.best)
