use Rattle.row_chain.proofs.Words.{◌≡◌, ◌+◌, sym, ap, ◌∙◌, option_copied, bound_under, count_under, one_key, contents}
use Rattle.std.proofs.Common.{ℕ, Some, None}
use Rattle.row_chain.proofs.Counts.{bound_kept, changed, names_one, says_one}
use Rattle.row_chain.proofs.chain.count.change.Goals as goal

pub returns-in-None-clause-change : goal.returns-in-None-clause-change
returns-in-None-clause-change g c items rest has under_has =
    let row = c.args.row.now.content in
    let bound = option_copied c.args.bound in
    let none : one_key row ≡ None = sym c.one_key.ensures.key ∙ c.in-None.is in
    changed bound row (contents c.args.older.now) c.requires.fitted none items rest has under_has
    ∙ ap (λ (n : ℕ). count_under (bound_under row bound) rest + n) (sym c.items_under.ensures.count)

pub returns-in-Some-clause-change : goal.returns-in-Some-clause-change
returns-in-Some-clause-change g c items rest has under_has =
    let row = c.args.row.now.content in
    let key = c.in-Some.key in
    let there = c.in-Some.is_there in
    let bound = option_copied c.args.bound in
    let named : one_key row ≡ Some (key, there) = sym c.one_key.ensures.key ∙ c.in-Some.is in
    c.change_at.ensures.change row items rest (names_one row key there named) (says_one row key there named) has under_has
    ∙ ap (λ b. count_under b rest + c.change_at.result.0) (sym (bound_kept row key there bound named))
