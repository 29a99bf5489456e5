use Rattle.row_chain.proofs.Words.{sym, ◌∙◌, option_copied, contents}
use Rattle.row_chain.proofs.CountLaws.{changed_at, unchanged_above}
use Rattle.row_chain.proofs.chain.count.change_at.Goals as goal

pub returns-then-not-is_under-clause-change : goal.returns-then-not-is_under-clause-change
returns-then-not-is_under-clause-change g c = λ newest items rest named said has under_has.
    unchanged_above (option_copied c.args.bound) newest (contents c.args.older.now) c.args.key.now items rest named (sym c.is_under.ensures ∙ c.if-not-is_under.true) has under_has

pub returns-in-true-false-clause-change : goal.returns-in-true-false-clause-change
returns-in-true-false-clause-change g c = λ newest items rest named said has under_has.
    rw (
      sym c.is_under.ensures ∙ c.if-not-is_under.false,
      sym c.in-true-false.ensures.has,
      said
          ∙ c.in-true-false.is-1,
    ) at (changed_at (option_copied c.args.bound) newest (contents c.args.older.now) c.args.key.now items rest named has under_has)

pub returns-in-false-true-clause-change : goal.returns-in-false-true-clause-change
returns-in-false-true-clause-change g c = λ newest items rest named said has under_has.
    rw (
      sym c.is_under.ensures ∙ c.if-not-is_under.false,
      sym c.in-false-true.ensures.has,
      said
          ∙ c.in-false-true.is-1,
    ) at (changed_at (option_copied c.args.bound) newest (contents c.args.older.now) c.args.key.now items rest named has under_has)

pub returns-in_default-clause-change : goal.returns-in_default-clause-change
returns-in_default-clause-change g c = λ newest items rest named said has under_has.
    rw (sym c.in_default.ensures.has, said ∙ c.in_default.is-1) at (changed_at (option_copied c.args.bound) newest (contents c.args.older.now) c.args.key.now items rest named has under_has)

pub returns-in_default-2-clause-change : goal.returns-in_default-2-clause-change
returns-in_default-2-clause-change g c = λ newest items rest named said has under_has.
    rw (sym c.in_default.ensures.has, said ∙ c.in_default.is-1) at (changed_at (option_copied c.args.bound) newest (contents c.args.older.now) c.args.key.now items rest named has under_has)
