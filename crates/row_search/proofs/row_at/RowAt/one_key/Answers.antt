use Rattle.std.proofs.Common.{List, ℕ, [], Some, true, sym, ap, ◌∙◌}
use Rattle.std.specs.Prelude.{false}
use Rattle.row_search.proofs.Words.{Child, Item}
use Rattle.row_search.proofs.SaidLaws.{one_put}
use Rattle.row_search.proofs.row_at.RowAt.one_key.Goals as goal

none : Item
none = record { key = []; content = Child 0 false }

pub returns-then-kind-eq-PUT-clause-key : goal.returns-then-kind-eq-PUT-clause-key
returns-then-kind-eq-PUT-clause-key g c = ap (λ (key : List ℕ). Some (key, true)) (c.key_at.ensures.key none) ∙ one_put c.args.self.now.content none (sym c.kind-kind.ensures ∙ c.if-kind-eq-PUT.true)
