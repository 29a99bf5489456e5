use Rattle.std.proofs.Common.{[], Some, sym, ap, ◌∙◌}
use Rattle.std.specs.Prelude.{false}
use Rattle.row_search.proofs.Words.{Child, Item}
use Rattle.row_search.proofs.SaidLaws.{said_put}
use Rattle.row_search.proofs.row_at.RowAt.content_said.Goals as goal

none : Item
none = record { key = []; content = Child 0 false }

pub returns-then-kind-eq-PUT-clause-said : goal.returns-then-kind-eq-PUT-clause-said
returns-then-kind-eq-PUT-clause-said g c = ap Some (c.content.ensures.content none) ∙ said_put c.args.key.now c.args.self.now.content none (sym c.kind-kind.ensures ∙ c.if-kind-eq-PUT.true)
