use Rattle.std.proofs.Common.{ap, ◌∙◌, subst}
use Rattle.row_search.specs.Begins.{Begins}
use Rattle.tree_words.specs.Layout.{row_at}
use Rattle.running_tree.proofs.Standing.{one_read}
use Rattle.running_tree.proofs.Words.{Tree}
use Rattle.running_tree.proofs.desk.TreeRows.place.Goals as goal

pub returns : goal.returns
returns g c content h = (
  record { stands = h; place = c.row.ensures ∙ ap (λ (t : Tree). row_at t.limits c.args.row 0) c.self.view_is; large = c.is_large.ensures ∙ ap (λ (t : Tree). t.limits.is_large) c.self.view_is },
  subst (Begins c.args.first) (one_read _ _ _ _ _ _ c.requires.has.0 content c.requires.has.1 h) c.requires.has.2,
)
