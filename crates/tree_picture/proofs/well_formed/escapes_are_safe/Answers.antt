use Rattle.std.proofs.lemmas.List.Elements.{All-from_recursion}
use Rattle.tree_picture.specs.Document.{escape}
use Rattle.tree_picture.proofs.Escapes.{IsSafe, all_safe}
use Rattle.tree_picture.proofs.well_formed.escapes_are_safe.Goals as goal

pub returns : goal.returns
returns c = λ bytes. All-from_recursion IsSafe (escape bytes) (all_safe bytes)
