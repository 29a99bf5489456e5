use Rattle.tree_law.proofs.Words.{[], ◌∷◌, fold-append, command_of-push, memory_of-push}
use Rattle.tree_law.proofs.run_laws.entries_grow.Goals as goal

pub returns : goal.returns
returns c = λ limits entries entry. record {
  memory = memory_of-push limits entries entry;
  commands = command_of-push entries entry;
  known = fold-append _ _ entries (entry ∷ []);
  recalled = fold-append _ _ entries (entry ∷ []);
}
