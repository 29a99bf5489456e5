use Rattle.running_tree.proofs.tree.Tree.open_from.Goals as goal

pub returns-in-Ok-loaded-clause-order : goal.returns-in-Ok-loaded-clause-order
returns-in-Ok-loaded-clause-order g c = ((λ other ascend. cc), (λ falls. absurd (falls c.if-not-keys_ascend.ensures)))
