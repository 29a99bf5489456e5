use Rattle.layer_tests.proofs.plans.grown.split.Goals as goal

pub grow-requires : goal.grow-requires
grow-requires g c = let fits = rw c.expect-plan.ensures at c.split.ensures in record { over = rw c.split-2.ensures (fits c.args.right c.requires.right) }
