use Rattle.layer_tests.proofs.Deletes.{delete_over}
use Rattle.layer_tests.proofs.plans.grown.delete.Goals as goal

pub grow-requires : goal.grow-requires
grow-requires g c =
    let page = c.args.page.now in
    let told = c.takes_delete.ensures c.if-not-takes_delete.false in
    record { over = (rw c.head-next.ensures (delete_over page.chain page.head c.args.gone c.keeps_rules.ensures page.is_row c.requires.alive told.0 told.1), told.2) }
