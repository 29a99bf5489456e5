use denote.Param.Send.{IsSend}
use Rattle.atomic_table.proofs.Sent.{badge_keyless}
use Rattle.bw_tree_c.specs.Receipts.{knows_row}
use Rattle.bw_tree_c.specs.contracts.receipt.Receipt.{the_row}

pub send : IsSend the_row
send = record { owned = λ d vs. ((λ vss. (tt, tt)), badge_keyless knows_row.coded.code d.table_id d.id d.views); leaving = λ k f vs. tt }
