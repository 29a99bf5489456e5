use Rattle.running_tree.proofs.Counting.{room_seen}
use Rattle.running_tree.proofs.tree.Tree.room.Goals as goal

pub returns-clause-room : goal.returns-clause-room
returns-clause-room g c =
    let pids = c.count_free-free_pids in
    let rows = c.count_free-free_rows in
    room_seen c.own_lasts.ensures c.args.seat.now pids.new.self rows.new.self _ pids.ensures.same rows.ensures.same pids.ensures.counted rows.ensures.counted
