use Rattle.compact_rows.proofs.Sizes.{has_room}
use Rattle.compact_rows.proofs.laws.records_have_room.Goals as goal

pub returns : goal.returns
returns c = has_room
