use Rattle.tree_law.proofs.runs.RoomRun.{no_room_disciplined}
use Rattle.tree_law.proofs.examples.no_room_is_disciplined.Goals as goal

pub returns : goal.returns
returns c = no_room_disciplined
