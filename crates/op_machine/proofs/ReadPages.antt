-- The page above a leaf that an operation has read may be looked at, where what was read is there.
use Rattle.op_machine.proofs.Words.{ℕ, Option, Some, None, IfSome, Limits, Record, Knowledge, Recalled, seen_is_read, AreThere, IsUpper, Version}
use Rattle.structure_changes.specs.Reads.{IsReadPage}

pub read_above : (is_there : ℕ → Record → Type 0) (k : Knowledge) → AreThere is_there k
    → (limits : Limits) (r : Recalled) (leaf : Version) (parent : Option Version) → IfSome parent (IsUpper limits k r leaf)
    → IfSome parent (IsReadPage is_there)
read_above is_there k there limits r leaf None above = tt
read_above is_there k there limits r leaf (Some parent) above = seen_is_read is_there k parent above.page.in_hand.seen there
