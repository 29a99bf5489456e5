-- A page that was seen was read.
use Rattle.round_model.proofs.Words.{ℕ, Record, Knowledge, Version}
use Rattle.structure_changes.specs.Readings.{HasSeen}
use Rattle.structure_changes.specs.Reads.{IsReadPage}
use Rattle.round_model.specs.Machines.{AreThere}

-- its records may be looked at, where what was read is there
pub seen_is_read : (is_there : ℕ → Record → Type 0) (k : Knowledge) (version : Version) → HasSeen k version → AreThere is_there k → IsReadPage is_there version
seen_is_read is_there k version seen there = record { seen = k.read.seen; leads = seen.read; stand = there }
