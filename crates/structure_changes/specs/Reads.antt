-- Pages that were read, whose records are there.
use Rattle.std.specs.Prelude.{ℕ}
use Rattle.deltas.specs.declared.record.Record.{Record}
use Rattle.structure_changes.specs.Versions.{Version}
use Rattle.row_chain.specs.Placed.{IsReadChain, PlacedChain}

-- the page's chain, from the row on that its slot had
abbrev pub chain_of : Version → PlacedChain
chain_of page = record { head = page.head; records = page.chain }

-- The page's chain was read, and its records are there.
abbrev pub IsReadPage : (ℕ → Record → Type 0) → Version → Type 0
IsReadPage is_there page = IsReadChain is_there (chain_of page)
