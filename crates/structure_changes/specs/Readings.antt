-- Versions that an actor has read.
use Rattle.std.specs.Prelude.{◌≡◌, Some}
use Rattle.traces.specs.chain.Chains.{IsChainFrom}
use Rattle.traces.specs.discipline.Knowledge.{Knowledge}
use Rattle.structure_changes.specs.Versions.{Version}

-- The page's slot was last read with this row, and the chain from it.
pub record HasSeen (k : Knowledge) (version : Version) : Type 0 where
  pub head : k.read.heads version.pid ≡ Some version.head
  pub read : IsChainFrom k.read.seen version.head version.chain

-- The page's slot was read after the other one, which had this row.
abbrev pub IsAfter : Knowledge → Version → Version → Type 0
IsAfter k other page = k.read.before page.pid other.pid ≡ Some other.head
