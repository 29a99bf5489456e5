-- The levels of a memory, as a reader finds them from slot 0 down.
use Rattle.std.specs.Prelude.{◌≡◌, ℕ, List, [], ◌∷◌, Option, None, MatchOption}
use Rattle.base_page.specs.Pages.{child_in}
use Rattle.deltas.specs.declared.record.Record.{Record}
use Rattle.deltas.specs.Memory.{Memory}
use Rattle.traces.specs.chain.Chains.{content_in, low_in}
use Rattle.traces.specs.chain.SideChain.{LivePage, IsSideChainFrom}

-- the child of a page's low key; a leaf has none
abbrev pub low_child : List Record → Option ℕ
low_child chain = child_in (content_in chain (low_in chain))

-- the same of the first one of some pages
abbrev pub first_child : List LivePage → Option ℕ
first_child [] = None
first_child (page ∷ pages) = low_child page.chain

-- Each level is the side chain of its first page: the one of the PID, and then the child of the low key of the one above; a first
-- page without a child is on the last level.
abbrev pub AreLevelsFrom : Memory → ℕ → List (List LivePage) → Type 0
AreLevelsFrom memory pid [] = ⊥
AreLevelsFrom memory pid (level ∷ levels) = IsSideChainFrom memory pid level × MatchOption (first_child level) (levels ≡ []) (λ child. AreLevelsFrom memory child levels)

-- The levels of a memory: the root's, whose first page is the one that slot 0 names, and those under it.
abbrev pub AreLevels : Memory → List (List LivePage) → Type 0
AreLevels memory levels = AreLevelsFrom memory (memory.slots 0) levels
