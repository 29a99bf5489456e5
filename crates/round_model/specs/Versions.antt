-- What is known of a page that was read.
use Rattle.std.specs.Prelude.{◌≡◌, ◌<◌, ℕ, suc, List, Bool, Some, true, false, IsTrue, IsFalse}
use Rattle.tree_limits.specs.declared.limits.Limits.{Limits}
use Rattle.base_page.specs.declared.item.Content.TheVariants.{Child}
use Rattle.deltas.specs.declared.record.Record.{Record}
use Rattle.traces.specs.chain.Chains.{content_in, covers, is_removed, level_in, right_in}
use Rattle.traces.specs.chain.Fitted.{IsPageChain}
use Rattle.traces.specs.discipline.Fitting.{SaysOf}
use Rattle.traces.specs.discipline.Knowledge.{Knowledge}
use Rattle.traces.specs.discipline.Recalled.{Recalled, WasHead}
use Rattle.structure_changes.specs.Readings.{HasSeen}
use Rattle.structure_changes.specs.Versions.{Version}

-- The pages that a chain names, as its right or as children, are above 0 and below the limit.
pub record NamesPages (limits : Limits) (chain : List Record) : Type 0 where
  pub right : (other : ℕ) → right_in chain ≡ Some other → (0 < other) × (other < limits.pids)
  pub child : (level other : ℕ) (key : List ℕ) (held : Bool) → level_in chain ≡ suc level → IsTrue (covers chain key)
      → content_in chain key ≡ Some (Child other held) → (0 < other) × (other < limits.pids)

-- What is so of a page's chain, whatever else is known: unless it is removed, it says nothing false of its own page, and the
-- pages that it names are such as there may be.
pub record IsSound (limits : Limits) (page : ℕ) (chain : List Record) : Type 0 where
  pub is_chain : IsPageChain chain
  pub own : IsFalse (is_removed chain) → SaysOf chain page chain
  pub names : IsFalse (is_removed chain) → NamesPages limits chain

-- The page's slot was last read with this row, and its whole chain from there; both are numbers that there are.
pub record IsInHand (limits : Limits) (k : Knowledge) (version : Version) : Type 0 where
  pub page : version.pid < limits.pids
  pub row : version.head < limits.rows
  pub seen : HasSeen k version
  pub sound : IsSound limits version.pid version.chain

-- The page is in hand and isn't removed, and its slot is recalled.
pub record IsAlive (limits : Limits) (k : Knowledge) (r : Recalled) (version : Version) : Type 0 where
  pub in_hand : IsInHand limits k version
  pub alive : is_removed version.chain ≡ false
  pub recalled : WasHead r version.pid version.head

-- The page is in hand, and removed.
pub record IsGone (limits : Limits) (k : Knowledge) (version : Version) : Type 0 where
  pub in_hand : IsInHand limits k version
  pub gone : is_removed version.chain ≡ true
