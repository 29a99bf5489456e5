-- What the leaves of a state are.
use Rattle.std.specs.Prelude.{◌≡◌, ◌<◌, List, length}
use Rattle.std.specs.List.{AllByRecursion}
use Rattle.tree_limits.specs.declared.limits.Limits.{Limits}
use Rattle.deltas.specs.Memory.{Memory}
use Rattle.traces.specs.chain.Chains.{IsChainOf, level_in}
use Rattle.traces.specs.chain.Fitted.{IsPageChain}
use Rattle.traces.specs.chain.SideChain.{LivePage, IsLeaves, IsWhole}

-- The page's PID is in range, and its slot has this chain, whose records fit and are of the lowest level.
pub record IsLeafPage (limits : Limits) (memory : Memory) (page : LivePage) : Type 0 where
  pub pid : page.pid < limits.pids
  pub stands : IsChainOf memory page.pid page.chain
  pub fits : IsPageChain page.chain
  pub level : level_in page.chain ≡ 0

-- The leaves stand, whole, and are fewer than there are slots: slot 0 is no page's.
pub record HasLeafPages (limits : Limits) (memory : Memory) : Type 0 where
  pub pages : List LivePage
  pub leaves : IsLeaves memory pages
  pub whole : IsWhole pages
  pub few : length pages < limits.pids
  pub each : AllByRecursion (IsLeafPage limits memory) pages
