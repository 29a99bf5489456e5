-- What the levels of a state are.
use Rattle.std.specs.Prelude.{◌≡◌, ◌≤◌, ◌<◌, ℕ, suc, List, [], length, false, Some}
use Rattle.std.specs.List.{AllByRecursion}
use Rattle.tree_limits.specs.declared.limits.Limits.{Limits}
use Rattle.base_page.specs.declared.item.Content.TheVariants.{Child}
use Rattle.deltas.specs.declared.record.Record.{Record}
use Rattle.deltas.specs.Memory.{Memory}
use Rattle.traces.specs.chain.Chains.{IsChainOf, content_in, level_in, low_in}
use Rattle.traces.specs.chain.Fitted.{IsPageChain}
use Rattle.traces.specs.chain.SideChain.{LivePage, IsSideChainFrom, IsWhole}

-- The page's PID is in range, and its slot has this chain, whose records fit and are of the level.
pub record IsPageOn (limits : Limits) (memory : Memory) (level : ℕ) (page : LivePage) : Type 0 where
  pub pid : page.pid < limits.pids
  pub stands : IsChainOf memory page.pid page.chain
  pub fits : IsPageChain page.chain
  pub level_is : level_in page.chain ≡ level

-- The pages of a level stand from its first page on, whole, and are fewer than there are slots: slot 0 is no page's.
pub record HasPagesOn (limits : Limits) (memory : Memory) (level first : ℕ) : Type 0 where
  pub pages : List LivePage
  pub side : IsSideChainFrom memory first pages
  pub whole : IsWhole pages
  pub few : length pages < limits.pids
  pub each : AllByRecursion (IsPageOn limits memory level) pages

-- Each level up to the top one stands from its first page on. The first page of the top level is the root, and each other
-- one is the child at the empty key of the first page above it.
pub record HasAllLevels (limits : Limits) (memory : Memory) : Type 0 where
  pub top : ℕ
  pub first : ℕ → ℕ
  pub root : memory.slots 0 ≡ first top
  pub pages : (level : ℕ) → level ≤ top → HasPagesOn limits memory level (first level)
  pub down : (level : ℕ) → suc level ≤ top → (chain : List Record) → IsChainOf memory (first (suc level)) chain → (low_in chain ≡ []) × (content_in chain [] ≡ Some (Child (first level) false))
