-- The index is exact: each level has just the terms of the level under it.
use Rattle.std.specs.Prelude.{◌≡◌, ◌≤◌, ◌<◌, ◌↔◌, ℕ, suc, List, length, Bool, true, false, Some, IsTrue, ◌⊎◌}
use Rattle.std.specs.List.{Contains}
use Rattle.tree_limits.specs.declared.limits.Limits.{Limits}
use Rattle.base_page.specs.declared.item.Content.TheVariants.{Child}
use Rattle.deltas.specs.declared.record.Record.{Record}
use Rattle.deltas.specs.Memory.{Memory}
use Rattle.traces.specs.declared.trace.Entry.{Entry}
use Rattle.traces.specs.chain.Chains.{IsChainOf, content_in, level_in, low_in, covers}
use Rattle.traces.specs.chain.SideChain.{LivePage, IsSideChainFrom, IsWhole}
use Rattle.traces.specs.trace.Trace.{memory_at}
use Rattle.linearization.specs.Phases.{IsInPhase, indexed, held, removed, merged}

-- The page of the PID is of the level.
abbrev pub IsPageOfLevel : Memory → ℕ → ℕ → Type 0
IsPageOfLevel memory level pid = (chain : List Record) × IsChainOf memory pid chain × (level_in chain ≡ level)

-- The root is of the level.
abbrev pub IsRootLevel : Memory → ℕ → Type 0
IsRootLevel memory level = IsPageOfLevel memory level (memory.slots 0)

module _ (limits : Limits) (entries : List Entry) where
  -- The PID is that of the first page of the level that slot 0 held, before step n.
  abbrev pub IsLeftmost : ℕ → ℕ → ℕ → Type 0
  IsLeftmost n level pid =
      (m : ℕ) × (m ≤ n) × ((memory_at limits entries m).slots 0 ≡ pid) × IsRootLevel (memory_at limits entries m) level ×
      ((earlier : ℕ) → earlier < m → ¬ IsRootLevel (memory_at limits entries earlier) level)

  -- The pages are those of the level before step n, from left to right.
  abbrev pub IsLevel : ℕ → ℕ → List LivePage → Type 0
  IsLevel n level pages = (pid : ℕ) × IsLeftmost n level pid × IsSideChainFrom (memory_at limits entries n) pid pages

  -- The pages have at the key a term for the child.
  abbrev pub HasTerm : List LivePage → List ℕ → ℕ → Bool → Type 0
  HasTerm pages key child is_held = (page : LivePage) × Contains pages page × IsTrue (covers page.chain key) × (content_in page.chain key ≡ Some (Child child is_held))

  -- A page of the level has a term above it from its index on to its merge, which is held from its hold on.
  abbrev pub HasPhaseOfTerm : ℕ → ℕ → Bool → Type 0
  HasPhaseOfTerm n child false = IsInPhase limits entries n child indexed
  HasPhaseOfTerm n child true = IsInPhase limits entries n child held ⊎ IsInPhase limits entries n child removed ⊎ IsInPhase limits entries n child merged

  abbrev pub IsPageAt : ℕ → ℕ → List ℕ → ℕ → Type 0
  IsPageAt n level key pid = (chain : List Record) × IsChainOf (memory_at limits entries n) pid chain × (level_in chain ≡ level) × (low_in chain ≡ key)

  -- Before step n the pages are whole, and have just the terms of the pages of the level.
  pub record Indexes (n level : ℕ) (above : List LivePage) : Type 0 where
    pub pages : IsLevel n (suc level) above
    pub whole : IsWhole above
    pub terms : (key : List ℕ) (child : ℕ) (is_held : Bool) → HasTerm above key child is_held ↔ (IsPageAt n level key child × HasPhaseOfTerm n child is_held)

  -- At each moment there is a root, and each level below the root's has its index above it.
  pub record IsExactIndex : Type 0 where
    pub rooted : (n : ℕ) → n ≤ length entries → (top : ℕ) × IsRootLevel (memory_at limits entries n) top
    pub each : (n level top : ℕ) → n ≤ length entries → IsRootLevel (memory_at limits entries n) top → level < top → (above : List LivePage) × Indexes n level above
