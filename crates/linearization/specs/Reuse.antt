-- A row or a PID is used again only once no actor can still reach it.
use Rattle.std.specs.Prelude.{◌≡◌, ◌≢◌, ◌<◌, ℕ, suc, List, true, ◌⊎◌}
use Rattle.std.specs.List.{Contains}
use Rattle.tree_limits.specs.declared.limits.Limits.{Limits}
use Rattle.bw_model.specs.declared.step.Step.{Step as StepOf}
use Rattle.bw_model.specs.declared.step.Step.TheVariants.{Epoch, Announce, Exchange, TakePid, TakeRow, ReusePids, ReuseRows}
use Rattle.bw_model.specs.declared.step.Answer.{Answer}
use Rattle.bw_model.specs.declared.step.Answer.TheVariants.{Number, Whether}
use Rattle.deltas.specs.declared.record.Record.{Record}
use Rattle.traces.specs.declared.trace.Entry.{Entry}
use Rattle.traces.specs.chain.Chains.{IsChainOf, IsOnChain, chain_rows}
use Rattle.tree_limits.specs.Words.{is_among}
use Rattle.traces.specs.trace.Trace.{TakesStep, memory_at}

-- The step takes the PID, or frees it; a take that got nothing doesn't.
abbrev pub HandsPid : ℕ → StepOf Record → Answer Record → Type 0
HandsPid pid (TakePid taken) answer = (answer ≡ Whether true) × (taken ≡ pid)
HandsPid pid (ReusePids word bits) answer = is_among word bits pid ≡ true
HandsPid pid _ answer = ⊥

-- The step takes the row, or frees it.
abbrev pub HandsRow : ℕ → StepOf Record → Answer Record → Type 0
HandsRow row (TakeRow taken) answer = (answer ≡ Whether true) × (taken ≡ row)
HandsRow row (ReuseRows word bits) answer = is_among word bits row ≡ true
HandsRow row _ answer = ⊥

module _ (limits : Limits) (entries : List Entry) where
  -- At step n an exchange of the actor emptied the page's slot.
  abbrev pub UnlinksPid : ℕ → ℕ → ℕ → Type 0
  UnlinksPid actor pid n = (old : ℕ) × (0 < old) × TakesStep entries n actor (Exchange pid old 0) (Whether true)

  -- At step n an exchange of the actor took the row out of the slot's chain, and it is on no chain then.
  abbrev pub UnlinksRow : ℕ → ℕ → ℕ → Type 0
  UnlinksRow actor row n = (slot old new : ℕ) × (chain : List Record) × TakesStep entries n actor (Exchange slot old new) (Whether true)
      × IsChainOf (memory_at limits entries n) slot chain × Contains (chain_rows old chain) row × ¬ IsOnChain (memory_at limits entries (suc n)) row

  -- Before step n the actor unlinked an item, then read an epoch, and then found each other actor outside or in a later epoch;
  -- meanwhile no step handed the item on.
  pub record IsFreed (actor n : ℕ) (Unlinks : ℕ → Type 0) (Hands : StepOf Record → Answer Record → Type 0) : Type 0 where
    pub unlinked_at : ℕ
    pub stamped_at : ℕ
    pub stamp : ℕ
    pub unlinked : Unlinks unlinked_at
    pub stamp_after : unlinked_at < stamped_at
    pub stamped : TakesStep entries stamped_at actor Epoch (Number stamp)
    pub stamp_before : stamped_at < n
    pub passed : (other : ℕ) → other < limits.actors → other ≢ actor
        → (at epoch : ℕ) × (stamped_at < at) × (at < n) × TakesStep entries at actor (Announce other) (Number epoch) × ((epoch ≡ 0) ⊎ (stamp < epoch))
    pub kept : (between other : ℕ) (step : StepOf Record) (answer : Answer Record) → unlinked_at < between → between < n → TakesStep entries between other step answer → ¬ Hands step answer

  pub record IsFreedByRule : Type 0 where
    pub pids : (n actor word bits pid : ℕ) (answer : Answer Record) → TakesStep entries n actor (ReusePids word bits) answer → is_among word bits pid ≡ true
        → IsFreed actor n (UnlinksPid actor pid) (HandsPid pid)
    pub rows : (n actor word bits row : ℕ) (answer : Answer Record) → TakesStep entries n actor (ReuseRows word bits) answer → is_among word bits row ≡ true
        → IsFreed actor n (UnlinksRow actor row) (HandsRow row)
