-- The life of a PID: what it is used for, in an order that is never left.
use Rattle.std.specs.Prelude.{◌≡◌, ◌<◌, ◌≤◌, ◌==◌, ℕ, suc, List, true, if◌then◌else◌, Some, ◌⊎◌, Bool, IsTrue}
use Rattle.tree_limits.specs.declared.limits.Limits.{Limits}
use Rattle.bw_model.specs.declared.step.Step.TheVariants.{TakePid, ReusePids}
use Rattle.bw_model.specs.declared.step.Answer.{Answer}
use Rattle.bw_model.specs.declared.step.Answer.TheVariants.{Whether}
use Rattle.bw_model.specs.declared.step.Link.TheVariants as link
use Rattle.bw_model.specs.Bytes.{is_below}
use Rattle.base_page.specs.declared.item.Content.TheVariants.{Child}
use Rattle.deltas.specs.declared.record.Record.{Record}
use Rattle.deltas.specs.declared.record.Record.TheVariants as delta
use Rattle.deltas.specs.declared.record.Split.{Split}
use Rattle.deltas.specs.declared.record.Term.{Term}
use Rattle.deltas.specs.declared.record.Hold.{Hold}
use Rattle.deltas.specs.declared.record.Remove.{Remove}
use Rattle.deltas.specs.declared.record.Merge.{Merge}
use Rattle.deltas.specs.declared.record.Unterm.{Unterm}
use Rattle.traces.specs.declared.trace.Entry.{Entry}
use Rattle.traces.specs.chain.Chains.{IsChainOf, content_in, low_in, right_in}
use Rattle.tree_limits.specs.Words.{is_among}
use Rattle.deltas.specs.Memory.{Memory}
use Rattle.traces.specs.trace.Trace.{IsStep, Happens}
use Rattle.traces.specs.chain.Unheld.{IsUnheld}
use Rattle.linearization.specs.Links.{Wins, Installs}

pub data Phase : Type 0 where
  free : Phase
  owned : Phase
  fresh : Phase
  indexed : Phase
  held : Phase
  removed : Phase
  merged : Phase
  cleared : Phase

-- The entry makes the page of the PID the root.
abbrev pub MakesRoot : Memory → Entry → ℕ → Type 0
MakesRoot memory entry pid = (actor old : ℕ) × Wins memory entry actor 0 old pid link.Root

-- The entry takes the PID from the first phase to the second; the memory is that before it.
pub data MovesPhase (memory : Memory) (entry : Entry) (pid : ℕ) : Phase → Phase → Type 0 where
  takes : (actor : ℕ) → IsStep entry actor (TakePid pid) (Whether true) → MovesPhase memory entry pid free owned
  splits : (slot : ℕ) (split : Split) → Installs memory entry slot (delta.Split split) → split.page ≡ pid → MovesPhase memory entry pid owned fresh
  becomes_root : MakesRoot memory entry pid → MovesPhase memory entry pid owned indexed
  terms : (slot : ℕ) (term : Term) → Installs memory entry slot (delta.Term term) → term.child ≡ pid → MovesPhase memory entry pid fresh indexed
  under_root : (root : ℕ) (chain : List Record) (key : List ℕ) (held : Bool) → MakesRoot memory entry root → IsChainOf memory root chain
      → IsTrue (is_below (low_in chain) key) → content_in chain key ≡ Some (Child pid held) → MovesPhase memory entry pid fresh indexed
  holds : (slot : ℕ) (hold : Hold) → Installs memory entry slot (delta.Hold hold) → hold.child ≡ pid → MovesPhase memory entry pid indexed held
  removes : (remove : Remove) → Installs memory entry pid (delta.Remove remove) → MovesPhase memory entry pid held removed
  merges : (slot : ℕ) (merge : Merge) (chain : List Record) → Installs memory entry slot (delta.Merge merge) → IsChainOf memory slot chain
      → right_in chain ≡ Some pid → MovesPhase memory entry pid removed merged
  unterms : (slot : ℕ) (unterm : Unterm) → Installs memory entry slot (delta.Unterm unterm) → unterm.child ≡ pid → MovesPhase memory entry pid merged cleared
  reuses : (actor word bits : ℕ) (answer : Answer Record) → IsStep entry actor (ReusePids word bits) answer → is_among word bits pid ≡ true → MovesPhase memory entry pid cleared free

-- Before any move PID 1 is indexed and each other one is free.
abbrev pub first_phase : ℕ → Phase
first_phase pid = if pid == 1 then indexed else free

module _ (limits : Limits) (entries : List Entry) where
  abbrev pub MovesAt : ℕ → ℕ → Phase → Phase → Type 0
  MovesAt n pid from to = Happens limits entries n (λ memory entry. MovesPhase memory entry pid from to)

  -- From the step m on, and before the step n, nothing moves the PID.
  abbrev pub Rests : ℕ → ℕ → ℕ → Type 0
  Rests m n pid = (k : ℕ) (from to : Phase) → m ≤ k → k < n → ¬ MovesAt k pid from to

  -- Before step n the PID is in the phase to which its last move took it.
  abbrev pub IsInPhase : ℕ → ℕ → Phase → Type 0
  IsInPhase n pid phase = ((m : ℕ) × (from : Phase) × (m < n) × MovesAt m pid from phase × Rests (suc m) n pid) ⊎ (Rests 0 n pid × (phase ≡ first_phase pid))

  -- Each move starts in the phase in which the PID is, and the slot of a removed page is emptied only when it is cleared. A page is
  -- removed only while no term of it is held.
  pub record KeepsPhases : Type 0 where
    pub in_order : (n pid : ℕ) (from to : Phase) → MovesAt n pid from to → IsInPhase n pid from
    pub emptied : (n actor pid old : ℕ) → Happens limits entries n (λ memory entry. Wins memory entry actor pid old 0 link.Clear) → IsInPhase n pid cleared
    pub unheld : (n pid : ℕ) (remove : Remove) (chain : List Record)
        → Happens limits entries n (λ memory entry. Installs memory entry pid (delta.Remove remove) × IsChainOf memory pid chain) → IsUnheld chain
