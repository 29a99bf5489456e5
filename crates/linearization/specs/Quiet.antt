-- The memory and the log have the same map.
use Rattle.std.specs.Prelude.{◌≡◌, ◌≤◌, ◌↔◌, ℕ, List, length, Bool, Some}
use Rattle.tree_limits.specs.declared.limits.Limits.{Limits}
use Rattle.bw_model.specs.Log.{Update, logged_value}
use Rattle.deltas.specs.Memory.{Memory}
use Rattle.traces.specs.declared.trace.Entry.{Entry}
use Rattle.traces.specs.chain.SideChain.{LivePage, IsLeaves, IsWhole, Spells}
use Rattle.traces.specs.trace.Trace.{memory_at}
use Rattle.linearization.specs.Points.{log_at}

-- The leaves are whole, and have at each key the value that the log says.
pub record HasMapOf (memory : Memory) (log : List Update) : Type 0 where
  pub whole : (leaves : List LivePage) × IsLeaves memory leaves × IsWhole leaves
  pub same : (key value : List ℕ) → Spells memory key value ↔ (logged_value log key ≡ Some value)

-- Before each step and after the last one the memory has the map of the log.
pub record IsQuiet (limits : Limits) (entries : List Entry) (points : List Bool) : Type 0 where
  pub at_each : (n : ℕ) → n ≤ length entries → HasMapOf (memory_at limits entries n) (log_at entries points n)
