-- Where the map is updated: a point makes an update exactly where a put or a delete is linked.
use Rattle.std.specs.Prelude.{◌≡◌, ◌↔◌, ℕ, suc, List, [], ◌∷◌, ◌++◌, Bool, ◌⊎◌}
use Rattle.tree_limits.specs.declared.limits.Limits.{Limits}
use Rattle.bw_model.specs.declared.step.Link.{Link}
use Rattle.bw_model.specs.declared.step.Link.TheVariants as link
use Rattle.bw_model.specs.Log.{Update}
use Rattle.deltas.specs.Memory.{Memory}
use Rattle.traces.specs.declared.trace.Entry.{Entry}
use Rattle.traces.specs.trace.Trace.{Happens}
use Rattle.linearization.specs.Links.{Wins}
use Rattle.linearization.specs.Points.{IsPoint, log_at}

abbrev pub IsUpdateLink : Link → Type 0
IsUpdateLink kind = (kind ≡ link.Put) ⊎ (kind ≡ link.Delete)

-- The entry is an exchange that won and linked a put or a delete.
abbrev pub LinksUpdate : Memory → Entry → Type 0
LinksUpdate memory entry = (actor slot old new : ℕ) × (kind : Link) × Wins memory entry actor slot old new kind × IsUpdateLink kind

-- Step n is a point, and the log is longer after it.
abbrev pub IsUpdating : List Entry → List Bool → ℕ → Type 0
IsUpdating entries points n = IsPoint points n × ((update : Update) × (log_at entries points (suc n) ≡ log_at entries points n ++ update ∷ []))

-- So which steps update the map is a function of the entries.
abbrev pub UpdatesAtLinks : Limits → List Entry → List Bool → Type 0
UpdatesAtLinks limits entries points = (n : ℕ) → IsUpdating entries points n ↔ Happens limits entries n LinksUpdate
