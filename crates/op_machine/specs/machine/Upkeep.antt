-- What a deletion or a tidying does at a small page: it holds the page's term, and then removes the page.
use Rattle.std.specs.Prelude.{◌≡◌, Bool, Option, None, Some, true, false, ⊤}
use Rattle.bw_model.specs.declared.command.Command.{Command}
use Rattle.bw_model.specs.declared.command.Command.TheVariants.{Add, Back, Delete, DeleteIf, Get, Insert, Page, Swap, Tidy, Upsert}
use Rattle.deltas.specs.declared.record.Record.TheVariants as kind
use Rattle.structure_changes.specs.declared.plan.Plan.{Plan}
use Rattle.structure_changes.specs.declared.plan.Plan.TheVariants.{Install}
use Rattle.structure_changes.specs.Upkeep.{IsIdle, IsUpkeep}
use Rattle.structure_changes.specs.Versions.{Version}

-- the commands that make the tree smaller
abbrev pub tidies : Command → Bool
tidies (Delete key) = true
tidies (DeleteIf key expected) = true
tidies (Tidy key) = true
tidies (Get key) = false
tidies (Insert key value) = false
tidies (Upsert key value) = false
tidies (Swap key expected value) = false
tidies (Add key number) = false
tidies (Page key) = false
tidies (Back key) = false

-- Nothing is due for a command at a leaf, with a page above it or without one.
abbrev pub IsIdleFor : Command → Option Version → Version → Type 0
IsIdleFor command None leaf = Unit {0}
IsIdleFor command (Some parent) leaf = tidies command ≡ true → IsIdle parent leaf

-- A hold or a removal is for a command that tidies.
abbrev pub IsTidying : Command → Plan → Type 0
IsTidying command (Install pid head (kind.Hold hold)) = tidies command ≡ true
IsTidying command (Install pid head (kind.Remove remove)) = tidies command ≡ true
IsTidying command plan = ⊤

-- The plan is what a command does first at a small leaf below the page above it.
abbrev pub IsUpkeepFor : Command → Option Version → Version → Plan → Type 0
IsUpkeepFor command None leaf plan = ⊥
IsUpkeepFor command (Some parent) leaf plan = (tidies command ≡ true) × IsUpkeep parent leaf plan
