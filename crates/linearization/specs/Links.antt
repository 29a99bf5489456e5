-- What an exchange that won did.
use Rattle.std.specs.Prelude.{◌≡◌, ◌==◌, ℕ, true, if◌then◌else◌, Option, Some}
use Rattle.std.specs.Option.{option_map}
use Rattle.bw_model.specs.declared.step.Answer.TheVariants.{Whether}
use Rattle.bw_model.specs.declared.step.Link.{Link}
use Rattle.bw_model.specs.declared.step.Link.TheVariants as link
use Rattle.bw_model.specs.declared.step.Step.TheVariants.{Exchange}
use Rattle.deltas.specs.declared.record.Record.{Record}
use Rattle.deltas.specs.declared.record.Record.TheVariants.{Remove}
use Rattle.deltas.specs.Links.{record_link}
use Rattle.deltas.specs.Memory.{Memory}
use Rattle.traces.specs.declared.trace.Entry.{Entry}
use Rattle.traces.specs.trace.Trace.{IsStep}

-- the link of an emptied slot, by the record that was its newest
abbrev pub link_without : Record → Link
link_without (Remove remove) = link.Clear
link_without _ = link.Undo

-- The link of an exchange of the slot from old to new, by the memory before it.
abbrev pub link_of : Memory → ℕ → ℕ → ℕ → Option Link
link_of memory slot old new =
    if slot == 0 then Some link.Root
    else if old == 0 then Some link.Ready
    else if new == 0 then option_map link_without (memory.rows old)
    else option_map record_link (memory.rows new)

-- The entry is the actor's exchange of the slot, which won with this link; the memory is that before it.
abbrev pub Wins : Memory → Entry → ℕ → ℕ → ℕ → ℕ → Link → Type 0
Wins memory entry actor slot old new kind = IsStep entry actor (Exchange slot old new) (Whether true) × (link_of memory slot old new ≡ Some kind)

-- The entry is an exchange that won and put the record in front of the chain of the slot's page.
abbrev pub Installs : Memory → Entry → ℕ → Record → Type 0
Installs memory entry slot newest = (actor old new : ℕ) × Wins memory entry actor slot old new (record_link newest) × (memory.rows new ≡ Some newest)
