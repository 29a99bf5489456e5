-- Chains of which no term is held.
use Rattle.std.specs.Prelude.{◌≡◌, ℕ, List, Some, true}
use Rattle.base_page.specs.declared.item.Content.TheVariants.{Child}
use Rattle.deltas.specs.declared.record.Record.{Record}
use Rattle.traces.specs.chain.Chains.{content_in}

-- no term that the chain decides is held
abbrev pub IsUnheld : List Record → Type 0
IsUnheld chain = (key : List ℕ) (child : ℕ) → content_in chain key ≡ Some (Child child true) → ⊥
