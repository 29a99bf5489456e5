-- How many deltas and items a page's chain has.
use Rattle.std.specs.Prelude.{◌≡◌, ◌==◌, ◌≤◌, ◌<◌, ℕ, if◌then◌else◌, List, length}
use Rattle.tree_limits.specs.declared.limits.Limits.{Limits}
use Rattle.base_page.specs.declared.item.Item.{Item}
use Rattle.base_page.specs.Rules.{held_count}
use Rattle.deltas.specs.declared.record.Record.{Record}
use Rattle.traces.specs.chain.Chains.{IsItemsOf}

-- At how many deltas a page of a level is consolidated: in a large tree at few, so that its chains keep few rows, and an index page, which many lookups
-- pass, at one.
abbrev pub many_of : Limits → ℕ → ℕ
many_of limits level = if limits.is_large then (if level == 0 then 2 else 1) else 8

-- fewer than 8 deltas over the base
abbrev pub HasFewDeltas : List Record → Type 0
HasFewDeltas chain = length chain ≤ 8

-- the chain's items are such
abbrev pub HasItems : List Record → (List Item → Type 0) → Type 0
HasItems chain P = (items : List Item) × IsItemsOf chain items × P items

-- fewer than 16 items, and 16 or more
abbrev pub HasFewItems : List Record → Type 0
HasFewItems chain = HasItems chain (λ items. length items < 16)

abbrev pub HasManyItems : List Record → Type 0
HasManyItems chain = HasItems chain (λ items. 16 ≤ length items)

-- room for the items of a removed page: 16 items or fewer
abbrev pub HasMergeRoom : List Record → Type 0
HasMergeRoom chain = HasItems chain (λ items. length items ≤ 16)

-- no item is held
abbrev pub HasNoneHeld : List Record → Type 0
HasNoneHeld chain = HasItems chain (λ items. held_count items ≡ 0)
