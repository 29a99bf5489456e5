-- How high is what is drawn of pages, in pixels.
use Rattle.std.specs.Prelude.{ℕ, ◌≤◌, ◌+◌, ◌*◌, length, sum_by}
use Rattle.deltas.specs.declared.record.Record.{Record}
use Rattle.deltas.specs.declared.record.Record.TheVariants.{Base, Merge}
use Rattle.traces.specs.chain.SideChain.{LivePage}
use Rattle.tree_picture.specs.declared.places.TheConstants.{BASE, BESIDE, DELTA, FOOT, GAP, HEAD, LEFT, PAGE_WIDTH, ROW, TABLE}

-- a base or a merge by its items, or any other delta
abbrev pub record_height : Record → ℕ
record_height (Base page) = length page.items * ROW + BASE
record_height (Merge merge) = length merge.items * ROW + BASE
record_height _ = DELTA

abbrev pub page_height : LivePage → ℕ
page_height page = HEAD + FOOT + sum_by record_height page.chain

-- In a picture of this width there is room beside each other for as many of so many pages as stand in a row.
abbrev pub IsWideFor : ℕ → ℕ → Type 0
IsWideFor width pages = (many : ℕ) → many ≤ pages → many ≤ BESIDE → many * (PAGE_WIDTH + GAP) + 2 * LEFT + TABLE ≤ width
