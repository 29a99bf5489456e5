-- Rows of pages that are put together by hand.
use Rattle.std.specs.Prelude.{◌≡◌, ◌-◌, ℕ, Option, None, Some, nat_le, slice_get, if◌then◌else◌}
use Rattle.deltas.specs.declared.record.Record.{Record}
use Rattle.structure_changes.specs.Versions.{Version}

-- the page's record in the row: the newest one stands in its head, and each other one in the row before
abbrev pub page_record : Version → ℕ → Option Record
page_record page row = if nat_le row page.head then slice_get page.chain (page.head - row) else None

-- the first of two, or the second where there is no first one
abbrev pub or_else : Option Record → Option Record → Option Record
or_else (Some newest) other = Some newest
or_else None other = other

-- pages whose rows are looked at
pub record ThreePages : Type 0 where
  pub one : Version
  pub other : Version
  pub third : Version

-- what stands in the row: the first page that has it tells
abbrev pub found_in : ThreePages → ℕ → Option Record
found_in pages row = or_else (page_record pages.one row) (or_else (page_record pages.other row) (page_record pages.third row))

-- Each row of the page has the page's record.
abbrev pub HasRowsOf : ThreePages → Version → Type 0
HasRowsOf pages page = (row : ℕ) (content : Record) → page_record page row ≡ Some content → found_in pages row ≡ Some content

-- No row is one of both pages.
abbrev pub ShareNoRow : Version → Version → Type 0
ShareNoRow one other = (row : ℕ) (content : Record) → page_record other row ≡ Some content → page_record one row ≡ None
