-- What a record makes of the page under it.
use Rattle.std.specs.Prelude.{◌≡◌, ℕ, List, if◌then◌else◌}
use Rattle.deltas.specs.declared.record.Record.{Record}
use Rattle.base_page.specs.Pages.{content_at, IsAscending, Page}
use Rattle.deltas.specs.Records.{names, content_said, level_after, low_after, high_after, right_after, removed_after}

-- The new page has what the record says at each key that it names, and what the old page has elsewhere.
pub record Applies (old : Page) (change : Record) (new : Page) : Type 0 where
  pub ascending : IsAscending new.items
  pub contents : (key : List ℕ) → content_at new.items key ≡ (if names change key then content_said change key else content_at old.items key)
  pub level : new.level ≡ level_after change old.level
  pub low : new.low ≡ low_after change old.low
  pub high : new.high ≡ high_after change old.high
  pub right : new.right ≡ right_after change old.right
  pub removed : new.removed ≡ removed_after change old.removed
