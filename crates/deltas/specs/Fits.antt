-- What a record asks of the page under it.
use Rattle.std.specs.Prelude.{◌≡◌, ◌+◌, ◌<◌, ◌≤◌, IsTrue, false, true, [], None, Some, length}
use Rattle.bw_model.specs.Bytes.{is_below, is_in_range}
use Rattle.base_page.specs.declared.item.Content.TheVariants.{Child}
use Rattle.base_page.specs.Pages.{Page, IsPage, content_at}
use Rattle.deltas.specs.declared.record.Put.{Put}
use Rattle.deltas.specs.declared.record.Delete.{Delete}
use Rattle.deltas.specs.declared.record.Split.{Split}
use Rattle.deltas.specs.declared.record.Term.{Term}
use Rattle.deltas.specs.declared.record.Hold.{Hold}
use Rattle.deltas.specs.declared.record.Remove.{Remove}
use Rattle.deltas.specs.declared.record.Merge.{Merge}
use Rattle.deltas.specs.declared.record.Unterm.{Unterm}
use Rattle.deltas.specs.declared.record.Record.{Record}
use Rattle.deltas.specs.declared.record.Record.TheVariants as kind

-- a leaf has the key in its range, and room for it
pub record FitsPut (page : Page) (put : Put) : Type 0 where
  pub alive : page.removed ≡ false
  pub leaf : page.level ≡ 0
  pub covered : IsTrue (is_in_range page.low page.high put.key)
  pub room : content_at page.items put.key ≡ None → length page.items < 24

-- a leaf has the key in its range
pub record FitsDelete (page : Page) (delete : Delete) : Type 0 where
  pub alive : page.removed ≡ false
  pub leaf : page.level ≡ 0
  pub covered : IsTrue (is_in_range page.low page.high delete.key)

-- the separator is in the range, above the low key
pub record FitsSplit (page : Page) (split : Split) : Type 0 where
  pub alive : page.removed ≡ false
  pub level : page.level ≡ split.level
  pub covered : IsTrue (is_in_range page.low page.high split.separator)
  pub inner : IsTrue (is_below page.low split.separator)

-- an index page has the separator in its range, no term there, and room for one
pub record FitsTerm (page : Page) (term : Term) : Type 0 where
  pub alive : page.removed ≡ false
  pub level : page.level ≡ term.level
  pub index : 0 < term.level
  pub covered : IsTrue (is_in_range page.low page.high term.separator)
  pub absent : content_at page.items term.separator ≡ None
  pub room : length page.items < 24

-- the page has the term, which isn't held
pub record FitsHold (page : Page) (hold : Hold) : Type 0 where
  pub alive : page.removed ≡ false
  pub level : page.level ≡ hold.level
  pub there : content_at page.items hold.separator ≡ Some (Child hold.child false)

-- a page with few items, which isn't the first of its level
pub record FitsRemove (page : Page) (remove : Remove) : Type 0 where
  pub alive : page.removed ≡ false
  pub level : page.level ≡ remove.level
  pub few : length page.items ≤ 4
  pub inner : IsTrue (is_below [] page.low)

-- What is merged is a page, which begins where this one ends; there is room for its items.
pub record FitsMerge (page : Page) (merge : Merge) : Type 0 where
  pub alive : page.removed ≡ false
  pub level : page.level ≡ merge.level
  pub meets : page.high ≡ Some merge.low
  pub merged : IsPage (record { level = merge.level; low = merge.low; high = merge.high; right = merge.right; removed = false; items = merge.items })
  pub room : length page.items + length merge.items ≤ 24

-- the page has the term, which is held
pub record FitsUnterm (page : Page) (unterm : Unterm) : Type 0 where
  pub alive : page.removed ≡ false
  pub level : page.level ≡ unterm.level
  pub there : content_at page.items unterm.separator ≡ Some (Child unterm.child true)

-- A base has no page under it, and asks of none; every other record asks for a page that isn't removed.
abbrev pub FitsOnPage : Page → Record → Type 0
FitsOnPage page (kind.Base base) = base.removed ≡ false
FitsOnPage page (kind.Put put) = FitsPut page put
FitsOnPage page (kind.Delete delete) = FitsDelete page delete
FitsOnPage page (kind.Split split) = FitsSplit page split
FitsOnPage page (kind.Term term) = FitsTerm page term
FitsOnPage page (kind.Hold hold) = FitsHold page hold
FitsOnPage page (kind.Remove remove) = FitsRemove page remove
FitsOnPage page (kind.Merge merge) = FitsMerge page merge
FitsOnPage page (kind.Unterm unterm) = FitsUnterm page unterm
