-- Which records a row of words can spell. Keys and values are short by their types.
use Rattle.std.specs.Prelude.{◌≡◌, ◌≢◌, ◌<◌, ◌≤◌, ℕ, List, [], false, length, IfSome, ⊤}
use Rattle.std.specs.List.{All}
use Rattle.base_page.specs.declared.item.Content.{Content}
use Rattle.base_page.specs.declared.item.Content.TheVariants.{Value, Child}
use Rattle.base_page.specs.Pages.{Page}
use Rattle.base_page.specs.Rules.{IsRuled}
use Rattle.deltas.specs.declared.record.Record.{Record}
use Rattle.deltas.specs.declared.record.Record.TheVariants.{Base, Put, Delete, Split, Term, Hold, Remove, Merge, Unterm}

-- a number that a page may have, and one that the row of a record may have
abbrev pub IsPid : ℕ → Type 0
IsPid pid = (0 < pid) × (pid < 4194304)

abbrev pub IsRow : ℕ → Type 0
IsRow row = (0 < row) × (row < 67108864)

abbrev pub HasPid : Content → Type 0
HasPid (Value value) = ⊤
HasPid (Child page held) = IsPid page

-- A page that keeps the rules and isn't removed; its right and its children are pages.
pub record IsSpellablePage (page : Page) : Type 0 where
  pub ruled : IsRuled page
  pub alive : page.removed ≡ false
  pub right : IfSome page.right IsPid
  pub children : All (λ item. HasPid item.content) page.items

-- A separator isn't the empty key.
pub record IsSpellableLink (level next : ℕ) (separator : List ℕ) (page : ℕ) : Type 0 where
  pub top : level ≤ 15
  pub over : IsRow next
  pub above : separator ≢ []
  pub names : IsPid page

-- Over the record of another row; only a base has none under it.
abbrev pub IsSpellable : Record → Type 0
IsSpellable (Base page) = IsSpellablePage page
IsSpellable (Put put) = IsRow put.next
IsSpellable (Delete delete) = IsRow delete.next
IsSpellable (Split split) = IsSpellableLink split.level split.next split.separator split.page
IsSpellable (Term term) = (0 < term.level) × IsSpellableLink term.level term.next term.separator term.child
IsSpellable (Hold hold) = (0 < hold.level) × IsSpellableLink hold.level hold.next hold.separator hold.child
IsSpellable (Remove remove) = (remove.level ≤ 15) × IsRow remove.next
IsSpellable (Merge merge) = IsRow merge.next × (merge.low ≢ []) × (length merge.items ≤ 4)
    × IsSpellablePage (record { level = merge.level; low = merge.low; high = merge.high; right = merge.right; removed = false; items = merge.items })
IsSpellable (Unterm unterm) = (0 < unterm.level) × IsSpellableLink unterm.level unterm.next unterm.separator unterm.child
