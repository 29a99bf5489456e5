-- What each record says of keys, of the page's range and of its right.
use Rattle.std.specs.Prelude.{ℕ, List, Bool, true, false, not, Option, None, Some}
use Rattle.std.specs.Ordering.{is_eq}
use Rattle.bw_model.specs.Bytes.{key_cmp, is_below, is_in_range}
use Rattle.base_page.specs.declared.item.Content.{Content}
use Rattle.base_page.specs.declared.item.Content.TheVariants.{Value, Child}
use Rattle.base_page.specs.Pages.{content_at}
use Rattle.deltas.specs.declared.record.Record.{Record}
use Rattle.deltas.specs.declared.record.Record.TheVariants.{Base, Put, Delete, Split, Term, Hold, Remove, Merge, Unterm}

-- whether a record names a key: a base names each
abbrev pub names : Record → List ℕ → Bool
names (Base page) q = true
names (Put put) q = is_eq (key_cmp q put.key)
names (Delete delete) q = is_eq (key_cmp q delete.key)
names (Split split) q = not (is_below q split.separator)
names (Term term) q = is_eq (key_cmp q term.separator)
names (Hold hold) q = is_eq (key_cmp q hold.separator)
names (Remove remove) q = false
names (Merge merge) q = is_in_range merge.low merge.high q
names (Unterm unterm) q = is_eq (key_cmp q unterm.separator)

-- what it says of a key that it names: its content, or that the key is absent
abbrev pub content_said : Record → List ℕ → Option Content
content_said (Base page) q = content_at page.items q
content_said (Put put) q = Some (Value put.value)
content_said (Delete delete) q = None
content_said (Split split) q = None
content_said (Term term) q = Some (Child term.child false)
content_said (Hold hold) q = Some (Child hold.child true)
content_said (Remove remove) q = None
content_said (Merge merge) q = content_at merge.items q
content_said (Unterm unterm) q = None

-- the row of the record under it; a base has none
abbrev pub next_row : Record → Option ℕ
next_row (Base page) = None
next_row (Put put) = Some put.next
next_row (Delete delete) = Some delete.next
next_row (Split split) = Some split.next
next_row (Term term) = Some term.next
next_row (Hold hold) = Some hold.next
next_row (Remove remove) = Some remove.next
next_row (Merge merge) = Some merge.next
next_row (Unterm unterm) = Some unterm.next

-- What a record makes of the page's level, low key, high key and right, and whether the page is removed.
abbrev pub level_after : Record → ℕ → ℕ
level_after (Base page) under = page.level
level_after _ under = under

abbrev pub low_after : Record → List ℕ → List ℕ
low_after (Base page) under = page.low
low_after _ under = under

abbrev pub high_after : Record → Option (List ℕ) → Option (List ℕ)
high_after (Base page) under = page.high
high_after (Split split) under = Some split.separator
high_after (Merge merge) under = merge.high
high_after _ under = under

abbrev pub right_after : Record → Option ℕ → Option ℕ
right_after (Base page) under = page.right
right_after (Split split) under = Some split.page
right_after (Merge merge) under = merge.right
right_after _ under = under

abbrev pub removed_after : Record → Bool → Bool
removed_after (Base page) under = false
removed_after (Remove remove) under = true
removed_after _ under = under
