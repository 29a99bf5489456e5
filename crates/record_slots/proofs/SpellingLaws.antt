-- What spells a record has its parts, and the other way round.
use Rattle.std.proofs.Common.{◌≡◌, ◌<◌, ◌*◌, ℕ, List, [], ◌∷◌, length, take, drop, refl, sym, ap, subst, ◌∙◌, arith}
use Rattle.std.specs.Prelude.{Option, Some, None, IfSome, unwrap_or}
use Rattle.std.specs.List.{All}
use Rattle.std.proofs.lemmas.List.Elements.{All-nil, All-cons}
use Rattle.bw_model.specs.Bytes.{IsShort}
use Rattle.base_page.specs.declared.item.Content.TheVariants.{Value, Child}
use Rattle.base_page.specs.declared.item.Item.{Item}
use Rattle.base_page.specs.Pages.{IsOfLevel}
use Rattle.deltas.specs.Spellable.{IsPid, HasPid, IsSpellable, IsSpellableLink}
use Rattle.deltas.specs.declared.record.Record.{Record}
use Rattle.deltas.specs.declared.record.Record.TheVariants.{Base, Put, Delete, Split, Term, Hold, Remove, Merge, Unterm}
use Rattle.record_slots.specs.declared.row.Row.{Row}
use Rattle.record_slots.specs.Layout.{item_size, items_at, row_size}
use Rattle.record_slots.specs.Spelling.{items_words, words_of}
use Rattle.record_slots.specs.Spells.{IsShortItem, HasShortTexts, IsSpelling}
use Rattle.record_slots.specs.Parts.{IsItem, IsRowOfParts, IsRowIn, IsRecordOf, row_of, items_of}
use Rattle.record_slots.proofs.OneRow.{row_one, items_one}
use Rattle.record_slots.proofs.RowLaws.{words_of_row, row_there, items_there, whole_row, row_length}

same_words : (content : Record) → words_of_row (row_of content) (items_of content) ≡ words_of content
same_words (Base page) = refl
same_words (Put put) = refl
same_words (Delete delete) = refl
same_words (Split split) = refl
same_words (Term term) = refl
same_words (Hold hold) = refl
same_words (Remove remove) = refl
same_words (Merge merge) = refl
same_words (Unterm unterm) = refl

pub counts : (content : Record) → length (items_of content) ≡ (row_of content).count
counts (Base page) = refl
counts (Put put) = refl
counts (Delete delete) = refl
counts (Split split) = refl
counts (Term term) = refl
counts (Hold hold) = refl
counts (Remove remove) = refl
counts (Merge merge) = refl
counts (Unterm unterm) = refl

right_below : (right : Option ℕ) → IfSome right IsPid → unwrap_or right 0 < 4194304
right_below None h = omega arith
right_below (Some page) h = h.1

module _ (level : ℕ) where
  each_item : (items : List Item) → All IsShortItem items → All (λ item. IsOfLevel level item.content) items → All (λ item. HasPid item.content) items → All (IsItem level) items
  each_item items short kinds pids k d within = record { short = short k d within; kind = kinds k d within; child = pids k d within }

no_items : (level : ℕ) → All (IsItem level) []
no_items level = All-nil (IsItem level)

empty_short : IsShort []
empty_short = record { short = omega arith; bytes_fit = tt }

link_fits : (kind level next page : ℕ) (separator : List ℕ) → kind < 256 → IsSpellableLink level next separator page → IsShort separator
    → IsRowOfParts (record { kind = kind; level = level; count = 0; next = next; page = page; first = separator; second = Some [] })
link_fits kind level next page separator small h s = record { kind = small; level = h.top; few = omega arith; next = h.over.1; page = h.names.1; first = s; second = empty_short }

-- a record that a row can spell has parts in their ranges
pub parts_fit : (content : Record) → IsSpellable content → HasShortTexts content → IsRowOfParts (row_of content)
parts_fit (Base page) h s = record { kind = omega arith; level = h.ruled.top; few = h.ruled.is_page.ordered.few; next = omega arith; page = right_below page.right h.right; first = s.0; second = s.1 }
parts_fit (Put put) h s = record { kind = omega arith; level = omega arith; few = omega arith; next = h.1; page = omega arith; first = empty_short; second = empty_short }
parts_fit (Delete delete) h s = record { kind = omega arith; level = omega arith; few = omega arith; next = h.1; page = omega arith; first = s; second = empty_short }
parts_fit (Split split) h s = link_fits 4 split.level split.next split.page split.separator (omega arith) h s
parts_fit (Term term) h s = link_fits 5 term.level term.next term.child term.separator (omega arith) h.1 s
parts_fit (Hold hold) h s = link_fits 6 hold.level hold.next hold.child hold.separator (omega arith) h.1 s
parts_fit (Remove remove) h s = record { kind = omega arith; level = h.0; few = omega arith; next = h.1.1; page = omega arith; first = empty_short; second = empty_short }
parts_fit (Merge merge) h s = record
    { kind = omega arith; level = h.3.ruled.top; few = h.3.ruled.is_page.ordered.few; next = h.0.1; page = right_below merge.right h.3.right; first = s.0; second = s.1 }
parts_fit (Unterm unterm) h s = link_fits 9 unterm.level unterm.next unterm.child unterm.separator (omega arith) h.1 s

-- its items are of its level
pub items_fit : (content : Record) → IsSpellable content → HasShortTexts content → All (IsItem (row_of content).level) (items_of content)
items_fit (Base page) h s = each_item page.level page.items s.2 h.ruled.is_page.kinds h.children
items_fit (Put put) h s = All-cons (IsItem 0) (record { key = put.key; content = Value put.value }) [] (record { short = (s.0, s.1); kind = refl; child = tt }) (no_items 0)
items_fit (Merge merge) h s = each_item merge.level merge.items s.2 h.3.ruled.is_page.kinds h.3.children
items_fit (Delete delete) h s = no_items 0
items_fit (Split split) h s = no_items split.level
items_fit (Term term) h s = no_items term.level
items_fit (Hold hold) h s = no_items hold.level
items_fit (Remove remove) h s = no_items remove.level
items_fit (Unterm unterm) h s = no_items unterm.level

module _ (words : List ℕ) (content : Record) (h : IsSpelling content words) where
  abbrev are : words_of_row (row_of content) (items_of content) ≡ words
  are = same_words content ∙ h.are

  pub row_spelled : IsRowIn words (row_of content)
  row_spelled = row_there words (row_of content) (items_of content) (parts_fit content h.spellable h.short) (counts content) are

  pub items_spelled : items_words (items_of content) ≡ take (item_size * (row_of content).count) (drop items_at words)
  items_spelled = items_there words (row_of content) (items_of content) (parts_fit content h.spellable h.short) (counts content) are

pub spelled_by : (words : List ℕ) (row : Row) (content : Record) → length words ≡ row_size → IsRowIn words row
    → IsRecordOf row (take (item_size * row.count) (drop items_at words)) content → IsSpelling content words
spelled_by words row content all h r =
    let many : length (items_of content) ≡ row.count = counts content ∙ ap (λ (one : Row). one.count) r.are in
    record {
      spellable = r.spellable;
      short = r.short;
      are = sym (same_words content) ∙ ap (λ one. words_of_row one (items_of content)) r.are ∙ whole_row words row (items_of content) (omega (arith, all)) h many r.items;
    }

pub record_spelled : (words : List ℕ) (row : Row) (content : Record) → IsRowIn words row → IsSpelling content words → IsRecordOf row (take (item_size * row.count) (drop items_at words)) content
record_spelled words row content h s =
    let same = row_one words (row_of content) row (row_spelled words content s) h in
    record {
      spellable = s.spellable;
      short = s.short;
      are = same;
      items = items_spelled words content s ∙ ap (λ (one : Row). take (item_size * one.count) (drop items_at words)) same;
    }

abbrev kind_of : Record → ℕ
kind_of content = (row_of content).kind

pub right_one : (one other : Option ℕ) → IfSome one IsPid → IfSome other IsPid → unwrap_or one 0 ≡ unwrap_or other 0 → one ≡ other
right_one None None h g e = refl
right_one None (Some other) h g e = let s = g.0 in absurd (omega arith)
right_one (Some one) None h g e = let s = h.0 in absurd (omega arith)
right_one (Some one) (Some other) h g e = ap Some e

abbrev value_or_none : List Item → List ℕ
value_or_none [] = []
value_or_none (item ∷ items) = elim item.content [ Value value ↦ value | Child page held ↦ [] ]

abbrev key_or_none : List Item → List ℕ
key_or_none [] = []
key_or_none (item ∷ items) = item.key

-- a record has its parts and its items alone
parts_one : (one other : Record) → IsSpellable one → IsSpellable other → row_of one ≡ row_of other → items_of one ≡ items_of other → one ≡ other
parts_one (Base x) (Base y) h g e f =
    let right = right_one x.right y.right h.right g.right (λ i. (e i).page) in
    λ i. Base (record { level = (e i).level; low = (e i).first; high = (e i).second; right = right i; removed = (h.alive ∙ sym g.alive) i; items = f i })
parts_one (Put x) (Put y) h g e f = λ i. Put (record { next = (e i).next; key = key_or_none (f i); value = value_or_none (f i) })
parts_one (Delete x) (Delete y) h g e f = λ i. Delete (record { next = (e i).next; key = (e i).first })
parts_one (Split x) (Split y) h g e f = λ i. Split (record { level = (e i).level; next = (e i).next; separator = (e i).first; page = (e i).page })
parts_one (Term x) (Term y) h g e f = λ i. Term (record { level = (e i).level; next = (e i).next; separator = (e i).first; child = (e i).page })
parts_one (Hold x) (Hold y) h g e f = λ i. Hold (record { level = (e i).level; next = (e i).next; separator = (e i).first; child = (e i).page })
parts_one (Remove x) (Remove y) h g e f = λ i. Remove (record { level = (e i).level; next = (e i).next })
parts_one (Merge x) (Merge y) h g e f =
    let right = right_one x.right y.right h.3.right g.3.right (λ i. (e i).page) in
    λ i. Merge (record { level = (e i).level; next = (e i).next; low = (e i).first; high = (e i).second; right = right i; items = f i })
parts_one (Unterm x) (Unterm y) h g e f = λ i. Unterm (record { level = (e i).level; next = (e i).next; separator = (e i).first; child = (e i).page })
parts_one one other h g e f = let k : kind_of one ≡ kind_of other = ap (λ (row : Row). row.kind) e in absurd (omega arith)

pub spelling_one : (one other : Record) (words : List ℕ) → IsSpelling one words → IsSpelling other words → one ≡ other
spelling_one one other words h g =
    let rows = row_one words (row_of one) (row_of other) (row_spelled words one h) (row_spelled words other g) in
    let level = ap (λ (row : Row). row.level) rows in
    let count = ap (λ (row : Row). row.count) rows in
    let each = subst (λ l. All (IsItem l) (items_of other)) (sym level) (items_fit other g.spellable g.short) in
    let same = items_spelled words one h ∙ ap (λ n. take (item_size * n) (drop items_at words)) count ∙ sym (items_spelled words other g) in
    let items = items_one (row_of one).level (items_of one) (items_of other) (items_fit one h.spellable h.short) each (counts one ∙ count ∙ sym (counts other)) same in
    parts_one one other h.spellable g.spellable rows items

pub spelling_there : (content : Record) → IsSpellable content → HasShortTexts content → IsSpelling content (words_of content)
spelling_there content h s = record { spellable = h; short = s; are = refl }

pub spelling_length : (content : Record) (words : List ℕ) → IsSpelling content words → length words ≡ row_size
spelling_length content words h = row_length words (row_of content) (row_spelled words content h)
