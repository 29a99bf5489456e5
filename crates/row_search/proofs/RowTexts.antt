-- The texts of a row, by its record.
use Rattle.std.proofs.Common.{◌≡◌, ◌<◌, ◌≤◌, ◌+◌, ◌*◌, ◌/◌, ◌%◌, ℕ, suc, Bool, true, false, List, [], ◌∷◌, length, get_or, take, drop, refl, sym, ap, ◌∙◌, arith}
use Rattle.std.specs.Prelude.{Option, Some, None, IfSome, not, ◌&&◌, option_map}
use Rattle.row_search.proofs.Words.{Ordering, Less, get_or-drop, drop-drop, Value, Item, IsAscending-from, AreItems, IsAscending, IsSpellable, Record, count_unit, field_size}
use Rattle.row_search.proofs.Words.{first_at, item_size, items_at, no_bound, part_limit, second_at, text_size, field_words, bound_words, IsSpelling, IsText, row_of, items_of, counts}
use Rattle.row_search.proofs.Words.{items_fit, items_spelled, row_spelled, StandIn}
use Rattle.std.specs.Ordering.{is_eq, is_lt, is_gt, ordering_reverse}
use Rattle.std.proofs.lemmas.Cmp.{nat_list_cmp_total}
use Rattle.bw_model.specs.Bytes.{IsShort, key_cmp, is_below, is_under}
use Rattle.deltas.specs.Records.{names, next_row}
use Rattle.deltas.specs.declared.record.Record.TheVariants.{Base, Put, Delete, Split, Term, Hold, Remove, Merge, Unterm}
use Rattle.row_search.specs.Reading.{first_key, record_in}
use Rattle.row_search.proofs.ItemTexts.{window}

pub first_of : (n : ℕ) (xs : List ℕ) → get_or (take (suc n) xs) 0 0 ≡ get_or xs 0 0
first_of n [] = refl
first_of n (x ∷ xs) = refl

-- a text whose field stands at a place
pub text_at : (text words : List ℕ) (at : ℕ) → IsShort text → field_words text ≡ take field_size (drop at words) → IsText (get_or words at 0) (take text_size (drop (at + 1) words)) text
text_at text words at short e = record {
  short = short;
  counts =
      let zero_more : at + 0 ≡ at = omega arith in
      sym (ap (λ k. get_or words k 0) (sym zero_more) ∙ sym (get_or-drop at words 0 0) ∙ sym (first_of text_size (drop at words)) ∙ ap (λ ws. get_or ws 0 0) (sym e));
  are = sym (ap (take text_size) (sym (drop-drop 1 at words)) ∙ sym (window text_size 1 field_size (drop at words) (omega arith)) ∙ ap (λ ws. take text_size (drop 1 ws)) (sym e));
}

items_ascend : (content : Record) → IsSpellable content → IsAscending (items_of content)
items_ascend (Base page) h = h.ruled.is_page.ordered.ascending
items_ascend (Merge merge) h = h.3.ruled.is_page.ordered.ascending
items_ascend (Put put) h = IsAscending-from (record { key = put.key; content = Value put.value } ∷ []) (tt, tt)
items_ascend content h = IsAscending-from [] tt

module _ (words : List ℕ) (content : Record) (h : IsSpelling content words) where
  pub kind_there : get_or words 0 0 % part_limit ≡ (row_of content).kind
  kind_there = let is = row_spelled words content h in let first = is.header in let small = is.is.kind in let top = is.is.level in omega arith

  pub count_there : get_or words 0 0 / count_unit % part_limit ≡ length (items_of content)
  count_there = let is = row_spelled words content h in let first = is.header in let small = is.is.kind in let top = is.is.level in let many = counts content in omega arith

  pub first_text : IsText (get_or words first_at 0) (take text_size (drop (suc first_at) words)) (row_of content).first
  first_text = let is = row_spelled words content h in text_at (row_of content).first words first_at is.is.first is.first

  pub stands : StandIn words (items_of content)
  stands =
      let is = row_spelled words content h in
      let many : (row_of content).count ≡ length (items_of content) = sym (counts content) in
      let each = items_fit content h.spellable h.short in
      record {
        count = count_there;
        few = let few = is.is.few in omega arith;
        short = λ k d within. (each k d within).short;
        are = items_spelled words content h ∙ ap (λ n. take (item_size * n) (drop items_at words)) many;
        ascending = items_ascend content h.spellable;
      }

  pub next_there : (row_of content).kind ≡ 1 → next_row content ≡ None
  next_there e = by content e
    where
      by : (content : Record) → (row_of content).kind ≡ 1 → next_row content ≡ None
      by (Base page) e = refl
      by content e = absurd (omega arith)

  pub next_word : ((row_of content).kind ≡ 1 → ⊥) → next_row content ≡ Some (get_or words 1 0)
  next_word e = by content e ∙ ap Some (row_spelled words content h).next
    where
      by : (content : Record) → ((row_of content).kind ≡ 1 → ⊥) → next_row content ≡ Some (row_of content).next
      by (Base page) e = absurd (e refl)
      by (Put put) e = refl
      by (Delete delete) e = refl
      by (Split split) e = refl
      by (Term term) e = refl
      by (Hold hold) e = refl
      by (Remove remove) e = refl
      by (Merge merge) e = refl
      by (Unterm unterm) e = refl

-- comparisons the other way round
turned_eq : (o : Ordering) → is_eq (ordering_reverse o) ≡ is_eq o
turned_eq Less = refl
turned_eq other = refl

turned_lt : (o : Ordering) → is_lt (ordering_reverse o) ≡ is_gt o
turned_lt Less = refl
turned_lt other = refl

same_turned : (a b : List ℕ) → is_eq (key_cmp a b) ≡ is_eq (key_cmp b a)
same_turned a b = ap is_eq (nat_list_cmp_total.antisymm a b) ∙ turned_eq (key_cmp b a)

pub below_turned : (a b : List ℕ) → is_below a b ≡ is_gt (key_cmp b a)
below_turned a b = ap is_lt (nat_list_cmp_total.antisymm a b) ∙ turned_lt (key_cmp b a)

-- which keys a record of each kind names, by comparisons of its keys with the key
module _ (key : List ℕ) where
  pub names_base : (content : Record) → (row_of content).kind ≡ 1 → names content key ≡ true
  names_base (Base page) e = refl
  names_base content e = absurd (omega arith)

  pub names_put : (content : Record) → (row_of content).kind ≡ 2 → names content key ≡ is_eq (key_cmp (first_key (items_of content)) key)
  names_put (Put put) e = same_turned key put.key
  names_put content e = absurd (omega arith)

  pub has_item : (content : Record) → (row_of content).kind ≡ 2 → 0 < length (items_of content)
  has_item (Put put) e = omega arith
  has_item content e = absurd (omega arith)

  pub names_split : (content : Record) → (row_of content).kind ≡ 4 → names content key ≡ not (is_gt (key_cmp (row_of content).first key))
  names_split (Split split) e = ap not (below_turned key split.separator)
  names_split content e = absurd (omega arith)

  pub names_remove : (content : Record) → (row_of content).kind ≡ 7 → names content key ≡ false
  names_remove (Remove remove) e = refl
  names_remove content e = absurd (omega arith)

  pub names_merge : (content : Record) → (row_of content).kind ≡ 8 → is_gt (key_cmp (row_of content).first key) ≡ true → names content key ≡ false
  names_merge (Merge merge) e low = ap (λ b. not b && is_under key merge.high) (below_turned key merge.low ∙ low)
  names_merge content e low = absurd (omega arith)

  pub names_merge_under : (content : Record) → (row_of content).kind ≡ 8 → is_gt (key_cmp (row_of content).first key) ≡ false → names content key ≡ is_under key (row_of content).second
  names_merge_under (Merge merge) e low = ap (λ b. not b && is_under key merge.high) (below_turned key merge.low ∙ low)
  names_merge_under content e low = absurd (omega arith)

  pub above_none : (second : Option (List ℕ)) → None ≡ option_map (λ bound. key_cmp bound key) second → is_under key second ≡ true
  above_none None e = refl
  above_none (Some bound) e = cc

  pub above_some : (second : Option (List ℕ)) (o : Ordering) → Some o ≡ option_map (λ bound. key_cmp bound key) second → is_under key second ≡ is_gt o
  above_some None o e = cc
  above_some (Some bound) o e = below_turned key bound ∙ ap (λ (p : Option Ordering). elim p as (λ q. Bool) [ None ↦ true | Some r ↦ is_gt r ]) (sym e)

  pub second_by : (words : List ℕ) (second : Option (List ℕ)) → IfSome second IsShort → bound_words second ≡ take field_size (drop second_at words) → (get_or words second_at 0 ≡ no_bound → ⊥)
      → (o : Ordering) → ((text : List ℕ) → IsText (get_or words second_at 0) (take text_size (drop (suc second_at) words)) text → o ≡ key_cmp text key)
      → Some o ≡ option_map (λ bound. key_cmp bound key) second
  second_by words None short e bounded o said = absurd (bounded (sym (get_or-drop second_at words 0 0) ∙ sym (first_of text_size (drop second_at words)) ∙ ap (λ ws. get_or ws 0 0) (sym e)))
  second_by words (Some text) short e bounded o said = ap Some (said text (text_at text words second_at short e))

  pub names_single : (content : Record) → ((row_of content).kind ≡ 1 → ⊥) → ((row_of content).kind ≡ 2 → ⊥) → ((row_of content).kind ≡ 4 → ⊥)
      → ((row_of content).kind ≡ 7 → ⊥) → ((row_of content).kind ≡ 8 → ⊥)
      → names content key ≡ is_eq (key_cmp (row_of content).first key)
  names_single (Base page) a b c d e = absurd (a refl)
  names_single (Put put) a b c d e = absurd (b refl)
  names_single (Delete delete) a b c d e = same_turned key delete.key
  names_single (Split split) a b c d e = absurd (c refl)
  names_single (Term term) a b c d e = same_turned key term.separator
  names_single (Hold hold) a b c d e = same_turned key hold.separator
  names_single (Remove remove) a b c d e = absurd (d refl)
  names_single (Merge merge) a b c d e = absurd (e refl)
  names_single (Unterm unterm) a b c d e = same_turned key unterm.separator

pub first_is : (items : List Item) (d : Item) → 0 < length items → (get_or items 0 d).key ≡ first_key items
first_is [] d h = absurd (omega arith)
first_is (item ∷ items) d h = refl

-- a row's words spell its record
pub row_spells : (words : List ℕ) (content : Record) → record_in words ≡ content → IsSpelling (record_in words) words → IsSpelling content words
row_spells words content e h = rw (← e) h

pub few_items : (words : List ℕ) (content : Record) → record_in words ≡ content → IsSpelling (record_in words) words → length (items_of content) ≤ 24
few_items words content e h = (stands words content (row_spells words content e h)).few

pub are_items : (words : List ℕ) (content : Record) → record_in words ≡ content → IsSpelling (record_in words) words → AreItems (items_of content)
are_items words content e h = let is = stands words content (row_spells words content e h) in record { few = is.few; ascending = is.ascending }
