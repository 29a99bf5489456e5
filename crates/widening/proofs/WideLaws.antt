-- Records of the first form, spread.
use Rattle.std.proofs.Common.{◌≡◌, ◌<◌, ◌≤◌, ◌+◌, ◌*◌, ◌-◌, ℕ, zero, suc, List, [], ◌∷◌, ◌++◌, length, get_or, replicate, refl, sym, ap, subst, ◌∙◌, arith, append_assoc, length-append}
use Rattle.std.specs.Prelude.{Option, None, Some, IfSome, IsTrue, unwrap_or}
use Rattle.std.specs.List.{All}
use Rattle.std.proofs.lemmas.List.{length-replicate}
use Rattle.std.proofs.lemmas.List.Elements.{All-nil, All-cons}
use Rattle.bw_model.specs.Bytes.{IsShort}
use Rattle.base_page.specs.declared.item.Content.{Content}
use Rattle.base_page.specs.declared.item.Content.TheVariants.{Value, Child}
use Rattle.base_page.specs.declared.item.Item.{Item}
use Rattle.deltas.specs.Spellable.{IsSpellable}
use Rattle.deltas.specs.declared.record.Record.{Record}
use Rattle.deltas.specs.declared.record.Record.TheVariants.{Base, Put, Delete, Split, Term, Hold, Remove, Merge, Unterm}
use Rattle.record_slots.specs.declared.row.Row.{Row}
use Rattle.record_slots.specs.Layout.{first_form, form_unit}
use Rattle.record_slots.specs.Parts.{row_of, items_of}
use Rattle.record_slots.specs.Small.{is_small}
use Rattle.record_slots.specs.Spelling.{field_words, field_words_in, bound_words, bound_words_in, items_words, items_words_in, row_words, row_words_in, words_left_in, words_of, words_of_in}
use Rattle.record_slots.specs.Spells.{HasItemTexts, HasTextIn, HasTexts, HasShortTexts, IsSpelling}
use Rattle.record_slots.proofs.SpellingLaws.{counts, parts_fit}
use Rattle.widening.specs.FirstForm.{IsFew, IsFirstSpelling, IsNarrow}
use Rattle.widening.specs.Spread.{behind, spread, spread_fields}
use Rattle.widening.proofs.FieldLaws.{bound_wide, field_wide, items_size, items_wide}
use Rattle.widening.proofs.SpreadLaws.{spread_is, spread_one, spread_zeros}

-- a property of texts that two others give
module _ (is also both : List ℕ → Type 0) (joined : (text : List ℕ) → is text → also text → both text) where
  content_both : (content : Content) → HasTextIn is content → HasTextIn also content → HasTextIn both content
  content_both (Value value) h g = joined value h g
  content_both (Child page held) h g = tt

  bound_both : (bound : Option (List ℕ)) → IfSome bound is → IfSome bound also → IfSome bound both
  bound_both None h g = tt
  bound_both (Some key) h g = joined key h g

  items_both : (items : List Item) → All (HasItemTexts is) items → All (HasItemTexts also) items → All (HasItemTexts both) items
  items_both items h g = λ k d within. (joined _ (h k d within).0 (g k d within).0, content_both _ (h k d within).1 (g k d within).1)

  pub texts_both : (content : Record) → HasTexts is content → HasTexts also content → HasTexts both content
  texts_both (Base page) h g = (joined page.low h.0 g.0, bound_both page.high h.1 g.1, items_both page.items h.2 g.2)
  texts_both (Put put) h g = (joined put.key h.0 g.0, joined put.value h.1 g.1)
  texts_both (Delete delete) h g = joined delete.key h g
  texts_both (Split split) h g = joined split.separator h g
  texts_both (Term term) h g = joined term.separator h g
  texts_both (Hold hold) h g = joined hold.separator h g
  texts_both (Remove remove) h g = tt
  texts_both (Merge merge) h g = (joined merge.low h.0 g.0, bound_both merge.high h.1 g.1, items_both merge.items h.2 g.2)
  texts_both (Unterm unterm) h g = joined unterm.separator h g

pub narrow_texts : (content : Record) → HasShortTexts content → HasTexts IsFew content → HasTexts IsNarrow content
narrow_texts content h g = texts_both IsShort IsFew IsNarrow (λ text s f. record { short = s; few = f }) content h g

pub short_texts : (content : Record) → HasTexts IsNarrow content → HasShortTexts content
short_texts content h = texts_both IsNarrow IsNarrow IsShort (λ text n m. n.short) content h h

pub few_texts : (content : Record) → HasTexts IsNarrow content → HasTexts IsFew content
few_texts content h = texts_both IsNarrow IsNarrow IsFew (λ text n m. n.few) content h h

bound_size : (bound : Option (List ℕ)) → length (bound_words_in first_form bound) ≡ 5
bound_size None = refl
bound_size (Some key) = refl

module _ (kind level next page : ℕ) (first : List ℕ) (second : Option (List ℕ)) (items : List Item) (few : length items ≤ 24) where
  row_wide : IsNarrow first → IfSome second IsNarrow → All (HasItemTexts IsNarrow) items
      → spread (row_words_in first_form kind level next page first second items) ≡ row_words kind level next page first second items
  row_wide f s i =
      let left : ℕ = words_left_in first_form (length items) in
      let n : ℕ = 48 - 2 * length items in
      let zeros : List ℕ = replicate left 0 in
      let tail : List ℕ = items_words_in first_form items ++ zeros in
      let body : List ℕ = field_words_in first_form first ++ (bound_words_in first_form second ++ tail) in
      let head : (kind + 256 * level + 65536 * length items + form_unit * 0) + form_unit * 2 ≡ kind + 256 * level + 65536 * length items + form_unit * 2 = omega arith in
      let last : List ℕ = replicate behind 0 in
      let unused : List ℕ = replicate (9 * n + 3) 0 in
      let whole : List ℕ = replicate (491 - 18 * length items) 0 in
      let empty : spread_fields n zeros ≡ unused = spread_zeros n 3 left (omega arith) in
      let all : spread_fields 50 body ≡ field_words first ++ (bound_words second ++ (items_words items ++ unused)) =
      field_wide 49 first (bound_words_in first_form second ++ tail) f
      ∙ ap (λ ws. field_words first ++ ws) (bound_wide 48 second tail s
      ∙ ap (λ ws. bound_words second ++ ws) (items_wide n 48 items zeros (omega arith) i ∙ ap (λ ws. items_words items ++ ws) empty)) in
      let sum : unused ++ last ≡ whole = together (9 * n + 3) behind (491 - 18 * length items) (omega arith) in
      let pushed : spread_fields 50 body ++ last ≡ field_words first ++ (bound_words second ++ (items_words items ++ whole)) =
      ap (λ ws. ws ++ last) all
      ∙ append_assoc (field_words first) (bound_words second ++ (items_words items ++ unused)) (last)
      ∙ ap (λ ws. field_words first ++ ws) (append_assoc (bound_words second) (items_words items ++ unused) (last)
      ∙ ap (λ ws. bound_words second ++ ws) (append_assoc (items_words items) (unused) (last) ∙ ap (λ ws. items_words items ++ ws) sum)) in
      spread_is (row_words_in first_form kind level next page first second items) ∙ (λ j. head j ∷ next ∷ page ∷ pushed j)
    where
      together : (a b c : ℕ) → a + b ≡ c → replicate {A = ℕ} a 0 ++ replicate b 0 ≡ replicate c 0
      together zero b c e = ap (λ k. replicate k 0) (let f : b ≡ c = omega arith in f)
      together (suc a) b c e = let g : suc (c - 1) ≡ c = omega arith in ap (λ ws. 0 ∷ ws) (together a b (c - 1) (omega arith)) ∙ ap (λ k. replicate k 0) g

  row_size : length (row_words_in first_form kind level next page first second items) ≡ 256
  row_size =
      let left : ℕ = words_left_in first_form (length items) in
      let zeros : List ℕ = replicate left 0 in
      let tail : List ℕ = items_words_in first_form items ++ zeros in
      let a = length-append (field_words_in first_form first) (bound_words_in first_form second ++ tail) in
      let b = length-append (bound_words_in first_form second) tail in
      let c = length-append (items_words_in first_form items) zeros in
      let d = items_size items in
      let e = bound_size second in
      let f : length (field_words_in first_form first) ≡ 5 = refl in
      let g : length zeros ≡ left = length-replicate left 0 in
      omega arith

  row_head : kind < 256 → level ≤ 15 → get_or (row_words_in first_form kind level next page first second items) 0 0 < form_unit
  row_head k l = omega arith

-- the same by the parts of a record
abbrev first_row : Row → List Item → List ℕ
first_row row items = row_words_in first_form row.kind row.level row.next row.page row.first row.second items

same_first : (content : Record) → first_row (row_of content) (items_of content) ≡ words_of_in first_form content
same_first (Base page) = refl
same_first (Put put) = refl
same_first (Delete delete) = refl
same_first (Split split) = refl
same_first (Term term) = refl
same_first (Hold hold) = refl
same_first (Remove remove) = refl
same_first (Merge merge) = refl
same_first (Unterm unterm) = refl

few_items : (content : Record) → IsSpellable content → HasTexts IsNarrow content → length (items_of content) ≤ 24
few_items content h n = let p = parts_fit content h (short_texts content n) in let f = p.few in let c = counts content in omega arith

empty_narrow : IsNarrow []
empty_narrow = record { short = record { short = omega arith; bytes_fit = tt }; few = omega arith }

no_items : All (HasItemTexts IsNarrow) []
no_items = All-nil (HasItemTexts IsNarrow)

link_wide : (kind level next page : ℕ) (separator : List ℕ) → IsNarrow separator
    → spread (row_words_in first_form kind level next page separator (Some []) []) ≡ row_words kind level next page separator (Some []) []
link_wide kind level next page separator n = row_wide kind level next page separator (Some []) [] (omega arith) n empty_narrow no_items

record_wide : (content : Record) → length (items_of content) ≤ 24 → HasTexts IsNarrow content → spread (words_of_in first_form content) ≡ words_of content
record_wide (Base page) few n = row_wide 1 page.level 0 (unwrap_or page.right 0) page.low page.high page.items few n.0 n.1 n.2
record_wide (Put put) few n = row_wide 2 0 put.next 0 [] (Some []) (record { key = put.key; content = Value put.value } ∷ []) few empty_narrow empty_narrow
    (All-cons (HasItemTexts IsNarrow) (record { key = put.key; content = Value put.value }) [] (n.0, n.1) no_items)
record_wide (Delete delete) few n = link_wide 3 0 delete.next 0 delete.key n
record_wide (Split split) few n = link_wide 4 split.level split.next split.page split.separator n
record_wide (Term term) few n = link_wide 5 term.level term.next term.child term.separator n
record_wide (Hold hold) few n = link_wide 6 hold.level hold.next hold.child hold.separator n
record_wide (Remove remove) few n = link_wide 7 remove.level remove.next 0 [] empty_narrow
record_wide (Merge merge) few n = row_wide 8 merge.level merge.next (unwrap_or merge.right 0) merge.low merge.high merge.items few n.0 n.1 n.2
record_wide (Unterm unterm) few n = link_wide 9 unterm.level unterm.next unterm.child unterm.separator n

-- what spells a record by the first form is spread to what spells it today
pub widened : (content : Record) (words : List ℕ) → IsFirstSpelling content words → IsSpelling content (spread words)
widened content words h = record {
  spellable = h.spellable;
  short = short_texts content h.narrow;
  are = sym (record_wide content (few_items content h.spellable h.narrow) h.narrow) ∙ ap spread h.are;
}

pub first_head : (content : Record) (words : List ℕ) → IsFirstSpelling content words → get_or words 0 0 < form_unit
first_head content words h =
    let p = parts_fit content h.spellable (short_texts content h.narrow) in
    let row : Row = row_of content in
    let below = row_head row.kind row.level row.next row.page row.first row.second (items_of content) (few_items content h.spellable h.narrow) p.kind p.level in
    subst (λ ws. get_or ws 0 0 < form_unit) (same_first content ∙ h.are) below

-- and only that is
pub narrowed : (content : Record) (words : List ℕ) → length words ≡ 256 → IsSpelling content (spread words) → IsTrue (is_small content) → HasTexts IsFew content → IsFirstSpelling content words
narrowed content words long h small few =
    let narrow = narrow_texts content h.short few in
    let items = few_items content h.spellable narrow in
    let row : Row = row_of content in
    let size : length (words_of_in first_form content) ≡ 256 = ap length (sym (same_first content)) ∙ row_size row.kind row.level row.next row.page row.first row.second (items_of content) items in
    record {
      spellable = h.spellable;
      narrow = narrow;
      small = small;
      are = spread_one (words_of_in first_form content) words size long (record_wide content items narrow ∙ h.are);
    }
