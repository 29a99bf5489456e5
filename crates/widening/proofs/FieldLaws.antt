-- Keys, values and items of the first form, spread.
use Rattle.std.proofs.Common.{◌≡◌, ◌≤◌, ◌+◌, ◌*◌, ℕ, suc, List, [], ◌∷◌, ◌++◌, length, drop, replicate, refl, sym, ap, ◌∙◌, arith, append_assoc, length-append, length-drop}
use Rattle.std.specs.Prelude.{Option, None, Some, IfSome, if◌then◌else◌}
use Rattle.std.specs.List.{All}
use Rattle.std.proofs.lemmas.List.Elements.{All-head, All-tail}
use Rattle.base_page.specs.declared.item.Content.{Content}
use Rattle.base_page.specs.declared.item.Content.TheVariants.{Value, Child}
use Rattle.base_page.specs.declared.item.Item.{Item}
use Rattle.base_page.specs.Rules.{is_held}
use Rattle.record_slots.specs.Layout.{first_form, held_mark, no_bound, text_size}
use Rattle.record_slots.specs.Spelling.{big_endian, text_words, field_words, field_words_in, bound_words, bound_words_in, content_words, content_words_in}
use Rattle.record_slots.specs.Spelling.{item_words, item_words_in, items_words, items_words_in}
use Rattle.record_slots.specs.Spells.{HasItemTexts, HasTextIn}
use Rattle.widening.specs.FirstForm.{IsNarrow, first_longest}
use Rattle.widening.specs.Spread.{spread_fields}
use Rattle.widening.proofs.SpreadLaws.{spread_field}

abbrev back : List ℕ → List ℕ
back text = drop 8 (drop 8 (drop 8 (drop 8 text)))

nothing : (xs : List ℕ) → length xs ≡ 0 → xs ≡ []
nothing [] h = refl
nothing (x ∷ xs) h = absurd (omega arith)

none_back : (text : List ℕ) → length text ≤ first_longest → back text ≡ []
none_back text few =
    let a = length-drop 8 text in
    let b = length-drop 8 (drop 8 text) in
    let c = length-drop 8 (drop 8 (drop 8 text)) in
    let d = length-drop 8 (drop 8 (drop 8 (drop 8 text))) in
    nothing (back text) (omega arith)

-- the words of a text of few bytes end in zeros
text_wide : (text : List ℕ) → length text ≤ first_longest → text_words text_size text ≡ text_words 4 text ++ replicate 4 0
text_wide text few = ap (λ rest. big_endian 8 text ∷ big_endian 8 (drop 8 text) ∷ big_endian 8 (drop 8 (drop 8 text))
    ∷ big_endian 8 (drop 8 (drop 8 (drop 8 text))) ∷ text_words 4 rest) (none_back text few)

-- a text behind a word, whatever the word
marked_wide : (count word : ℕ) (text rest : List ℕ) → IsNarrow text → spread_fields (suc count) (word ∷ (text_words 4 text ++ rest)) ≡ word ∷ (text_words text_size text ++ spread_fields count rest)
marked_wide count word text rest h =
    spread_field count word (big_endian 8 text) (big_endian 8 (drop 8 text)) (big_endian 8 (drop 8 (drop 8 text))) (big_endian 8 (drop 8 (drop 8 (drop 8 text)))) rest
    ∙ ap (λ ws. word ∷ (ws ++ spread_fields count rest)) (sym (text_wide text h.few))

pub field_wide : (count : ℕ) (text rest : List ℕ) → IsNarrow text → spread_fields (suc count) (field_words_in first_form text ++ rest) ≡ field_words text ++ spread_fields count rest
field_wide count text rest h = marked_wide count (length text) text rest h

pub bound_wide : (count : ℕ) (bound : Option (List ℕ)) (rest : List ℕ) → IfSome bound IsNarrow
    → spread_fields (suc count) (bound_words_in first_form bound ++ rest) ≡ bound_words bound ++ spread_fields count rest
bound_wide count None rest h = spread_field count no_bound 0 0 0 0 rest
bound_wide count (Some key) rest h = field_wide count key rest h

content_wide : (count : ℕ) (content : Content) (rest : List ℕ) → HasTextIn IsNarrow content
    → spread_fields (suc count) (content_words_in first_form content ++ rest) ≡ content_words content ++ spread_fields count rest
content_wide count (Value value) rest h = field_wide count value rest h
content_wide count (Child page held) rest h = spread_field count page 0 0 0 0 rest

item_wide : (count : ℕ) (item : Item) (rest : List ℕ) → HasItemTexts IsNarrow item
    → spread_fields (suc (suc count)) (item_words_in first_form item ++ rest) ≡ item_words item ++ spread_fields count rest
item_wide count item rest h =
    let first : ℕ = length item.key + (if is_held item.content then held_mark else 0) in
    marked_wide (suc count) first item.key (content_words_in first_form item.content ++ rest) h.0
    ∙ ap (λ ws. first ∷ (text_words text_size item.key ++ ws)) (content_wide count item.content rest h.1)

pub items_wide : (count whole : ℕ) (items : List Item) (rest : List ℕ) → whole ≡ 2 * length items + count → All (HasItemTexts IsNarrow) items
    → spread_fields whole (items_words_in first_form items ++ rest) ≡ items_words items ++ spread_fields count rest
items_wide count whole [] rest e h = ap (λ n. spread_fields n rest) (let f : whole ≡ count = omega arith in f)
items_wide count whole (item ∷ items) rest e h =
    let n : ℕ = 2 * length items + count in
    let two : whole ≡ suc (suc n) = omega arith in
    ap (λ m. spread_fields m ((item_words_in first_form item ++ items_words_in first_form items) ++ rest)) two
    ∙ ap (spread_fields (suc (suc n))) (append_assoc (item_words_in first_form item) (items_words_in first_form items) rest)
    ∙ item_wide n item (items_words_in first_form items ++ rest) (All-head (HasItemTexts IsNarrow) item items h)
    ∙ ap (λ ws. item_words item ++ ws) (items_wide count n items rest refl (All-tail (HasItemTexts IsNarrow) item items h))
    ∙ sym (append_assoc (item_words item) (items_words items) (spread_fields count rest))

content_size : (content : Content) → length (content_words_in first_form content) ≡ 5
content_size (Value value) = refl
content_size (Child page held) = refl

pub items_size : (items : List Item) → length (items_words_in first_form items) ≡ 10 * length items
items_size [] = refl
items_size (item ∷ items) =
    let c = content_size item.content in
    let t : length (text_words 4 item.key) ≡ 4 = refl in
    let a = length-append (text_words 4 item.key) (content_words_in first_form item.content) in
    let b = length-append (item_words_in first_form item) (items_words_in first_form items) in
    let r = items_size items in
    omega arith
