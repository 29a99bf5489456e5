-- Texts for bytes, one behind another.
use Rattle.std.proofs.Common.{◌≡◌, ◌<◌, ◌+◌, ℕ, zero, suc, List, [], ◌∷◌, ◌++◌, add-one, ap, arith, length, None, take, sym, ◌∙◌}
use Rattle.std.specs.Prelude.{slice_index, slice_index_or}
use Rattle.std.proofs.Math.Seq.{take-suc}
use Rattle.std.proofs.lemmas.Grind.{flat_map-append}
use Rattle.std.proofs.lemmas.List.{append-nil}
use Rattle.std.specs.List.{flat_map}
use Rattle.std.proofs.lemmas.List.{get_or_default}
use Rattle.byte_streams.proofs.Showing.{flat_more}
use Rattle.tree_picture.specs.declared.shape.Shape.{Shape}
use Rattle.tree_picture.specs.Document.{Element, element_text}
use Rattle.tree_picture.specs.declared.shape.Rectangle.{Rectangle}
use Rattle.tree_picture.specs.declared.stands.Stand.{Stand}
use Rattle.tree_picture.specs.declared.shape.PageBox.{PageBox}
use Rattle.tree_picture.specs.declared.shape.Shape.TheVariants.{Page}
use Rattle.tree_picture.specs.Elements.{box_element, elements_of, mark_in, name_in, range_in, stand_elements, stand_in, text_element}

pub flat_byte : (f : ℕ → List ℕ) (xs : List ℕ) (i : ℕ) → i < length xs → flat_map f (take (i + 1) xs) ≡ flat_map f (take i xs) ++ f (slice_index xs i)
flat_byte f xs i h = flat_more f xs i (slice_index xs i) h (sym (get_or_default xs i (slice_index xs i) 0 h))

-- the elements of one shape more
pub elements_more : (xs : List Shape) (i : ℕ) (x : Shape) → i < length xs → x ≡ slice_index_or xs i x
    → flat_map element_text (flat_map elements_of (take (i + 1) xs)) ≡ flat_map element_text (flat_map elements_of (take i xs)) ++ flat_map element_text (elements_of x)
elements_more xs i x h is = ap (flat_map element_text) taken ∙ flat_map-append element_text (flat_map elements_of (take i xs)) (elements_of x)
  where
    taken : flat_map elements_of (take (i + 1) xs) ≡ flat_map elements_of (take i xs) ++ elements_of x
    taken =
        ap (λ n. flat_map elements_of (take n xs)) (add-one i) ∙ ap (flat_map elements_of) (take-suc xs i x h)
        ∙ ap (λ (y : Shape). flat_map elements_of (take i xs ++ y ∷ [])) (sym is)
        ∙ flat_map-append elements_of (take i xs) (x ∷ []) ∙ ap (λ (es : List Element). flat_map elements_of (take i xs) ++ es) (append-nil (elements_of x))

stands_more : (r : Rectangle) (n : ℕ) (xs : List Stand) (i : ℕ) (x : Stand) → i < length xs → x ≡ slice_index_or xs i x
    → stand_elements r n (take (suc i) xs) ≡ stand_elements r n (take i xs) ++ text_element (stand_in r (n + i) x) ∷ []
stands_more r n [] i x h is = absurd (omega (arith, h))
stands_more r n (y ∷ xs) zero x h is = let same : n ≡ n + 0 = omega arith in ap (λ (s : Stand). text_element (stand_in r n s) ∷ []) (sym is) ∙ ap (λ k. text_element (stand_in r k x) ∷ []) same
stands_more r n (y ∷ xs) (suc i) x h is =
    let same : n + 1 + i ≡ n + suc i = omega arith in
    ap (λ (es : List Element). text_element (stand_in r n y) ∷ es)
    (stands_more r (n + 1) xs i x (omega (arith, h)) is ∙ ap (λ k. stand_elements r (n + 1) (take i xs) ++ text_element (stand_in r k x) ∷ []) same)

-- the actors at a page, and one more
pub stands_next : (r : Rectangle) (xs : List Stand) (i : ℕ) → i < length xs
    → flat_map element_text (stand_elements r 0 (take (i + 1) xs))
    ≡ flat_map element_text (stand_elements r 0 (take i xs)) ++ element_text (text_element (stand_in r i (slice_index_or xs i (record { actor = 0; page = 0; row = None }))))
stands_next r xs i h =
    let x = slice_index_or xs i (record { actor = 0; page = 0; row = None }) in
    let is : x ≡ slice_index_or xs i x = sym (get_or_default xs i x (record { actor = 0; page = 0; row = None }) h) in
    let same : 0 + i ≡ i = omega arith in
    ap (λ n. flat_map element_text (stand_elements r 0 (take n xs))) (add-one i) ∙ ap (flat_map element_text) (stands_more r 0 xs i x h is)
    ∙ ap (λ k. flat_map element_text (stand_elements r 0 (take i xs) ++ text_element (stand_in r k x) ∷ [])) same
    ∙ flat_map-append element_text (stand_elements r 0 (take i xs)) (text_element (stand_in r i x) ∷ [])
    ∙ ap (λ (t : List ℕ). flat_map element_text (stand_elements r 0 (take i xs)) ++ t) (append-nil (element_text (text_element (stand_in r i x))))

-- a page's box, its texts, and the actors at it
pub page_texts : (page : PageBox) → flat_map element_text (elements_of (Page page))
    ≡ element_text (box_element page)
    ++ (flat_map element_text (text_element (name_in page) ∷ text_element (mark_in page) ∷ text_element (range_in page) ∷ [])
    ++ flat_map element_text (stand_elements page.rectangle 0 page.stands.items))
page_texts page =
    ap (λ (t : List ℕ). element_text (box_element page) ++ t)
    (flat_map-append element_text (text_element (name_in page) ∷ text_element (mark_in page) ∷ text_element (range_in page) ∷ []) (stand_elements page.rectangle 0 page.stands.items))
