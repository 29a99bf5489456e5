-- The document of any shapes is well-formed.
use Rattle.std.proofs.Common.{◌≡◌, ℕ, List, [], ◌∷◌, ◌+◌, ◌++◌, ap, append_assoc, refl, sym, ◌∙◌}
use Rattle.std.specs.Prelude.{codes}
use Rattle.std.specs.List.{AllByRecursion, flat_map}
use Rattle.std.proofs.lemmas.Grind.{flat_map-append}
use Rattle.tree_picture.specs.declared.shape.Rectangle.{Rectangle}
use Rattle.tree_picture.specs.declared.shape.Shape.{Shape}
use Rattle.tree_picture.specs.declared.stands.Stand.{Stand}
use Rattle.tree_picture.specs.declared.shape.Shape.TheVariants.{Page, Box, Record, Line, Slot, Cell, Text}
use Rattle.tree_picture.specs.Document.{Element, IsElement, IsWellFormed, close_text, element_text, open_text}
use Rattle.tree_picture.specs.Elements.{document_attributes, document_text, elements_of, head_elements, stand_elements}

append : (xs ys : List Element) → AllByRecursion IsElement xs → AllByRecursion IsElement ys → AllByRecursion IsElement (xs ++ ys)
append [] ys one others = others
append (x ∷ xs) ys one others = (one.0, append xs ys one.1 others)

stands_are : (r : Rectangle) (place : ℕ) (stands : List Stand) → AllByRecursion IsElement (stand_elements r place stands)
stands_are r place [] = tt
stands_are r place (stand ∷ stands) = (refl, stands_are r (place + 1) stands)

each_of : (shape : Shape) → AllByRecursion IsElement (elements_of shape)
each_of (Page page) = (refl, (refl, (refl, (refl, stands_are page.rectangle 0 page.stands.items))))
each_of (Box r) = (refl, tt)
each_of (Record line) = (refl, tt)
each_of (Slot slot) = (refl, (refl, tt))
each_of (Cell cell) = (refl, (refl, tt))
each_of (Line line) = (refl, tt)
each_of (Text text) = (refl, tt)

elements : (shapes : List Shape) → AllByRecursion IsElement (flat_map elements_of shapes)
elements [] = tt
elements (shape ∷ shapes) = append (elements_of shape) (flat_map elements_of shapes) (each_of shape) (elements shapes)

pub well_formed : (width height : ℕ) (title description : List ℕ) (shapes : List Shape) → IsWellFormed (document_text width height title description shapes)
well_formed width height title description shapes = record {
  name = codes "svg";
  attributes = document_attributes width height;
  elements = head_elements title description ++ flat_map elements_of shapes;
  named = refl;
  are = refl;
  each = append (head_elements title description) (flat_map elements_of shapes) (refl, (refl, (refl, (refl, tt)))) (elements shapes);
  spells = spelled;
}
  where
    start : List ℕ
    start = open_text (codes "svg") (document_attributes width height) ++ codes "\n"

    head : List ℕ
    head = flat_map element_text (head_elements title description)

    own : List ℕ
    own = flat_map element_text (flat_map elements_of shapes)

    spelled : document_text width height title description shapes ≡ start ++ flat_map element_text (head_elements title description ++ flat_map elements_of shapes) ++ close_text (codes "svg")
    spelled =
        ap (λ (text : List ℕ). text ++ close_text (codes "svg"))
        (append_assoc start head own ∙ ap (λ (text : List ℕ). start ++ text) (sym (flat_map-append element_text (head_elements title description) (flat_map elements_of shapes))))
