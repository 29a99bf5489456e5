-- One box more, and one level more.
use Rattle.std.proofs.Common.{◌≡◌, ◌≤◌, ◌<◌, ◌+◌, ℕ, List, [], ◌∷◌, ◌++◌, inl, inr, arith, sym, ◌∙◌}
use Rattle.std.specs.Prelude.{slice_index_or}
use Rattle.std.proofs.lemmas.List.Elements.{All-nil, All-push}
use Rattle.std.proofs.lemmas.List.Quantifiers.{all_pairs_push}
use Rattle.tree_picture.specs.declared.shape.Rectangle.{Rectangle}
use Rattle.tree_picture.specs.Layout.{AreLaidOut, AreLaidTo, IsBefore, EndsBefore, IsOnSheet}

pub none_laid : (width bottom x y : ℕ) → AreLaidTo width bottom x y []
none_laid width bottom x y = record { laid = record { within = All-nil (IsOnSheet width bottom); ordered = λ i j d before there. absurd (none j there) }; past = All-nil (EndsBefore x y) }
  where
    none : (j : ℕ) → j < 0 → ⊥
    none j there = omega (arith, there)

pub one_more : {width bottom x y : ℕ} {boxes : List Rectangle} → AreLaidTo width bottom x y boxes → (r : Rectangle) → r.x ≡ x → r.y ≡ y
    → IsOnSheet width bottom r → (next : ℕ) → x + r.width ≤ next → AreLaidTo width bottom next y (boxes ++ r ∷ [])
one_more {width} {bottom} {x} {y} {boxes} to r x_is y_is within next further = record {
  laid = record {
    within = All-push (IsOnSheet width bottom) boxes r to.laid.within within;
    ordered = all_pairs_push IsBefore boxes r to.laid.ordered (λ k d there. before (slice_index_or boxes k d) (to.past k d there));
  };
  past = All-push (EndsBefore next y) boxes r (λ k d there. later (slice_index_or boxes k d) (to.past k d there)) (inl (y_is, omega (arith, x_is, further)));
}
  where
    before : (one : Rectangle) → EndsBefore x y one → IsBefore one r
    before one (inl (same, left)) = inl (same ∙ sym y_is, omega (arith, left, x_is))
    before one (inr above) = inr (omega (arith, above, y_is))

    later : (one : Rectangle) → EndsBefore x y one → EndsBefore next y one
    later one (inl (same, left)) = inl (same, omega (arith, left, further))
    later one (inr above) = inr above

pub next_level : {width bottom x y : ℕ} {boxes : List Rectangle} → AreLaidTo width bottom x y boxes → (lower x_next y_next : ℕ) → bottom ≤ lower
    → bottom ≤ y_next → AreLaidTo width lower x_next y_next boxes
next_level {width} {bottom} {x} {y} {boxes} to lower x_next y_next deeper under = record {
  laid = record { within = λ k d there. wider (slice_index_or boxes k d) (to.laid.within k d there); ordered = to.laid.ordered };
  past = λ k d there. above (slice_index_or boxes k d) (to.laid.within k d there);
}
  where
    wider : (one : Rectangle) → IsOnSheet width bottom one → IsOnSheet width lower one
    wider one within = record { wide = within.wide; high = within.high; right = within.right; bottom = omega (arith, within.bottom, deeper) }

    above : (one : Rectangle) → IsOnSheet width bottom one → EndsBefore x_next y_next one
    above one within = inr (omega (arith, within.bottom, under))

-- a larger sheet
pub on_sheet : {width bottom : ℕ} {boxes : List Rectangle} → AreLaidOut width bottom boxes → (height : ℕ) → bottom ≤ height → AreLaidOut width height boxes
on_sheet {width} {bottom} {boxes} laid height higher = record { within = λ k d there. wider (slice_index_or boxes k d) (laid.within k d there); ordered = laid.ordered }
  where
    wider : (one : Rectangle) → IsOnSheet width bottom one → IsOnSheet width height one
    wider one within = record { wide = within.wide; high = within.high; right = within.right; bottom = omega (arith, within.bottom, higher) }

-- a place in a rectangle
pub record IsIn (x y : ℕ) (r : Rectangle) : Type 0 where
  pub left : r.x ≤ x
  pub right : x < r.x + r.width
  pub top : r.y ≤ y
  pub bottom : y < r.y + r.height

-- of two rectangles of which one stands before the other, no place is in both
pub no_overlap : (one other : Rectangle) → IsBefore one other → (x y : ℕ) → IsIn x y one → IsIn x y other → ⊥
no_overlap one other (inl (same, left)) x y in_one in_other = omega (arith, left, in_one.right, in_other.left)
no_overlap one other (inr above) x y in_one in_other = omega (arith, above, in_one.bottom, in_other.top)
