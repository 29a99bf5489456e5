-- Where the pages of a level stand, in rows.
use Rattle.std.proofs.Common.{◌≡◌, ◌≤◌, ◌<◌, ◌+◌, ◌*◌, ℕ, List, inl, inr, arith, subst, sym}
use Rattle.std.specs.Prelude.{◌⊎◌}
use Rattle.tree_picture.specs.declared.levels.Place.{Place}
use Rattle.tree_picture.specs.declared.shape.Rectangle.{Rectangle}
use Rattle.tree_picture.specs.Layout.{AreLaidTo}
use Rattle.tree_picture.proofs.Layouts.{next_level}

-- The place of the page at an index: in one of the columns from the first on, and not too low.
pub record IsPlaceAt (first top index : ℕ) (place : Place) : Type 0 where
  pub within : place.column ≤ 12
  pub few : place.column ≤ index
  pub across : place.x ≡ first + place.column * 276
  pub high : place.y ≤ top + index * 5082

abbrev pub IsInRow : ℕ → ℕ → Place → Place → Type 0
IsInRow first down place here = ((place.column < 12) × (here ≡ place)) ⊎ (here ≡ record { column = 0; x = first; y = place.y + down })

-- the same place in its row, which has room for it
pub record IsHereAt (first top index : ℕ) (here : Place) : Type 0 where
  pub within : here.column < 12
  pub few : here.column ≤ index
  pub across : here.x ≡ first + here.column * 276
  pub high : here.y ≤ top + index * 5082 + 5082

pub here_at : {first top index down : ℕ} (place here : Place) → IsPlaceAt first top index place → down ≤ 5082 → IsInRow first down place here → IsHereAt first top index here
here_at {first} {top} {index} {down} place here at low (inl same) = subst (IsHereAt first top index) (sym same.1) (record {
  within = same.0;
  few = at.few;
  across = at.across;
  high = let high = at.high in omega (arith, high);
})
here_at {first} {top} {index} {down} place here at low (inr is) = subst (IsHereAt first top index) (sym is) (record {
  within = omega arith;
  few = omega arith;
  across = omega arith;
  high = let high = at.high in omega (arith, high, low);
})

pub laid_here : {width first : ℕ} {boxes : List Rectangle} (height : ℕ) (place here : Place) → IsInRow first (height + 36) place here → AreLaidTo width (place.y + height) place.x place.y boxes
    → AreLaidTo width (here.y + height) here.x here.y boxes
laid_here {width} {first} {boxes} height place here (inl same) to = subst (λ p. AreLaidTo width (p.y + height) p.x p.y boxes) (sym same.1) to
laid_here {width} {first} {boxes} height place here (inr is) to =
    subst (λ p. AreLaidTo width (p.y + height) p.x p.y boxes) (sym is) (next_level to (place.y + (height + 36) + height) first (place.y + (height + 36)) (omega arith) (omega arith))
