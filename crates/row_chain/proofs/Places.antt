-- The records of rows from a place on.
use Rattle.row_chain.proofs.Words.{◌≡◌, ◌<◌, ◌≤◌, ◌+◌, ◌-◌, zero, suc, ◌∷◌, length, get_or, take, drop, drop-cons, sym, ap, ◌∙◌, arith, drop_all, length-drop, take_all, PlacedRecord}
use Rattle.row_chain.proofs.Words.{IsItemsOf, IsFitted, contents}
use Rattle.std.proofs.Common.{ℕ, List, [], add-one}
use Rattle.row_chain.proofs.Counts.{none_left}

-- the rows behind a place, as a slice gives them
pub rest_there : (rows : List PlacedRecord) (place : ℕ) → contents (take (length rows - (place + 1)) (drop (place + 1) rows)) ≡ contents (drop (place + 1) rows)
rest_there rows place = ap contents (take_all (length rows - (place + 1)) (drop (place + 1) rows) (let long = length-drop (place + 1) rows in omega (arith, long)))

pub behind : (rows : List PlacedRecord) (place : ℕ) (row : PlacedRecord) → place < length rows → row ≡ get_or rows place row
    → contents (drop place rows) ≡ row.content ∷ contents (take (length rows - (place + 1)) (drop (place + 1) rows))
behind rows place row within is =
    let next : contents (drop (suc place) rows) ≡ contents (take (length rows - (place + 1)) (drop (place + 1) rows)) = ap (λ n. contents (drop n rows)) (sym (add-one place))
    ∙ sym (rest_there rows place) in
    ap contents (drop-cons rows place row within) ∙ (λ i. (sym is i).content ∷ next i)

pub fitted_from : (rows : List PlacedRecord) (place : ℕ) → IsFitted (contents rows) → place < length rows → IsFitted (contents (drop place rows))
fitted_from [] place h within = absurd h
fitted_from (newest ∷ under) zero h within = h
fitted_from (newest ∷ []) (suc place) h within = absurd (omega arith)
fitted_from (newest ∷ older ∷ under) (suc place) h within = fitted_from (older ∷ under) place h.1 (omega arith)

-- none is left behind the last one
pub none_there : (rows : List PlacedRecord) (place : ℕ) → length rows ≤ place → IsItemsOf (contents (drop place rows)) []
none_there rows place none = rw (drop_all place rows none) (none_left [] 0 (omega arith))
