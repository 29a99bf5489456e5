-- The texts of a list's items, from the last one back.
use Rattle.std.proofs.Common.{◌≡◌, ℕ, ◌+◌, ◌-◌, ◌<◌, ◌≤◌, List, [], ◌∷◌, ◌++◌, length, get_or, drop, reverse, sym, ap, ◌∙◌, arith}
use Rattle.std.proofs.lemmas.List.{append-nil, drop_more, reverse-append}
use Rattle.std.proofs.lemmas.Grind.{flat_map-append}
use Rattle.std.specs.List.{flat_map}

-- one item more in front of those behind a place
pub flat_back : {A : Type 0} (f : A → List ℕ) (xs : List A) (i : ℕ) (x : A) → 0 < i → i ≤ length xs → x ≡ get_or xs (i - 1) x
    → flat_map f (reverse (drop (i - 1) xs)) ≡ flat_map f (reverse (drop i xs)) ++ f x
flat_back f xs i x some within is =
    let next : i - 1 + 1 ≡ i = omega (arith, some) in
    let front : drop (i - 1) xs ≡ x ∷ drop i xs =
    drop_more xs (i - 1) x (omega (arith, some, within)) ∙ ap (λ y. y ∷ drop (i - 1 + 1) xs) (sym is) ∙ ap (λ n. x ∷ drop n xs) next in
    ap (λ ys. flat_map f (reverse ys)) front ∙ ap (flat_map f) (reverse-append (x ∷ []) (drop i xs))
    ∙ flat_map-append f (reverse (drop i xs)) (x ∷ []) ∙ ap (λ ys. flat_map f (reverse (drop i xs)) ++ ys) (append-nil (f x))
