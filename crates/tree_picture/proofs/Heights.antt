-- One element more of a list, and what is told of those so far.
use Rattle.std.proofs.Common.{◌≡◌, ◌<◌, ◌+◌, ℕ, List, [], ◌∷◌, ◌++◌, length, take, add-one, ap, append_assoc, map, subst, sym, ◌∙◌}
use Rattle.std.specs.Prelude.{slice_index_or}
use Rattle.std.specs.List.{All, flat_map}
use Rattle.std.proofs.lemmas.Grind.{flat_map-append}
use Rattle.std.proofs.lemmas.List.{append-nil, map-append}
use Rattle.std.proofs.lemmas.List.Elements.{All-push}
use Rattle.std.proofs.Math.Seq.{take-suc}

-- one element more
pub take_more : {X : Type 0} (xs : List X) (i : ℕ) (d : X) → i < length xs → take (i + 1) xs ≡ take i xs ++ slice_index_or xs i d ∷ []
take_more {X} xs i d there = ap (λ n. take n xs) (add-one i) ∙ take-suc xs i d there

pub take_next : {X : Type 0} (xs : List X) (i : ℕ) (x : X) → i < length xs → x ≡ slice_index_or xs i x → take (i + 1) xs ≡ take i xs ++ x ∷ []
take_next {X} xs i x there is = ap (λ n. take n xs) (add-one i) ∙ take-suc xs i x there ∙ ap (λ (y : X). take i xs ++ y ∷ []) (sym is)

pub all_next : {X : Type 0} (P : X → Type 0) (xs : List X) (i : ℕ) (x : X) → i < length xs → x ≡ slice_index_or xs i x → All P (take i xs) → P x
    → All P (take (i + 1) xs)
all_next P xs i x there is all one = subst (All P) (sym (take_next xs i x there is)) (All-push P (take i xs) x all one)

pub map_next : {X Y : Type 0} (f : X → Y) (xs : List X) (i : ℕ) (x : X) → i < length xs → x ≡ slice_index_or xs i x → map f (take (i + 1) xs)
    ≡ map f (take i xs) ++ f x ∷ []
map_next f xs i x there is = ap (map f) (take_next xs i x there is) ∙ map-append f (take i xs) (x ∷ [])

pub map_more : {X Y : Type 0} (f : X → Y) (xs : List X) (i : ℕ) (d : X) → i < length xs → map f (take (i + 1) xs) ≡ map f (take i xs)
    ++ f (slice_index_or xs i d) ∷ []
map_more f xs i d there = ap (map f) (take_more xs i d there) ∙ map-append f (take i xs) (slice_index_or xs i d ∷ [])

pub flat_next : {X Y : Type 0} (f : X → List Y) (xs : List X) (i : ℕ) (x : X) → i < length xs → x ≡ slice_index_or xs i x → flat_map f (take (i + 1) xs)
    ≡ flat_map f (take i xs) ++ f x
flat_next {X} {Y} f xs i x there is = ap (flat_map f) (take_next xs i x there is) ∙ flat_map-append f (take i xs) (x ∷ [])
    ∙ ap (λ (ys : List Y). flat_map f (take i xs) ++ ys) (append-nil (f x))

-- what was told so far, and of one element more
pub told_next : {Y : Type 0} (start so_far more all own : List Y) → so_far ≡ start ++ more → all ≡ more ++ own → so_far ++ own ≡ start ++ all
told_next {Y} start so_far more all own before next = ap (λ (ys : List Y). ys ++ own) before ∙ append_assoc start more own
    ∙ ap (λ (ys : List Y). start ++ ys) (sym next)
