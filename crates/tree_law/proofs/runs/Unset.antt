-- That a row stands in the slot of no own page, by what became of the pages that the actor took.
use Rattle.tree_law.proofs.Words.{List, true, ◌∷◌, ℕ, ◌≡◌, Bool, ◌==◌, ◌&&◌, not, replaced_at, Ready, OwnPage, Other, and_right, and_left, []}
use Rattle.tree_law.proofs.shape.Puts.{by_equal, eqb_same}

-- the own pages after these changes, newest first
abbrev pub pages_after : List (ℕ × OwnPage) → ℕ → OwnPage
pages_after [] = λ page. Other
pages_after (change ∷ changes) = replaced_at change.0 change.1 (pages_after changes)

-- whether a page was never ready with the row
abbrev is_apart : ℕ → OwnPage → Bool
is_apart row (Ready base) = not (base == row)
is_apart row page = true

abbrev are_apart : List (ℕ × OwnPage) → ℕ → Bool
are_apart [] row = true
are_apart (change ∷ changes) row = is_apart row change.1 && are_apart changes row

not_ready : (row : ℕ) (page : OwnPage) → is_apart row page ≡ true → page ≡ Ready row → ⊥
not_ready row page apart e = let no : not (row == row) ≡ true = rw e at apart in
    let same : not true ≡ true = rw (eqb_same row) at no in
    cc

pub is_unset : (changes : List (ℕ × OwnPage)) {row : ℕ} → are_apart changes row ≡ true → (page : ℕ) → pages_after changes page ≡ Ready row → ⊥
is_unset [] {row} apart page e = cc
is_unset (change ∷ changes) {row} apart page e = by_equal page change.0
    (λ here t. not_ready row change.1 (and_left (is_apart row change.1) (are_apart changes row) apart) (rw t at e))
    (λ elsewhere t. is_unset changes (and_right (is_apart row change.1) (are_apart changes row) apart) page (rw t at e))

-- no page is ready with any row before the first page is
pub none : {row : ℕ} (page : ℕ) → Other ≡ Ready row → ⊥
none page e = cc
