-- Each step of the beginning with two splits is allowed.
use Rattle.tree_law.proofs.Words.{[], refl, List, inl, inr, ◌∷◌, ℕ, take, drop, lit<, MayRoot, MayAdd, IsMet, IsDisciplinedFrom, knows, Knowledge, Ready, Empty, OwnPage, Other, opening_leaf, small, a}
use Rattle.tree_law.proofs.Words.{upper_b, two_splits, second_split, first_split, b}
use Rattle.tree_law.proofs.runs.HelpFits.{first_fits, second_fits, first_ruled, second_ruled}
use Rattle.tree_law.proofs.runs.Linking.{whole, adds, puts_root}
use Rattle.tree_law.proofs.runs.Standing.{◌▸◌, disciplined}
use Rattle.tree_law.proofs.runs.Unset.{is_unset, none}

-- what the actor knows before entry n
abbrev before : ℕ → Knowledge
before n = knows (take n two_splits) 0

-- what became of the pages that the actor took, newest first
abbrev pub became : List (ℕ × OwnPage)
became = (4, Other) ∷ (4, Ready 6) ∷ (4, Empty) ∷ (3, Other) ∷ (3, Ready 5) ∷ (3, Empty) ∷ (2, Other) ∷ (2, Ready 2) ∷ (2, Empty) ∷ []

right_of_first : IsMet (before 27) 2
right_of_first = record { other = 1; row = 4; basis = whole (first_split ∷ opening_leaf ∷ []) (refl, (refl, refl)) refl refl; named = inl refl }

-- the first split
splits : MayAdd 0 (before 18) 1 1 4
splits = adds (whole (opening_leaf ∷ []) (refl, refl) refl refl) first_split refl first_fits
    (record { separator = a; above = refl; below = refl; right = 2; row = 2; ready = refl; items = []; alike = λ key c n. refl; base = refl; ruled = first_ruled; is = refl })
    (is_unset (drop 7 became) refl)

-- the root
roots : MayRoot (before 23) 1 3
roots = puts_root (whole (first_split ∷ opening_leaf ∷ []) (refl, (refl, refl)) refl refl) refl refl refl refl refl

-- the second split
splits_upper : MayAdd 0 (before 31) 2 2 3
splits_upper = adds (whole (upper_b ∷ []) (refl, refl) refl refl) second_split refl second_fits
    (record { separator = b; above = refl; below = refl; right = 4; row = 6; ready = refl; items = []; alike = λ key c n. refl; base = refl; ruled = second_ruled; is = refl })
    (is_unset (drop 1 became) refl)

-- it enters, writes the leaves, the root and the splits, and links them
pub splits_twice : IsDisciplinedFrom small [] two_splits
splits_twice = disciplined [] two_splits refl refl (
    (refl, lit< tt, refl)
    ▸ (refl, tt, none) ▸ (refl, tt, none) ▸ (refl, tt, none) ▸ (refl, tt, none) ▸ (refl, tt, none)
    ▸ (refl, (refl, tt, is_unset (drop 8 became) refl))
    ▸ (refl, splits)
    ▸ (refl, (refl, tt, is_unset (drop 5 became) refl))
    ▸ (refl, roots)
    ▸ (refl, inr right_of_first)
    ▸ (refl, (refl, tt, is_unset (drop 2 became) refl))
    ▸ (refl, splits_upper)
    ▸ tt)
