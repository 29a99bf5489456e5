-- One pair more is shown.
use Rattle.std.proofs.Common.{◌≡◌, ◌<◌, ◌+◌, ℕ, zero, suc, List, [], ◌∷◌, Some, arith, length, refl, set, subst, sym, ◌∙◌}
use Rattle.std.specs.Prelude.{slice_get}
use Rattle.std.proofs.lemmas.Option.{same_Some}
use Rattle.bw_tree_c.specs.declared.c_types.Pair.{Pair}
use Rattle.bw_tree_c.specs.Shown.{ShowFirst, ShowsPair}

pub none_shown : (pairs : List (List ℕ × List ℕ)) (ats : List Pair) → ShowFirst 0 pairs ats
none_shown pairs ats n pair below here = absurd (omega (arith, below))

pub one_more : (count : ℕ) (pairs : List (List ℕ × List ℕ)) (ats : List Pair) (at : Pair) (pair : List ℕ × List ℕ)
    → slice_get pairs count ≡ Some pair → count < length ats → ShowsPair pair at → ShowFirst count pairs ats → ShowFirst (count + 1) pairs (set ats count at)
one_more count pairs [] at pair is room shows first n p below here = absurd (omega (arith, room))
one_more zero pairs (a ∷ ats) at pair is room shows first zero p below here = (at, refl, subst (λ q. ShowsPair q at) (same_Some pair p (sym is ∙ here)) shows)
one_more zero pairs (a ∷ ats) at pair is room shows first (suc n) p below here = absurd (omega (arith, below))
one_more (suc count) [] (a ∷ ats) at pair is room shows first n p below here = cc
one_more (suc count) (q ∷ pairs) (a ∷ ats) at pair is room shows first zero p below here = first zero p (omega arith) here
one_more (suc count) (q ∷ pairs) (a ∷ ats) at pair is room shows first (suc n) p below here =
    one_more count pairs ats at pair is (omega (arith, room)) shows (λ m r under at_m. first (suc m) r (omega (arith, under)) at_m) n p (omega (arith, below)) here
