use Rattle.std.proofs.Common.{◌≡◌, ◌<◌, ◌+◌, ℕ, zero, suc, List, [], ◌∷◌, ◌++◌, ap, drop, map, arith, get_or, inr, length, refl, subst, sym, ◌∙◌}
use Rattle.std.specs.Prelude.{slice_get}
use Rattle.std.proofs.lemmas.Option.{get_or_from_slice_get, slice_get_within}
use Rattle.std.proofs.lemmas.List.{append_assoc, drop_more}
use mathlib.Core.Logic.{dite}
use native.Mathlib.Decide.{ℕ_discrete}
use Rattle.bw_tree_c.specs.Loaded.{AreShort, IsShortPair, given_pair}
use Rattle.bw_tree_c.specs.declared.c_types.Pair.{Pair}
use Rattle.bw_tree_c.proofs.c_types.pairs_of.Goals as goal

short_at : (given : List Pair) (n : ℕ) (none : Pair) → n < length given → AreShort given → IsShortPair (get_or given n none)
short_at [] n none below short = absurd (omega (arith, below))
short_at (one ∷ given) zero none below short = short 0 one refl
short_at (one ∷ given) (suc n) none below short = short_at given n none (omega (arith, below)) (λ m pair at. short (suc m) pair at)

one_more :
    (given : List Pair) (n : ℕ) (none : Pair) (done after : List (List ℕ × List ℕ)) (pair : List ℕ × List ℕ) → n < length given → pair ≡ given_pair (get_or given n none)
    → after ≡ done ++ (pair ∷ []) → done ++ map given_pair (drop n given) ≡ map given_pair given → after ++ map given_pair (drop (n + 1) given) ≡ map given_pair given
one_more given n none done after pair below is more old =
    let left : List (List ℕ × List ℕ) = map given_pair (drop (n + 1) given) in
    ap (λ l. l ++ left) more ∙ append_assoc done (pair ∷ []) left ∙ ap (λ p. done ++ (p ∷ left)) is ∙ ap (λ l. done ++ map given_pair l) (sym (drop_more given n none below)) ∙ old

pub returns-in_default-given-clause-err : goal.returns-in_default-given-clause-err
returns-in_default-given-clause-err c = inr (refl, λ short. c.in_default-given.ensures (short_at c.args.given.now c.loop-one.one-index _ c.loop-one-test.true short))

pub loop-one-preserved : goal.loop-one-preserved
loop-one-preserved c = record {
  pairs = one_more c.args.given.now c.loop-one.one-index _ c.loop-one.pairs.items c.push.new.self.items c.in-Some.pair
      c.loop-one-test.true c.in-Some.ensures.1 c.in-Ok-push.ensures.items c.loop-one.invariant.pairs;
  short = λ n pair below at. dite (ℕ_discrete n c.loop-one.one-index)
      (λ same. subst IsShortPair (get_or_from_slice_get c.args.given.now c.loop-one.one-index pair _ (ap (slice_get c.args.given.now) (sym same) ∙ at)) c.in-Some.ensures.0)
      (λ other. c.loop-one.invariant.short n pair (omega (arith, below, other)) at);
}

pub returns-clause-short : goal.returns-clause-short
returns-clause-short c = λ n pair at. c.loop-one.invariant.short n pair (omega (arith, slice_get_within c.args.given.now n pair at, c.loop-one-test.false)) at
