-- How keys compare.
use Rattle.std.proofs.Common.{◌≡◌, ℕ, List, Bool, true, false, refl, sym, ap, ◌∙◌}
use Rattle.std.specs.declared.cmp.Ordering.{Ordering}
use Rattle.std.specs.declared.cmp.Ordering.TheVariants.{Less, Equal, Greater}
use Rattle.std.specs.Prelude.{◌&&◌, not}
use Rattle.std.specs.Ordering.{is_eq, is_lt, ordering_reverse}
use Rattle.std.proofs.lemmas.Cmp.{nat_list_cmp_total, tied_itself}
use Rattle.std.proofs.lemmas.Map.Lookups.{exact_bytes}
use Rattle.bw_model.specs.Bytes.{key_cmp, is_below}

equal : (o : Ordering) → is_eq o ≡ true → o ≡ Equal
equal Less h = cc
equal Equal h = refl
equal Greater h = cc

pub above : (a b : List ℕ) → key_cmp a b ≡ Less → key_cmp b a ≡ Greater
above a b h = nat_list_cmp_total.antisymm b a ∙ ap ordering_reverse h

pub below : (a b : List ℕ) → key_cmp a b ≡ Greater → key_cmp b a ≡ Less
below a b h = nat_list_cmp_total.antisymm b a ∙ ap ordering_reverse h

pub below-trans : (a b c : List ℕ) → key_cmp a b ≡ Less → key_cmp b c ≡ Less → key_cmp a c ≡ Less
below-trans = nat_list_cmp_total.trans

pub itself : (a : List ℕ) → key_cmp a a ≡ Equal
itself = tied_itself nat_list_cmp_total

pub same : (a b : List ℕ) → is_eq (key_cmp a b) ≡ true → a ≡ b
same a b h = exact_bytes a b (equal (key_cmp a b) h)

pub differs_below : (a b : List ℕ) → key_cmp a b ≡ Less → is_eq (key_cmp a b) ≡ false
differs_below a b h = ap is_eq h

pub differs_above : (a b : List ℕ) → key_cmp a b ≡ Less → is_eq (key_cmp b a) ≡ false
differs_above a b h = ap is_eq (above a b h)

pub either : {G : Type 0} (b : Bool) → (b ≡ true → G) → (b ≡ false → G) → G
either true f g = f refl
either false f g = g refl

pub by_order : {G : Type 0} (a b : List ℕ) → (key_cmp a b ≡ Less → G) → (a ≡ b → G) → (key_cmp b a ≡ Less → G) → G
by_order {G} a b f g h = cases (key_cmp a b) refl
  where
    cases : (o : Ordering) → key_cmp a b ≡ o → G
    cases Less e = f e
    cases Equal e = g (exact_bytes a b e)
    cases Greater e = h (below a b e)

less : (o : Ordering) → is_lt o ≡ true → o ≡ Less
less Less h = refl
less Equal h = cc
less Greater h = cc

pub below_from : (a b : List ℕ) → is_below a b ≡ true → key_cmp a b ≡ Less
below_from a b h = less (key_cmp a b) h

-- a key below a bound is below what isn't below the bound
pub below_reach : (a b c : List ℕ) → key_cmp a b ≡ Less → is_below c b ≡ false → key_cmp a c ≡ Less
below_reach a b c h not_below = by_order b c
    (λ more. below-trans a b c h more)
    (λ is. rw (← is) h)
    (λ fewer. let both : true ≡ false = sym (ap is_lt fewer) ∙ not_below in cc)

pub and_left : (a b : Bool) → a && b ≡ true → a ≡ true
and_left true b h = refl
and_left false b h = cc

pub and_right : (a b : Bool) → a && b ≡ true → b ≡ true
and_right true b h = h
and_right false b h = cc

pub and_both : (a b : Bool) → a ≡ true → b ≡ true → a && b ≡ true
and_both true b g h = h
and_both false b g h = cc

pub not_true : (a : Bool) → not a ≡ true → a ≡ false
not_true true h = cc
not_true false h = refl
