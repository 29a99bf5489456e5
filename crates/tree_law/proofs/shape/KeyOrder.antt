-- The order of keys is total, and the empty key is lowest.
use Rattle.tree_law.proofs.Words.{false, [], ap, refl, Option, None, List, true, inl, ◌≢◌, inr, ◌∷◌, ◌≡◌, Bool, ◌∙◌, Some, is_eq, IsTrue, ◌&&◌, not, key_cmp, is_under, is_in_range}
use Rattle.tree_law.proofs.Words.{is_below, Record, low_in, high_in, covers, Key, IsBelow, IsUpTo, Covers, IsUnder, put_key}
use Rattle.std.specs.declared.cmp.Ordering.TheVariants.{Less, Equal, Greater}
use Rattle.std.specs.Ordering.{is_lt, ordering_reverse}
use Rattle.std.proofs.lemmas.Cmp.{nat_list_cmp_total, tied_itself}
use Rattle.std.proofs.lemmas.Map.Lookups.{exact_bytes}
use Rattle.tree_law.proofs.shape.Puts.{decided}

cmp_less : (a b : Key) → IsBelow a b → key_cmp a b ≡ Less
cmp_less a b h = (elim (key_cmp a b) as (λ o. is_lt o ≡ true → o ≡ Less) [ Less ↦ λ e. refl | o ↦ λ e. cc ]) h

less_below : (a b : Key) → key_cmp a b ≡ Less → IsBelow a b
less_below a b h = ap is_lt h

below_trans : (a b c : Key) → IsBelow a b → IsBelow b c → IsBelow a c
below_trans a b c h k = less_below a c (nat_list_cmp_total.trans a b c (cmp_less a b h) (cmp_less b c k))

pub below_not : (a b : Key) → IsBelow a b → IsUpTo a b
below_not a b h = ap is_lt (nat_list_cmp_total.antisymm b a ∙ ap ordering_reverse (cmp_less a b h))

pub upto_refl : (a : Key) → IsUpTo a a
upto_refl a = ap is_lt (tied_itself nat_list_cmp_total a)

pub upto_same : (a b : Key) → a ≡ b → IsUpTo a b
upto_same a b e = rw (← e) (upto_refl a)

-- not below is at or above
pub not_below : (a b : Key) → IsBelow a b → IsUpTo b a → ⊥
not_below a b h k = cc

pub not_self : (a : Key) → IsBelow a a → ⊥
not_self a h = not_below a a h (upto_refl a)

-- at or below is below or the same
upto_cases : (a b : Key) (P : Type 0) → IsUpTo a b → (IsBelow a b → P) → (a ≡ b → P) → P
upto_cases a b P h below same = (elim (key_cmp a b) as (λ o. key_cmp a b ≡ o → P) [
  | Less ↦ λ e. below (less_below a b e)
  | Equal ↦ λ e. same (exact_bytes a b e)
  | Greater ↦ λ e. absurd (let i : key_cmp b a ≡ Less = nat_list_cmp_total.antisymm b a ∙ ap ordering_reverse e in not_below b a (less_below b a i) h)
]) refl

pub below_upto : (a b c : Key) → IsBelow a b → IsUpTo b c → IsBelow a c
below_upto a b c h k = upto_cases b c (IsBelow a c) k (λ i. below_trans a b c h i) (λ e. rw e at h)

pub upto_below : (a b c : Key) → IsUpTo a b → IsBelow b c → IsBelow a c
upto_below a b c h k = upto_cases a b (IsBelow a c) h (λ i. below_trans a b c i k) (λ e. rw e k)

pub upto_trans : (a b c : Key) → IsUpTo a b → IsUpTo b c → IsUpTo a c
upto_trans a b c h k = upto_cases a b (IsUpTo a c) h (λ i. below_not a c (below_upto a b c i k)) (λ e. rw e k)

pub upto_both : (a b : Key) → IsUpTo a b → IsUpTo b a → a ≡ b
upto_both a b h k = upto_cases a b (a ≡ b) h (λ i. absurd (not_below a b i k)) (λ e. e)

pub empty_lowest : (a : Key) → IsUpTo [] a
empty_lowest [] = refl
empty_lowest (x ∷ xs) = refl

pub under_trans : (k s : Key) (b : Option Key) → IsBelow k s → IsUnder s b → IsUnder k b
under_trans k s None h i = refl
under_trans k s (Some x) h i = below_trans k s x h i

-- by cases: the same key or another one, and what the test of the two then says
pub by_key : {P : Type 0} (j i : Key) → (j ≡ i → is_eq (key_cmp j i) ≡ true → P) → (j ≢ i → is_eq (key_cmp j i) ≡ false → P) → P
by_key {P} j i same other = (elim (key_cmp j i) as (λ o. key_cmp j i ≡ o → P) [
  | Less ↦ λ e. other (λ s. not_self i (rw s at (less_below j i e))) (ap is_eq e)
  | Equal ↦ λ e. same (exact_bytes j i e) (ap is_eq e)
  | Greater ↦ λ e. other (λ s. let i2 : key_cmp i j ≡ Less = nat_list_cmp_total.antisymm i j ∙ ap ordering_reverse e in not_self i (rw s at (less_below i j i2))) (ap is_eq e)
]) refl

-- by cases: a key is below another one, or not
pub by_below : {P : Type 0} (j i : Key) → (IsBelow j i → P) → (IsUpTo i j → P) → P
by_below j i below other = elim (decided (is_below j i)) [ inl e ↦ below e | inr e ↦ other e ]

-- of a key under the bound of a range: it is in the range, or below it
pub by_range : {P : Type 0} (low k : Key) (high : Option Key) → IsUnder k high → (IsUpTo low k → is_in_range low high k ≡ true → P) → (IsBelow k low → is_in_range low high k ≡ false → P) → P
by_range low k high under inside below = by_below k low (λ e. below e (rw (under, e))) (λ e. inside e (rw (under, e)))

pub key_same : {X : Type 0} (f : Key → X) (s : Key) (v : X) → put_key f s v s ≡ v
key_same {X} f s v = by_key s s (λ e t. rw t) (λ ne t. absurd (ne refl))

pub key_other : {X : Type 0} (f : Key → X) (s : Key) (v : X) (k : Key) → k ≢ s → put_key f s v k ≡ f k
key_other {X} f s v k ne = by_key k s (λ e t. absurd (ne e)) (λ i t. rw t)

pub both : (a b : Bool) → not a && b ≡ true → (a ≡ false) × (b ≡ true)
both true b e = absurd (cc)
both false b e = (refl, e)

-- the range of a chain, as a test and as two relations
pub covers_from : (chain : List Record) (key : Key) → IsTrue (covers chain key) → Covers chain key
covers_from chain key e = let h = both (is_below key (low_in chain)) (is_under key (high_in chain)) e in record { low = h.0; high = h.1 }

pub covers_to : (chain : List Record) (key : Key) → Covers chain key → IsTrue (covers chain key)
covers_to chain key v = rw (v.low, v.high)
