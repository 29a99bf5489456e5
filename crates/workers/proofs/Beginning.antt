-- Workers are begun, and come back.
use Rattle.workers.proofs.Words.{All, AreBegun, Bool, HaveComeBack, HaveJoined, IsToldBy, List, Some, Worker, ap, arith, index_is, length, length-append, refl}
use Rattle.workers.proofs.Words.{same_Some, slice_get, slice_get_below, subst, suc, sym, there, zero, ℕ, [], ◌++◌, ◌∙◌, ◌∷◌, ◌≡◌}
use Rattle.std.proofs.Common.{inl, inr}
use Rattle.std.specs.Prelude.{◌⊎◌}
use Rattle.workers.specs.declared.begun.Back.{Back}
use Rattle.workers.specs.declared.begun.Begun.{Begun}
use Rattle.workers.specs.declared.begun.Begun.TheVariants as begun
use Rattle.workers.specs.Begun.{HasJoined, IsBack, IsBegun}

-- what stands in a longer list stands in the list, or is the last
at_more : {X : Type 0} (xs : List X) (x z : X) (n : ℕ) → slice_get (xs ++ x ∷ []) n ≡ Some z → (slice_get xs n ≡ Some z) ⊎ ((n ≡ length xs) × (x ≡ z))
at_more [] x z zero e = inr (refl, same_Some x z e)
at_more [] x z (suc n) e = cc
at_more (y ∷ ys) x z zero e = inl e
at_more (y ∷ ys) x z (suc n) e = elim (at_more ys x z n e) [ inl here ↦ inl here | inr last ↦ inr (ap suc last.0, last.1) ]

-- what holds of two lists, place by place
abbrev AreEach : {X Y : Type 0} → (ℕ → X → Y → Type 0) → List X → List Y → Type 0
AreEach {X = X} {Y = Y} R xs ys = (n : ℕ) (x : X) (y : Y) → slice_get xs n ≡ Some x → slice_get ys n ≡ Some y → R n x y

each_more : {X Y : Type 0} (R : ℕ → X → Y → Type 0) (xs : List X) (ys : List Y) (x : X) (y : Y) → length ys ≡ length xs → AreEach R xs ys → R (length ys) x y → AreEach R (xs ++ x ∷ []) (ys ++ y ∷ [])
each_more R xs ys x y count each one n a b at_a at_b = elim (at_more xs x a n at_a) [
  | inl here ↦ elim (at_more ys y b n at_b) [
    | inl there ↦ each n a b here there
    | inr last ↦ let below = slice_get_below xs n a here in let e = last.0 in absurd (omega (arith, below, e, count))
  ]
  | inr end ↦ elim (at_more ys y b n at_b) [
    | inl there ↦ let below = slice_get_below ys n b there in let e = end.0 in absurd (omega (arith, below, e, count))
    | inr last ↦ rw last.0 (rw (← end.1) (subst (R (length ys) x) last.1 one))
  ]
]

count_more : {X Y : Type 0} (xs : List X) (ys : List Y) (x : X) (y : Y) → length ys ≡ length xs → length (ys ++ y ∷ []) ≡ length (xs ++ x ∷ [])
count_more xs ys x y count = omega (arith, count, length-append xs (x ∷ []), length-append ys (y ∷ []))

-- no worker was begun yet
pub none_begun : {A : Type 0} (limit id : ℕ) (ones : List (Begun A)) → ones ≡ [] → AreBegun limit id [] ones
none_begun limit id ones none = record { count = ap length none; each = λ place old one at_old at_one. cc }

-- one worker more was begun
pub begun_more : {A : Type 0} (limit id place : ℕ) (olds : List (Worker A)) (ones news : List (Begun A)) (old : Worker A) (one : Begun A)
    → AreBegun limit id olds ones → place ≡ length ones → news ≡ ones ++ one ∷ [] → IsBegun limit id place old one → AreBegun limit id (olds ++ old ∷ []) news
begun_more limit id place olds ones news old one before at longer is = subst (AreBegun limit id (olds ++ old ∷ [])) (sym longer) record {
  count = count_more olds ones old one before.count;
  each = each_more (IsBegun limit id) olds ones old one before.count before.each (rw (← at) is);
}

-- no worker came back yet
pub none_joined : {A : Type 0} (told : Bool) (news : List (Worker A)) → news ≡ [] → HaveJoined told [] news
none_joined told news none = record { count = ap length none; each = λ place one new at_one at_new. cc }

-- one worker more came back
pub joined_more : {A : Type 0} (told : Bool) (ones : List (Begun A)) (news longer : List (Worker A)) (one : Begun A) (new : Worker A)
    → HaveJoined told ones news → longer ≡ news ++ new ∷ [] → HasJoined told one new → HaveJoined told (ones ++ one ∷ []) longer
joined_more told ones news longer one new before is joined = subst (HaveJoined told (ones ++ one ∷ [])) (sym is) record {
  count = count_more ones news one new before.count;
  each = each_more (λ place. HasJoined told) ones news one new before.count before.each joined;
}

told_by : {A : Type 0} (limit id place : ℕ) (old : Worker A) (one : Begun A) → IsBegun limit id place old one → IsToldBy id one
told_by limit id place old (begun.Standing handle) is = is.0
told_by limit id place old (begun.Back back) is = is.told

-- all are told by one lock
pub all_told : {A : Type 0} (limit id : ℕ) (olds : List (Worker A)) (ones : List (Begun A)) → AreBegun limit id olds ones → All (IsToldBy id) ones
all_told limit id olds ones is k d below =
    let one = there ones k below in
    let old = there olds k (omega (arith, below, is.count)) in
    subst (IsToldBy id) (sym (index_is ones k one.0 d one.1)) (told_by limit id k old.0 one.0 (is.each k old.0 one.0 old.1 one.1))

-- what was begun and has joined came back
pub came_back : {A : Type 0} (told same : Bool) (limit id : ℕ) (olds news : List (Worker A)) (ones : List (Begun A)) → AreBegun limit id olds ones
    → HaveJoined told ones news → same ≡ told → HaveComeBack same limit olds news
came_back told same limit id olds news ones is joined says = rw says record {
  count = joined.count ∙ is.count;
  each = λ place old new at_old at_new.
      let below = slice_get_below olds place old at_old in
      let one = there ones place (omega (arith, below, is.count)) in
      joined.each place one.0 new one.1 at_new limit id place old (is.each place old one.0 at_old one.1);
}

-- what was begun ends as this: by the promise of its thread, or as it is back already
abbrev pub EndsAs : {A : Type 0} → Begun A → Back A → Type 0
EndsAs (begun.Standing handle) back = IsBack handle.promise.limit handle.promise.may_run.value.id handle.promise.place handle.promise.worker.value back
EndsAs (begun.Back it) back = back ≡ it

-- what has ended has joined
pub has_joined : {A : Type 0} (told : Bool) (one : Begun A) (back : Back A) → EndsAs one back → back.told.value ≡ told → HasJoined told one back.worker
has_joined told (begun.Standing handle) back ends says = λ limit id place old is.
    rw (← says) (rw (← is.3) (rw (← is.2) (rw (← is.1) ends.comes)))
has_joined told (begun.Back it) back ends says = λ limit id place old is.
    rw (← says) (rw ends is.comes)
