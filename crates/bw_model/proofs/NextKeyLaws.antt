-- Each key but the empty one has a greatest key below it, and a least list above it.
use Rattle.std.proofs.Common.{◌≡◌, ◌<◌, ◌≤◌, ℕ, zero, suc, ◌+◌, ◌-◌, List, [], ◌∷◌, ◌++◌, Some, None, length, true, false}
use Rattle.std.proofs.Common.{refl, sym, ap, subst, ◌∙◌, arith, take, drop, slice_set, take_all, length-append}
use Rattle.std.proofs.Math.Seq.{set-append_seam, take-append_seam}
use Rattle.std.specs.Prelude.{not}
use Rattle.std.specs.List.{AllByRecursion}
use Rattle.std.specs.declared.cmp.Ordering.{Ordering}
use Rattle.std.specs.declared.cmp.Ordering.TheVariants.{Less, Equal, Greater}
use Rattle.std.specs.Ordering.{nat_cmp, is_lt, ordering_then}
use Rattle.std.specs.Cmp.Lexicographic.{slice_cmp}
use Rattle.std.specs.Cmp.{nat_cmp_is, ranked}
use Rattle.bw_model.specs.Bytes.{IsShort, is_below, longest}
use Rattle.bw_model.specs.NextKeys.{filled, before, key_before, key_after, IsGreatestBelow}

-- at most so many bytes
record IsRoomed (room : ℕ) (bytes : List ℕ) : Type 0 where
  short : length bytes ≤ room
  bytes_fit : AllByRecursion (λ byte. byte < 256) bytes

-- exactly the lists of so many bytes at most that are at or below this one are below the key
abbrev IsBeforeIn : ℕ → List ℕ → List ℕ → Type 0
IsBeforeIn room key greatest = (x : List ℕ) → length x ≤ room → AllByRecursion (λ byte. byte < 256) x → is_below x key ≡ not (is_below greatest x)

-- numbers compare in one of three ways
by_nat : {G : Type 0} (x y : ℕ) → (x < y → G) → (x ≡ y → G) → (y < x → G) → G
by_nat {G} x y f g h = cases (nat_cmp x y) refl
  where
    cases : (o : Ordering) → o ≡ nat_cmp x y → G
    cases Less e = f (ranked x y Less e)
    cases Equal e = g (ranked x y Equal e)
    cases Greater e = h (ranked x y Greater e)

-- the first bytes decide, where they differ
first_below : (x y : ℕ) (xs ys : List ℕ) → x < y → is_below (x ∷ xs) (y ∷ ys) ≡ true
first_below x y xs ys h = ap (λ (o : Ordering). is_lt (ordering_then o (slice_cmp nat_cmp xs ys))) (sym (nat_cmp_is x y Less h))

first_same : (x y : ℕ) (xs ys : List ℕ) → x ≡ y → is_below (x ∷ xs) (y ∷ ys) ≡ is_below xs ys
first_same x y xs ys h = ap (λ (o : Ordering). is_lt (ordering_then o (slice_cmp nat_cmp xs ys))) (sym (nat_cmp_is x y Equal h))

first_above : (x y : ℕ) (xs ys : List ℕ) → y < x → is_below (x ∷ xs) (y ∷ ys) ≡ false
first_above x y xs ys h = ap (λ (o : Ordering). is_lt (ordering_then o (slice_cmp nat_cmp xs ys))) (sym (nat_cmp_is x y Greater h))

none_below_none : (ys : List ℕ) → is_below ys [] ≡ false
none_below_none [] = refl
none_below_none (y ∷ ys) = refl

-- a list of the greatest bytes is below none that is no longer
filled_is_top : (n : ℕ) (x : List ℕ) → length x ≤ n → AllByRecursion (λ byte. byte < 256) x → is_below (filled n) x ≡ false
filled_is_top zero [] few all = refl
filled_is_top zero (y ∷ ys) few all = absurd (omega (arith, few))
filled_is_top (suc n) [] few all = refl
filled_is_top (suc n) (y ∷ ys) few all = by_nat 255 y
    (λ below. absurd (omega (arith, below, all.0)))
    (λ same. first_same 255 y (filled n) ys same ∙ filled_is_top n ys (omega (arith, few)) all.1)
    (λ above. first_above 255 y (filled n) ys above)

keys_have_befores : (room : ℕ) (key : List ℕ) → 0 < length key → length key ≤ room → IsBeforeIn room key (before room key)
keys_have_befores room [] some fits x few all = absurd (omega (arith, some))
keys_have_befores room (zero ∷ []) some fits [] few all = refl
keys_have_befores room (zero ∷ []) some fits (y ∷ ys) few all = by_nat y 0
    (λ below. absurd (omega (arith, below)))
    (λ same. first_same y 0 ys [] same ∙ none_below_none ys)
    (λ above. first_above y 0 ys [] above)
keys_have_befores room (suc b ∷ []) some fits [] few all = refl
keys_have_befores room (suc b ∷ []) some fits (y ∷ ys) few all = by_nat y (suc b)
    (λ below. first_below y (suc b) ys [] below ∙ by_nat y b
    (λ less. sym (ap not (first_above b y (filled (room - 1)) ys less)))
    (λ even. sym (ap not (first_same b y (filled (room - 1)) ys (sym even) ∙ filled_is_top (room - 1) ys (omega (arith, few)) all.1)))
    (λ more. absurd (omega (arith, below, more))))
    (λ same. first_same y (suc b) ys [] same ∙ none_below_none ys ∙ sym (ap not (first_below b y (filled (room - 1)) ys (omega (arith, same)))))
    (λ above. first_above y (suc b) ys [] above ∙ sym (ap not (first_below b y (filled (room - 1)) ys (omega (arith, above)))))
keys_have_befores room (b ∷ c ∷ rest) some fits [] few all = refl
keys_have_befores room (b ∷ c ∷ rest) some fits (y ∷ ys) few all = by_nat y b
    (λ below. first_below y b ys (c ∷ rest) below ∙ sym (ap not (first_above b y (before (room - 1) (c ∷ rest)) ys below)))
    (λ same. first_same y b ys (c ∷ rest) same ∙ keys_have_befores (room - 1) (c ∷ rest) (omega arith) (omega (arith, fits)) ys (omega (arith, few)) all.1
    ∙ sym (ap not (first_same b y (before (room - 1) (c ∷ rest)) ys (sym same))))
    (λ above. first_above y b ys (c ∷ rest) above ∙ sym (ap not (first_below b y (before (room - 1) (c ∷ rest)) ys above)))

-- it is a key, too
filled_is_key : (n : ℕ) → IsRoomed n (filled n)
filled_is_key zero = record { short = omega arith; bytes_fit = tt }
filled_is_key (suc n) = let h = filled_is_key n in let few = h.short in record { short = omega (arith, few); bytes_fit = (omega arith, h.bytes_fit) }

befores_are_keys : (room : ℕ) (key : List ℕ) → IsRoomed room key → IsRoomed room (before room key)
befores_are_keys room [] h = h
befores_are_keys room (zero ∷ []) h = record { short = omega arith; bytes_fit = tt }
befores_are_keys room (suc b ∷ []) h =
    let f = filled_is_key (room - 1) in let few = f.short in let fits = h.short in let byte = h.bytes_fit.0 in
    record { short = omega (arith, few, fits); bytes_fit = (omega (arith, byte), f.bytes_fit) }
befores_are_keys room (b ∷ c ∷ rest) h =
    let fits = h.short in
    let f = befores_are_keys (room - 1) (c ∷ rest) (record { short = omega (arith, fits); bytes_fit = h.bytes_fit.1 }) in let few = f.short in
    record { short = omega (arith, few, fits); bytes_fit = (h.bytes_fit.0, f.bytes_fit) }

-- exactly what isn't above a key is below the key with a 0 behind it
pub after_is_above : (key x : List ℕ) → is_below x (key_after key) ≡ not (is_below key x)
after_is_above [] [] = refl
after_is_above [] (y ∷ ys) = by_nat y 0
    (λ below. absurd (omega (arith, below)))
    (λ same. first_same y 0 ys [] same ∙ none_below_none ys)
    (λ above. first_above y 0 ys [] above)
after_is_above (b ∷ key) [] = refl
after_is_above (b ∷ key) (y ∷ ys) = by_nat y b
    (λ below. first_below y b ys (key_after key) below ∙ sym (ap not (first_above b y key ys below)))
    (λ same. first_same y b ys (key_after key) same ∙ after_is_above key ys ∙ sym (ap not (first_same b y key ys (sym same))))
    (λ above. first_above y b ys (key_after key) above ∙ sym (ap not (first_below b y key ys above)))

pub none_is_first : (key : List ℕ) → key_before key ≡ None → key ≡ []
none_is_first [] e = refl
none_is_first (b ∷ rest) e = cc

pub before_is_key : (key other : List ℕ) → IsShort key → key_before key ≡ Some other → IsShort other
before_is_key [] other h e = cc
before_is_key (b ∷ rest) other h e =
    let made = befores_are_keys longest (b ∷ rest) (record { short = h.short; bytes_fit = h.bytes_fit }) in
    let same : before longest (b ∷ rest) ≡ other = cc in
    rw (sym same) record { short = made.short; bytes_fit = made.bytes_fit }

pub before_is_greatest : (key other : List ℕ) → IsShort key → key_before key ≡ Some other → IsGreatestBelow key other
before_is_greatest [] other h e x short = cc
before_is_greatest (b ∷ rest) other h e x short =
    let same : before longest (b ∷ rest) ≡ other = cc in
    subst (λ (g : List ℕ). is_below x (b ∷ rest) ≡ not (is_below g x)) same
    (keys_have_befores longest (b ∷ rest) (omega arith) h.short x short.short short.bytes_fit)

-- what comes before a key that ends in 0, and before one that ends in another byte
pub before_zero : (room : ℕ) (front : List ℕ) → before room (front ++ 0 ∷ []) ≡ front
before_zero room [] = refl
before_zero room (b ∷ []) = refl
before_zero room (b ∷ c ∷ front) = ap (λ (rest : List ℕ). b ∷ rest) (before_zero (room - 1) (c ∷ front))

pub before_more : (room b : ℕ) (front : List ℕ) → before room (front ++ suc b ∷ []) ≡ front ++ b ∷ filled (room - length front - 1)
before_more room b [] = ap (λ (n : ℕ). b ∷ filled n) (omega arith)
before_more room b (x ∷ []) = ap (λ (n : ℕ). x ∷ b ∷ filled n) (omega arith)
before_more room b (x ∷ y ∷ front) =
    ap (λ (rest : List ℕ). x ∷ rest) (before_more (room - 1) b (y ∷ front) ∙ ap (λ (n : ℕ). y ∷ front ++ b ∷ filled n) (omega arith))

pub key_before_is : (front : List ℕ) (last : ℕ) → key_before (front ++ last ∷ []) ≡ Some (before longest (front ++ last ∷ []))
key_before_is [] last = refl
key_before_is (x ∷ front) last = refl

-- the greatest bytes behind a place
drop_filled : (n k : ℕ) → n < k → drop n (filled k) ≡ 255 ∷ filled (k - n - 1)
drop_filled n zero h = absurd (omega (arith, h))
drop_filled zero (suc k) h = ap (λ (n : ℕ). 255 ∷ filled n) (omega arith)
drop_filled (suc n) (suc k) h = drop_filled n k (omega (arith, h)) ∙ ap (λ (m : ℕ). 255 ∷ filled m) (omega arith)

length_filled : (n : ℕ) → length (filled n) ≡ n
length_filled zero = refl
length_filled (suc n) = ap suc (length_filled n)

-- the key before one that ends in 0, from an array that begins with the other bytes
pub without_last : (key front written rest taken : List ℕ) (last : ℕ) → key ≡ front ++ last ∷ [] → last ≡ 0 → written ≡ front
    → taken ≡ take (length front) (written ++ rest) → Some taken ≡ key_before key
without_last key front written rest taken last is zeroed same e =
    ap (λ (k : List ℕ). Some k)
    (e ∙ ap (λ (k : List ℕ). take (length front) (k ++ rest)) same ∙ take-append_seam front rest ∙ sym (before_zero longest front))
    ∙ sym (key_before_is front 0) ∙ ap key_before (sym (is ∙ ap (λ (n : ℕ). front ++ n ∷ []) zeroed))

-- the same of a key that ends in another byte
pub with_lower_last : (key front written taken : List ℕ) (last : ℕ) → key ≡ front ++ last ∷ [] → (last ≡ 0 → ⊥) → length front < longest → written ≡ front
    → taken ≡ take longest (slice_set (written ++ drop (length front) (filled longest)) (length front) (last - 1)) → Some taken ≡ key_before key
with_lower_last key front written taken zero is some room same e = absurd (some refl)
with_lower_last key front written taken (suc b) is some room same e =
    ap (λ (k : List ℕ). Some k)
    (e ∙ ap (λ (k : List ℕ). take longest k) laid ∙ take_all longest (front ++ b ∷ filled (longest - length front - 1)) (omega (arith, long, room))
    ∙ sym (before_more longest b front))
    ∙ sym (key_before_is front (suc b)) ∙ ap key_before (sym is)
  where
    laid : slice_set (written ++ drop (length front) (filled longest)) (length front) (suc b - 1) ≡ front ++ b ∷ filled (longest - length front - 1)
    laid = ap (λ (k : List ℕ). slice_set (k ++ drop (length front) (filled longest)) (length front) (suc b - 1)) same
        ∙ ap (λ (n : ℕ). slice_set (front ++ drop (length front) (filled longest)) (length front) n) (omega arith)
        ∙ ap (λ (k : List ℕ). slice_set (front ++ k) (length front) b) (drop_filled (length front) longest room)
        ∙ set-append_seam front 255 (filled (longest - length front - 1)) b

    long : length (front ++ b ∷ filled (longest - length front - 1)) ≡ length front + suc (longest - length front - 1)
    long = length-append front (b ∷ filled (longest - length front - 1)) ∙ ap (λ (n : ℕ). length front + suc n) (length_filled (longest - length front - 1))
