-- What stands for bytes that are escaped.
use Rattle.std.proofs.Common.{◌≡◌, ◌≢◌, ◌≤◌, ℕ, List, [], ◌∷◌, ◌++◌, Bool, true, false, arith, refl, ◌==◌}
use Rattle.std.specs.Prelude.{nat_le, ◌&&◌, if◌then◌else◌, codes}
use Rattle.std.specs.List.{AllByRecursion}
use Rattle.std.proofs.lemmas.Bool.Decides.{nat_tests}
use Rattle.tree_picture.specs.Document.{escaped_byte, escape}

abbrev pub IsSafe : ℕ → Type 0
IsSafe b = (b ≢ 60) × (b ≢ 62) × (b ≢ 34) × (32 ≤ b) × (b ≤ 126)

all_append : (xs ys : List ℕ) → AllByRecursion IsSafe xs → AllByRecursion IsSafe ys → AllByRecursion IsSafe (xs ++ ys)
all_append [] ys a b = b
all_append (x ∷ xs) ys a b = (a.0, all_append xs ys a.1 b)

-- the bytes of the names
amp : IsSafe 38
amp = (omega arith, omega arith, omega arith, omega arith, omega arith)

semi : IsSafe 59
semi = (omega arith, omega arith, omega arith, omega arith, omega arith)

ask : IsSafe 63
ask = (omega arith, omega arith, omega arith, omega arith, omega arith)

the_l : IsSafe 108
the_l = (omega arith, omega arith, omega arith, omega arith, omega arith)

the_t : IsSafe 116
the_t = (omega arith, omega arith, omega arith, omega arith, omega arith)

the_g : IsSafe 103
the_g = (omega arith, omega arith, omega arith, omega arith, omega arith)

the_a : IsSafe 97
the_a = (omega arith, omega arith, omega arith, omega arith, omega arith)

the_m : IsSafe 109
the_m = (omega arith, omega arith, omega arith, omega arith, omega arith)

the_p : IsSafe 112
the_p = (omega arith, omega arith, omega arith, omega arith, omega arith)

the_q : IsSafe 113
the_q = (omega arith, omega arith, omega arith, omega arith, omega arith)

the_u : IsSafe 117
the_u = (omega arith, omega arith, omega arith, omega arith, omega arith)

the_o : IsSafe 111
the_o = (omega arith, omega arith, omega arith, omega arith, omega arith)

abbrev Safe : List ℕ → Type 0
Safe bytes = AllByRecursion IsSafe bytes

known : (b : ℕ) → b ≢ 60 → b ≢ 62 → b ≢ 34 → 32 ≤ b → b ≤ 126 → IsSafe b
known b one two three low high = (one, two, three, low, high)

byte_safe : (b : ℕ) → Safe (escaped_byte b)
byte_safe b = go (b == 60) (b == 62) (b == 38) (b == 34) (nat_le 32 b && nat_le b 126) refl refl refl refl refl
  where
    plain : (c : ℕ) → IsSafe c → Safe (c ∷ [])
    plain c safe = (safe, tt)

    go : (less greater and quote printed : Bool) → (b == 60) ≡ less → (b == 62) ≡ greater → (b == 38) ≡ and → (b == 34) ≡ quote → (nat_le 32 b && nat_le b 126) ≡ printed
        → Safe (if less then codes "&lt;" else if greater then codes "&gt;" else if and then codes "&amp;" else if quote then codes "&quot;" else if printed then b ∷ [] else codes "?")
    go true greater and quote printed l g a q p = (amp, (the_l, (the_t, (semi, tt))))
    go false true and quote printed l g a q p = (amp, (the_g, (the_t, (semi, tt))))
    go false false true quote printed l g a q p = (amp, (the_a, (the_m, (the_p, (semi, tt)))))
    go false false false true printed l g a q p = (amp, (the_q, (the_u, (the_o, (the_t, (semi, tt))))))
    go false false false false true l g a q p = plain b (known b (grind (arith, nat_tests)) (grind (arith, nat_tests)) (grind (arith, nat_tests)) (grind (arith, nat_tests)) (grind (arith, nat_tests)))
    go false false false false false l g a q p = (ask, tt)

pub all_safe : (bytes : List ℕ) → Safe (escape bytes)
all_safe [] = tt
all_safe (b ∷ bytes) = all_append (escaped_byte b) (escape bytes) (byte_safe b) (all_safe bytes)
