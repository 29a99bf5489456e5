-- The order of keys, as relations, and functions of keys changed at one key.
use Rattle.std.specs.Prelude.{◌≡◌, ℕ, List, true, false, if◌then◌else◌, Option, IfSome}
use Rattle.std.specs.Ordering.{is_eq}
use Rattle.bw_model.specs.Bytes.{key_cmp, is_below, is_under}
use Rattle.deltas.specs.declared.record.Record.{Record}
use Rattle.traces.specs.chain.Chains.{low_in, high_in}

abbrev pub Key : Type 0
Key = List ℕ

abbrev pub IsBelow : Key → Key → Type 0
IsBelow a b = is_below a b ≡ true

-- at or below
abbrev pub IsUpTo : Key → Key → Type 0
IsUpTo a b = is_below b a ≡ false

-- The key is below the bound; where there is no bound, each key is.
abbrev pub IsUnder : Key → Option Key → Type 0
IsUnder key bound = is_under key bound ≡ true

-- The key is at or below the bound; where there is no bound, each key is.
abbrev pub IsWithinEnd : Key → Option Key → Type 0
IsWithinEnd key bound = IfSome bound (λ high. IsUpTo key high)

-- the key is in the chain's range
pub record Covers (chain : List Record) (key : Key) : Type 0 where
  pub low : IsUpTo (low_in chain) key
  pub high : IsUnder key (high_in chain)

-- f, with x at the key s
abbrev pub put_key : {X : Type 0} → (Key → X) → Key → X → Key → X
put_key f s x k = if is_eq (key_cmp k s) then x else f k
