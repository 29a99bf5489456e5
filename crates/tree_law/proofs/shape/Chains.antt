-- Chains: there is one from each row, and it stays while its rows do.
use Rattle.tree_law.proofs.Words.{[], refl, Option, None, List, ◌++◌, ◌∷◌, sym, ℕ, ◌≡◌, ◌∙◌, Some, same_Some, MatchOption, next_row, Record, IsChainFrom, IsFront, IsChain}

pub chain_unique : (rows : ℕ → Option Record) (c d : List Record) (o : Option ℕ) → IsChain rows c o → IsChain rows d o → c ≡ d
chain_unique rows c d None h g = h ∙ sym g
chain_unique rows [] d (Some x) h g = absurd h
chain_unique rows (v ∷ c) [] (Some x) h g = absurd g
chain_unique rows (v ∷ c) (w ∷ d) (Some x) h g =
    let t : c ≡ d = chain_unique rows c d (next_row v) h.1 (rw (same_Some v w (sym h.0 ∙ g.0)) g.1) in
    cc

-- what was read of a chain is its front
pub front_of : (seen rows : ℕ → Option Record) → ((r : ℕ) (w : Record) → seen r ≡ Some w → rows r ≡ Some w)
    → (x : ℕ) (front : List Record) (n : ℕ) (c : List Record) → IsFront seen x front n → IsChainFrom rows x c
    → (rest : List Record) × IsChainFrom rows n rest × (c ≡ front ++ rest)
front_of seen rows stand x [] n c at h = (c, rw at at h, refl)
front_of seen rows stand x (w ∷ front) n [] at h = absurd h
front_of seen rows stand x (w ∷ front) n (v ∷ c) at h =
    let same : w ≡ v = same_Some w v (sym (stand x w at.0) ∙ h.0) in
    let under : MatchOption (next_row w) (c ≡ []) (λ y. IsChainFrom rows y c) = rw same h.1 in
    let deeper = elim (next_row w) as
    (λ o. MatchOption o ⊥ (λ y. IsFront seen y front n) → MatchOption o (c ≡ []) (λ y. IsChainFrom rows y c) → (rest : List Record) × IsChainFrom rows n rest × (c ≡ front ++ rest)) [
      | None ↦ λ f g. absurd f
      | Some y ↦ λ f g. front_of seen rows stand y front n c f g
    ] at.1 under in
    (deeper.0, deeper.1, λ i. sym same i ∷ deeper.2 i)

-- a chain stays where every record that stood there stands
pub chain_within : (rows rows' : ℕ → Option Record) → ((r : ℕ) (w : Record) → rows r ≡ Some w → rows' r ≡ Some w) → (c : List Record) (o : Option ℕ) → IsChain rows c o → IsChain rows' c o
chain_within rows rows' same c None h = h
chain_within rows rows' same [] (Some x) h = h
chain_within rows rows' same (w ∷ c) (Some x) h = (same x w h.0, chain_within rows rows' same c (next_row w) h.1)
