-- The front of a chain, as it is read on.
use Rattle.round_model.proofs.Words.{◌≡◌, ℕ, ◌==◌, List, [], ◌∷◌, ◌++◌, Bool, true, false, cond, Option, Some, None, refl, ap, ◌∙◌, MatchOption, eqb-true, Record, replaced_at, next_row}
use Rattle.round_model.proofs.Words.{IsChainFrom, IsFront}

under : (o : Option ℕ) (X : Type 0) (P Q : ℕ → Type 0) → ((b : ℕ) → P b → Q b) → MatchOption o ⊥ P → MatchOption o X Q
under None X P Q f h = absurd h
under (Some b) X P Q f h = f b h

-- A row is read again; what was seen there before is the same record.
pub front_more : (seen f : ℕ → Option Record) (n : ℕ) (w : Record) → ((before : Record) → seen n ≡ Some before → w ≡ before) → (front : List Record) (row m : ℕ)
    → IsFront seen row front m → IsFront f row front m
    → IsFront (replaced_at n (Some w) f) row front m
front_more seen f n w same [] row m h i = i
front_more seen f n w same (v ∷ vs) row m h i = (go (row == n) refl, deeper (next_row v) (λ b p q. front_more seen f n w same vs b m p q) h.1 i.1)
  where
    go : (b : Bool) → (row == n) ≡ b → cond b (Some w) (f row) ≡ Some v
    go true e = let j : row ≡ n = eqb-true row n e in ap Some (same v (rw (← j) h.0))
    go false e = i.0

    deeper : (o : Option ℕ) → ((b : ℕ) → IsFront seen b vs m → IsFront f b vs m → IsFront (replaced_at n (Some w) f) b vs m)
        → MatchOption o ⊥ (λ b. IsFront seen b vs m) → MatchOption o ⊥ (λ b. IsFront f b vs m)
        → MatchOption o ⊥ (λ b. IsFront (replaced_at n (Some w) f) b vs m)
    deeper None more p q = p
    deeper (Some b) more p q = more b p q

-- the record at the next row has a next itself
pub front_next : (f : ℕ → Option Record) (w : Record) (front : List Record) (row n m : ℕ) → IsFront f row front n → f n ≡ Some w → next_row w ≡ Some m → IsFront f row (front ++ w ∷ []) m
front_next f w [] row n m h e i = (ap f h ∙ e, rw i refl)
front_next f w (v ∷ vs) row n m h e i = (h.0, under (next_row v) ⊥ (λ b. IsFront f b vs n) (λ b. IsFront f b (vs ++ w ∷ []) m) (λ b p. front_next f w vs b n m p e i) h.1)

-- the record at the next row is a base
pub front_end : (f : ℕ → Option Record) (w : Record) (front : List Record) (row n : ℕ) → IsFront f row front n → f n ≡ Some w → next_row w ≡ None → IsChainFrom f row (front ++ w ∷ [])
front_end f w [] row n h e i = (ap f h ∙ e, rw i refl)
front_end f w (v ∷ vs) row n h e i = (h.0, under (next_row v) (vs ++ w ∷ [] ≡ []) (λ b. IsFront f b vs n) (λ b. IsChainFrom f b (vs ++ w ∷ [])) (λ b p. front_end f w vs b n p e i) h.1)
