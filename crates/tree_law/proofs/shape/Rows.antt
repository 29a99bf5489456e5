-- The rows of a chain from a linked row are linked.
use Rattle.tree_law.proofs.Words.{[], Option, suc, None, List, length, ◌∷◌, subst, sym, ℕ, ◌≡◌, zero, ◌∙◌, ◌<◌, arith, Some, same_Some, Contains, IfSome, MatchOption, unwrap_or, slice_index_or}
use Rattle.tree_law.proofs.Words.{next_row, Record, IsChainFrom-unique, chain_rows, IsChainFrom, Linked, Owners, IsClosed, Shared}

-- the record of a linked row has a linked row under it
pub next_linked : (o : Owners) (m : Shared) → IsClosed o m → (x : ℕ) (w : Record) → o.row x ≡ Linked → m.rows x ≡ Some w → IfSome (next_row w) (λ n. o.row n ≡ Linked)
next_linked o m closed x w l e =
    let k = closed x l in
    rw (same_Some k.content w (sym k.stands ∙ e)) at k.next

-- each row of the chain is linked
pub chain_linked : (o : Owners) (m : Shared) → IsClosed o m → (x : ℕ) (c : List Record) → o.row x ≡ Linked → IsChainFrom m.rows x c → (row : ℕ) → Contains (chain_rows x c) row → o.row row ≡ Linked
chain_linked o m closed x [] l h row among = absurd h
chain_linked o m closed x (w ∷ c) l h row (zero, lt, e) = rw e at l
chain_linked o m closed x (w ∷ c) l h row (suc k, lt, e) =
    let nothing_under : c ≡ [] → k < length (chain_rows 0 c) → ⊥ = λ empty within. let none_there : length (chain_rows 0 c) ≡ 0 = rw empty in omega arith in
    elim (next_row w) as (λ n. IfSome n (λ n. o.row n ≡ Linked) → MatchOption n (c ≡ []) (λ n. IsChainFrom m.rows n c) → k < length
    (chain_rows (unwrap_or n 0) c) → slice_index_or (chain_rows (unwrap_or n 0) c) k row ≡ row → o.row row ≡ Linked) [
      | None ↦ λ i empty within at. absurd (nothing_under empty within)
      | Some n ↦ λ i under within at. chain_linked o m closed n c i under row (k, within, at)
    ] (next_linked o m closed x w l h.0) h.1 (omega arith) e

-- the chain of a linked row stays where the records of linked rows stay
pub rows_kept : (o : Owners) (m : Shared) (rows' : ℕ → Option Record) → IsClosed o m → ((r : ℕ) → o.row r ≡ Linked → rows' r ≡ m.rows r)
    → (x : ℕ) (c : List Record) → o.row x ≡ Linked → IsChainFrom m.rows x c → IsChainFrom rows' x c
rows_kept o m rows' closed kept x [] l h = h
rows_kept o m rows' closed kept x (w ∷ c) l h = (
  kept x l ∙ h.0,
  elim (next_row w) as (λ n. IfSome n (λ n. o.row n ≡ Linked) → MatchOption n (c ≡ []) (λ n. IsChainFrom m.rows n c) → MatchOption n (c ≡ []) (λ n. IsChainFrom rows' n c)) [
    | None ↦ λ i e. e
    | Some n ↦ λ i under. rows_kept o m rows' closed kept n c i under
  ] (next_linked o m closed x w l h.0) h.1,
)

-- and it was so before
pub chain_was : (o : Owners) (m : Shared) (rows' : ℕ → Option Record) → IsClosed o m → ((r : ℕ) → o.row r ≡ Linked → rows' r ≡ m.rows r)
    → (x : ℕ) (c : List Record) → o.row x ≡ Linked → IsChainFrom rows' x c → IsChainFrom m.rows x c
chain_was o m rows' closed kept x c l h =
    let k = closed x l in
    let d : IsChainFrom m.rows x (k.content ∷ k.rest) = (k.stands, k.is_rest) in
    subst (IsChainFrom m.rows x) (IsChainFrom-unique rows' x (k.content ∷ k.rest) c (rows_kept o m rows' closed kept x (k.content ∷ k.rest) l d) h) d
