-- A slot has one chain, and a PID one side chain.
use Rattle.std.proofs.Common.{◌≡◌, ◌<◌, ℕ, zero, suc, List, [], ◌∷◌, length, Some, None, sym, subst, ap, arith, ◌∙◌, Option}
use Rattle.std.specs.Prelude.{MatchOption, unwrap_or, slice_index_or}
use Rattle.std.specs.List.{Contains}
use Rattle.deltas.specs.declared.record.Record.{Record}
use Rattle.deltas.specs.Records.{next_row}
use Rattle.deltas.specs.Memory.{Memory}
use Rattle.traces.specs.chain.Chains.{IsChainFrom, IsChainOf, IsOnChain, chain_rows, right_in}
use Rattle.traces.specs.chain.SideChain.{LivePage, IsSideChainFrom}

pub IsChainFrom-unique : (rows : ℕ → Option Record) (row : ℕ) (c d : List Record) → IsChainFrom rows row c → IsChainFrom rows row d → c ≡ d
IsChainFrom-unique rows row [] d h k = absurd h
IsChainFrom-unique rows row (x ∷ xs) [] h k = absurd k
IsChainFrom-unique rows row (x ∷ xs) (y ∷ ys) h k =
    let same : x ≡ y = cc (h.0, k.0) in
    let under : MatchOption (next_row x) (ys ≡ []) (λ next. IsChainFrom rows next ys) = rw (← same) at k.1 in
    let rest : xs ≡ ys = elim (next_row x) as (λ o. MatchOption o (xs ≡ []) (λ next. IsChainFrom rows next xs) → MatchOption o (ys ≡ []) (λ next. IsChainFrom rows next ys) → xs ≡ ys) [
      | None ↦ λ a b. a ∙ sym b
      | Some next ↦ λ a b. IsChainFrom-unique rows next xs ys a b
    ] h.1 under in
    cc

pub IsChainOf-unique : (memory : Memory) (pid : ℕ) (c d : List Record) → IsChainOf memory pid c → IsChainOf memory pid d → c ≡ d
IsChainOf-unique memory pid c d h k = IsChainFrom-unique memory.rows (memory.slots pid) c d h.records k.records

pub same_page : (p q : LivePage) → p.pid ≡ q.pid → p.chain ≡ q.chain → p ≡ q
same_page p q a b = λ i. record { pid = a i; chain = b i }

pub IsSideChainFrom-unique : (memory : Memory) (pid : ℕ) (ps qs : List LivePage) → IsSideChainFrom memory pid ps → IsSideChainFrom memory pid qs → ps ≡ qs
IsSideChainFrom-unique memory pid [] qs h k = absurd h
IsSideChainFrom-unique memory pid (p ∷ ps) [] h k = absurd k
IsSideChainFrom-unique memory pid (p ∷ ps) (q ∷ qs) h k =
    let chains : p.chain ≡ q.chain = IsChainOf-unique memory pid p.chain q.chain h.1 k.1 in
    let same : p ≡ q = same_page p q (h.0 ∙ sym k.0) chains in
    let under : MatchOption (right_in p.chain) (qs ≡ []) (λ right. IsSideChainFrom memory right qs) = rw (← chains) at k.2 in
    let rest : ps ≡ qs = elim (right_in p.chain) as
    (λ o. MatchOption o (ps ≡ []) (λ right. IsSideChainFrom memory right ps) → MatchOption o (qs ≡ []) (λ right. IsSideChainFrom memory right qs) → ps ≡ qs) [
      | None ↦ λ a b. a ∙ sym b
      | Some right ↦ λ a b. IsSideChainFrom-unique memory right ps qs a b
    ] h.2 under in
    cc

-- the records of a chain were placed, each at its row
chain_placed : (rows : ℕ → Option Record) (start : ℕ) (chain : List Record) → IsChainFrom rows start chain → (row : ℕ) → Contains (chain_rows start chain) row → rows row ≡ None → ⊥
chain_placed rows start [] h row among none = absurd h
chain_placed rows start (x ∷ xs) h row (zero, lt, e) none = let first : rows start ≡ None = rw (← e) at none in cc (h.0, first)
chain_placed rows start (x ∷ xs) h row (suc k, lt, e) none =
    elim (next_row x) as
    (λ o. MatchOption o (xs ≡ []) (λ next. IsChainFrom rows next xs) → k < length (chain_rows (unwrap_or o 0) xs) → slice_index_or (chain_rows (unwrap_or o 0) xs) k row ≡ row → ⊥) [
      | None ↦ λ empty within at. nothing_under empty within
      | Some next ↦ λ under within at. chain_placed rows next xs under row (k, within, at) none
    ] h.1 (omega arith) e
  where
    nothing_under : xs ≡ [] → k < length (chain_rows 0 xs) → ⊥
    nothing_under empty within = let none_there : length (chain_rows 0 xs) ≡ 0 = ap (λ r. length (chain_rows 0 r)) empty in omega arith

-- a row in which nothing was placed is on no chain
pub unplaced : (memory : Memory) (row : ℕ) → memory.rows row ≡ None → ¬ IsOnChain memory row
unplaced memory row none (pid, chain, is, among) = chain_placed memory.rows (memory.slots pid) chain is.records row among none
