-- Each record of a chain that was read is there.
use Rattle.row_chain.proofs.Words.{◌≡◌, ◌<◌, ◌∷◌, drop, get_or, length, sym, ap, subst, ◌∙◌, arith, MatchOption, All, Record, PlacedRecord, PlacedChain, contents}
use Rattle.std.proofs.Common.{ℕ, List, []}
use Rattle.std.specs.Prelude.{Option, None, Some, unwrap_or}
use Rattle.std.proofs.lemmas.List.{get_or-map, length-map}
use Rattle.std.proofs.lemmas.List.Elements.{All-cons, All-from_recursion}
use Rattle.deltas.specs.Records.{next_row}
use Rattle.traces.specs.chain.Chains.{IsChainFrom}
use Rattle.row_chain.specs.Placed.{AreFrom, IsReadChain}

some_from : (seen : ℕ → Option Record) (head : ℕ) (records : List Record) → IsChainFrom seen head records → 0 < length records
some_from seen head [] is = absurd is
some_from seen head (newest ∷ under) is = omega arith

module _ (is_there : ℕ → Record → Type 0) where
  abbrev AreThere : List PlacedRecord → Type 0
  AreThere rows = All (λ placed. is_there placed.row placed.content) rows

  module _ (seen : ℕ → Option Record) (stand : (row : ℕ) (content : Record) → seen row ≡ Some content → is_there row content) where
    each : (head : ℕ) (rows : List PlacedRecord) → AreFrom head rows → IsChainFrom seen head (contents rows) → AreThere rows
    each head [] from is = absurd is
    each head (placed ∷ under) from is =
        let here : placed.row ≡ head = ap (λ (rows : List ℕ). get_or rows 0 0) from in
        let behind : AreFrom (unwrap_or (next_row placed.content) 0) under = ap (drop 1) from in
        All-cons (λ (p : PlacedRecord). is_there p.row p.content) placed under (stand placed.row placed.content (ap seen here
        ∙ is.0)) (rest (next_row placed.content) under (λ row. each row under) behind is.1)
      where
        rest : (next : Option ℕ) (under : List PlacedRecord) → ((row : ℕ) → AreFrom row under → IsChainFrom seen row (contents under) → AreThere under)
            → AreFrom (unwrap_or next 0) under → MatchOption next (contents under ≡ []) (λ row. IsChainFrom seen row (contents under)) → AreThere under
        rest None [] on from is = All-from_recursion (λ (p : PlacedRecord). is_there p.row p.content) [] tt
        rest None (other ∷ others) on from is = cc
        rest (Some row) under on from is = on row from is

  pub are_there : (chain : PlacedChain) (rows : List PlacedRecord) → IsReadChain is_there chain → AreFrom chain.head rows → contents rows ≡ chain.records → AreThere rows
  are_there chain rows read from are = each read.seen read.stand chain.head rows from (subst (IsChainFrom read.seen chain.head) (sym are) read.leads)

  pub some_read : (chain : PlacedChain) → IsReadChain is_there chain → 0 < length chain.records
  some_read chain read = some_from read.seen chain.head chain.records read.leads

-- as many rows as records
pub length-contents : (rows : List PlacedRecord) (records : List Record) → contents rows ≡ records → length rows ≡ length records
length-contents rows records are = sym (length-map rows (λ (placed : PlacedRecord). placed.content)) ∙ ap length are

-- the record at a place
pub content_there : (rows : List PlacedRecord) (records : List Record) (place : ℕ) (row : PlacedRecord) → contents rows ≡ records → row ≡ get_or rows place row → place < length records
    → row.content ≡ get_or records place row.content
content_there rows records place row are is within =
    ap (λ (placed : PlacedRecord). placed.content) is
    ∙ sym (get_or-map (λ (placed : PlacedRecord). placed.content) rows place row row.content (let all = length-contents rows records are in omega (arith, all)))
    ∙ ap (λ (others : List Record). get_or others place row.content) are
