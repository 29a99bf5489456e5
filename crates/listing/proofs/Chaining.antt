-- The rows of a chain, as they are read one after another.
use Rattle.listing.proofs.Words.{◌≡◌, ◌<◌, ◌+◌, ℕ, zero, suc, List, [], ◌∷◌, ◌++◌, length, get_or, Option, None, Some, MatchOption, refl, sym, ap, ◌∙◌, arith}
use Rattle.listing.proofs.Words.{append_assoc, length-append, Record}
use Rattle.std.specs.Prelude.{unwrap_or}
use Rattle.std.proofs.lemmas.Option.{same_Some}
use Rattle.deltas.specs.declared.record.Record.TheVariants.{Remove}
use Rattle.deltas.specs.Records.{next_row}
use Rattle.traces.specs.chain.Chains.{IsChainFrom, chain_rows}

-- what stands past the end of a chain, where it doesn't matter
pub no_record : Record
no_record = Remove (record { level = 0; next = 1 })

-- Of the chain these rows were read; the others stand from the next row on.
pub record HasRead (rows : ℕ → Option Record) (row : ℕ) (chain : List Record) (read : List ℕ) (next : ℕ) : Type 0 where
  pub rest : List Record
  pub stands : IsChainFrom rows next rest
  pub whole : read ++ chain_rows next rest ≡ chain_rows row chain

pub none_read : (rows : ℕ → Option Record) (row : ℕ) (chain : List Record) → IsChainFrom rows row chain → HasRead rows row chain [] row
none_read rows row chain is = record { rest = chain; stands = is; whole = refl }

-- what stands in the next row
pub is_there : (rows : ℕ → Option Record) (row : ℕ) (chain : List Record) → IsChainFrom rows row chain → (newest : Record) × (rows row ≡ Some newest)
is_there rows row [] is = absurd is
is_there rows row (newest ∷ under) is = (newest, is.0)

-- as many rows as records
pub rows_long : (row : ℕ) (chain : List Record) → length (chain_rows row chain) ≡ length chain
rows_long row [] = refl
rows_long row (newest ∷ under) = ap suc (rows_long (unwrap_or (next_row newest) 0) under)

module _ (rows : ℕ → Option Record) (row : ℕ) (chain : List Record) (read : List ℕ) (next : ℕ) (h : HasRead rows row chain read next) where
  -- fewer than all
  pub is_left : length read < length chain
  is_left = go h.rest h.stands h.whole
    where
      go : (rest : List Record) → IsChainFrom rows next rest → read ++ chain_rows next rest ≡ chain_rows row chain → length read < length chain
      go [] is whole = absurd is
      go (newest ∷ under) is whole =
          let long : length read + length (chain_rows next (newest ∷ under)) ≡ length chain = sym (length-append read (chain_rows next (newest ∷ under))) ∙ ap length whole ∙ rows_long row chain in
          omega (arith, long)

  module _ (newest : Record) (at : rows next ≡ Some newest) where
    after : (o : Option ℕ) → next_row newest ≡ o → MatchOption o (read ++ next ∷ [] ≡ chain_rows row chain) (λ below. HasRead rows row chain (read ++ next ∷ []) below)
    after o leads = go h.rest h.stands h.whole
      where
        fits : (under : List Record) (o : Option ℕ) → MatchOption o (under ≡ []) (λ below. IsChainFrom rows below under) → read ++ next ∷ chain_rows (unwrap_or o 0) under ≡ chain_rows row chain
            → MatchOption o (read ++ next ∷ [] ≡ chain_rows row chain) (λ below. HasRead rows row chain (read ++ next ∷ []) below)
        fits under None ends whole = rw ends at whole
        fits under (Some below) more whole = record { rest = under; stands = more; whole = append_assoc read (next ∷ []) (chain_rows below under) ∙ whole }

        go : (rest : List Record) → IsChainFrom rows next rest → read ++ chain_rows next rest ≡ chain_rows row chain
            → MatchOption o (read ++ next ∷ [] ≡ chain_rows row chain) (λ below. HasRead rows row chain (read ++ next ∷ []) below)
        go [] is whole = absurd is
        go (first ∷ under) is whole =
            let same : first ≡ newest = cc (is.0, at) in
            let follows : next_row first ≡ o = ap next_row same ∙ leads in
            fits under o (rw follows at is.1) (rw follows at whole)

    -- a row more
    pub one_read : (below : ℕ) → next_row newest ≡ Some below → HasRead rows row chain (read ++ next ∷ []) below
    one_read below leads = after (Some below) leads

    -- the last one
    pub all_read : next_row newest ≡ None → read ++ next ∷ [] ≡ chain_rows row chain
    all_read leads = after None leads

-- what stands in each row
pub row_at : (rows : ℕ → Option Record) (row : ℕ) (chain : List Record) → IsChainFrom rows row chain → (place : ℕ) → place < length chain → (r : ℕ) (d : Record)
    → rows (get_or (chain_rows row chain) place r) ≡ Some (get_or chain place d)
row_at rows row [] is place within r d = absurd is
row_at rows row (newest ∷ under) is zero within r d = is.0
row_at rows row (newest ∷ under) is (suc place) within r d = go (next_row newest) is.1 (λ below more. row_at rows below under more place (omega (arith, within)) r d)
  where
    go : (next : Option ℕ) → MatchOption next (under ≡ []) (λ below. IsChainFrom rows below under)
        → ((below : ℕ) → IsChainFrom rows below under → rows (get_or (chain_rows below under) place r) ≡ Some (get_or under place d))
        → rows (get_or (chain_rows (unwrap_or next 0) under) place r) ≡ Some (get_or under place d)
    go None ends deeper = absurd (omega (arith, ap length ends, within))
    go (Some below) more deeper = deeper below more

module _ (rows : ℕ → Option Record) (row : ℕ) (chain : List Record) (is : IsChainFrom rows row chain) (read : List ℕ) (whole : read ≡ chain_rows row chain)
    (place : ℕ) (within : place < length chain) (r : ℕ) (d : Record) where
  pub record_there : rows (get_or read place r) ≡ Some (get_or chain place d)
  record_there = rw whole (row_at rows row chain is place within r d)

  pub record_at : (newest : Record) → rows (get_or read place r) ≡ Some newest → newest ≡ get_or chain place d
  record_at newest there = same_Some newest (get_or chain place d) (sym there ∙ record_there)
