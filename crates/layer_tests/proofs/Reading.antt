-- A page by hand, as it is read.
use Rattle.std.proofs.Common.{◌≡◌, ◌<◌, ◌+◌, ◌-◌, ◌++◌, ℕ, suc, zero, List, [], ◌∷◌, get_or, length, take, Option, None, Some, refl, sym, ap, subst, ◌∙◌, arith}
use Rattle.std.proofs.Math.Seq.{take-suc}
use Rattle.std.specs.Prelude.{MatchOption, slice_get, unwrap_or}
use Rattle.std.proofs.lemmas.Option.{slice_get-get_or}
use Rattle.deltas.specs.Records.{next_row}
use Rattle.deltas.specs.Spellable.{IsSpellable}
use Rattle.deltas.specs.declared.record.Record.{Record}
use Rattle.traces.specs.chain.Chains.{IsChainFrom, IsFront, chain_rows}
use Rattle.traces.specs.chain.Fitted.{IsFitted}
use Rattle.structure_changes.specs.Versions.{Version}
use Rattle.layer_tests.specs.Held.{ThreePages, HasRowsOf, found_in, page_record}
use Rattle.layer_tests.proofs.Apart.{within_head}

module _ (seen : ℕ → Option Record) where
  -- a record that is read next lies in the row to which the others lead
  pub lies_behind : (part : List Record) (head row : ℕ) (w : Record) → IsFront seen head part row → chain_rows head (part ++ w ∷ []) ≡ chain_rows head part ++ row ∷ []
  lies_behind [] head row w is = ap (λ n. n ∷ []) is
  lies_behind (newest ∷ under) head row w is = ap (λ (rows : List ℕ). head ∷ rows) (deeper (next_row newest) (λ below. lies_behind under below row w) is.1)
    where
      deeper : (next : Option ℕ) → ((below : ℕ) → IsFront seen below under row → chain_rows below (under ++ w ∷ []) ≡ chain_rows below under ++ row ∷ [])
          → MatchOption next ⊥ (λ below. IsFront seen below under row)
          → chain_rows (unwrap_or next 0) (under ++ w ∷ []) ≡ chain_rows (unwrap_or next 0) under ++ row ∷ []
      deeper None on is = absurd is
      deeper (Some below) on is = on below is

  -- with it they lead to the row under it
  pub leads_on : (part : List Record) (head row : ℕ) (w : Record) (next : ℕ) → seen row ≡ Some w → next_row w ≡ Some next → IsFront seen head part row → IsFront seen head (part ++ w ∷ []) next
  leads_on [] head row w next here on is = (ap seen is ∙ here, subst (λ (o : Option ℕ). MatchOption o ⊥ (λ below. below ≡ next)) (sym on) refl)
  leads_on (newest ∷ under) head row w next here on is = (is.0, deeper (next_row newest) (λ below. leads_on under below row w next here on) is.1)
    where
      deeper : (o : Option ℕ) → ((below : ℕ) → IsFront seen below under row → IsFront seen below (under ++ w ∷ []) next) → MatchOption o ⊥ (λ below. IsFront seen below under row)
          → MatchOption o ⊥ (λ below. IsFront seen below (under ++ w ∷ []) next)
      deeper None f is = absurd is
      deeper (Some below) f is = f below is

  abbrev none : List Record
  none = []

  nothing : none ≡ []
  nothing = refl

  -- or they are a whole chain
  pub ends : (part : List Record) (head row : ℕ) (w : Record) → seen row ≡ Some w → next_row w ≡ None → IsFront seen head part row → IsChainFrom seen head (part ++ w ∷ [])
  ends [] head row w here last is = (ap seen is ∙ here, subst (λ (o : Option ℕ). MatchOption o (none ≡ []) (λ next. IsChainFrom seen next none)) (sym last) nothing)
  ends (newest ∷ under) head row w here last is = (is.0, deeper (next_row newest) (λ below. ends under below row w here last) is.1)
    where
      deeper : (o : Option ℕ) → ((below : ℕ) → IsFront seen below under row → IsChainFrom seen below (under ++ w ∷ [])) → MatchOption o ⊥ (λ below. IsFront seen below under row)
          → MatchOption o (under ++ w ∷ [] ≡ []) (λ below. IsChainFrom seen below (under ++ w ∷ []))
      deeper None f is = absurd is
      deeper (Some below) f is = f below is

-- the record of a place, in its row
pub stands_at : (page : Version) (row place : ℕ) (content : Record) → row + place ≡ page.head → place < length page.chain
    → content ≡ get_or page.chain place content → page_record page row ≡ Some content
stands_at page row place content at within is =
    within_head page row (omega (arith, at))
    ∙ ap (slice_get page.chain) (let same : page.head - row ≡ place = omega (arith, at) in same)
    ∙ slice_get-get_or page.chain place content within
    ∙ ap Some (sym is)

pub spellable_at : (chain : List Record) (place : ℕ) (d : Record) → IsFitted chain → place < length chain → IsSpellable (get_or chain place d)
spellable_at [] place d is within = absurd is
spellable_at (newest ∷ []) zero d is within = subst IsSpellable (sym is.1) is.2
spellable_at (newest ∷ []) (suc place) d is within = absurd (omega (arith, within))
spellable_at (newest ∷ older ∷ under) zero d is within = is.0.spellable
spellable_at (newest ∷ older ∷ under) (suc place) d is within = spellable_at (older ∷ under) place d is.1 (omega (arith, within))

-- One more record is read.
module _ (page : Version) (row place : ℕ) (w : Record) (items : List Record) (are : items ≡ page.chain) (within : place < length items) (is : w ≡ get_or items place w) where
  record_is : w ≡ get_or page.chain place w
  record_is = is ∙ ap (λ (records : List Record). get_or records place w) are

  inside : place < length page.chain
  inside = let same : length items ≡ length page.chain = ap length are in omega (arith, within, same)

  pub more : take (place + 1) page.chain ≡ take place page.chain ++ w ∷ []
  more = let next : place + 1 ≡ suc place = omega arith in
      ap (λ n. take n page.chain) next ∙ take-suc page.chain place w inside ∙ ap (λ (newest : Record). take place page.chain ++ newest ∷ []) (sym record_is)

  pub here : row + place ≡ page.head → page_record page row ≡ Some w
  here at = stands_at page row place w at inside record_is

  pub content_is : (pages : ThreePages) (d : Record) → HasRowsOf pages page → row + place ≡ page.head → unwrap_or (found_in pages row) d ≡ w
  content_is pages d stands at = ap (λ (o : Option Record). unwrap_or o d) (stands row w (here at))

  pub spelt : IsFitted page.chain → IsSpellable w
  spelt fitted = subst IsSpellable (sym record_is) (spellable_at page.chain place w fitted inside)
