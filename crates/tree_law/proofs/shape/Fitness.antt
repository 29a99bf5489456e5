-- The chain of each linked row stays a page's chain, and a linked Remove over one of which no term is held.
use Rattle.tree_law.proofs.Words.{◌⊎◌, refl, Option, None, List, inl, length, ◌≤◌, inr, ◌∷◌, subst, ℕ, ◌≡◌, arith, Some, All-from_recursion, IfSome, MatchOption, Limits, IsPage-from}
use Rattle.tree_law.proofs.Words.{empty_leaf, IsRuled, Item, opening, next_row, IsSpellablePage, HasPid, Record, Base, IsChainFrom-unique, IsChainFrom, FitsOn}
use Rattle.tree_law.proofs.Words.{IsFitted, FitsOver, AreFitted, AreUnheld, IsAdded, IsUnheld, Remove, RemoveOf, sym, ◌∙◌, same_Some}
use Rattle.tree_law.proofs.Words.{Linked, Owners, IsChain, IsClosed, Shared, []}
use Rattle.std.specs.List.Sorted.{IsStrictlySortedBy}
use Rattle.traces.specs.chain.Fitted.{IsPageChain}
use Rattle.tree_law.proofs.trace.Opening.{opening_owners}
use Rattle.tree_law.proofs.shape.Chains.{chain_unique}
use Rattle.tree_law.proofs.shape.Puts.{by_equal}
use Rattle.tree_law.proofs.shape.Rows.{chain_was}

-- one more delta over a page's chain
grown : (w : Record) (under : List Record) → FitsOver under w → length under ≤ 12 → IsPageChain under → IsPageChain (w ∷ under)
grown w [] fits short p = absurd p.fitted
grown w (v ∷ c) fits short p = record { fitted = (fits, p.fitted); short = omega arith }

-- what fits over nothing, or over a page's chain, makes one
page_chain : (w : Record) (under : List Record) → FitsOn under w → MatchOption (next_row w) (under ≡ []) (λ n. IsPageChain under) → IsPageChain (w ∷ under)
page_chain w under fits below = elim (next_row w) as
    (λ n. MatchOption n (IsFitted (w ∷ [])) (λ next. FitsOver under w × (length under ≤ 12)) → MatchOption n (under ≡ []) (λ n. IsPageChain under) → IsPageChain (w ∷ under)) [
      | None ↦ λ f e. rw e (record { fitted = f; short = omega arith })
      | Some n ↦ λ f p. grown w under f.0 f.1 p
    ] fits below

module _ (o : Owners) (m : Shared) (closed : IsClosed o m) (fitted : AreFitted o m.rows) (o' : Owners) (rows' : ℕ → Option Record)
    (kept : (row : ℕ) → o.row row ≡ Linked → rows' row ≡ m.rows row) where
  under_fits : (under : List Record) (n : Option ℕ) → IsChain rows' under n → IfSome n (λ x. o.row x ≡ Linked) → MatchOption n (under ≡ []) (λ x. IsPageChain under)
  under_fits under None e l = e
  under_fits under (Some x) h l = fitted x l under (chain_was o m rows' closed kept x under l h)

  -- after a step that keeps the records of linked rows, and links rows that fit
  pub fitted_after : ((row : ℕ) → o'.row row ≡ Linked → (o.row row ≡ Linked) ⊎ IsAdded o rows' row) → AreFitted o' rows'
  fitted_after added row l c h = elim (added row l) [
    | inl was ↦ fitted row was c (chain_was o m rows' closed kept row c was h)
    | inr new ↦ rw (IsChainFrom-unique rows' row (new.content ∷ new.under) c (new.stands, new.is_under) h) at
        (page_chain new.content new.under new.fits (under_fits new.under (next_row new.content) new.is_under new.next))
  ]

-- a chain under a Remove is one chain
under_same : (rows : ℕ → Option Record) (row : ℕ) (content : Record) (remove : RemoveOf) (under below : List Record) → content ≡ Remove remove
    → IsChain rows below (next_row content) → IsChainFrom rows remove.next under → below ≡ under
under_same rows row content remove under below is there here = chain_unique rows below under (Some remove.next) (rw is at there) here

-- a linked Remove stays, and so does what is under it
pub unheld_after : (o : Owners) (m : Shared) → IsClosed o m → AreUnheld o m.rows → (o' : Owners) (rows' : ℕ → Option Record) → ((row : ℕ) → o.row row ≡ Linked → rows' row ≡ m.rows row)
    → ((row : ℕ) → o'.row row ≡ Linked → (o.row row ≡ Linked) ⊎ IsAdded o rows' row) → AreUnheld o' rows'
unheld_after o m closed unheld o' rows' kept added row remove under l e h = elim (added row l) [
  | inl was ↦ unheld row remove under was (sym (kept row was) ∙ e) (chain_was o m rows' closed kept row (Remove remove ∷ under) was (e, h)).1
  | inr new ↦
      let is : new.content ≡ Remove remove = same_Some new.content (Remove remove) (sym new.stands ∙ e) in
      subst IsUnheld (under_same rows' row new.content remove under new.under is new.is_under h) (new.unheld remove is)
]

empty_ruled : IsRuled empty_leaf
unfolding IsStrictlySortedBy
empty_ruled = record { is_page = IsPage-from empty_leaf refl (record { few = omega arith; ascending = tt }) tt; ends = refl; top = omega arith; terms = λ lt. absurd (omega arith) }

empty_stands : IsSpellablePage empty_leaf
empty_stands = record { ruled = empty_ruled; alive = refl; right = tt; children = All-from_recursion (λ (item : Item). HasPid item.content) [] tt }

pub opening_unheld : (limits : Limits) → AreUnheld (opening_owners limits) (opening limits).rows
opening_unheld limits row remove under l e h = by_equal row 1 (λ i t. absurd (let f = rw i at e in cc)) (λ ne t. absurd (let f = rw t at l in cc))

pub opening_fitted : (limits : Limits) → AreFitted (opening_owners limits) (opening limits).rows
opening_fitted limits row l c h = by_equal row 1 (λ i t. first (rw i at h)) (λ ne t. absurd (let e = rw t at l in cc))
  where
    first : IsChainFrom (opening limits).rows 1 c → IsPageChain c
    first at = subst IsPageChain (IsChainFrom-unique (opening limits).rows 1 (Base empty_leaf ∷ []) c (refl, refl) at) (record { fitted = (empty_leaf, refl, empty_stands); short = omega arith })
