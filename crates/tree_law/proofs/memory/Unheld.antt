-- Of the terms of a removed page none is held.
use Rattle.tree_law.proofs.Words.{false, true, ap, refl, List, ◌∷◌, [], subst, sym, ℕ, ◌≡◌, Bool, ◌∙◌, Contains, Limits, Record, Remove, RemoveOf, is_removed, LivePage, Entry, memory_of}
use Rattle.tree_law.proofs.Words.{IsChainFrom, IsFitted, IsUnheld, IsState, next_row, is_some, Page}
use Rattle.deltas.specs.declared.record.Record.TheVariants as kind
use Rattle.deltas.specs.Fits.{FitsOnPage}
use Rattle.deltas.specs.Records.{removed_after}
use Rattle.tree_law.proofs.memory.Pages.{on_level, pages}

-- a page that wasn't removed isn't where nothing changes that
stays : (page : Page) (before : Bool) → page.removed ≡ false → page.removed ≡ before → before ≡ true → ⊥
stays page before alive same gone = let clash : false ≡ true = sym alive ∙ same ∙ gone in cc

-- only a Remove takes a page away
by_remove : (page : Page) (newest : Record) (before : Bool) → is_some (next_row newest) ≡ true → FitsOnPage page newest → page.removed ≡ before → removed_after newest before ≡ true
    → (remove : RemoveOf) × (newest ≡ Remove remove)
by_remove page (kind.Base base) before delta fits same gone = absurd (cc)
by_remove page (kind.Remove remove) before delta fits same gone = (remove, refl)
by_remove page other before delta fits same gone = absurd (stays page before fits.alive same gone)

-- so the newest record of a removed page's chain is one
removed_by : (chain : List Record) → IsFitted chain → is_removed chain ≡ true → (remove : RemoveOf) × (under : List Record) × (chain ≡ Remove remove ∷ under)
removed_by [] fitted gone = absurd fitted
removed_by (newest ∷ []) (base, is, stands) gone = absurd (let clash : false ≡ true = ap (λ (r : Record). removed_after r false) (sym is) ∙ gone in cc)
removed_by (newest ∷ older ∷ under) (over, rest) gone =
    let (remove, is) = by_remove over.page newest (is_removed (older ∷ under)) over.delta over.fits over.makes.removed gone in
    (remove, older ∷ under, ap (λ r. r ∷ older ∷ under) is)

pub unheld : (limits : Limits) (entries : List Entry) (state : IsState limits entries) (l : ℕ) (page : LivePage) → Contains (pages limits entries state l) page
    → is_removed page.chain ≡ true → IsUnheld page.chain
unheld limits entries state l page has gone =
    let a = on_level limits entries state l page has in
    let flagged : is_removed a.place.chain ≡ true = ap (λ (p : LivePage). is_removed p.chain) a.is ∙ gone in
    let (remove, under, is) = removed_by a.place.chain (state.fitted a.place.row a.here.linked a.place.chain a.here.is_page.is_chain).fitted flagged in
    let stands : IsChainFrom (memory_of limits entries).rows a.place.row (Remove remove ∷ under) = subst (IsChainFrom (memory_of limits entries).rows a.place.row) is a.here.is_page.is_chain in
    let below : IsUnheld under = state.unheld a.place.row remove under a.here.linked stands.0 stands.1 in
    let whole : IsUnheld (Remove remove ∷ under) = below in
    let here : IsUnheld a.place.chain = subst IsUnheld (sym is) whole in
    rw (← a.is) here
