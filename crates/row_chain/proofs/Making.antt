-- The page that a chain makes: its base, and then each delta over what is under it.
use Rattle.row_chain.proofs.Words.{◌≡◌, ◌<◌, ◌-◌, zero, suc, ◌∷◌, length, get_or, drop, sym, subst, arith, Page, Record, Base, FitsOnPage, IsSpellable, IsFitted, Makes}
use Rattle.std.proofs.Common.{ℕ, List, []}
use Rattle.traces.specs.chain.Fitted.{FitsOver}
use Rattle.traces.proofs.FittedLaws.{Makes-base, first_spellable, fits}

-- the last record is a base
pub base_at : (chain : List Record) (place : ℕ) (d : Record) → IsFitted chain → suc place ≡ length chain → (page : Page) × (get_or chain place d ≡ Base page)
base_at [] place d h e = absurd h
base_at (newest ∷ []) zero d (page, is, stands) e = (page, is)
base_at (newest ∷ []) (suc place) d h e = absurd (omega arith)
base_at (newest ∷ older ∷ under) zero d h e = absurd (omega arith)
base_at (newest ∷ older ∷ under) (suc place) d h e = base_at (older ∷ under) place d h.1 (omega arith)

-- which makes its own page
pub base_makes : (chain : List Record) (place : ℕ) (base : Page) → IsFitted chain → suc place ≡ length chain → get_or chain place (Base base) ≡ Base base → Makes (drop place chain) base
base_makes [] place base h e is = absurd h
base_makes (newest ∷ []) zero base h e is =
    let stands : IsSpellable (Base base) = subst IsSpellable is (first_spellable newest [] h) in
    rw is (Makes-base base stands.ruled.is_page.ordered.ascending stands.alive)
base_makes (newest ∷ []) (suc place) base h e is = absurd (omega arith)
base_makes (newest ∷ older ∷ under) zero base h e is = absurd (omega arith)
base_makes (newest ∷ older ∷ under) (suc place) base h e is = base_makes (older ∷ under) place base h.1 (omega arith) is

-- each record over another one fits what is under it
fits_at : (chain : List Record) (place : ℕ) (d : Record) → IsFitted chain → suc place < length chain → FitsOver (drop (suc place) chain) (get_or chain place d)
fits_at [] place d h within = absurd h
fits_at (newest ∷ []) place d h within = absurd (omega (arith, within))
fits_at (newest ∷ older ∷ under) zero d h within = h.0
fits_at (newest ∷ older ∷ under) (suc place) d h within = fits_at (older ∷ under) place d h.1 (omega (arith, within))

-- the record over the ones that made the page
pub fits_above : (chain : List Record) (place : ℕ) (page : Page) (newest : Record) → IsFitted chain → 0 < place → place < length chain
    → Makes (drop place chain) page → newest ≡ get_or chain (place - 1) newest → FitsOnPage page newest
fits_above chain place page newest fitted some within makes is =
    let next : place ≡ suc (place - 1) = omega (arith, some) in
    let under = subst (λ (n : ℕ). Makes (drop n chain) page) next makes in
    subst (FitsOnPage page) (sym is) (fits (drop (suc (place - 1)) chain) (get_or chain (place - 1) newest) page (fits_at chain (place - 1) newest fitted (omega (arith, some, within))) under)
