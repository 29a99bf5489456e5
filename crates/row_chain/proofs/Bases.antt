-- What a fitted chain is: deltas over a base. No delta changes the level, the lowest key, or whether an older one removed the page.
use Rattle.row_chain.proofs.Words.{◌≡◌, ◌<◌, zero, suc, ◌∷◌, length, get_or, refl, sym, ap, ◌∙◌, arith, true, is_some, Page, Record, Base, FitsOnPage}
use Rattle.row_chain.proofs.Words.{row_of, low_in, IsFitted}
use Rattle.std.proofs.Common.{ℕ, List, [], false}
use Rattle.deltas.specs.Records.{level_after, low_after, next_row}
use Rattle.traces.specs.chain.Chains.{level_in}

pub some : (chain : List Record) → IsFitted chain → 0 < length chain
some [] h = absurd h
some (newest ∷ under) h = omega arith

keeps_start : (delta : Record) (level : ℕ) (low : List ℕ) → is_some (next_row delta) ≡ true → (level_after delta level ≡ level) × (low_after delta low ≡ low)
keeps_start (Base page) level low h = cc
keeps_start other level low h = (refl, refl)

-- the last record has the level and the lowest key
pub start_of_last : (chain : List Record) (place : ℕ) (d : Record) → IsFitted chain → suc place ≡ length chain
    → ((row_of (get_or chain place d)).level ≡ level_in chain) × ((row_of (get_or chain place d)).first ≡ low_in chain)
start_of_last [] place d h e = absurd h
start_of_last (newest ∷ []) zero d (page, is, stands) e =
    (ap (λ r. (row_of r).level) is ∙ ap (λ r. level_after r 0) (sym is), ap (λ r. (row_of r).first) is ∙ ap (λ r. low_after r []) (sym is))
start_of_last (newest ∷ []) (suc place) d h e = absurd (omega arith)
start_of_last (newest ∷ older ∷ under) zero d h e = absurd (omega arith)
start_of_last (newest ∷ older ∷ under) (suc place) d (over, rest) e =
    let kept = keeps_start newest (level_in (older ∷ under)) (low_in (older ∷ under)) over.delta in
    let start = start_of_last (older ∷ under) place d rest (omega arith) in
    (start.0 ∙ sym kept.0, start.1 ∙ sym kept.1)

-- each delta asks for a page that isn't removed
alive : (delta : Record) (page : Page) → is_some (next_row delta) ≡ true → FitsOnPage page delta → page.removed ≡ false
alive (Base base) page h fits = cc
alive other page h fits = fits.alive
