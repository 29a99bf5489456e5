-- The page that a chain makes, as its records make it one on another.
use Rattle.tree_law.proofs.Words.{false, [], ap, refl, List, true, ◌∷◌, ◌≡◌, ◌∙◌, if◌then◌else◌, Page, IsPage, IsRuled, Applies, next_row, names, IsSpellable, Record, Base, FitsOver, Makes}
use Rattle.std.proofs.Common.{is_some}
use Rattle.deltas.specs.Fits.{FitsOnPage}
use Rattle.deltas.specs.Records.{content_said, level_after, low_after, high_after, right_after, removed_after}

-- a base makes its own page
pub base_makes : (page : Page) → IsPage page → page.removed ≡ false → Makes (Base page ∷ []) page
base_makes page is alive = record { items = record { ascending = is.ordered.ascending; contents = λ key. refl }; level = refl; low = refl; high = refl; right = refl; removed = alive }

-- a delta makes of the page that the chain makes what it makes of that page
pub over_makes : {w : Record} {under : List Record} {old made : Page} → Makes under old → Applies old w made → Makes (w ∷ under) made
over_makes {w} {under} {old} {made} makes applies = record {
  items = record { ascending = applies.ascending; contents = λ key. applies.contents key ∙ ap (λ x. if names w key then content_said w key else x) (makes.items.contents key) };
  level = applies.level ∙ ap (level_after w) makes.level;
  low = applies.low ∙ ap (low_after w) makes.low;
  high = applies.high ∙ ap (high_after w) makes.high;
  right = applies.right ∙ ap (right_after w) makes.right;
  removed = applies.removed ∙ ap (removed_after w) makes.removed;
}

-- so a delta that fits that page, and makes one that keeps the rules, fits the chain
pub fits_over : {w : Record} {under : List Record} {old made : Page} → Makes under old → FitsOnPage old w → Applies old w made → IsRuled made
    → is_some (next_row w) ≡ true → IsSpellable w → FitsOver under w
fits_over {w} {under} {old} {made} makes fits applies ruled delta spellable = record
    { delta = delta; spellable = spellable; page = old; makes = makes; fits = fits; made = made; makes_now = over_makes makes applies; ruled = ruled }
