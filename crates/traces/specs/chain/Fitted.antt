-- Chains whose records fit: what a page's chain keeps at every moment.
use Rattle.std.specs.Prelude.{◌≡◌, ◌≤◌, List, [], ◌∷◌, true, is_some, length}
use Rattle.base_page.specs.Pages.{Page}
use Rattle.base_page.specs.Rules.{IsRuled}
use Rattle.deltas.specs.declared.record.Record.{Record}
use Rattle.deltas.specs.declared.record.Record.TheVariants.{Base}
use Rattle.deltas.specs.Fits.{FitsOnPage}
use Rattle.deltas.specs.Records.{next_row}
use Rattle.deltas.specs.Spellable.{IsSpellable, IsSpellablePage}
use Rattle.traces.specs.chain.Chains.{IsItemsOf, level_in, low_in, high_in, right_in, is_removed}

-- The page that a chain makes: what the chain decides, in order.
pub record Makes (chain : List Record) (page : Page) : Type 0 where
  pub items : IsItemsOf chain page.items
  pub level : page.level ≡ level_in chain
  pub low : page.low ≡ low_in chain
  pub high : page.high ≡ high_in chain
  pub right : page.right ≡ right_in chain
  pub removed : page.removed ≡ is_removed chain

-- A delta over a chain: it has a record under it, and a row can spell it; it fits the page that the chain makes, and makes of
-- it a page that keeps the rules.
pub record FitsOver (under : List Record) (newest : Record) : Type 0 where
  pub delta : is_some (next_row newest) ≡ true
  pub spellable : IsSpellable newest
  pub page : Page
  pub makes : Makes under page
  pub fits : FitsOnPage page newest
  pub made : Page
  pub makes_now : Makes (newest ∷ under) made
  pub ruled : IsRuled made

-- A base that a row can spell, and deltas over it, each of which fits what is under it.
abbrev pub IsFitted : List Record → Type 0
IsFitted [] = ⊥
IsFitted (newest ∷ []) = (page : Page) × (newest ≡ Base page) × IsSpellablePage page
IsFitted (newest ∷ older ∷ under) = FitsOver (older ∷ under) newest × IsFitted (older ∷ under)

-- A page's chain: its records fit, and there are at most twelve deltas over the base.
pub record IsPageChain (chain : List Record) : Type 0 where
  pub fitted : IsFitted chain
  pub short : length chain ≤ 13
