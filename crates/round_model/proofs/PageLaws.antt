-- What a page's chain has, by the page that it makes.
use Rattle.round_model.proofs.Words.{◌≡◌, ℕ, List, [], ◌∷◌, Some, true, false, refl, sym, ap, ◌∙◌, is_some, IsTrue, is_below, Content, Record, content_in, covers, high_in, is_removed}
use Rattle.round_model.proofs.Words.{low_in, right_in}
use Rattle.base_page.specs.Pages.{Page}
use Rattle.base_page.specs.Rules.{IsRuled}
use Rattle.traces.specs.chain.Fitted.{IsFitted, Makes}
use Rattle.traces.proofs.FittedLaws.{ruled}
use Rattle.structure_changes.proofs.Places.{inside, made}
use Rattle.structure_changes.proofs.Removed.{lowest_stands}

-- a page that the chain makes, and that keeps the rules
record Made (chain : List Record) : Type 0 where
  page : Page
  makes : Makes chain page
  rules : IsRuled page

made_of : (chain : List Record) → IsFitted chain → Made chain
made_of chain fit = let m = made chain fit in record { page = m.0; makes = m.1; rules = ruled chain m.0 fit m.1 }

-- it has a right exactly where it has an end
pub ends : (chain : List Record) → IsFitted chain → is_some (right_in chain) ≡ is_some (high_in chain)
ends chain fit =
    let m = made_of chain fit in
    ap is_some (sym m.makes.right) ∙ m.rules.ends ∙ ap is_some m.makes.high

-- its low key is below its high key
pub spans : (chain : List Record) (high : List ℕ) → IsFitted chain → high_in chain ≡ Some high → IsTrue (is_below (low_in chain) high)
spans chain high fit is =
    let m = made_of chain fit in
    let low = m.makes.low in
    let end : m.page.high ≡ Some high = m.makes.high ∙ is in
    let spans = m.rules.is_page.spans in
    rw (← low) (rw end at spans)

-- a key that has content is in the range
pub covered : (chain : List Record) (q : List ℕ) (content : Content) → IsFitted chain → content_in chain q ≡ Some content → IsTrue (covers chain q)
covered chain q content fit is =
    let m = made_of chain fit in
    rw (← m.makes.low, ← m.makes.high) (inside m.page m.rules q content (m.makes.items.contents q ∙ is))

-- a removed page begins above the empty key
pub above_empty : (chain : List Record) → IsFitted chain → is_removed chain ≡ true → IsTrue (is_below [] (low_in chain))
above_empty chain fit gone = by_low (low_in chain) refl
  where
    by_low : (low : List ℕ) → low_in chain ≡ low → IsTrue (is_below [] (low_in chain))
    by_low [] e = let clash : true ≡ false = sym gone ∙ lowest_stands chain fit e in cc
    by_low (x ∷ xs) e = rw e refl
