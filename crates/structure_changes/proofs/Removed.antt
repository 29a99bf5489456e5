-- A chain that is removed begins with its removal.
use Rattle.structure_changes.proofs.Words.{◌≡◌, ◌≤◌, List, [], ◌∷◌, length, Bool, true, false, refl, sym, ◌∙◌, IsTrue, is_below, Page, Record, Remove, is_removed, low_in}
use Rattle.structure_changes.proofs.Words.{FitsOver, IsFitted, Makes, items_unique}
use Rattle.deltas.specs.declared.record.Record.TheVariants as kind
use Rattle.deltas.specs.Records.{removed_after}

-- nothing else fits over a removed page
removal : (newest : Record) (under : List Record) → FitsOver under newest → removed_after newest (is_removed under) ≡ true → (remove : Remove) × (newest ≡ kind.Remove remove)
removal (kind.Base page) under f e = absurd cc
removal (kind.Remove remove) under f e = (remove, refl)
removal other under f e = let alive = f.fits.alive in let is = f.makes.removed in absurd cc

base_stands : (newest : Record) (page : Page) → newest ≡ kind.Base page → removed_after newest false ≡ true → ⊥
base_stands newest page is e = let no : removed_after (kind.Base page) false ≡ true = rw is at e in absurd cc

-- a removed page has few items
pub few_removed : (chain : List Record) (made : Page) → IsFitted chain → is_removed chain ≡ true → Makes chain made → length made.items ≤ 4
few_removed [] made h e makes = absurd h
few_removed (newest ∷ []) made (page, is, stands) e makes = absurd (base_stands newest page is e)
few_removed (newest ∷ older ∷ under) made (over, rest) e makes =
    let r = removal newest (older ∷ under) over e in
    few r.0 (rw r.1 at over) (rw r.1 at makes)
  where
    few : (remove : Remove) → FitsOver (older ∷ under) (kind.Remove remove) → Makes (kind.Remove remove ∷ older ∷ under) made → length made.items ≤ 4
    few remove f m =
        let same : f.page.items ≡ made.items = items_unique f.page.items made.items f.makes.items.ascending m.items.ascending (λ key. f.makes.items.contents key ∙ sym (m.items.contents key)) in
        rw (← same) f.fits.few

-- the first page of a level isn't removed
pub lowest_stands : (chain : List Record) → IsFitted chain → low_in chain ≡ [] → is_removed chain ≡ false
lowest_stands chain h low = by_test (is_removed chain) refl
  where
    gone : (c : List Record) → IsFitted c → low_in c ≡ [] → is_removed c ≡ true → ⊥
    gone [] fitted lowest e = fitted
    gone (newest ∷ []) (page, is, stands) lowest e = base_stands newest page is e
    gone (newest ∷ older ∷ under) (over, rest) lowest e =
        let r = removal newest (older ∷ under) over e in
        inner r.0 (rw r.1 at over) (rw r.1 at lowest)
      where
        inner : (remove : Remove) → FitsOver (older ∷ under) (kind.Remove remove) → low_in (older ∷ under) ≡ [] → ⊥
        inner remove f at =
            let above : IsTrue (is_below [] []) = rw (f.makes.low ∙ at) at f.fits.inner in absurd cc

    by_test : (b : Bool) → is_removed chain ≡ b → is_removed chain ≡ false
    by_test true e = absurd (gone chain h low e)
    by_test false e = e
