-- The item of a record that is above the newer records' greatest key, and that none of them names.
use Rattle.row_chain.proofs.Words.{◌≡◌, ◌<◌, ◌≤◌, ◌-◌, ◌∷◌, ◌++◌, get_or, true, subst, arith, AllWithin, is_below, Item, AreItems, IsGreatest, Record, IsSpellable, items_said, content_in}
use Rattle.row_chain.proofs.Words.{is_above, is_named, is_taken, IsGreatestKey, PassesUpTo}
use Rattle.std.proofs.Common.{ℕ, List, [], false, Option, Some, None}
use Rattle.std.specs.Prelude.{Bool, IsTrue, IsSome}
use Rattle.row_chain.specs.Walks.{is_open}
use Rattle.row_chain.proofs.Offers.{by_items}
use Rattle.row_chain.proofs.WalkLaws.{down, last_open, none_open, none_there, not_there, offers_item, offers_none, outdoes, stays, under, untaken, upto_there}

module _ (row : Record) (newer : List Record) (spellable : IsSpellable row) (passes : List ℕ → Bool) (are : AreItems (items_said row)) (count : ℕ)
    (cut : PassesUpTo (items_said row) passes count) (best : Option (List ℕ))
    (g : IsGreatestKey (content_in newer) passes best) (place : ℕ) (named : AllWithin (λ (item : Item). is_named newer item.key ≡ true) (items_said row) place count) where
  -- each of them is named
  pub none_left : place ≡ 0 → IsGreatestKey (content_in (newer ++ row ∷ [])) passes best
  none_left zero = stays newer (row ∷ []) passes best g (λ other free some. none_there (content_in (row ∷ []) other) (all_named other free) some)
    where
      all_named : (other : List ℕ) → IsTrue (is_open newer passes other) → content_in (row ∷ []) other ≡ None
      all_named = offers_none row (items_said row) (is_open newer passes) (λ q. by_items row q spellable) (none_open (items_said row) are newer passes count cut place named zero)

  module _ (d : Item) (some : 0 < place) (within : place ≤ count) where
    abbrev here : Item
    here = get_or (items_said row) (place - 1) d

    beyond : (best : Option (List ℕ)) (other : List ℕ) → is_above best here.key ≡ false → is_below here.key other ≡ false → is_above best other ≡ false
    beyond None other h k = cc
    beyond (Some one) other h k = down one here.key other h k

    -- it isn't above the greatest one, nor are those before it
    pub outdone : is_above best here.key ≡ false → IsGreatestKey (content_in (newer ++ row ∷ [])) passes best
    outdone not_above = stays newer (row ∷ []) passes best g
        (λ other free there. beyond best other not_above
        (upto_there (items_said row) are newer passes count cut place named d some within other free (subst IsSome (by_items row other spellable) there)))

    -- it is above the greatest one, and isn't taken away
    pub wins : IsTrue (is_above best here.key) → is_taken newer here.key ≡ false → IsGreatest (content_in (newer ++ row ∷ [])) passes here.key here.content
    wins above kept =
        let pass = under (items_said row) are newer passes count cut place named (place - 1) d (omega (arith, some, within)) in
        let free = untaken newer here.key (not_there newer passes best here.key g pass above) kept in
        let last = last_open (items_said row) are newer passes count cut place named d some within free in
        let offered = offers_item row (items_said row) (is_open newer passes) here.key here.content (λ q. by_items row q spellable) last in
        outdoes newer (row ∷ []) passes best here.key here.content above g offered
