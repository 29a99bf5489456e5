-- On a leaf no term is held.
use Rattle.structure_changes.proofs.Words.{◌≡◌, ℕ, List, [], ◌∷◌, false, refl, ◌∙◌, arith, AllByRecursion, recursion_from_All, Content, Value, Child, Item, IsOfLevel, held_count, is_held}
use Rattle.structure_changes.proofs.Words.{Record, level_in, IsFitted, ruled, HasNoneHeld}
use Rattle.structure_changes.proofs.Places.{from_made, made}

value_free : (level : ℕ) (content : Content) → level ≡ 0 → IsOfLevel level content → is_held content ≡ false
value_free level (Value value) leaf is = refl
value_free level (Child page held) leaf is = absurd (omega (arith, leaf, is))

none_held : (level : ℕ) (items : List Item) → level ≡ 0 → AllByRecursion (λ item. IsOfLevel level item.content) items → held_count items ≡ 0
none_held level [] leaf all = refl
none_held level (item ∷ items) leaf all = rw (value_free level item.content leaf all.0, none_held level items leaf all.1) refl

pub leaf_unheld : (chain : List Record) → IsFitted chain → level_in chain ≡ 0 → HasNoneHeld chain
leaf_unheld chain fitted leaf =
    let (page, makes) = made chain fitted in
    let rules = ruled chain page fitted makes in
    from_made chain page (λ items. held_count items ≡ 0) makes
    (none_held page.level page.items (makes.level ∙ leaf) (recursion_from_All (λ item. IsOfLevel page.level item.content) page.items rules.is_page.kinds))
