-- Chains of which no term is held, by their items.
use Rattle.std.proofs.Common.{◌≡◌, ◌+◌, ℕ, List, [], ◌∷◌, Bool, true, false, Option, Some, refl, ap, ◌∙◌, arith}
use Rattle.std.specs.Prelude.{if◌then◌else◌}
use Rattle.std.specs.Ordering.{is_eq}
use Rattle.std.proofs.lemmas.Option.{same_Some}
use Rattle.bw_model.specs.Bytes.{key_cmp}
use Rattle.base_page.specs.declared.item.Content.{Content}
use Rattle.base_page.specs.declared.item.Content.TheVariants.{Child}
use Rattle.base_page.specs.declared.item.Item.{Item}
use Rattle.base_page.specs.Pages.{content_at}
use Rattle.base_page.specs.Rules.{held_count, is_held}
use Rattle.deltas.specs.declared.record.Record.{Record}
use Rattle.traces.specs.chain.Chains.{IsItemsOf}
use Rattle.traces.specs.chain.Unheld.{IsUnheld}

counted : (held : Bool) (count : ℕ) → (if held then 1 else 0) + count ≡ 0 → (held ≡ false) × (count ≡ 0)
counted true count none = absurd (omega (arith, none))
counted false count none = (refl, omega (arith, none))

-- it is the first item's, or one of the others
either : (first : Content) (rest : Option Content) (child : ℕ) (here : Bool) → is_held first ≡ false → (rest ≡ Some (Child child true) → ⊥)
    → (if here then Some first else rest) ≡ Some (Child child true) → ⊥
either first rest child true free none e = let held : is_held first ≡ true = ap is_held (same_Some first (Child child true) e) in absurd cc
either first rest child false free none e = none e

-- where no item is held, no term is
pub unheld_at : (items : List Item) → held_count items ≡ 0 → (key : List ℕ) (child : ℕ) → content_at items key ≡ Some (Child child true) → ⊥
unheld_at [] none key child e = absurd cc
unheld_at (item ∷ items) none key child e =
    let (free, rest) = counted (is_held item.content) (held_count items) none in
    either item.content (content_at items key) child (is_eq (key_cmp key item.key)) free (unheld_at items rest key child) e

pub unheld_by_items : (chain : List Record) (items : List Item) → IsItemsOf chain items → held_count items ≡ 0 → IsUnheld chain
unheld_by_items chain items are none key child e = unheld_at items none key child (are.contents key ∙ e)
