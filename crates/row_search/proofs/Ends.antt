-- The items of a record are below the end that it gives the page.
use Rattle.std.proofs.Common.{◌≡◌, ◌<◌, ◌-◌, ℕ, zero, suc, List, [], Bool, true, false, length, get_or, refl, sym, ap, ◌∙◌, arith}
use Rattle.std.specs.Prelude.{Option, Some, None, not}
use Rattle.std.specs.Ordering.{is_lt}
use Rattle.base_page.proofs.KeyLaws.{and_right, below-trans, below_from}
use Rattle.bw_model.specs.Bytes.{is_below, is_under}
use Rattle.deltas.specs.Records.{high_after}
use Rattle.deltas.specs.declared.record.Record.TheVariants.{Base, Put, Merge}
use Rattle.row_search.proofs.Words.{Child, IsSpellable, Item, Record, items_of}

item_under : (content : Record) → IsSpellable content → (place : ℕ) (d : Item) → place < length (items_of content)
    → is_under (get_or (items_of content) place d).key (high_after content None) ≡ true
item_under (Base page) is place d within =
    let key = (get_or page.items place d).key in
    and_right (not (is_below key page.low)) (is_under key page.high) (is.ruled.is_page.within place d within)
item_under (Merge merge) is place d within =
    let key = (get_or merge.items place d).key in
    and_right (not (is_below key merge.low)) (is_under key merge.high) (is.3.ruled.is_page.within place d within)
item_under (Put put) is place d within = refl
item_under content is place d within = absurd (omega arith)

below_under : (a b : List ℕ) (high : Option (List ℕ)) → is_below a b ≡ true → is_under b high ≡ true → is_under a high ≡ true
below_under a b None less under = refl
below_under a b (Some high) less under = ap is_lt (below-trans a b high (below_from a b less) (below_from b high under))

-- what is below the key of the last item is below the end
pub below_last : (content : Record) → IsSpellable content → (key : List ℕ) (said : Bool) → (length (items_of content) ≡ 0 → said ≡ false)
    → (0 < length (items_of content) → (d : Item) → said ≡ is_below key (get_or (items_of content) (length (items_of content) - 1) d).key)
    → said ≡ true → is_under key (high_after content None) ≡ true
below_last content is key said none below h = some_or_none (length (items_of content)) refl
  where
    first : Item
    first = record { key = []; content = Child 0 false }

    some_or_none : (count : ℕ) → length (items_of content) ≡ count → is_under key (high_after content None) ≡ true
    some_or_none zero e = let no = none e in cc
    some_or_none (suc count) e =
        let last : ℕ = length (items_of content) - 1 in
        below_under key (get_or (items_of content) last first).key (high_after content None) (sym (below (omega arith) first) ∙ h)
        (item_under content is last first (omega arith))
