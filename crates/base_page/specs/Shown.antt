-- The pairs that items show from a key on, or up to a key.
use Rattle.std.specs.Prelude.{ℕ, List, [], ◌∷◌, Bool, Option, if◌then◌else◌}
use Rattle.bw_model.specs.Bytes.{is_below}
use Rattle.bw_model.specs.NextKeys.{key_before}
use Rattle.base_page.specs.Pages.{Page}
use Rattle.base_page.specs.declared.item.Content.{Content}
use Rattle.base_page.specs.declared.item.Content.TheVariants.{Value, Child}
use Rattle.base_page.specs.declared.item.Item.{Item}
use Rattle.base_page.specs.declared.page.shows.Direction.{Direction}
use Rattle.base_page.specs.declared.page.shows.Direction.TheVariants.{Forward, Backward}

abbrev pub Pair : Type 0
Pair = List ℕ × List ℕ

-- A value's pair before the others, unless its key is left out.
abbrev pub with_pair_of : Bool → List ℕ → Content → List Pair → List Pair
with_pair_of out key (Value value) pairs = if out then pairs else ((key, value) ∷ pairs)
with_pair_of out key (Child page held) pairs = pairs

-- whether a key lies before the one from which pairs are shown, or behind the one up to which they are
abbrev pub leaves_out : Direction → List ℕ → List ℕ → Bool
leaves_out Forward from key = is_below key from
leaves_out Backward upto key = is_below upto key

-- the pairs of the items from the key on, or up to it, in order; a child is none
abbrev pub pairs_shown : Direction → List ℕ → List Item → List Pair
pairs_shown direction bound [] = []
pairs_shown direction bound (item ∷ items) = with_pair_of (leaves_out direction bound item.key) item.key item.content (pairs_shown direction bound items)

-- where the next cursor page goes on: at the page's end, or at the greatest key below the page
abbrev pub next_shown : Direction → Page → Option (List ℕ)
next_shown Forward page = page.high
next_shown Backward page = key_before page.low
