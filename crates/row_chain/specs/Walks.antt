-- What a walk over the records of a chain finds below a key.
use Rattle.std.specs.Prelude.{◌≡◌, ◌≤◌, ◌+◌, ℕ, List, [], ◌∷◌, Bool, true, false, if◌then◌else◌, Option, None, Some, IsTrue, length, take, drop, not, ◌&&◌}
use Rattle.std.specs.List.{AllByRecursion}
use Rattle.bw_model.specs.Bytes.{is_below, is_under}
use Rattle.base_page.specs.declared.item.Content.{Content}
use Rattle.base_page.specs.declared.item.Item.{Item}
use Rattle.base_page.specs.Places.{IsGreatest}
use Rattle.deltas.specs.declared.record.Record.{Record}
use Rattle.deltas.specs.declared.record.Record.TheVariants.{Split}
use Rattle.deltas.specs.Records.{names}
use Rattle.row_search.specs.Items.{takes}

-- whether one of the records names the key
abbrev pub is_named : List Record → List ℕ → Bool
is_named [] key = false
is_named (newest ∷ under) key = if names newest key then true else is_named under key

-- whether one of the records names the key, and may say that it is absent
abbrev pub is_taken : List Record → List ℕ → Bool
is_taken [] key = false
is_taken (newest ∷ under) key = if takes newest key then true else is_taken under key

-- whether the key is below the bound, or, where it needn't be below, not above it
abbrev pub is_left : Bool → List ℕ → List ℕ → Bool
is_left true bound key = is_below key bound
is_left false bound key = not (is_below bound key)

-- whether the key passes, and none of the records names it
abbrev pub is_open : List Record → (List ℕ → Bool) → List ℕ → Bool
is_open newer passes key = passes key && not (is_named newer key)

-- The items before the place pass, and those from it on do not.
pub record PassesUpTo (items : List Item) (passes : List ℕ → Bool) (place : ℕ) : Type 0 where
  pub within : place ≤ length items
  pub front : AllByRecursion (λ item. IsTrue (passes item.key)) (take place items)
  pub rest : AllByRecursion (λ item. passes item.key ≡ false) (drop place items)

-- The greatest of the keys that pass and have a content; none where no such key has one.
abbrev pub IsGreatestKey : (List ℕ → Option Content) → (List ℕ → Bool) → Option (List ℕ) → Type 0
IsGreatestKey contents passes None = (key : List ℕ) → IsTrue (passes key) → contents key ≡ None
IsGreatestKey contents passes (Some key) = (content : Content) × IsGreatest contents passes key content

-- whether the key is above the other one, as each is where there is none
abbrev pub is_above : Option (List ℕ) → List ℕ → Bool
is_above None key = true
is_above (Some best) key = is_below best key

-- how many of the items are below the bound; all of them where there is none
abbrev pub count_under : Option (List ℕ) → List Item → ℕ
count_under bound [] = 0
count_under bound (item ∷ items) = (if is_under item.key bound then 1 else 0) + count_under bound items

-- The bound of what is under a record: a split's separator, where it is below the bound.
abbrev pub bound_under : Record → Option (List ℕ) → Option (List ℕ)
bound_under (Split split) bound = if is_under split.separator bound then Some split.separator else bound
bound_under newest bound = bound
