-- What one row of a chain makes of the number of items below a bound.
use Rattle.row_chain.proofs.Words.{◌≡◌, ◌<◌, ◌≤◌, ◌+◌, ◌-◌, zero, suc, ◌∷◌, length, get_or, take, drop, drop-cons, refl, sym, ap, subst, ◌∙◌, arith, is_some, is_eq, drop_all, key_cmp, Item}
use Rattle.row_chain.proofs.Words.{IsAscending, Record, Base, Put, Delete, Term, Hold, Remove, Unterm, content_said, names, items_of, one_key, IsItemsOf, IsFitted, bound_under, count_under}
use Rattle.std.proofs.Common.{ℕ, List, [], add-one, Bool, None, Some}
use Rattle.std.specs.Prelude.{Option}
use Rattle.base_page.proofs.ItemLaws.{IsAscending-from}
use Rattle.deltas.specs.declared.record.Record.TheVariants.{Split, Merge}
use Rattle.row_chain.proofs.CountLaws.{changed_by_merge, changed_by_split, rest_is, unchanged}
use Rattle.traces.proofs.FittedLaws.{items_unique}
use Rattle.row_chain.proofs.OneKeys.{mark, named}

-- no records have no items
nothing : IsItemsOf [] []
nothing = record { ascending = IsAscending-from [] tt; contents = λ q. refl }

none_of : (rest : List Item) → IsItemsOf [] rest → rest ≡ []
none_of rest has = items_unique rest [] has.ascending nothing.ascending (λ q. has.contents q)

-- a record that names one key names no other
pub names_one : (row : Record) (key : List ℕ) (is_there : Bool) → one_key row ≡ Some (key, is_there) → (q : List ℕ) → names row q ≡ is_eq (key_cmp q key)
names_one (Put put) key is_there e q = let is : put.key ≡ key = ap named e in ap (λ k. is_eq (key_cmp q k)) is
names_one (Delete delete) key is_there e q = let is : delete.key ≡ key = ap named e in ap (λ k. is_eq (key_cmp q k)) is
names_one (Term term) key is_there e q = let is : term.separator ≡ key = ap named e in ap (λ k. is_eq (key_cmp q k)) is
names_one (Hold hold) key is_there e q = let is : hold.separator ≡ key = ap named e in ap (λ k. is_eq (key_cmp q k)) is
names_one (Unterm unterm) key is_there e q = let is : unterm.separator ≡ key = ap named e in ap (λ k. is_eq (key_cmp q k)) is
names_one other key is_there e q = cc

-- and says of it what its mark says
pub says_one : (row : Record) (key : List ℕ) (is_there : Bool) → one_key row ≡ Some (key, is_there) → is_some (content_said row key) ≡ is_there
says_one (Base page) key is_there e = cc
says_one (Split split) key is_there e = cc
says_one (Remove remove) key is_there e = cc
says_one (Merge merge) key is_there e = cc
says_one other key is_there e = ap mark e

pub bound_kept : (row : Record) (key : List ℕ) (is_there : Bool) (bound : Option (List ℕ)) → one_key row ≡ Some (key, is_there) → bound_under row bound ≡ bound
bound_kept (Split split) key is_there bound e = cc
bound_kept other key is_there bound e = refl

-- each other record adds its items, and a split cuts off those above its separator
module _ (bound : Option (List ℕ)) where
  pub changed : (row : Record) (under : List Record) → IsFitted (row ∷ under) → one_key row ≡ None → (items rest : List Item) → IsItemsOf (row ∷ under) items → IsItemsOf under rest
      → count_under bound items + 0 ≡ count_under (bound_under row bound) rest + count_under bound (items_of row)
  changed (Base page) [] (base, is, stands) e items rest has under_has =
      let ascending : IsAscending page.items = subst (λ (r : Record). IsAscending (items_of r)) (sym is) stands.ruled.is_page.ordered.ascending in
      let same : items ≡ page.items = items_unique items page.items has.ascending ascending (λ q. has.contents q) in
      let all = ap (count_under bound) same in
      let none = ap (count_under bound) (none_of rest under_has) in
      omega arith
  changed (Base page) (older ∷ under) h e items rest has under_has = let delta = h.0.delta in cc
  changed (Put put) under h e items rest has under_has = cc
  changed (Delete delete) under h e items rest has under_has = cc
  changed (Split split) under h e items rest has under_has = ap (λ n. n + 0) (changed_by_split bound split under items rest has under_has)
  changed (Term term) under h e items rest has under_has = cc
  changed (Hold hold) under h e items rest has under_has = cc
  changed (Remove remove) under h e items rest has under_has = ap (λ n. n + 0) (unchanged bound (Remove remove ∷ under) under items rest (λ q. refl) has under_has)
  changed (Merge merge) [] (base, is, stands) e items rest has under_has = cc
  changed (Merge merge) (older ∷ under) h e items rest has under_has =
      let merged = changed_by_merge bound merge (older ∷ under) items rest h.0 h.1 has under_has in
      omega (arith, merged)
  changed (Unterm unterm) under h e items rest has under_has = cc

-- the rows from a place on
pub from_place : (rows : List Record) (place : ℕ) (row d : Record) → place < length rows → row ≡ get_or rows place d
    → drop place rows ≡ row ∷ take (length rows - (place + 1)) (drop (place + 1) rows)
from_place rows place row d within is =
    let next : drop (suc place) rows ≡ take (length rows - (place + 1)) (drop (place + 1) rows) = ap (λ n. drop n rows) (sym (add-one place)) ∙ sym (rest_is rows place) in
    drop-cons rows place d within ∙ (λ i. sym is i ∷ next i)

pub fitted_from : (rows : List Record) (place : ℕ) → IsFitted rows → place < length rows → IsFitted (drop place rows)
fitted_from [] place h within = absurd h
fitted_from (newest ∷ under) zero h within = h
fitted_from (newest ∷ []) (suc place) h within = absurd (omega arith)
fitted_from (newest ∷ older ∷ under) (suc place) h within = fitted_from (older ∷ under) place h.1 (omega arith)

-- none is left behind the last one
pub none_left : (rows : List Record) (place : ℕ) → length rows ≤ place → IsItemsOf (drop place rows) []
none_left rows place none = rw (drop_all place rows none) nothing
