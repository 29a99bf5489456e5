-- How many items a chain has at most, by how many each of its records has.
use Rattle.row_chain.proofs.Words.{◌≡◌, ◌≤◌, ◌+◌, ◌∷◌, length, true, refl, arith, if◌then◌else◌, is_some, is_under, Item, either, Record, content_said, items_of, one_key, IsItemsOf, content_in}
use Rattle.row_chain.proofs.Words.{IsFitted, bound_under, count_under}
use Rattle.std.proofs.Common.{ℕ, max, List, [], Bool}
use Rattle.std.specs.Prelude.{Option, Some, None}
use Rattle.std.proofs.Math.Nat.{le-max_left, le-max_right}
use Rattle.row_chain.proofs.CountLaws.{changed_at, count_all}
use Rattle.row_chain.proofs.Counts.{changed, names_one}

few_under : (bound : Option (List ℕ)) (items : List Item) → count_under bound items ≤ length items
few_under bound [] = omega arith
few_under bound (item ∷ items) = let rest = few_under bound items in either (is_under item.key bound) (λ yes. rw yes (omega (arith, rest))) (λ no. rw no (omega (arith, rest)))

one_at_most : (a b : Bool) → (if a then (if b then 0 else 1) else 0) ≤ 1
one_at_most true true = omega arith
one_at_most other others = omega arith

-- a record adds as many as it has, or one
module _ (row : Record) (under : List Record) (fitted : IsFitted (row ∷ under)) (items rest : List Item) (has : IsItemsOf (row ∷ under) items) (under_has : IsItemsOf under rest) where
  by_key : (key : Option (List ℕ × Bool)) → one_key row ≡ key → length items ≤ length rest + max (length (items_of row)) 1
  by_key None none =
      let all = count_all items in
      let own = count_all (items_of row) in
      let less = few_under (bound_under row None) rest in
      let step = changed None row under fitted none items rest has under_has in
      let most = le-max_left (length (items_of row)) 1 in
      omega (arith, all, own, less, step, most)
  by_key (Some (key, there)) one =
      let all = count_all items in
      let all_rest = count_all rest in
      let step = changed_at None row under key items rest (names_one row key there one) has under_has in
      let few = one_at_most (is_some (content_said row key)) (is_some (content_in under key)) in
      let most = le-max_right (length (items_of row)) 1 in
      omega (arith, all, all_rest, step, few, most)

  pub few_more : length items ≤ length rest + max (length (items_of row)) 1
  few_more = by_key (one_key row) refl
