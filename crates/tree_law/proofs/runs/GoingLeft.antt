-- Each step of the way to the removed leaf and to the leaf on its left is allowed, wherever the second actor takes it.
use Rattle.tree_law.proofs.Words.{false, [], refl, List, true, inl, inr, ◌∷◌, ℕ, take, fold, Record, HasRead, IsMet, Knowledge, knows_after, opening_leaf, root_a, a, hold_a, remove_a, upper_b}
use Rattle.tree_law.proofs.Words.{second_split, first_split}
use Rattle.traces.specs.discipline.Discipline.{IsBeside}
use Rattle.tree_law.specs.Removal.{walks_left}
use Rattle.tree_law.proofs.runs.Linking.{whole}

-- the removed leaf's chain
abbrev pub removed : List Record
removed = remove_a ∷ second_split ∷ upper_b ∷ []

module _ (ks : ℕ → Knowledge) where
  -- what the actor knows before entry n of its way, and when it has gone it
  abbrev before : ℕ → Knowledge
  before n = fold knows_after ks (take n walks_left) 1

  abbrev beyond : Knowledge
  beyond = fold knows_after ks walks_left 1

  -- each page was named as a child,
  pub held_child : IsMet (before 5) 2
  held_child = record { other = 3; row = 7; basis = whole (hold_a ∷ root_a ∷ []) (refl, (refl, refl)) refl refl; named = inr (inl (0, a, true, refl, refl, refl)) }

  pub left_child : IsMet (before 9) 1
  left_child = record { other = 3; row = 7; basis = whole (hold_a ∷ root_a ∷ []) (refl, (refl, refl)) refl refl; named = inr (inl (0, [], false, refl, refl, refl)) }

  abbrev left_read : HasRead beyond 1 4
  left_read = whole (first_split ∷ opening_leaf ∷ []) (refl, (refl, refl)) refl refl

  -- or as the right of the removed leaf, which was read before its left
  pub right_beyond : IsMet beyond 4
  right_beyond = record {
    other = 1;
    row = 4;
    basis = left_read;
    named = inr
        (inr (record { removed = 2; row = 8; chain = removed; right = refl; order = refl; read = (refl, (refl, (refl, refl))); gone = refl; named = inl refl }));
  }

  pub beside : IsBeside beyond 8
  beside = record { left = 1; head = 4; basis = left_read; other = 2; right = refl; order = refl }
