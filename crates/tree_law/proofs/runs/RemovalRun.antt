-- Each step of the run with a removal is allowed.
use Rattle.tree_law.proofs.Words.{false, [], refl, None, true, inl, inr, ◌∷◌, ℕ, ◌≡◌, Bool, arith, Some, take, drop, lit<, if◌then◌else◌, Page, IsPage, IsRuled, Child, Applies, names, MayReply}
use Rattle.tree_law.proofs.Words.{FitsOn, MayAdd, IsMet, IsDisciplined, knows, Knowledge, opening_leaf, small, root_a, a, hold_a, remove_a, removal, upper_b, two_splits, second_split, first_split}
use Rattle.tree_law.proofs.Words.{upper_c, b}
use Rattle.std.specs.List.Sorted.{IsStrictlySortedBy}
use Rattle.bw_model.specs.declared.command.Reply.TheVariants as reply
use Rattle.tree_law.specs.Example.{get_a}
use Rattle.tree_law.specs.Removal.{get_b}
use Rattle.tree_law.proofs.runs.GoingLeft.{removed, held_child, left_child, right_beyond, beside}
use Rattle.tree_law.proofs.runs.HelpFits.{leaf_splits}
use Rattle.tree_law.proofs.runs.LinkFits.{leaf, leaf_page, hold_fits}
use Rattle.tree_law.proofs.runs.Linking.{whole, adds}
use Rattle.tree_law.proofs.runs.Making.{base_makes, over_makes, fits_over}
use Rattle.tree_law.proofs.runs.SplitRun.{became, splits_twice}
use Rattle.tree_law.proofs.runs.Standing.{◌▸◌, disciplined, joined}
use Rattle.tree_law.proofs.runs.Unset.{is_unset}

-- what an actor knows before entry n
abbrev before : ℕ → ℕ → Knowledge
before n actor = knows (take n removal) actor

-- the removal fits the upper leaf, which is empty
abbrev upper : Page
upper = leaf a (Some b) (Some 4)

removal_applies : Applies upper remove_a (record upper { removed = true })
unfolding IsStrictlySortedBy
removal_applies = record { ascending = tt; contents = λ key. refl; level = refl; low = refl; high = refl; right = refl; removed = refl }

removal_fits : FitsOn (second_split ∷ upper_b ∷ []) remove_a
removal_fits = (
  fits_over (over_makes (base_makes (leaf a None None) (leaf_page a None None refl) refl) (leaf_splits a None None 2 4 b))
      (record { alive = refl; level = refl; few = omega arith; inner = refl }) removal_applies ruled refl (omega arith, (omega arith, omega arith)),
  omega
      arith,
)
  where
    is_page : IsPage upper
    is_page = leaf_page a (Some b) (Some 4) refl

    ruled : IsRuled (record upper { removed = true })
    ruled = record
        { is_page = record { spans = is_page.spans; ordered = is_page.ordered; within = is_page.within; kinds = is_page.kinds }; ends = refl; top = omega arith; terms = λ lt. absurd (omega arith) }

-- the upper leaf was named as a right
right_of_first : IsMet (before 39 0) 2
right_of_first = record { other = 1; row = 4; basis = whole (first_split ∷ opening_leaf ∷ []) (refl, (refl, refl)) refl refl; named = inl refl }

-- the hold
holds : MayAdd 0 (before 36 0) 3 5 7
holds = adds (whole (root_a ∷ []) (refl, refl) refl refl) hold_a refl hold_fits
    (record { level = 0; is_level = refl; key = a; covers = refl; child = 2; present = refl; is = refl })
    (is_unset became refl)

none_said : (child : ℕ) (above : Bool) → (if above then None else None) ≡ Some (Child child true) → ⊥
none_said child true e = absurd cc
none_said child false e = absurd cc

-- the removal
removes : MayAdd 0 (before 41 0) 2 3 8
removes = adds (whole (second_split ∷ upper_b ∷ []) (refl, (refl, refl)) refl refl) remove_a refl removal_fits
    (record {
      parent = 3;
      row = 7;
      above = whole (hold_a ∷ root_a ∷ []) (refl, (refl, refl)) refl refl;
      level = refl;
      covers = refl;
      held = refl;
      unheld = λ key
          child. none_said child (names second_split key);
      is = refl;
    })
    (is_unset became refl)

-- the removed leaf replies, as its left was read after it
none_there : MayReply small 1 (before 56 1) reply.None
none_there = record {
  command = get_a;
  going = refl;
  justified = inl (record {
    row = 8;
    chain = removed;
    read = (refl, (refl, (refl, refl)));
    leaf = refl;
    covers = refl;
    is = refl;
    basis = inr (refl, inr (beside (knows (take 44 removal)), refl), refl);
  });
}

-- and so does the leaf on its right
none_beyond : MayReply small 1 (before 72 1) reply.None
none_beyond = record {
  command = get_b;
  going = refl;
  justified = inl
      (record { row = 6; chain = upper_c ∷ []; read = (refl, refl); leaf = refl; covers = refl; is = refl; basis = inr (refl, inl ((4, refl), refl), refl) });
}

-- After two splits the first holds the upper leaf's term, and removes the leaf. The second comes to the leaf on the removed one's
-- left, replies from the removed leaf, begins again, and goes on at the removed leaf's right.
pub removal_disciplined : IsDisciplined small removal
removal_disciplined = joined small [] two_splits (drop 32 removal) splits_twice (disciplined two_splits (drop 32 removal) refl refl (
    (refl, tt, is_unset became refl)
    ▸ (refl, tt, is_unset became refl)
    ▸ (refl, holds)
    ▸ (refl, inr right_of_first)
    ▸ (refl, removes)
    ▸ (refl, lit< tt, refl)
    ▸ (refl, inr (held_child (knows (take 44 removal))))
    ▸ (refl, inr (left_child (knows (take 44 removal))))
    ▸ (refl, none_there)
    ▸ (refl, lit< tt, refl)
    ▸ (refl, inr (held_child (knows (take 58 removal))))
    ▸ (refl, inr (left_child (knows (take 58 removal))))
    ▸ (refl, inr (right_beyond (knows (take 58 removal))))
    ▸ (refl, none_beyond)
    ▸ tt))
