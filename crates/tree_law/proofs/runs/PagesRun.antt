-- Each step of the runs with cursor pages is allowed.
use Rattle.tree_law.proofs.Words.{false, [], refl, cond, suc, None, Option, List, true, inl, ◌++◌, inr, ◌∷◌, subst, sym, ℕ, ◌≡◌, zero, ◌<◌, arith, Some, take, lit<, Contains, IsTrue, not}
use Rattle.tree_law.proofs.Words.{slice_index_or, codes, is_in_range, is_below, ArePairsOf, Record, MayReply, chain_value, value_of, MayAdd, IsMet, IsDisciplined, HoldsBack, knows, Entry}
use Rattle.tree_law.proofs.Words.{Knowledge, small, right_term, root_a, a, hold_a, other_put, helped_term, helped_split, Key, removal, upper_c, b, key_before}
use Rattle.std.specs.List.Sorted.{IsStrictlySortedBy}
use Rattle.bw_model.specs.declared.command.Reply.TheVariants as reply
use Rattle.bw_model.specs.NextKeys.{key_after}
use Rattle.tree_law.specs.CursorPages.{page_a, page_b, back_b, tidy_b, upkeep, last_page, back_page}
use Rattle.tree_law.proofs.runs.GoingLeft.{removed, held_child, left_child, right_beyond, beside}
use Rattle.tree_law.proofs.runs.HelpFits.{grown, right_fits, term_applies}
use Rattle.tree_law.proofs.runs.HelpRun.{help_disciplined}
use Rattle.tree_law.proofs.runs.LinkFits.{leaf, hold_makes}
use Rattle.tree_law.proofs.runs.Linking.{whole, adds}
use Rattle.tree_law.proofs.runs.Making.{over_makes}
use Rattle.tree_law.proofs.runs.RemovalRun.{removal_disciplined}
use Rattle.tree_law.proofs.runs.Standing.{◌▸◌, disciplined, joined}
use Rattle.tree_law.proofs.runs.Unset.{is_unset, none}
use Rattle.tree_law.proofs.shape.KeyOrder.{by_key}

-- what the actor knows before entry n of what follows the removal, and of what follows the helped split
abbrev before : ℕ → Knowledge
before n = knows (removal ++ take n upkeep) 1

abbrev before_last : List Entry → ℕ → Knowledge
before_last more n = knows (helped_split ++ take n more) 1

-- the removed leaf has no values
empty : (key value : Key) → chain_value removed key ≡ Some value → ⊥
empty key value e = (elim (not (is_below key b)) as (λ t. value_of (cond t None None) ≡ Some value → ⊥) [ true ↦ λ f. cc | false ↦ λ f. cc ]) e

no_pairs : ArePairsOf (chain_value removed) a (Some b) []
unfolding IsStrictlySortedBy
no_pairs = record { ascending = tt; exact = λ key value. (λ c. let lt = c.1 in absurd (omega arith), λ h. absurd (empty key value h.1)) }

-- the last leaf's chain, and its pair
abbrev last : List Record
last = other_put ∷ upper_c ∷ []

one_pair : (high : Option Key) → IsTrue (is_in_range b high b) → ArePairsOf (chain_value last) b high ((b, codes "2") ∷ [])
unfolding IsStrictlySortedBy
one_pair high inside = record { ascending = (tt, tt); exact = λ key value. (λ c. there key value c.0 c.1 c.2, λ h. pair key value h.1) }
  where
    there : (key value : Key) (n : ℕ) → n < 1 → ◌≡◌ {A = Key × Key} (slice_index_or ((b, codes "2") ∷ []) n (key, value)) (key, value)
        → IsTrue (is_in_range b high key) × (chain_value last key ≡ Some value)
    there key value zero lt e = subst (λ (pair : Key × Key). IsTrue (is_in_range b high pair.0) × (chain_value last pair.0 ≡ Some pair.1)) e (inside, refl)
    there key value (suc n) lt e = absurd (omega arith)

    pair : (key value : Key) → chain_value last key ≡ Some value → Contains {X = Key × Key} ((b, codes "2") ∷ []) (key, value)
    pair key value = by_key key b
        (λ same t. rw t λ e. let is : codes "2" ≡ value = cc in (0, lit< tt, λ i. (sym same i, is i)))
        (λ ne t. rw t λ e. absurd (cc))

-- the last leaf was named as a child
last_child : IsMet (before_last last_page 6) 4
last_child = record { other = 3; row = 8; basis = whole (helped_term ∷ root_a ∷ []) (refl, (refl, refl)) refl refl; named = inr (inl (0, b, false, refl, refl, refl)) }

-- the removed leaf is shown, as its left was read after it
shows_removed : MayReply small 1 (before 13) (reply.Page [] (Some b))
shows_removed = record {
  command = page_a;
  going = refl;
  justified = inr (inl (record {
    from = a;
    asks = refl;
    row = 8;
    chain = removed;
    read = (refl, (refl, (refl, refl)));
    leaf = refl;
    covers = refl;
    pairs = [];
    exact = no_pairs;
    is = refl;
    unlinked = refl;
    basis = inr (beside (knows (removal ++ take 1 upkeep)), refl);
  }));
}

-- the term that it posts for that leaf
posts : MayAdd 1 (before 31) 3 7 9
posts = adds (whole (hold_a ∷ root_a ∷ []) (refl, (refl, refl)) refl refl) right_term refl right_fits
    (record { child = 4; row = 6; below = whole (upper_c ∷ []) (refl, refl) refl refl; level = refl; covers = refl; absent = refl; order = refl; is = refl })
    (is_unset [] refl)

right_child : IsMet (before 34) 4
right_child = record { other = 3; row = 9; basis = whole (right_term ∷ hold_a ∷ root_a ∷ []) (refl, (refl, (refl, refl))) refl refl; named = inr (inl (0, b, false, refl, refl, refl)) }

-- the root holds that leaf back, as the term beside the leaf's own is held
held_back : HoldsBack (right_term ∷ hold_a ∷ root_a ∷ []) 4 b
held_back = record { held = false; there = refl; items = (grown true).items; are = (over_makes hold_makes (term_applies true 7)).items; why = inr (refl, inr refl) }

-- nothing is due at the last leaf
nothing_due : MayReply small 1 (before 35) reply.Tidied
nothing_due = record {
  command = tidy_b;
  going = refl;
  justified = inr (inr (inr (inl (record {
    key = b;
    asks = refl;
    is = refl;
    page = 4;
    head = 6;
    basis = whole (upper_c ∷ []) (refl, refl) refl refl;
    base = leaf b None None;
    alone = refl;
    leaf = refl;
    covers = refl;
    few = lit< tt;
    back = λ other few. inr (record { parent = 3; row = 9; above = whole (right_term ∷ hold_a ∷ root_a ∷ []) (refl, (refl, (refl, refl))) refl refl; order = refl; holds = held_back });
    unlinked = refl;
  }))));
}

-- the last leaf is shown with its pair
shows_last : MayReply small 1 (before_last last_page 9) (reply.Page ((b, codes "2") ∷ []) None)
shows_last = record {
  command = page_b;
  going = refl;
  justified =
      inr (inl (record {
        from = b;
        asks = refl;
        row = 9;
        chain = last;
        read = (refl, (refl, refl));
        leaf = refl;
        covers = refl;
        pairs = (b, codes "2") ∷ [];
        exact = one_pair None refl;
        is = refl;
        unlinked = refl;
        basis = inl ((4, refl), refl);
      }));
}

-- and so it is backward
back_child : IsMet (before_last back_page 6) 4
back_child = record { other = 3; row = 8; basis = whole (helped_term ∷ root_a ∷ []) (refl, (refl, refl)) refl refl; named = inr (inl (0, b, false, refl, refl, refl)) }

shows_back : MayReply small 1 (before_last back_page 9) (reply.BackPage ((b, codes "2") ∷ []) (key_before b))
shows_back = record {
  command = back_b;
  going = refl;
  justified = inr (inr (inl (record {
    upto = b;
    asks = refl;
    row = 9;
    chain = last;
    read = (refl, (refl, refl));
    leaf = refl;
    covers = refl;
    short = record { short = omega arith; bytes_fit = (omega arith, tt) };
    pairs = (b, codes "2") ∷ [];
    exact = one_pair (Some (key_after b)) refl;
    is = refl;
    unlinked = refl;
    basis = inl ((4, refl), refl);
  })));
}

-- It comes to the leaf on the removed one's left, shows the removed leaf, and begins again. It comes there again, goes on to the
-- leaf on the removed leaf's right, and posts the term of that leaf, at which then nothing is due.
pub upkeep_disciplined : IsDisciplined small (removal ++ upkeep)
upkeep_disciplined = joined small [] removal upkeep removal_disciplined (disciplined removal upkeep refl refl (
    (refl, lit< tt, refl)
    ▸ (refl, inr (held_child (knows (removal ++ take 1 upkeep))))
    ▸ (refl, inr (left_child (knows (removal ++ take 1 upkeep))))
    ▸ (refl, shows_removed)
    ▸ (refl, lit< tt, refl)
    ▸ (refl, inr (held_child (knows (removal ++ take 15 upkeep))))
    ▸ (refl, inr (left_child (knows (removal ++ take 15 upkeep))))
    ▸ (refl, inr (right_beyond (knows (removal ++ take 15 upkeep))))
    ▸ (refl, tt, none)
    ▸ (refl, posts)
    ▸ (refl, inr right_child)
    ▸ (refl, nothing_due)
    ▸ tt))

-- from the root to the last leaf
pub last_page_disciplined : IsDisciplined small (helped_split ++ last_page)
last_page_disciplined = joined small [] helped_split last_page help_disciplined (disciplined helped_split last_page refl refl (
    (refl, lit< tt, refl) ▸ (refl, inr last_child) ▸ (refl, shows_last) ▸ tt))

pub back_page_disciplined : IsDisciplined small (helped_split ++ back_page)
back_page_disciplined = joined small [] helped_split back_page help_disciplined (disciplined helped_split back_page refl refl (
    (refl, lit< tt, refl) ▸ (refl, inr back_child) ▸ (refl, shows_back) ▸ tt))
