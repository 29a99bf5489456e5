-- Each step of the run that makes all links is allowed.
use Rattle.tree_law.proofs.Words.{false, [], refl, List, inl, inr, ◌∷◌, ℕ, take, drop, lit<, codes, set, unset, MayReply, MayRoot, MayAdd, IsMet, IsDisciplined, knows, Knowledge, Ready, Empty}
use Rattle.tree_law.proofs.Words.{OwnPage, Other, Gone, opening_leaf, small, put_a, split_a, term_b, item_a, base_b, unterm_a, split_b, upper_a, deletion_a, merge_a, all_links, insert_a, root_a, a}
use Rattle.tree_law.proofs.Words.{hold_a, remove_a}
use Rattle.bw_model.specs.declared.command.Reply.TheVariants as reply
use Rattle.traces.proofs.UnheldLaws.{unheld_at}
use Rattle.tree_law.specs.AllLinks.{delete_a, lower_a}
use Rattle.tree_law.proofs.runs.LinkFits.{put_fits, split_fits, hold_fits, remove_fits, merge_fits, unterm_fits, second_fits, term_fits, deletion_fits, upper_fitted}
use Rattle.tree_law.proofs.runs.Linking.{whole, adds, puts_root}
use Rattle.tree_law.proofs.runs.Standing.{◌▸◌, disciplined}
use Rattle.tree_law.proofs.runs.Unset.{is_unset, none}

-- what the actor knows before entry n
abbrev before : ℕ → ℕ → Knowledge
before n actor = knows (take n all_links) actor

-- what became of the pages that it took, newest first
abbrev pub became : List (ℕ × OwnPage)
became =
    (5, Empty) ∷ (5, Ready 14) ∷ (5, Empty) ∷ (4, Other) ∷ (4, Ready 10) ∷ (4, Empty) ∷ (2, Other) ∷ (2, Gone) ∷ (3, Other) ∷ (3, Ready 5) ∷ (3, Empty) ∷ (2, Other) ∷ (2, Ready 3) ∷ (2, Empty) ∷ []

-- each page was named, as a right or as a child
right_of_first : IsMet (before 49 0) 2
right_of_first = record { other = 1; row = 4; basis = whole (split_a ∷ put_a ∷ opening_leaf ∷ []) (refl, (refl, (refl, refl))) refl refl; named = inl refl }

right_again : IsMet (before 52 0) 2
right_again = record { other = 1; row = 4; basis = whole (split_a ∷ put_a ∷ opening_leaf ∷ []) (refl, (refl, (refl, refl))) refl refl; named = inl refl }

right_of_second : IsMet (before 67 0) 4
right_of_second = record { other = 1; row = 11; basis = whole (split_b ∷ merge_a ∷ split_a ∷ put_a ∷ opening_leaf ∷ []) (refl, (refl, (refl, (refl, (refl, refl))))) refl refl; named = inl refl }

child_of_root : IsMet (before 83 0) 4
child_of_root = record
    { other = 3; row = 12; basis = whole (term_b ∷ unterm_a ∷ hold_a ∷ root_a ∷ []) (refl, (refl, (refl, (refl, refl)))) refl refl; named = inr (inl (0, a, false, refl, refl, refl)) }

-- the put
puts : MayAdd 0 (before 32 0) 1 1 2
puts = adds (whole (opening_leaf ∷ []) (refl, refl) refl refl) put_a refl put_fits
    (record { leaf = refl; command = insert_a; going = refl; unlinked = refl; covers = refl; update = set 0 a (codes "1"); due = refl; is = refl })
    (is_unset [] refl)

-- the split
splits : MayAdd 0 (before 37 0) 1 2 4
splits = adds (whole (put_a ∷ opening_leaf ∷ []) (refl, (refl, refl)) refl refl) split_a refl split_fits
    (record { separator = a; above = refl; below = refl; right = 2; row = 3; ready = refl; items = item_a ∷ []; alike = λ key c n. refl; base = refl; ruled = upper_fitted; is = refl })
    (is_unset (drop 12 became) refl)

-- the root
roots : MayRoot (before 42 0) 1 3
roots = puts_root (whole (split_a ∷ put_a ∷ opening_leaf ∷ []) (refl, (refl, (refl, refl))) refl refl) refl refl refl refl refl

-- the hold
holds : MayAdd 0 (before 46 0) 3 5 6
holds = adds (whole (root_a ∷ []) (refl, refl) refl refl) hold_a refl hold_fits
    (record { level = 0; is_level = refl; key = a; covers = refl; child = 2; present = refl; is = refl })
    (is_unset (drop 8 became) refl)

-- the removal, over the term that is held
removes : MayAdd 0 (before 51 0) 2 3 7
removes = adds (whole (upper_a ∷ []) (refl, refl) refl refl) remove_a refl remove_fits
    (record { parent = 3; row = 6; above = whole (hold_a ∷ root_a ∷ []) (refl, (refl, refl)) refl refl; level = refl; covers = refl; held = refl; unheld = unheld_at (item_a ∷ []) refl; is = refl })
    (is_unset (drop 8 became) refl)

-- the merge of its page's right
merges : MayAdd 0 (before 54 0) 1 4 8
merges = adds (whole (split_a ∷ put_a ∷ opening_leaf ∷ []) (refl, (refl, (refl, refl))) refl refl) merge_a refl merge_fits
    (record {
      other = 2;
      row = 7;
      head = refl;
      merged = remove_a ∷ upper_a ∷ [];
      read = (refl, (refl, refl));
      gone = refl;
      right = refl;
      high = refl;
      items =
          item_a ∷ [];
      alike = λ key c. refl;
      is = refl;
    })
    (is_unset (drop 8 became) refl)

-- the term is taken out, by the page that the leaf was merged into
unterms : MayAdd 0 (before 58 0) 3 6 9
unterms = adds (whole (hold_a ∷ root_a ∷ []) (refl, (refl, refl)) refl refl) unterm_a refl unterm_fits
    (record {
      key = a;
      covers = refl;
      child = 2;
      present = refl;
      left = 1;
      row = 8;
      below = whole (merge_a ∷ split_a ∷ put_a ∷ opening_leaf ∷ [])
          (refl, (refl, (refl, (refl, refl)))) refl refl;
      level = refl;
      above = refl;
      within = tt;
      apart = λ e. absurd (cc);
      order = refl;
      is = refl;
    })
    (is_unset (drop 8 became) refl)

-- the second split
splits_again : MayAdd 0 (before 62 0) 1 8 11
splits_again = adds (whole (merge_a ∷ split_a ∷ put_a ∷ opening_leaf ∷ []) (refl, (refl, (refl, (refl, refl)))) refl refl) split_b refl second_fits
    (record { separator = a; above = refl; below = refl; right = 4; row = 10; ready = refl; items = item_a ∷ []; alike = λ key c n. rw n; base = refl; ruled = upper_fitted; is = refl })
    (is_unset (drop 4 became) refl)

-- the term of the new leaf
posts : MayAdd 0 (before 69 0) 3 9 12
posts = adds (whole (unterm_a ∷ hold_a ∷ root_a ∷ []) (refl, (refl, (refl, refl))) refl refl) term_b refl term_fits
    (record { child = 4; row = 10; below = whole (lower_a ∷ []) (refl, refl) refl refl; level = refl; covers = refl; absent = refl; order = refl; is = refl })
    (is_unset (drop 3 became) refl)

-- the base
consolidates : MayAdd 0 (before 70 0) 4 10 13
consolidates = adds (whole (lower_a ∷ []) (refl, refl) refl refl) base_b refl upper_fitted
    (record { items = item_a ∷ []; alike = λ key c. refl; is = refl })
    (is_unset (drop 3 became) refl)

-- the delete
deletes : MayAdd 0 (before 87 0) 4 13 15
deletes = adds (whole (base_b ∷ []) (refl, refl) refl refl) deletion_a refl deletion_fits
    (record { leaf = refl; command = delete_a; going = refl; unlinked = refl; covers = refl; update = unset 0 a; due = refl; is = refl })
    (is_unset became refl)

-- each reply is by the chain over which the update was linked
inserted : MayReply small 0 (before 74 0) reply.Inserted
inserted = record
    { command = insert_a; going = refl; justified = inl (record { row = 1; chain = opening_leaf ∷ []; read = (refl, refl); leaf = refl; covers = refl; is = refl; basis = inl (refl, refl) }) }

deleted : MayReply small 0 (before 88 0) (reply.Deleted (codes "1"))
deleted = record { command = delete_a; going = refl; justified = inl (record { row = 13; chain = base_b ∷ []; read = (refl, refl); leaf = refl; covers = refl; is = refl; basis = inl (refl, refl) }) }

-- The actor enters, and places what it will link.
pub all_links_disciplined : IsDisciplined small all_links
all_links_disciplined = disciplined [] all_links refl refl (
    (refl, lit< tt, refl)
    ▸ (refl, tt, none) ▸ (refl, tt, none) ▸ (refl, tt, none) ▸ (refl, tt, none) ▸ (refl, tt, none) ▸ (refl, tt, none) ▸ (refl, tt, none) ▸ (refl, tt, none)
    ▸ (refl, tt, none) ▸ (refl, tt, none) ▸ (refl, tt, none) ▸ (refl, tt, none) ▸ (refl, tt, none)
    ▸ (refl, puts)
    ▸ (refl, (refl, tt, is_unset (drop 13 became) refl))
    ▸ (refl, splits)
    ▸ (refl, (refl, tt, is_unset (drop 10 became) refl))
    ▸ (refl, roots)
    ▸ (refl, holds)
    ▸ (refl, inr right_of_first)
    ▸ (refl, removes)
    ▸ (refl, inr right_again)
    ▸ (refl, merges)
    ▸ (refl, unterms)
    ▸ (refl, inr refl)
    ▸ (refl, (refl, tt, is_unset (drop 5 became) refl))
    ▸ (refl, splits_again)
    ▸ (refl, inr right_of_second)
    ▸ (refl, posts)
    ▸ (refl, consolidates)
    ▸ (refl, (refl, tt, is_unset (drop 2 became) refl))
    ▸ (refl, inl refl)
    ▸ (refl, inserted)
    ▸ (refl, lit< tt, refl)
    ▸ (refl, inr child_of_root)
    ▸ (refl, tt, is_unset became refl)
    ▸ (refl, deletes)
    ▸ (refl, deleted)
    ▸ tt)
