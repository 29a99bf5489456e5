-- Each step of the helped split is allowed.
use Rattle.tree_law.proofs.Words.{false, [], refl, inl, inr, ◌∷◌, ℕ, take, drop, lit<, codes, set, MayReply, MayPost, IsMet, MayUpdate, IsDisciplined, knows, Knowledge, opening_leaf, small, root_a, a}
use Rattle.tree_law.proofs.Words.{other_put, helped_term, helped_split, upper_b, two_splits, second_split, first_split, upper_c, b}
use Rattle.bw_model.specs.declared.command.Reply.TheVariants as reply
use Rattle.tree_law.specs.HelpedSplit.{insert_other}
use Rattle.tree_law.specs.TwoSplits.{insert_b}
use Rattle.tree_law.proofs.runs.HelpFits.{term_fits, put_fits}
use Rattle.tree_law.proofs.runs.Linking.{whole, adds}
use Rattle.tree_law.proofs.runs.SplitRun.{became, splits_twice}
use Rattle.tree_law.proofs.runs.Standing.{◌▸◌, disciplined, joined}
use Rattle.tree_law.proofs.runs.Unset.{is_unset, none}

-- what an actor knows before entry n
abbrev before : ℕ → ℕ → Knowledge
before n actor = knows (take n helped_split) actor

-- each page was named, as a right or as a child
right_of_first : IsMet (before 52 0) 2
right_of_first = record { other = 1; row = 4; basis = whole (first_split ∷ opening_leaf ∷ []) (refl, (refl, refl)) refl refl; named = inl refl }

right_known : IsMet (before 54 0) 4
right_known = record { other = 2; row = 3; basis = whole (second_split ∷ upper_b ∷ []) (refl, (refl, refl)) refl refl; named = inl refl }

child_of_root : IsMet (before 40 1) 2
child_of_root = record { other = 3; row = 5; basis = whole (root_a ∷ []) (refl, refl) refl refl; named = inr (inl (0, a, false, refl, refl, refl)) }

right_seen : IsMet (before 43 1) 4
right_seen = record { other = 2; row = 3; basis = whole (second_split ∷ upper_b ∷ []) (refl, (refl, refl)) refl refl; named = inl refl }

-- the term that the second actor posts
helps : MayPost (before 47 1) 3 5 (root_a ∷ []) helped_term
helps = record { child = 4; row = 6; below = whole (upper_c ∷ []) (refl, refl) refl refl; level = refl; covers = refl; absent = refl; order = refl; is = refl }

updates : MayUpdate 1 (before 50 1) 6 (upper_c ∷ []) other_put
updates = record { leaf = refl; command = insert_other; going = refl; unlinked = refl; covers = refl; update = set 1 b (codes "2"); due = refl; is = refl }

inserted : MayReply small 1 (before 51 1) reply.Inserted
inserted = record
    { command = insert_other; going = refl; justified = inl (record { row = 6; chain = upper_c ∷ []; read = (refl, refl); leaf = refl; covers = refl; is = refl; basis = inl (refl, refl) }) }

-- the first actor's own try
late : MayPost (before 57 0) 3 5 (root_a ∷ []) helped_term
late = record { child = 4; row = 9; below = whole (other_put ∷ upper_c ∷ []) (refl, (refl, refl)) refl refl; level = refl; covers = refl; absent = refl; order = refl; is = refl }

exists : MayReply small 0 (before 58 0) (reply.Exists (codes "2"))
exists = record {
  command = insert_b;
  going = refl;
  justified = inl
      (record { row = 9; chain = other_put ∷ upper_c ∷ []; read = (refl, (refl, refl)); leaf = refl; covers = refl; is = refl; basis = inr (refl, inl ((4, refl), refl), refl) });
}

-- After two splits the second begins and enters, and the first writes the term of the new leaf. The second goes from the root to
-- that leaf, posts the term and puts its key; the first's exchange loses, and it finds the key.
pub help_disciplined : IsDisciplined small helped_split
help_disciplined = joined small [] two_splits (drop 32 helped_split) splits_twice (disciplined two_splits (drop 32 helped_split) refl refl (
    (refl, lit< tt, refl)
    ▸ (refl, tt, is_unset became refl)
    ▸ (refl, inr child_of_root)
    ▸ (refl, inr right_seen)
    ▸ (refl, tt, none)
    ▸ (refl, adds (whole (root_a ∷ []) (refl, refl) refl refl) helped_term refl term_fits helps none)
    ▸ (refl, tt, none)
    ▸ (refl, adds (whole (upper_c ∷ []) (refl, refl) refl refl) other_put refl put_fits updates none)
    ▸ (refl, inserted)
    ▸ (refl, inr right_of_first)
    ▸ (refl, inr right_known)
    ▸ (refl, adds (whole (root_a ∷ []) (refl, refl) refl refl) helped_term refl term_fits late (is_unset became refl))
    ▸ (refl, exists)
    ▸ tt))
