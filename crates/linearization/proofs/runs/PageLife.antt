-- The life of a page: split off, indexed by a new root, held, removed, merged, taken out of the index, and its slot emptied.
use Rattle.linearization.proofs.Words.{codes, ◌≡◌, ◌<◌, ◌∙◌, ℕ, List, [], ◌∷◌, Bool, true, false, None, Some, Option, refl, sym, subst, arith, lit<, Exchange, Record, IsChainOf, IsRun}
use Rattle.linearization.proofs.Words.{MayPlace, memory_at, memory_of, IsRun-from_steps, log_at, IsQuiet, HasMapOf, ap, low_in, high_in, right_in, is_below, is_in_range, IsWhole, content_in}
use Rattle.linearization.proofs.Words.{level_in, IsChainOf-unique}
use Rattle.std.specs.Prelude.{not, take, if◌then◌else◌}
use Rattle.bw_model.specs.declared.step.Answer.TheVariants.{Whether}
use Rattle.deltas.specs.declared.record.Record.TheVariants.{Base}
use Rattle.traces.specs.declared.trace.Entry.TheVariants.{Step}
use Rattle.std.specs.Prelude.{replicate}
use Rattle.linearization.specs.Examples.{small, opening_leaf, new_leaf, split_away, root_page, root, remove_leaf, merge_leaf, index_above, page_life}
use Rattle.linearization.proofs.Listed.{UpTo, UpTo-at, UpTo-parts, all_at, behind}
use Rattle.linearization.proofs.runs.Kinds.{is_of, leaf_at, may_place}
use Rattle.base_page.specs.declared.item.Content.{Content as ContentOf}
use Rattle.linearization.specs.Phases.{MakesRoot, MovesAt, free, owned, fresh, indexed, held, removed, merged, cleared, takes, splits, becomes_root, under_root, holds, removes, merges, unterms}
use Rattle.linearization.specs.Index.{IsLevel, IsRootLevel, IsPageOfLevel, HasTerm}
use Rattle.linearization.proofs.MapLaws.{no_values}

place : (k row : ℕ) → all_at (λ n. is_of 0) (take k page_life) ≡ true → (memory_of small (take k page_life)).free_rows row ≡ false
    → (memory_of small (take k page_life)).rows row ≡ None → MayPlace small (take k page_life) 0 row
place k row = may_place (take k page_life) row

pub is_run : IsRun small page_life
is_run = IsRun-from_steps small page_life (
  (lit< tt, refl),
  (
    (refl, tt, refl),
    (
      (refl, tt, refl),
      (
        (refl, tt, refl),
        (
          (refl, tt, refl),
          (
            (refl, tt, refl),
            (
              (refl, tt, refl),
              (
                (refl, tt, refl),
                (
                  (refl, tt, refl),
                  (
                    (refl, tt, refl),
                    (
                      (refl, place 10 2 refl refl refl, refl),
                      (
                        (refl, tt, refl),
                        (
                          (refl, place 12 3 refl refl refl, refl),
                          (
                            (refl, tt, refl),
                            (
                              (refl, place 14 4 refl refl refl, refl),
                              (
                                (refl, tt, refl),
                                (
                                  (refl, tt, refl),
                                  (
                                    (refl, place 17 5 refl refl refl, refl),
                                    (
                                      (refl, tt, refl),
                                      (
                                        (refl, place 19 6 refl refl refl, refl),
                                        (
                                          (refl, tt, refl),
                                          (
                                            (refl, place 21 7 refl refl refl, refl),
                                            ((refl, tt, refl), ((refl, place 23 8 refl refl refl, refl), ((refl, tt, refl), ((refl, tt, refl), tt)))),
                                          ),
                                        ),
                                      ),
                                    ),
                                  ),
                                ),
                              ),
                            ),
                          ),
                        ),
                      ),
                    ),
                  ),
                ),
              ),
            ),
          ),
        ),
      ),
    ),
  ),
)

pub taken_2 : MovesAt small page_life 1 2 free owned
taken_2 = record { entry = _; at = refl; holds = takes 0 (None, refl) }

pub split_off : MovesAt small page_life 13 2 owned fresh
split_off = record { entry = _; at = refl; holds = splits 1 _ (0, 1, 3, ((None, refl), refl), refl) refl }

made_root : MakesRoot (memory_at small page_life 16) (Step 0 (Exchange 0 1 3) (Whether true) None) 3
made_root = (0, 1, ((None, refl), refl))

pub rooted : MovesAt small page_life 16 3 owned indexed
rooted = record { entry = _; at = refl; holds = becomes_root made_root }

pub indexed_2 : MovesAt small page_life 16 2 fresh indexed
indexed_2 = record { entry = _; at = refl; holds = under_root 3 (Base root_page ∷ []) (codes "m") false made_root (record { page = lit< tt; linked = lit< tt; records = (refl, refl) }) refl refl }

pub held_2 : MovesAt small page_life 18 2 indexed held
held_2 = record { entry = _; at = refl; holds = holds 3 _ (0, 4, 5, ((None, refl), refl), refl) refl }

pub removed_2 : MovesAt small page_life 20 2 held removed
removed_2 = record { entry = _; at = refl; holds = removes _ (0, 2, 6, ((None, refl), refl), refl) }

pub merged_2 : MovesAt small page_life 22 2 removed merged
merged_2 = record {
  entry = _;
  at = refl;
  holds = merges 1 _ (split_away ∷ opening_leaf ∷ []) (0, 3, 7, ((None, refl), refl), refl)
      (record { page = lit< tt; linked = lit< tt; records = (refl, (refl, refl)) }) refl;
}

pub cleared_2 : MovesAt small page_life 24 2 merged cleared
cleared_2 = record { entry = _; at = refl; holds = unterms 3 _ (0, 5, 8, ((None, refl), refl), refl) refl }

absent_or_absent : (b : Bool) → ◌≡◌ {A = Option ContentOf} (if b then None else None) None
absent_or_absent true = refl
absent_or_absent false = refl

both : (key : List ℕ) → content_in (merge_leaf ∷ split_away ∷ opening_leaf ∷ []) key ≡ None
both key = by_cases (is_in_range (codes "m") None key) (not (is_below key (codes "m")))
  where
    by_cases : (a b : Bool) → ◌≡◌ {A = Option ContentOf} (if a then None else (if b then None else None)) None
    by_cases true b = refl
    by_cases false b = absent_or_absent b

-- the left page, once the right one is split off it
split_at : (k : ℕ) → (memory_at small page_life k).slots 1 ≡ 3 → (memory_at small page_life k).rows 3 ≡ Some split_away
    → (memory_at small page_life k).rows 1 ≡ Some opening_leaf → IsChainOf (memory_at small page_life k) 1 (split_away ∷ opening_leaf ∷ [])
split_at k slot split leaf = record { page = lit< tt; linked = rw slot (lit< tt); records = rw slot (split, (leaf, refl)) }

pub is_quiet : IsQuiet small page_life (replicate 26 false)
is_quiet = record {
  at_each = UpTo-at Empty 26 (UpTo-parts Empty 13 12 alone (UpTo-parts (behind 13 Empty) 8 3 beside merged));
}
  where
    Empty : ℕ → Type 0
    Empty k = HasMapOf (memory_at small page_life k) (log_at page_life (replicate 26 false) k)

    alone_leaf : (k : ℕ) → (memory_at small page_life k).slots 1 ≡ 1 → (memory_at small page_life k).rows 1 ≡ Some opening_leaf → HasMapOf (memory_at small page_life k) []
    alone_leaf k slot row = no_values (memory_at small page_life k) (record { pid = 1; chain = opening_leaf ∷ [] } ∷ []) (refl, leaf_at page_life k slot row, refl) (refl, refl) (λ key. refl, tt)

    two_leaves : (k : ℕ) (right : List Record) → IsChainOf (memory_at small page_life k) 1 (split_away ∷ opening_leaf ∷ []) → IsChainOf (memory_at small page_life k) 2 right
        → ◌≡◌ {A = List ℕ × Option (List ℕ)} (low_in right, high_in right) (codes "m", None) → right_in right ≡ None
        → ((key : List ℕ) → content_in right key ≡ None) → HasMapOf (memory_at small page_life k) []
    two_leaves k right is other range last empty = no_values (memory_at small page_life k) (record { pid = 1; chain = split_away ∷ opening_leaf ∷ [] } ∷ record { pid = 2; chain = right } ∷ [])
        (refl, is, (refl, other, rw last refl)) (refl, (ap (λ r. r.0) range, let none : high_in right ≡ None = ap (λ r. r.1) range in rw none refl))
        (λ key. absent_or_absent (not (is_below key (codes "m"))), (empty, tt))

    -- the right page stands
    new_right : (k : ℕ) → (memory_at small page_life k).slots 1 ≡ 3 → (memory_at small page_life k).rows 3 ≡ Some split_away → (memory_at small page_life k).rows 1 ≡ Some opening_leaf
        → (memory_at small page_life k).slots 2 ≡ 2 → (memory_at small page_life k).rows 2 ≡ Some new_leaf → HasMapOf (memory_at small page_life k) []
    new_right k slot split leaf other right =
        two_leaves k (new_leaf ∷ []) (split_at k slot split leaf) (record { page = lit< tt; linked = rw other (lit< tt); records = rw other (right, refl) }) refl refl (λ key. refl)

    -- it is removed
    gone_right : (k : ℕ) → IsChainOf (memory_at small page_life k) 1 (split_away ∷ opening_leaf ∷ [])
        → IsChainOf (memory_at small page_life k) 2 (remove_leaf ∷ new_leaf ∷ []) → HasMapOf (memory_at small page_life k) []
    gone_right k is other = two_leaves k (remove_leaf ∷ new_leaf ∷ []) is other refl refl (λ key. refl)

    merged_leaf : (k : ℕ) → IsChainOf (memory_at small page_life k) 1 (merge_leaf ∷ split_away ∷ opening_leaf ∷ []) → HasMapOf (memory_at small page_life k) []
    merged_leaf k is = no_values (memory_at small page_life k) (record { pid = 1; chain = merge_leaf ∷ split_away ∷ opening_leaf ∷ [] } ∷ []) (refl, is, refl) (refl, refl) (λ key. both key, tt)

    alone : UpTo Empty 13
    alone = (
      alone_leaf 0 refl refl,
      (
        alone_leaf 1 refl refl,
        (
          alone_leaf 2 refl refl,
          (
            alone_leaf 3 refl refl,
            (
              alone_leaf 4 refl refl,
              (
                alone_leaf 5 refl refl,
                (
                  alone_leaf 6 refl refl,
                  (
                    alone_leaf 7 refl refl,
                    (
                      alone_leaf 8 refl refl,
                      (alone_leaf 9 refl refl, (alone_leaf 10 refl refl, (alone_leaf 11 refl refl, (alone_leaf 12 refl refl, alone_leaf 13 refl refl)))),
                    ),
                  ),
                ),
              ),
            ),
          ),
        ),
      ),
    )

    standing : UpTo (behind 13 Empty) 6
    standing = (
      new_right 14 refl refl refl refl refl,
      (
        new_right 15 refl refl refl refl refl,
        (
          new_right 16 refl refl refl refl refl,
          (new_right 17 refl refl refl refl refl, (new_right 18 refl refl refl refl refl, (new_right 19 refl refl refl refl refl, new_right 20 refl refl refl refl refl))),
        ),
      ),
    )

    removed_right : UpTo (behind 6 (behind 13 Empty)) 1
    removed_right = (
      gone_right 21 (record { page = lit< tt; linked = lit< tt; records = (refl, (refl, refl)) })
          (record { page = lit< tt; linked = lit< tt; records = (refl, (refl, refl)) }),
      gone_right 22
          (record { page = lit< tt; linked = lit< tt; records = (refl, (refl, refl)) })
          (record { page = lit< tt; linked = lit< tt; records = (refl, (refl, refl)) }),
    )

    beside : UpTo (behind 13 Empty) 8
    beside = UpTo-parts (behind 13 Empty) 6 1 standing removed_right

    merged : UpTo (behind 8 (behind 13 Empty)) 3
    merged = (
      merged_leaf 23 (record { page = lit< tt; linked = lit< tt; records = (refl, (refl, (refl, refl))) }),
      (
        merged_leaf 24 (record
            { page = lit< tt; linked = lit< tt; records = (refl, (refl, (refl, refl))) }),
        (
          merged_leaf 25
              (record { page = lit< tt; linked = lit< tt; records = (refl, (refl, (refl, refl))) }),
          merged_leaf 26
              (record { page = lit< tt; linked = lit< tt; records = (refl, (refl, (refl, refl))) }),
        ),
      ),
    )

pub not_yet : (earlier : ℕ) → earlier < 17 → ¬ IsRootLevel (memory_at small page_life earlier) 1
not_yet earlier h = UpTo-at NoRoot 16 (UpTo-parts NoRoot 13 2 alone split) earlier (omega arith)
  where
    NoRoot : ℕ → Type 0
    NoRoot k = ¬ IsRootLevel (memory_at small page_life k) 1

    no_root : (k : ℕ) (chain : List Record) → IsChainOf (memory_at small page_life k) 1 chain → level_in chain ≡ 0 → IsPageOfLevel (memory_at small page_life k) 1 1 → ⊥
    no_root k chain is leaf (found, other, level) =
        let same : found ≡ chain = IsChainOf-unique (memory_at small page_life k) 1 found chain other is in
        let odd : ◌≡◌ {A = ℕ} 0 1 = sym leaf ∙ rw same at level in cc

    leaf_root : (k : ℕ) → (memory_at small page_life k).slots 1 ≡ 1 → (memory_at small page_life k).rows 1 ≡ Some opening_leaf → IsPageOfLevel (memory_at small page_life k) 1 1 → ⊥
    leaf_root k slot row = no_root k (opening_leaf ∷ []) (leaf_at page_life k slot row) refl

    split_root : (k : ℕ) → (memory_at small page_life k).slots 1 ≡ 3 → (memory_at small page_life k).rows 3 ≡ Some split_away
        → (memory_at small page_life k).rows 1 ≡ Some opening_leaf → IsPageOfLevel (memory_at small page_life k) 1 1 → ⊥
    split_root k slot split leaf = no_root k (split_away ∷ opening_leaf ∷ []) (split_at k slot split leaf) refl

    alone : UpTo NoRoot 13
    alone = (
      leaf_root 0 refl refl,
      (
        leaf_root 1 refl refl,
        (
          leaf_root 2 refl refl,
          (
            leaf_root 3 refl refl,
            (
              leaf_root 4 refl refl,
              (
                leaf_root 5 refl refl,
                (
                  leaf_root 6 refl refl,
                  (
                    leaf_root 7 refl refl,
                    (
                      leaf_root 8 refl refl,
                      (leaf_root 9 refl refl, (leaf_root 10 refl refl, (leaf_root 11 refl refl, (leaf_root 12 refl refl, leaf_root 13 refl refl)))),
                    ),
                  ),
                ),
              ),
            ),
          ),
        ),
      ),
    )

    split : UpTo (behind 13 NoRoot) 2
    split = (split_root 14 refl refl refl, (split_root 15 refl refl refl, split_root 16 refl refl refl))

pub index_level : IsLevel small page_life 19 1 (index_above ∷ [])
index_level = (
  3,
  (17, omega arith, refl, (root ∷ [], record { page = lit< tt; linked = lit< tt; records = (refl, refl) }, refl), not_yet),
  (refl, record { page = lit< tt; linked = lit< tt; records = (refl, (refl, refl)) }, refl),
)

pub index_whole : IsWhole (index_above ∷ [])
index_whole = (refl, refl)

pub has_held_term : HasTerm small page_life (index_above ∷ []) (codes "m") 2 true
has_held_term = (index_above, (0, lit< tt, refl), refl, refl)
