-- The opening memory meets the invariant: one empty leaf, which is the root.
use Rattle.tree_law.proofs.Words.{false, ap, refl, cond, Option, suc, None, inl, inr, ◌∷◌, sym, ℕ, ◌≡◌, Bool, arith, Some, nat_tests, Limits, empty_leaf, opening, Base, nothing, Key, Free}
use Rattle.tree_law.proofs.Words.{Linked, Owners, Nobody, Placed, Indexed, put, shared_part, slot_in, row_in, Shared, IsTree, spec, Level, IsOff, SidePage, []}
use Rattle.std.specs.Prelude.{nat_le}
use Rattle.tree_law.proofs.shape.Puts.{by_equal}

module _ (free free_pages : ℕ → Bool) (taken : free 1 ≡ false) (taken_page : free_pages 1 ≡ false) where
  abbrev start : Shared
  start = record { root = 1; slots = put (λ p. None) 1 (Some 1); rows = put (λ r. None) 1 (Some (Base empty_leaf)); free = free; free_pages = free_pages }

  abbrev pub o : Owners
  o = record { row = put (λ r. Free) 1 Linked; page = put (λ p. Nobody) 1 (Placed Indexed 0 []); index = λ l s. None }

  abbrev leaf : SidePage
  leaf = record { page = 1; row = 1; chain = Base empty_leaf ∷ [] }

  leaves : Level o start 0 (spec [] o.index 0) 1
  leaves = record {
    side = leaf ∷ [];
    whole = (
      refl,
      refl,
      record {
        stage = Indexed;
        placed = refl;
        on = omega arith;
        flagged = refl;
        linked = refl;
        is_page = record
            { head = refl; is_chain = (refl, refl); on_level = refl; some = refl; same = λ k v. refl };
      },
      (refl, refl),
    );
    listed = λ p s st. by_equal p 1 (λ i t. rw t λ e on. inl (sym i)) (λ ne t. rw t λ e on. absurd (cc));
  }

  nobody : {l : ℕ} {s : Key} → IsOff Nobody l s → ⊥
  nobody (inl e) = absurd (cc)
  nobody (inr e) = absurd (cc e.1)

  none : {l : ℕ} {s : Key} → IsOff (Placed Indexed 0 []) l s → ⊥
  none (inl e) = absurd (cc)
  none (inr e) = absurd (cc e.1)

  starts : IsTree start [] o (λ a. nothing) (λ a. None) (λ a. [])
  starts = record {
    frees = record {
      row = λ r h. by_equal r 1 (λ i t. rw t (absurd (cc))) (λ ne t. rw t);
      page = λ r h. by_equal r 1 (λ i t. rw t (absurd (cc))) (λ ne t. rw t (refl, refl));
    };
    closed = λ r l. by_equal r 1
        (λ i t. rw i (record { linked = refl; content = Base empty_leaf; stands = refl; next = tt; rest = []; is_rest = refl }))
        (λ ne t. absurd (let e = rw t at l in cc));
    tree = record {
      top = 0;
      first = λ l. 1;
      leaf = refl;
      root = refl;
      levels = λ l le. let z : 0 ≡ l = omega arith in rw (← z) leaves;
      exact = record {
        below = λ q l s st. by_equal q 1 (λ i t. rw t λ e. (let f : 0 ≡ l = cc in omega arith)) (λ i t. rw t λ e. absurd (cc));
        posted = λ q l s st i e lt. absurd (omega arith);
        named = λ l s i e. absurd (cc);
        others = λ q s st. by_equal q 1 (λ i t. rw t λ e ne. absurd (ne i)) (λ i t. rw t λ e ne. absurd (cc));
        gone = λ q a l s. by_equal q 1 (λ i t. rw t λ e. absurd (cc)) (λ i t. rw t λ e. absurd (cc));
        is_root = refl;
      };
      off = λ q l s. by_equal q 1 (λ i t. rw t λ e. absurd (none e)) (λ i t. rw t λ e. absurd (nobody e));
    };
    owns = λ a r. tt;
    owns_pages = λ a p. tt;
    sound = λ a. record { seen_fits = λ r. tt; learnt_fits = λ r e. absurd (cc); roots_fit = λ p e. absurd (cc); heads_fit = λ p. tt; orders_fit = λ p f. tt; linked_fits = refl };
  }

pub opening_slots : (limits : Limits) → slot_in (opening limits).slots ≡ put (λ p. None) 1 (Some 1)
opening_slots limits = λ d p. at p d
  where
    at : (p : ℕ) → slot_in (opening limits).slots p ≡ put {X = Option ℕ} (λ p. None) 1 (Some 1) p
    at (suc (suc p)) =
        let above : (p : ℕ) → nat_le (suc (suc p)) 1 ≡ false = λ p. grind (arith, nat_tests) in
        by_equal (suc (suc p)) 1 (λ e is. rw is (absurd (cc))) (λ ne is. rw is (ap (λ t. row_in (cond t 1 0)) (above p)))
    at p = refl

abbrev pub opening_owners : Limits → Owners
opening_owners limits = o (opening limits).free_rows (opening limits).free_pids refl refl

pub opening_tree : (limits : Limits) → IsTree (shared_part (opening limits)) [] (opening_owners limits) (λ a. nothing) (λ a. None) (λ a. [])
opening_tree limits = rw (opening_slots limits) (starts (opening limits).free_rows (opening limits).free_pids refl refl)

pub opens : (limits : Limits) → (o : Owners) × IsTree (shared_part (opening limits)) [] o (λ a. nothing) (λ a. None) (λ a. [])
opens limits = (opening_owners limits, opening_tree limits)
