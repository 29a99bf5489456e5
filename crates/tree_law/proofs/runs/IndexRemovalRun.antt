-- Each step of the run in which an index page is removed is allowed.
use Rattle.tree_law.proofs.Words.{false, [], refl, None, true, inl, inr, ◌∷◌, ℕ, ◌≡◌, ◌≤◌, List, Bool, arith, Some, take, drop, lit<, All-from_recursion, IsPage-from, Page, IsPage, IsRuled}
use Rattle.tree_law.proofs.Words.{held_count, Child, Item, Applies, HasPid, FitsOn, IsFitted, IsBelow, IsFalse, content_at, MayAdd, MayRoot, IsMet, IsDisciplined, MayReply, knows, Knowledge}
use Rattle.tree_law.proofs.Words.{Ready, Empty, OwnPage, Other, small, root_a, a, two_splits, upper_b, second_split, Key, is_below}
use Rattle.std.specs.List.Sorted.{IsStrictlySortedBy}
use Rattle.bw_model.specs.declared.command.Reply.TheVariants as reply
use Rattle.traces.proofs.UnheldLaws.{unheld_at}
use Rattle.tree_law.specs.Example.{get_a}
use Rattle.tree_law.specs.IndexRemoval.{upper_term, upper_index, index_split, higher_root, index_hold, index_remove, index_removal}
use Rattle.tree_law.proofs.shape.KeyOrder.{by_key, by_below, not_self}
use Rattle.tree_law.proofs.runs.LinkFits.{first, both, linked, root_makes}
use Rattle.tree_law.proofs.runs.Linking.{whole, adds}
use Rattle.tree_law.proofs.runs.Making.{base_makes, fits_over}
use Rattle.tree_law.proofs.runs.SplitRun.{became, splits_twice}
use Rattle.tree_law.proofs.runs.Standing.{◌▸◌, disciplined, joined}
use Rattle.tree_law.proofs.runs.Unset.{is_unset}

-- what an actor knows before entry n
abbrev before : ℕ → ℕ → Knowledge
before n actor = knows (take n index_removal) actor

-- what became of the pages that the first actor took, newest first
abbrev became_of : List (ℕ × OwnPage)
became_of = (6, Other) ∷ (6, Ready 9) ∷ (6, Empty) ∷ (5, Other) ∷ (5, Ready 7) ∷ (5, Empty) ∷ became

-- the halves of the root that is split, and the root over them
abbrev lower : Page
lower = record { level = 1; low = []; high = Some a; right = Some 5; removed = false; items = first ∷ [] }

abbrev upper : Page
upper = record { level = 1; low = a; high = None; right = None; removed = false; items = upper_term ∷ [] }

abbrev higher : Bool → Page
higher held = record { level = 2; low = []; high = None; right = None; removed = false; items = record { key = []; content = Child 3 false } ∷ record { key = a; content = Child 5 held } ∷ [] }

lower_page : IsPage lower
unfolding IsStrictlySortedBy
lower_page = IsPage-from lower refl (record { few = omega arith; ascending = (tt, tt) }) (record { within = refl; kind = omega arith }, tt)

upper_page : IsPage upper
unfolding IsStrictlySortedBy
upper_page = IsPage-from upper refl (record { few = omega arith; ascending = (tt, tt) }) (record { within = refl; kind = omega arith }, tt)

higher_page : (held : Bool) → IsPage (higher held)
unfolding IsStrictlySortedBy
higher_page held =
    IsPage-from (higher held) refl (record { few = omega arith; ascending = ((refl, tt), (tt, tt)) }) (record { within = refl; kind = omega arith }, (record { within = refl; kind = omega arith }, tt))

lower_ruled : IsRuled lower
lower_ruled = record { is_page = lower_page; ends = refl; top = omega arith; terms = λ lt. record { first = (refl, refl); few = omega arith; apart = tt } }

upper_ruled : IsRuled upper
upper_ruled = record { is_page = upper_page; ends = refl; top = omega arith; terms = λ lt. record { first = (refl, refl); few = omega arith; apart = tt } }

removed_ruled : IsRuled (record upper { removed = true })
removed_ruled = record {
  is_page = record { spans = upper_page.spans; ordered = upper_page.ordered; within = upper_page.within; kinds = upper_page.kinds };
  ends = refl;
  top = omega arith;
  terms = λ lt. record { first = (refl, refl); few = omega arith; apart = tt };
}

higher_ruled : (held : Bool) → IsRuled (higher held)
higher_ruled held = record { is_page = higher_page held; ends = refl; top = omega arith; terms = λ lt. record { first = (refl, refl); few = few held; apart = (λ e. absurd (cc), tt) } }
  where
    few : (held : Bool) → held_count (higher held).items ≤ 4
    few true = omega arith
    few false = omega arith

upper_fitted : IsFitted (upper_index ∷ [])
upper_fitted =
    (upper, refl, record { ruled = upper_ruled; alive = refl; right = tt; children = All-from_recursion (λ (item : Item). HasPid item.content) upper.items ((omega arith, omega arith), tt) })

higher_fitted : IsFitted (higher_root ∷ [])
higher_fitted = (
  higher false,
  refl,
  record {
    ruled = higher_ruled false;
    alive = refl;
    right = tt;
    children = All-from_recursion (λ (item : Item). HasPid item.content)
        (higher false).items ((omega arith, omega arith), ((omega arith, omega arith), tt));
  },
)

-- below the separator the root decides as its lower half, and above as its upper one
below_alike : (key : Key) → IsBelow key a → content_at lower.items key ≡ content_at (both 2 false).items key
below_alike key below = by_key key a (λ same t. absurd (not_self a (rw same at below))) (λ ne t. rw t)

above_none : (key : Key) → IsFalse (is_below key a) → content_at lower.items key ≡ None
above_none [] above = absurd cc
above_none (byte ∷ bytes) above = refl

above_alike : (key : Key) → IsFalse (is_below key a) → content_at upper.items key ≡ content_at (both 2 false).items key
above_alike [] above = absurd cc
above_alike (byte ∷ bytes) above = refl

split_applies : Applies (both 2 false) index_split lower
split_applies = record {
  ascending = lower_page.ordered.ascending;
  contents = λ key. by_below key a (λ below. rw below (below_alike key below))
      (λ above. rw above (above_none key above));
  level = refl;
  low = refl;
  high = refl;
  right = refl;
  removed = refl;
}

hold_applies : Applies (higher false) index_hold (higher true)
hold_applies = record
    { ascending = (higher_page true).ordered.ascending; contents = λ key. by_key key a (λ same t. rw t (rw same)) (λ ne t. rw t); level = refl; low = refl; high = refl; right = refl; removed = refl }

remove_applies : Applies upper index_remove (record upper { removed = true })
remove_applies = record { ascending = upper_page.ordered.ascending; contents = λ key. refl; level = refl; low = refl; high = refl; right = refl; removed = refl }

-- each delta fits the page under it
split_fits : FitsOn (root_a ∷ []) index_split
split_fits = (
  fits_over root_makes (record { alive = refl; level = refl; covered = refl; inner = refl }) split_applies lower_ruled refl
      (linked 1 5 a 5 (omega arith) (omega arith, omega arith) (λ e. cc) (omega arith, omega arith)),
  omega arith,
)

hold_fits : FitsOn (higher_root ∷ []) index_hold
hold_fits = (
  fits_over (base_makes (higher false) (higher_page false) refl) (record { alive = refl; level = refl; there = refl }) hold_applies (higher_ruled true) refl
      (omega arith, (linked 2 9 a 5 (omega arith) (omega arith, omega arith) (λ e. cc) (omega arith, omega arith))),
  omega arith,
)

remove_fits : FitsOn (upper_index ∷ []) index_remove
remove_fits = (
  fits_over (base_makes upper upper_page refl) (record { alive = refl; level = refl; few = omega arith; inner = refl }) remove_applies removed_ruled refl
      (omega arith, (omega arith, omega arith)),
  omega arith,
)

-- the split, the root, the hold and the removal
splits : MayAdd 0 (before 44 0) 3 5 8
splits = adds (whole (root_a ∷ []) (refl, refl) refl refl) index_split refl split_fits
    (record
    { separator = a; above = refl; below = refl; right = 5; row = 7; ready = refl; items = upper_term ∷ []; alike = λ key c n. above_alike key n; base = refl; ruled = upper_fitted; is = refl })
    (is_unset (drop 4 became_of) refl)

roots : MayRoot (before 49 0) 3 6
roots = record {
  row = 8;
  basis = whole (index_split ∷ root_a ∷ []) (refl, (refl, refl)) refl refl;
  right = 5;
  is_right = refl;
  separator = a;
  is_high = refl;
  some = refl;
  base_row = 9;
  ready = refl;
  base = refl;
  ruled = higher_fitted;
}

holds : MayAdd 0 (before 53 0) 6 9 10
holds = adds (whole (higher_root ∷ []) (refl, refl) refl refl) index_hold refl hold_fits
    (record { level = 1; is_level = refl; key = a; covers = refl; child = 5; present = refl; is = refl })
    (is_unset became_of refl)

right_of_lower : IsMet (before 56 0) 5
right_of_lower = record { other = 3; row = 8; basis = whole (index_split ∷ root_a ∷ []) (refl, (refl, refl)) refl refl; named = inl refl }

removes : MayAdd 0 (before 58 0) 5 7 11
removes = adds (whole (upper_index ∷ []) (refl, refl) refl refl) index_remove refl remove_fits
    (record {
      parent = 6;
      row = 10;
      above = whole (index_hold ∷ higher_root ∷ []) (refl, (refl, refl)) refl refl;
      level = refl;
      covers = refl;
      held = refl;
      unheld = unheld_at (upper_term ∷ []) refl;
      is = refl;
    })
    (is_unset became_of refl)

-- the second actor's way: to the removed page, to the one on its left, and to a child of the removed one
held_child : IsMet (before 66 1) 5
held_child = record { other = 6; row = 10; basis = whole (index_hold ∷ higher_root ∷ []) (refl, (refl, refl)) refl refl; named = inr (inl (1, a, true, refl, refl, refl)) }

left_child : IsMet (before 69 1) 3
left_child = record { other = 6; row = 10; basis = whole (index_hold ∷ higher_root ∷ []) (refl, (refl, refl)) refl refl; named = inr (inl (1, [], false, refl, refl, refl)) }

child_beyond : IsMet (before 72 1) 2
child_beyond = record {
  other = 3;
  row = 8;
  basis = whole (index_split ∷ root_a ∷ []) (refl, (refl, refl)) refl refl;
  named =
      inr (inr (record
      { removed = 5; row = 11; chain = index_remove ∷ upper_index ∷ []; right = refl; order = refl; read = (refl, (refl, refl)); gone = refl; named = inr (0, a, false, refl, refl, refl) }));
}

none_there : MayReply small 1 (before 75 1) reply.None
none_there = record {
  command = get_a;
  going = refl;
  justified = inl
      (record { row = 3; chain = second_split ∷ upper_b ∷ []; read = (refl, (refl, refl)); leaf = refl; covers = refl; is = refl; basis = inr (refl, inl ((2, refl), refl), refl) });
}

-- The first actor splits the root, puts one over both halves, holds the upper one's term and removes that page; the second one goes round it,
-- and through it.
pub index_removal_disciplined : IsDisciplined small index_removal
index_removal_disciplined = joined small [] two_splits (drop 32 index_removal) splits_twice (disciplined two_splits (drop 32 index_removal) refl refl (
    (refl, tt, is_unset became refl) ▸ (refl, tt, is_unset became refl) ▸ (refl, tt, is_unset became refl) ▸ (refl, tt, is_unset became refl) ▸ (refl, tt, is_unset became refl)
    ▸ (refl, (refl, tt, is_unset (drop 5 became_of) refl))
    ▸ (refl, splits)
    ▸ (refl, (refl, tt, is_unset (drop 2 became_of) refl))
    ▸ (refl, roots)
    ▸ (refl, holds)
    ▸ (refl, inr right_of_lower)
    ▸ (refl, removes)
    ▸ (refl, lit< tt, refl)
    ▸ (refl, inr held_child)
    ▸ (refl, inr left_child)
    ▸ (refl, inr child_beyond)
    ▸ (refl, none_there)
    ▸ tt))
