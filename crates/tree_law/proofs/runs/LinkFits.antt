-- What each link of the run puts over a chain fits it.
use Rattle.tree_law.proofs.Words.{false, [], refl, Option, None, true, ◌≢◌, ◌≤◌, ◌∷◌, sym, ℕ, ◌≡◌, Bool, arith, Some, All-from_recursion, is_eq, if◌then◌else◌, IsTrue, is_some}
use Rattle.tree_law.proofs.Words.{key_cmp, is_under, IsPage-from, empty_leaf, Page, content_at, IsPage, IsRuled, held_count, ContentOf, Child, Item, Applies, IsSpellablePage, HasPid, FitsOn, IsFitted}
use Rattle.tree_law.proofs.Words.{Makes, opening_leaf, put_a, split_a, term_b, item_a, base_b, unterm_a, split_b, upper_a, deletion_a, merge_a, root_a, a, hold_a, remove_a, Key, IsBelow}
use Rattle.std.specs.List.Sorted.{IsStrictlySortedBy}
use Rattle.deltas.specs.Spellable.{IsPid, IsRow, IsSpellableLink}
use Rattle.tree_law.proofs.shape.KeyOrder.{by_key, by_below, by_range, not_self}
use Rattle.tree_law.proofs.runs.Making.{base_makes, over_makes, fits_over}

-- an empty leaf over a range
abbrev pub leaf : Key → Option Key → Option ℕ → Page
leaf low high right = record { level = 0; low = low; high = high; right = right; removed = false; items = [] }

-- the pages of the run: a leaf with the item over all keys, one that ends at its key, and one that begins there
abbrev full : Page
full = record empty_leaf { items = item_a ∷ [] }

abbrev lower : ℕ → Page
lower right = leaf [] (Some a) (Some right)

abbrev upper : Page
upper = record full { low = a }

-- index pages: with the first term alone, and with one at the key
abbrev pub first : Item
first = record { key = []; content = Child 1 false }

abbrev pub alone : Page
alone = record { level = 1; low = []; high = None; right = None; removed = false; items = first ∷ [] }

abbrev pub both : ℕ → Bool → Page
both child held = record alone { items = first ∷ record { key = a; content = Child child held } ∷ [] }

pub leaf_page : (low : Key) (high : Option Key) (right : Option ℕ) → IsTrue (is_under low high) → IsPage (leaf low high right)
unfolding IsStrictlySortedBy
leaf_page low high right spans = IsPage-from (leaf low high right) spans (record { few = omega arith; ascending = tt }) tt

pub leaf_ruled : (low : Key) (high : Option Key) (right : Option ℕ) → IsTrue (is_under low high) → is_some right ≡ is_some high → IsRuled (leaf low high right)
leaf_ruled low high right spans ends = record { is_page = leaf_page low high right spans; ends = ends; top = omega arith; terms = λ lt. absurd (omega arith) }

full_page : IsPage full
unfolding IsStrictlySortedBy
full_page = IsPage-from full refl (record { few = omega arith; ascending = (tt, tt) }) (record { within = refl; kind = refl }, tt)

upper_page : IsPage upper
unfolding IsStrictlySortedBy
upper_page = IsPage-from upper refl (record { few = omega arith; ascending = (tt, tt) }) (record { within = refl; kind = refl }, tt)

alone_page : IsPage alone
unfolding IsStrictlySortedBy
alone_page = IsPage-from alone refl (record { few = omega arith; ascending = (tt, tt) }) (record { within = refl; kind = omega arith }, tt)

both_page : (child : ℕ) (held : Bool) → IsPage (both child held)
unfolding IsStrictlySortedBy
both_page child held =
    IsPage-from (both child held) refl (record { few = omega arith; ascending = ((refl, tt), (tt, tt)) })
    (record { within = refl; kind = omega arith }, (record { within = refl; kind = omega arith }, tt))

full_ruled : IsRuled full
full_ruled = record { is_page = full_page; ends = refl; top = omega arith; terms = λ lt. absurd (omega arith) }

lower_ruled : (right : ℕ) → IsRuled (lower right)
lower_ruled right = leaf_ruled [] (Some a) (Some right) refl refl

upper_ruled : IsRuled upper
upper_ruled = record { is_page = upper_page; ends = refl; top = omega arith; terms = λ lt. absurd (omega arith) }

removed_ruled : IsRuled (record upper { removed = true })
removed_ruled = record {
  is_page = record { spans = upper_page.spans; ordered = upper_page.ordered; within = upper_page.within; kinds = upper_page.kinds };
  ends
      = refl;
  top = omega arith;
  terms = λ lt. absurd (omega arith);
}

alone_ruled : IsRuled alone
alone_ruled = record { is_page = alone_page; ends = refl; top = omega arith; terms = λ lt. record { first = (refl, refl); few = omega arith; apart = tt } }

both_ruled : (child : ℕ) (held : Bool) → IsRuled (both child held)
both_ruled child held = record {
  is_page = both_page child held;
  ends = refl;
  top = omega arith;
  terms = λ lt. record { first = (refl, refl); few = few held; apart = (λ e. absurd (cc), tt) };
}
  where
    few : (held : Bool) → held_count (both child held).items ≤ 4
    few true = omega arith
    few false = omega arith

-- what a row can spell
upper_stands : IsSpellablePage upper
upper_stands = record { ruled = upper_ruled; alive = refl; right = tt; children = All-from_recursion (λ (item : Item). HasPid item.content) upper.items (tt, tt) }

pub linked : (level next : ℕ) (key : Key) (page : ℕ) → level ≤ 15 → IsRow next → key ≢ [] → IsPid page → IsSpellableLink level next key page
linked level next key page top over above names = record { top = top; over = over; above = above; names = names }

-- below the key the item is not
below_none : (key : Key) → IsBelow key a → content_at (item_a ∷ []) key ≡ None
below_none key below = by_key key a (λ same t. rw t (absurd (not_self a (rw same at below)))) (λ ne t. rw t)

put_applies : Applies empty_leaf put_a full
unfolding IsStrictlySortedBy
put_applies = record { ascending = (tt, tt); contents = λ key. refl; level = refl; low = refl; high = refl; right = refl; removed = refl }

split_applies : Applies full split_a (lower 2)
unfolding IsStrictlySortedBy
split_applies = record
    { ascending = tt; contents = λ key. by_below key a (λ below. rw below (sym (below_none key below))) (λ above. rw above); level = refl; low = refl; high = refl; right = refl; removed = refl }

second_applies : Applies full split_b (lower 4)
unfolding IsStrictlySortedBy
second_applies = record
    { ascending = tt; contents = λ key. by_below key a (λ below. rw below (sym (below_none key below))) (λ above. rw above); level = refl; low = refl; high = refl; right = refl; removed = refl }

merge_applies : Applies (lower 2) merge_a full
unfolding IsStrictlySortedBy
merge_applies = record
    { ascending = (tt, tt); contents = λ key. by_range a key None refl (λ above t. rw t) (λ below t. rw t (below_none key below)); level = refl; low = refl; high = refl; right = refl; removed = refl }

remove_applies : Applies upper remove_a (record upper { removed = true })
unfolding IsStrictlySortedBy
remove_applies = record { ascending = (tt, tt); contents = λ key. refl; level = refl; low = refl; high = refl; right = refl; removed = refl }

deletion_applies : Applies upper deletion_a (leaf a None None)
unfolding IsStrictlySortedBy
deletion_applies = record { ascending = tt; contents = λ key. by_key key a (λ same t. rw t) (λ ne t. rw t); level = refl; low = refl; high = refl; right = refl; removed = refl }

-- the term at the key is changed, taken out, and put in
changed : (old new : ContentOf) (key : Key)
    → content_at (first ∷ record { key = a; content = new } ∷ []) key ≡ (if is_eq (key_cmp key a) then Some new else content_at (first ∷ record { key = a; content = old } ∷ []) key)
changed old new key = by_key key a
    (λ same t. rw t (rw same)) (λ ne t. rw t)

taken : (old : ContentOf) (key : Key) → content_at (first ∷ []) key ≡ (if is_eq (key_cmp key a) then None else content_at (first ∷ record { key = a; content = old } ∷ []) key)
taken old key = by_key key a
    (λ same t. rw t (rw same)) (λ ne t. rw t)

given : (new : ContentOf) (key : Key) → content_at (first ∷ record { key = a; content = new } ∷ []) key ≡ (if is_eq (key_cmp key a) then Some new else content_at (first ∷ []) key)
given new key = by_key key a
    (λ same t. rw t (rw same)) (λ ne t. rw t)

hold_applies : Applies (both 2 false) hold_a (both 2 true)
hold_applies = record { ascending = (both_page 2 true).ordered.ascending; contents = changed (Child 2 false) (Child 2 true); level = refl; low = refl; high = refl; right = refl; removed = refl }

unterm_applies : Applies (both 2 true) unterm_a alone
unterm_applies = record { ascending = alone_page.ordered.ascending; contents = taken (Child 2 true); level = refl; low = refl; high = refl; right = refl; removed = refl }

term_applies : Applies alone term_b (both 4 false)
term_applies = record { ascending = (both_page 4 false).ordered.ascending; contents = given (Child 4 false); level = refl; low = refl; high = refl; right = refl; removed = refl }

leaf_makes : Makes (opening_leaf ∷ []) empty_leaf
leaf_makes = base_makes empty_leaf (leaf_page [] None None refl) refl

put_makes : Makes (put_a ∷ opening_leaf ∷ []) full
put_makes = over_makes leaf_makes put_applies

split_makes : Makes (split_a ∷ put_a ∷ opening_leaf ∷ []) (lower 2)
split_makes = over_makes put_makes split_applies

merge_makes : Makes (merge_a ∷ split_a ∷ put_a ∷ opening_leaf ∷ []) full
merge_makes = over_makes split_makes merge_applies

pub root_makes : Makes (root_a ∷ []) (both 2 false)
root_makes = base_makes (both 2 false) (both_page 2 false) refl

pub hold_makes : Makes (hold_a ∷ root_a ∷ []) (both 2 true)
hold_makes = over_makes root_makes hold_applies

unterm_makes : Makes (unterm_a ∷ hold_a ∷ root_a ∷ []) alone
unterm_makes = over_makes hold_makes unterm_applies

pub put_fits : FitsOn (opening_leaf ∷ []) put_a
put_fits = (fits_over leaf_makes (record { alive = refl; leaf = refl; covered = refl; room = λ e. omega arith }) put_applies full_ruled refl (omega arith, omega arith), omega arith)

pub split_fits : FitsOn (put_a ∷ opening_leaf ∷ []) split_a
split_fits = (
  fits_over put_makes (record { alive = refl; level = refl; covered = refl; inner = refl }) split_applies (lower_ruled 2) refl
      (linked 0 2 a 2 (omega arith) (omega arith, omega arith) (λ e. cc) (omega arith, omega arith)),
  omega arith,
)

pub hold_fits : FitsOn (root_a ∷ []) hold_a
hold_fits = (
  fits_over root_makes (record { alive = refl; level = refl; there = refl }) hold_applies (both_ruled 2 true) refl
      (omega arith, (linked 1 5 a 2 (omega arith) (omega arith, omega arith) (λ e. cc) (omega arith, omega arith))),
  omega arith,
)

pub remove_fits : FitsOn (upper_a ∷ []) remove_a
remove_fits = (
  fits_over (base_makes upper upper_page refl) (record { alive = refl; level = refl; few = omega arith; inner = refl }) remove_applies removed_ruled refl
      (omega arith, (omega arith, omega arith)),
  omega arith,
)

pub merge_fits : FitsOn (split_a ∷ put_a ∷ opening_leaf ∷ []) merge_a
merge_fits = (
  fits_over split_makes (record { alive = refl; level = refl; meets = refl; merged = upper_stands.ruled.is_page; room = omega arith }) merge_applies
      full_ruled refl ((omega arith, omega arith), (λ e. cc), omega arith, upper_stands),
  omega arith,
)

pub unterm_fits : FitsOn (hold_a ∷ root_a ∷ []) unterm_a
unterm_fits = (
  fits_over hold_makes (record { alive = refl; level = refl; there = refl }) unterm_applies alone_ruled refl
      (omega arith, (linked 1 6 a 2 (omega arith) (omega arith, omega arith) (λ e. cc) (omega arith, omega arith))),
  omega arith,
)

pub second_fits : FitsOn (merge_a ∷ split_a ∷ put_a ∷ opening_leaf ∷ []) split_b
second_fits = (
  fits_over merge_makes (record { alive = refl; level = refl; covered = refl; inner = refl }) second_applies (lower_ruled 4) refl
      (linked 0 8 a 4 (omega arith) (omega arith, omega arith) (λ e. cc) (omega arith, omega arith)),
  omega arith,
)

pub term_fits : FitsOn (unterm_a ∷ hold_a ∷ root_a ∷ []) term_b
term_fits = (
  fits_over unterm_makes (record { alive = refl; level = refl; index = omega arith; covered = refl; absent = refl; room = omega arith }) term_applies
      (both_ruled 4 false) refl (omega arith, (linked 1 9 a 4 (omega arith) (omega arith, omega arith) (λ e. cc) (omega arith, omega arith))),
  omega arith,
)

pub deletion_fits : FitsOn (base_b ∷ []) deletion_a
deletion_fits = (
  fits_over (base_makes upper upper_page refl) (record { alive = refl; leaf = refl; covered = refl }) deletion_applies (leaf_ruled a None None refl refl)
      refl (omega arith, omega arith),
  omega arith,
)

-- the bases of the upper pages, and of the root
pub upper_fitted : IsFitted (upper_a ∷ [])
upper_fitted = (upper, refl, upper_stands)

pub root_fitted : IsFitted (root_a ∷ [])
root_fitted = (
  both 2 false,
  refl,
  record {
    ruled = both_ruled 2 false;
    alive = refl;
    right = tt;
    children = All-from_recursion (λ (item : Item). HasPid item.content)
        (both 2 false).items ((omega arith, omega arith), ((omega arith, omega arith), tt));
  },
)
