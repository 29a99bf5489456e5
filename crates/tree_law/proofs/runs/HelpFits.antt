-- What each link of the helped split puts over a chain fits it.
use Rattle.tree_law.proofs.Words.{false, [], refl, Option, None, true, ◌≤◌, ◌∷◌, ℕ, Bool, arith, Some, All-from_recursion, IsPage-from, Page}
use Rattle.tree_law.proofs.Words.{IsPage, IsRuled, held_count, Child, Item, Applies, IsSpellablePage, HasPid, Split, Term, FitsOn, IsFitted, opening_leaf, right_term, root_a, a, hold_a}
use Rattle.tree_law.proofs.Words.{other_put, helped_term, Key, upper_b, second_split, first_split, upper_c, b}
use Rattle.std.specs.List.Sorted.{IsStrictlySortedBy}
use Rattle.tree_law.specs.HelpedSplit.{item_b}
use Rattle.tree_law.proofs.shape.KeyOrder.{by_key, by_below}
use Rattle.tree_law.proofs.runs.LinkFits.{leaf, leaf_page, leaf_ruled, first, alone, both, linked, root_makes, hold_makes}
use Rattle.tree_law.proofs.runs.Making.{base_makes, fits_over}

pub leaf_splits : (low : Key) (high : Option Key) (right : Option ℕ) (next page : ℕ) (key : Key)
    → Applies (leaf low high right) (Split (record { level = 0; next = next; separator = key; page = page })) (leaf low (Some key) (Some page))
unfolding IsStrictlySortedBy
leaf_splits low high right next page key = record
    { ascending = tt; contents = λ k. by_below k key (λ below. rw below) (λ above. rw above); level = refl; low = refl; high = refl; right = refl; removed = refl }

-- the leaf with the key put, and the root with its term
abbrev put : Page
put = record { level = 0; low = b; high = None; right = None; removed = false; items = item_b ∷ [] }

put_page : IsPage put
unfolding IsStrictlySortedBy
put_page = IsPage-from put refl (record { few = omega arith; ascending = (tt, tt) }) (record { within = refl; kind = refl }, tt)

abbrev third : Item
third = record { key = b; content = Child 4 false }

abbrev pub grown : Bool → Page
grown held = record alone { items = first ∷ record { key = a; content = Child 2 held } ∷ third ∷ [] }

grown_page : (held : Bool) → IsPage (grown held)
unfolding IsStrictlySortedBy
grown_page held =
    IsPage-from (grown held) refl (record { few = omega arith; ascending = ((refl, (refl, tt)), ((refl, tt), (tt, tt))) })
    (record { within = refl; kind = omega arith }, (record { within = refl; kind = omega arith }, (record { within = refl; kind = omega arith }, tt)))

grown_ruled : (held : Bool) → IsRuled (grown held)
grown_ruled held = record { is_page = grown_page held; ends = refl; top = omega arith; terms = λ lt. record { first = (refl, refl); few = few held; apart = (λ e. absurd (cc), (λ e. refl, tt)) } }
  where
    few : (held : Bool) → held_count (grown held).items ≤ 4
    few true = omega arith
    few false = omega arith

put_applies : Applies (leaf b None None) other_put put
put_applies = record { ascending = put_page.ordered.ascending; contents = λ key. refl; level = refl; low = refl; high = refl; right = refl; removed = refl }

pub term_applies : (held : Bool) (next : ℕ) → Applies (both 2 held) (Term (record { level = 1; next = next; separator = b; child = 4 })) (grown held)
term_applies held next = record {
  ascending = (grown_page held).ordered.ascending;
  contents = λ key. by_key key b
      (λ same t. rw t (rw same)) (λ ne t. rw t);
  level = refl;
  low = refl;
  high = refl;
  right = refl;
  removed = refl;
}

pub first_fits : FitsOn (opening_leaf ∷ []) first_split
first_fits = (
  fits_over (base_makes (leaf [] None None) (leaf_page [] None None refl) refl) (record { alive = refl; level = refl; covered = refl; inner = refl })
      (leaf_splits [] None None 1 2 a) (leaf_ruled [] (Some a) (Some 2) refl refl) refl
      (linked 0 1 a 2 (omega arith) (omega arith, omega arith) (λ e. cc) (omega arith, omega arith)),
  omega arith,
)

pub second_fits : FitsOn (upper_b ∷ []) second_split
second_fits = (
  fits_over (base_makes (leaf a None None) (leaf_page a None None refl) refl) (record { alive = refl; level = refl; covered = refl; inner = refl })
      (leaf_splits a None None 2 4 b) (leaf_ruled a (Some b) (Some 4) refl refl) refl
      (linked 0 2 b 4 (omega arith) (omega arith, omega arith) (λ e. cc) (omega arith, omega arith)),
  omega arith,
)

pub term_fits : FitsOn (root_a ∷ []) helped_term
term_fits = (
  fits_over root_makes (record { alive = refl; level = refl; index = omega arith; covered = refl; absent = refl; room = omega arith }) (term_applies false 5)
      (grown_ruled false) refl (omega arith, (linked 1 5 b 4 (omega arith) (omega arith, omega arith) (λ e. cc) (omega arith, omega arith))),
  omega arith,
)

pub right_fits : FitsOn (hold_a ∷ root_a ∷ []) right_term
right_fits = (
  fits_over hold_makes (record { alive = refl; level = refl; index = omega arith; covered = refl; absent = refl; room = omega arith }) (term_applies true 7)
      (grown_ruled true) refl (omega arith, (linked 1 7 b 4 (omega arith) (omega arith, omega arith) (λ e. cc) (omega arith, omega arith))),
  omega arith,
)

pub put_fits : FitsOn (upper_c ∷ []) other_put
put_fits = (
  fits_over (base_makes (leaf b None None) (leaf_page b None None refl) refl) (record { alive = refl; leaf = refl; covered = refl; room = λ e. omega arith })
      put_applies (record { is_page = put_page; ends = refl; top = omega arith; terms = λ lt. absurd (omega arith) }) refl (omega arith, omega arith),
  omega
      arith,
)

-- the bases of the new pages
leaf_stands : (low : Key) → IsSpellablePage (leaf low None None)
leaf_stands low = record { ruled = leaf_ruled low None None refl refl; alive = refl; right = tt; children = All-from_recursion (λ (item : Item). HasPid item.content) [] tt }

pub first_ruled : IsFitted (upper_b ∷ [])
first_ruled = (leaf a None None, refl, leaf_stands a)

pub second_ruled : IsFitted (upper_c ∷ [])
second_ruled = (leaf b None None, refl, leaf_stands b)
