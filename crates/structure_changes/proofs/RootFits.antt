-- A new root keeps the rules of a page.
use Rattle.std.specs.List.Sorted.{IsStrictlySortedBy}
use Rattle.structure_changes.proofs.Words.{◌≡◌, ◌<◌, ◌≤◌, ℕ, suc, List, [], ◌∷◌, Bool, true, false, Some, None, refl, ap, ◌∙◌, arith, if◌then◌else◌, IsTrue, is_eq}
use Rattle.structure_changes.proofs.Words.{All-from_recursion, key_cmp, is_below, is_in_range, Content, Child, Item, Page, IsAscending, IsOfLevel, content_at}
use Rattle.structure_changes.proofs.Words.{below_from, same, HasPid, IsPid, IsSpellablePage, low_in, level_in, IsFitted, items_unique, ruled, Version, IsNextTo}
use Rattle.deltas.specs.declared.record.Record.TheVariants as kind
use Rattle.traces.specs.discipline.Discipline.{root_over}
use Rattle.structure_changes.specs.Roots.{CanRoot, IsRootPlan}
use Rattle.structure_changes.proofs.Places.{made}
use Rattle.structure_changes.proofs.Removed.{lowest_stands}

two_ascend : (page right : Content) (separator : List ℕ) → IsTrue (is_below [] separator) → IsAscending (record { key = []; content = page } ∷ record { key = separator; content = right } ∷ [])
unfolding IsStrictlySortedBy
two_ascend page right separator some = ((below_from [] separator some, tt), (tt, tt))

abbrev root_page : ℕ → ℕ → List ℕ → ℕ → Page
root_page level page separator right = record
    { level = level; low = []; high = None; right = None; removed = false; items = record { key = []; content = Child page false } ∷ record { key = separator; content = Child right false } ∷ [] }

pub root_stands : (level page : ℕ) (separator : List ℕ) (right : ℕ) → IsPid page → IsPid right → 0 < level → level ≤ 15 → IsTrue (is_below [] separator)
    → IsSpellablePage (root_page level page separator right)
root_stands level page separator right is_page is_right index top some =
    let items = (root_page level page separator right).items in
    record {
      ruled = record {
        is_page = record {
          spans = refl;
          ordered = record { few = omega arith; ascending = two_ascend (Child page false) (Child right false) separator some };
          within = All-from_recursion (λ (item : Item). IsTrue (is_in_range [] None item.key)) items (refl, (lowest separator, tt));
          kinds = All-from_recursion (λ (item : Item). IsOfLevel level item.content) items (index, (index, tt));
        };
        ends = refl;
        top = top;
        terms = λ over. record { first = (refl, refl); few = omega arith; apart = ((λ held. refl), tt) };
      };
      alive = refl;
      right = tt;
      children = All-from_recursion (λ (item : Item). HasPid item.content) items (is_page, (is_right, tt));
    }
  where
    lowest : (key : List ℕ) → IsTrue (is_in_range [] None key)
    lowest [] = refl
    lowest (x ∷ xs) = refl

-- what stands right of the page that begins at the empty key begins above it
pub some : (left right : Version) → IsFitted left.chain → low_in left.chain ≡ [] → IsNextTo left right → IsTrue (is_below [] (low_in right.chain))
some left right fitted lowest next_to =
    let (page, makes) = made left.chain fitted in
    let spans = rw (makes.high ∙ next_to.high) at (ruled left.chain page fitted makes).is_page.spans in
    rw (← makes.low ∙ lowest) spans

-- two items, put one after the other
pub two_items : (items : List Item) (page right : Content) (separator : List ℕ) → IsTrue (is_below [] separator) → IsAscending items
    → ((q : List ℕ) → content_at items q ≡ (if is_eq (key_cmp q separator) then Some right else (if is_eq (key_cmp q []) then Some page else None)))
    → items ≡ record { key = []; content = page } ∷ record { key = separator; content = right } ∷ []
two_items items page right separator above ascending contents = items_unique items _ ascending (two_ascend page right separator above) (λ q. contents q ∙ by_test q (is_eq (key_cmp q [])) refl)
  where
    apart : (q : List ℕ) → q ≡ [] → is_eq (key_cmp q separator) ≡ false
    apart q lowest = rw lowest (ap is_eq (below_from [] separator above))

    by_test : (q : List ℕ) (b : Bool) → is_eq (key_cmp q []) ≡ b
        → (if is_eq (key_cmp q separator) then Some right else (if is_eq (key_cmp q []) then Some page else None)) ≡ content_at
        (record { key = []; content = page } ∷ record { key = separator; content = right } ∷ []) q
    by_test q true e = rw (e, apart q (same q [] e)) refl
    by_test q false e = rw e refl

-- the plan of a root is one that may be linked
pub planned : (left right : Version) (root : Page) → IsFitted left.chain → kind.Base root ≡ root_over (suc (level_in left.chain)) left.pid (low_in right.chain) right.pid
    → CanRoot left right → IsRootPlan left right root
planned left right root fitted is can = record {
  can = can;
  stands = lowest_stands left.chain fitted can.lowest;
  is = is;
  fits = rw is (
    root_page (suc (level_in left.chain)) left.pid (low_in right.chain) right.pid,
    refl,
    root_stands (suc (level_in left.chain)) left.pid (low_in right.chain) right.pid left.is_pid right.is_pid (omega arith)
        (let top = can.top in omega (arith, top)) (some left right fitted can.lowest can.next_to),
  );
}
