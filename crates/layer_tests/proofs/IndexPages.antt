-- The two parts of a split index page, which tests make.
use Rattle.std.proofs.Common.{◌≡◌, codes, ◌≤◌, ◌<◌, ℕ, List, Option, [], ◌∷◌, false, None, Some, refl, arith}
use Rattle.std.specs.Prelude.{IsTrue, IfSome, is_some}
use Rattle.std.specs.List.Sorted.{IsStrictlySortedBy}
use Rattle.std.proofs.lemmas.List.Elements.{All-from_recursion}
use Rattle.bw_model.specs.Bytes.{is_in_range, is_under}
use Rattle.base_page.specs.declared.item.Content.TheVariants.{Child}
use Rattle.base_page.specs.declared.item.Item.{Item}
use Rattle.base_page.specs.Pages.{Page, IsOfLevel, IsPage}
use Rattle.base_page.proofs.KeyLaws.{itself}
use Rattle.deltas.specs.declared.record.Record.TheVariants.{Base}
use Rattle.deltas.specs.Spellable.{HasPid, IsPid}
use Rattle.traces.specs.chain.Fitted.{IsPageChain}

-- an index page that has a child at its low key
abbrev page_of : ℕ → List ℕ → Option (List ℕ) → Option ℕ → ℕ → Page
page_of level low high right child = record { level = level; low = low; high = high; right = right; removed = false; items = record { key = low; content = Child child false } ∷ [] }

one_is_page : (level : ℕ) (low : List ℕ) (high : Option (List ℕ)) (right : Option ℕ) (child : ℕ) → 0 < level → IsTrue (is_under low high)
    → IsTrue (is_in_range low high low) → IsPage (page_of level low high right child)
unfolding IsStrictlySortedBy
one_is_page level low high right child index spans within = record {
  spans = spans;
  ordered = record { few = omega arith; ascending = (tt, tt) };
  within = All-from_recursion (λ (item : Item). IsTrue (is_in_range low high item.key)) (page_of level low high right child).items (within, tt);
  kinds = All-from_recursion (λ (item : Item). IsOfLevel level item.content) (page_of level low high right child).items (index, tt);
}

-- It stands as a page's chain by itself.
one_stands : (level : ℕ) (low : List ℕ) (high : Option (List ℕ)) (right : Option ℕ) (child : ℕ) → IsPage (page_of level low high right child)
    → level ≤ 15 → is_some right ≡ is_some high → IfSome right IsPid → IsPid child → IsPageChain (Base (page_of level low high right child) ∷ [])
one_stands level low high right child is_page top ends named is_pid = record {
  fitted = (
    page_of level low high right child,
    refl,
    record {
      ruled = record { is_page = is_page; ends = ends; top = top; terms = λ above. record { first = (refl, refl); few = omega arith; apart = tt } };
      alive = refl;
      right = named;
      children = All-from_recursion (λ (item : Item). HasPid item.content) (page_of level low high right child).items (is_pid, tt);
    },
  );
  short = omega arith;
}

abbrev pub lower : ℕ → Page
lower level = page_of level [] (Some (codes "k09")) (Some 2) 1

pub lower_stands : (level : ℕ) → 0 < level → level ≤ 15 → IsPageChain (Base (lower level) ∷ [])
lower_stands level index top =
    one_stands level [] (Some (codes "k09")) (Some 2) 1 (one_is_page level [] (Some (codes "k09")) (Some 2) 1 index refl refl) top refl (omega arith, omega arith) (omega arith, omega arith)

within_itself : (low : List ℕ) → IsTrue (is_in_range low None low)
within_itself low = rw (itself low) refl

module _ (level : ℕ) (low : List ℕ) (child : ℕ) (index : 0 < level) where
  pub is_page : IsPage (page_of level low None None child)
  is_page = one_is_page level low None None child index refl (within_itself low)

  pub stands : level ≤ 15 → IsPid child → IsPageChain (Base (page_of level low None None child) ∷ [])
  stands top is_pid = one_stands level low None None child is_page top refl tt is_pid
