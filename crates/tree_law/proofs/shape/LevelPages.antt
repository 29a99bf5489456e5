-- All levels of a state stand, and each one's first page is the child at the empty key of the first page above it.
use Rattle.tree_law.proofs.Words.{false, ap, refl, suc, List, ◌∷◌, ◌≤◌, subst, sym, ℕ, ◌≡◌, ◌∙◌, ◌<◌, arith, Option, Some, Limits, ContentOf, Child, Value, Item, Memory, Record, IsChainOf}
use Rattle.tree_law.proofs.Words.{IsChainOf-unique, content_in, content_at, low_in, high_in, memory_of, log_of, Entry, Key, Covers, IsUnder, Indexed, rank, shared_part, IsState}
use Rattle.tree_law.proofs.Words.{spec, [], AllByRecursion, found_first, page_of, ruled}
use Rattle.std.proofs.lemmas.List.Elements.{recursion_from_All}
use Rattle.base_page.specs.Pages.{IsOfLevel}
use Rattle.base_page.specs.Rules.{IsFirstAt, is_held}
use Rattle.traces.specs.chain.Fitted.{IsPageChain}
use Rattle.tree_law.specs.LevelPages.{HasAllLevels}
use Rattle.tree_law.proofs.shape.Exactness.{first_only, first_page}
use Rattle.tree_law.proofs.shape.KeyOrder.{empty_lowest}
use Rattle.tree_law.proofs.shape.Leaves.{pages_on}
use Rattle.tree_law.proofs.shape.Mapping.{chain_of}
use Rattle.tree_law.proofs.links.Keeping.{indexed_mark}

-- an index page has a child at its low key, which isn't held
first_child : (level : ℕ) (low : Key) (items : List Item) → 0 < level → AllByRecursion (λ item. IsOfLevel level item.content) items → IsFirstAt low items
    → (child : ℕ) × (content_at items low ≡ Some (Child child false))
first_child level low [] above kinds first = absurd first
first_child level low (item ∷ items) above kinds first = go item.content kinds.0 first.1 refl
  where
    go : (content : ContentOf) → IsOfLevel level content → is_held content ≡ false → item.content ≡ content → (child : ℕ) × (content_at (item ∷ items) low ≡ Some (Child child false))
    go (Value value) kind free e = absurd (omega (arith, above, kind))
    go (Child page held) kind free e = (page, rw (← first.0) (found_first item items ∙ ap Some (e ∙ ap (λ h. Child page h) free)))

from_empty : (c : List Record) → low_in c ≡ [] → IsUnder (low_in c) (high_in c) → Covers c []
from_empty c e some = record { low = rw e (empty_lowest []); high = rw e at some }

module _ (limits : Limits) (entries : List Entry) (state : IsState limits entries) where
  abbrev memory : Memory
  memory = memory_of limits entries

  abbrev map : ℕ → Key → Option ContentOf
  map l = spec (log_of entries state.points) state.owners.index l

  first_down : (l : ℕ) (le : suc l ≤ state.is_tree.tree.top) (chain : List Record) → IsChainOf memory (state.is_tree.tree.first (suc l)) chain
      → (low_in chain ≡ []) × (content_in chain [] ≡ Some (Child (state.is_tree.tree.first l) false))
  first_down l le chain is =
      let tree = state.is_tree.tree in
      let level = tree.levels (suc l) le in
      let f = first_page state.owners (shared_part memory) (suc l) (map (suc l)) level.side (tree.first (suc l)) [] level.whole in
      let same : f.0.chain ≡ chain = IsChainOf-unique memory (tree.first (suc l)) f.0.chain chain (rw f.1 at (chain_of memory state.owners (suc l) (map (suc l)) f.0 f.3)) is in
      let fits : IsPageChain f.0.chain = state.fitted f.0.row f.3.linked f.0.chain f.3.is_page.is_chain in
      let made = page_of f.0.chain fits.fitted in
      let rules = ruled f.0.chain made.0 fits.fitted made.1 in
      let on : made.0.level ≡ suc l = made.1.level ∙ f.3.is_page.on_level in
      let above : 0 < made.0.level = omega (arith, on) in
      let child = first_child made.0.level made.0.low made.0.items above (recursion_from_All _ made.0.items rules.is_page.kinds) (rules.terms above).first in
      let content : content_in f.0.chain [] ≡ Some (Child child.0 false) = subst (λ (k : Key). content_in f.0.chain k ≡ Some (Child child.0 false))
      (made.1.low ∙ f.2) (sym (made.1.items.contents made.0.low) ∙ child.1) in
      let named = (tree.exact.named l [] (Child child.0 false) (sym (f.3.is_page.same [] (from_empty f.0.chain f.2 f.3.is_page.some)) ∙ content)).1 in
      let stage : named.0 ≡ Indexed = indexed_mark named.0 child.0 named.2 in
      let on_side : rank named.0 ≤ 3 = rw stage (omega arith) in
      let is_first : child.0 ≡ tree.first l = first_only memory state.is_tree child.0 l named.0 (omega (arith, le)) named.1 on_side in
      (ap low_in (sym same) ∙ f.2, ap (λ (c : List Record). content_in c []) (sym same) ∙ content ∙ ap (λ q. Some (Child q false)) is_first)

  pub all_levels : HasAllLevels limits memory
  all_levels = record {
    top = state.is_tree.tree.top;
    first = state.is_tree.tree.first;
    root = state.is_tree.tree.root;
    pages = λ l le. pages_on limits entries state l (state.is_tree.tree.first l) (map l) (state.is_tree.tree.levels l le);
    down = first_down;
  }
