-- A memory of one leaf has the map that the leaf's chain decides.
use Rattle.linearization.proofs.Words.{◌≡◌, ◌<◌, ℕ, suc, zero, List, [], ◌∷◌, length, false, Option, Some, None, refl, sym, subst, ap, arith, ◌∙◌, option_map, is_below, Update, logged_value}
use Rattle.linearization.proofs.Words.{Value, Record, Memory, IsChainOf, content_in, low_in, high_in, right_in, covers, HasMapOf}
use Rattle.std.specs.Prelude.{IsTrue, slice_index_or, ◌↔◌}
use Rattle.std.specs.List.{Contains, AllByRecursion}
use Rattle.traces.specs.chain.SideChain.{LivePage, IsLeaves, IsWhole, Spells}
use Rattle.traces.proofs.ChainLaws.{IsSideChainFrom-unique}

contained_alone : {X : Type 0} (x y : X) → Contains (x ∷ []) y → y ≡ x
contained_alone x y (zero, h, e) = sym e
contained_alone x y (suc k, h, e) = absurd (omega arith)

value_same : (o : Option (List ℕ)) (value : List ℕ) → option_map Value o ≡ Some (Value value) → o ≡ Some value
value_same None value e = cc
value_same (Some v) value e = cc

pub none_below_empty : (key : List ℕ) → is_below key [] ≡ false
none_below_empty [] = refl
none_below_empty (x ∷ xs) = refl

-- a memory whose only leaf has the chain
module _ (memory : Memory) (chain : List Record) (is : IsChainOf memory 1 chain) (right : right_in chain ≡ None) where
  abbrev only_leaf : LivePage
  only_leaf = record { pid = 1; chain = chain }

  are_leaves : IsLeaves memory (only_leaf ∷ [])
  are_leaves = (refl, is, rw right refl)

  pub one_leaf_spells : low_in chain ≡ [] → high_in chain ≡ None → (key value : List ℕ) → Spells memory key value ↔ (content_in chain key ≡ Some (Value value))
  one_leaf_spells low high key value = (
    (λ (pages, page, are, among, covered, decided).
        let alone : Contains (only_leaf ∷ []) page = rw (IsSideChainFrom-unique memory 1 pages (only_leaf ∷ []) are are_leaves) at among in
        let which : page ≡ only_leaf = contained_alone only_leaf page alone in
        rw which at decided),
    (λ decided. (only_leaf ∷ [], only_leaf, are_leaves, (0, omega arith, refl), covered_by low high, decided)),
  )
    where
      covered_by : low_in chain ≡ [] → high_in chain ≡ None → IsTrue (covers chain key)
      covered_by l h = rw (l, h, none_below_empty) refl

pub one_leaf : (memory : Memory) (log : List Update) (chain : List Record) → IsChainOf memory 1 chain → low_in chain ≡ [] → high_in chain ≡ None → right_in chain ≡ None
    → ((key : List ℕ) → content_in chain key ≡ option_map Value (logged_value log key)) → HasMapOf memory log
one_leaf memory log chain is low high right says = record {
  whole = (only_leaf memory chain is right ∷ [], are_leaves memory chain is right, (low, rw high refl));
  same = λ key value. (
    (λ spells. value_same (logged_value log key) value (sym (says key) ∙ (one_leaf_spells memory chain is right low high key value).0 spells)),
    (λ h. (one_leaf_spells memory chain is right low high key value).1 (says key ∙ ap (option_map Value) h)),
  );
}

nowhere : (pages : List LivePage) → AllByRecursion (λ page. (key : List ℕ) → content_in page.chain key ≡ None) pages → (k : ℕ) (page : LivePage)
    → k < length pages → slice_index_or pages k page ≡ page → (key : List ℕ) → content_in page.chain key ≡ None
nowhere [] h k page lt e key = absurd (omega arith)
nowhere (p ∷ pages) h zero page lt e key = rw e at (h.0 key)
nowhere (p ∷ pages) h (suc k) page lt e key = nowhere pages h.1 k page (omega arith) e key

-- whole leaves that decide no key have the map of the empty log
pub no_values : (memory : Memory) (pages : List LivePage) → IsLeaves memory pages → IsWhole pages
    → AllByRecursion (λ page. (key : List ℕ) → content_in page.chain key ≡ None) pages → HasMapOf memory []
no_values memory pages are whole none = record {
  whole = (pages, are, whole);
  same = λ key value. (
    (λ (leaves, page, these, among, covered, decided).
        let alone : Contains pages page = rw (IsSideChainFrom-unique memory 1 leaves pages these are) at among in
        let absent : content_in page.chain key ≡ None = nowhere pages none alone.0 page alone.1 alone.2 key in
        cc),
    (λ h. cc),
  );
}
