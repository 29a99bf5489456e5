-- The pages of each level of a state stand, and are fewer than there are slots.
use Rattle.tree_law.proofs.Words.{false, [], ap, Option, None, List, true, inl, ◌≢◌, length, ◌≤◌, inr, ◌∷◌, sym, ℕ, ◌≡◌, ◌∙◌, ◌<◌, arith, Some, map, cases_lt, nat_tests, All-weaker}
use Rattle.tree_law.proofs.Words.{All-from_recursion, All, ⊤, Update, Limits, ContentOf, Memory, right_in, low_in, high_in, LivePage, memory_of, turn_of, Entry, IsLinearized, log_of, HasMapOf}
use Rattle.tree_law.proofs.Words.{Key, Owners, leaf_map, Placed, Fresh, Stage, shared_part, Shared, IsState, phase_of, Level, SidePage, InPlace, IsPart, AllByRecursion}
use Rattle.base_page.proofs.ItemLaws.{all-weaker}
use Rattle.std.proofs.Math.Dec.{eqb}
use Rattle.std.specs.List.{AllPairs, list_any}
use Rattle.std.proofs.lemmas.Bool.Decides.{Decides-eqb}
use Rattle.std.proofs.lemmas.List.{length-map, take_all}
use Rattle.std.proofs.lemmas.List.Folds.{list_any_none}
use Rattle.std.proofs.lemmas.List.Kept.{AllPairs-cons}
use Rattle.std.proofs.lemmas.Map.Made.{IsDistinct-from_AllPairs}
use Rattle.std.proofs.lemmas.Map.Steps.{length-le_from_distinct_below}
use Rattle.linearization.specs.Phases as phase
use Rattle.tree_law.specs.Leaves.{IsLeafPage, HasLeafPages}
use Rattle.tree_law.specs.LevelPages.{IsPageOn, HasPagesOn}
use Rattle.tree_law.proofs.shape.Mapping.{live, chain_of, leaves, side_from, whole_from}
use Rattle.tree_law.proofs.shape.Sides.{AllPages, StartsFrom, all_in, all_pages, begins_after, beside_after}

abbrev pids : List SidePage → List ℕ
pids gs = map (λ g. g.page) gs

-- what is so of each page is so of each PID
of_pids : (P : ℕ → Type 0) (gs : List SidePage) → AllPages (λ g. P g.page) gs → AllByRecursion P (pids gs)
of_pids P [] h = tt
of_pids P (g ∷ gs) h = (h.0, of_pids P gs h.1)

of_live : (P : LivePage → Type 0) (gs : List SidePage) → AllPages (λ g. P (live g)) gs → AllByRecursion P (map live gs)
of_live P [] h = tt
of_live P (g ∷ gs) h = (h.0, of_live P gs h.1)

-- a number that is among numbers below n is below n
below_any : (n q : ℕ) (xs : List ℕ) → AllByRecursion (λ x. x < n) xs → list_any (eqb q) xs ≡ true → q < n
below_any n q xs h e = elim (cases_lt q n) [
  | inl lt ↦ lt
  | inr le ↦
      let others : All (λ x. eqb q x ≡ false) xs = All-weaker (λ x. x < n) (λ x. eqb q x ≡ false)
      (λ x lt. let ne : q ≢ x = omega (arith, le, lt) in grind (arith, nat_tests)) xs (All-from_recursion (λ x. x < n) xs h) in
      let none : list_any (eqb q) xs ≡ false = list_any_none (eqb q) xs others in
      absurd (cc)
]

-- no two of these numbers are equal
abbrev AreApart : List ℕ → Type 0
AreApart xs = AllPairs (λ x y. x ≢ y) xs

apart_after : (x : ℕ) (xs : List ℕ) → AllByRecursion (λ y. x ≢ y) xs → AreApart xs → AreApart (x ∷ xs)
apart_after x xs others apart = AllPairs-cons (λ x y. x ≢ y) x xs (All-from_recursion (λ y. x ≢ y) xs others) apart

-- there are fewer than n numbers from 1 on and below n
fewer : (n : ℕ) (xs : List ℕ) → 0 < n → AreApart xs → AllByRecursion (λ x. 0 ≢ x) xs → AllByRecursion (λ x. x < n) xs → length xs < n
fewer n xs some apart above below =
    let all : length (0 ∷ xs) ≤ n = length-le_from_distinct_below (0 ∷ xs) n
    (IsDistinct-from_AllPairs {eq = eqb} Decides-eqb (0 ∷ xs) (apart_after 0 xs above apart)) (λ q. below_any n q (0 ∷ xs) (some, below)) in
    omega arith

-- no page stands twice in a part of a side chain
apart_in : (o : Owners) (m : Shared) (lv : ℕ) (mp : Key → Option ContentOf) (gs : List SidePage) (p : Option ℕ) (low : Option Key) (q : Option ℕ) (high : Option Key)
    → IsPart o m lv mp gs p low q high → AreApart (pids gs)
apart_in o m lv mp [] p low q high h = λ i j d lt below. absurd (omega (arith, lt, below))
apart_in o m lv mp (g ∷ gs) p low q high h = apart_after g.page (pids gs)
    (of_pids (λ n. g.page ≢ n) gs (all_in o m lv mp (λ f. StartsFrom (high_in g.chain) (low_in f.chain)) (λ f. g.page ≢ f.page)
    (λ f here from e. (beside_after o m lv mp g f h.2 here from).other (sym e))
    gs (right_in g.chain) (high_in g.chain) q high h.3 (begins_after o m lv mp gs (right_in g.chain) (high_in g.chain) q high h.3)))
    (apart_in o m lv mp gs (right_in g.chain) (high_in g.chain) q high h.3)

-- a page in the tree is not free
pub not_free : (st : Stage) (l : ℕ) (s : Key) → phase_of (Placed st l s) ≡ phase.free → ⊥
not_free Fresh l s e = absurd (cc)
not_free st l s e = absurd (cc)

module _ (limits : Limits) (entries : List Entry) (state : IsState limits entries) where
  abbrev m : Memory
  m = memory_of limits entries

  abbrev log : List Update
  log = log_of entries state.points

  -- a level, from its first page on
  module _ (l first : ℕ) (mp : Key → Option ContentOf) (level : Level state.owners (shared_part m) l mp first) where
    abbrev Here : SidePage → Type 0
    Here g = InPlace state.owners (shared_part m) l mp g

    -- what is so of each page in its place is so of each page of the level
    each_page : (P : SidePage → Type 0) → ((g : SidePage) → Here g → P g) → AllPages P level.side
    each_page P f = all_in state.owners (shared_part m) l mp (λ g. ⊤) P (λ g here t. f g here) level.side (Some first) (Some []) None None level.whole (all_pages (λ g. ⊤) (λ g. tt) level.side)

    in_range : (g : SidePage) → Here g → (0 < g.page) × (g.page < limits.pids)
    in_range g here = elim (state.named.pid_below g.page) [ inl free ↦ absurd (not_free here.stage l (low_in g.chain) (ap phase_of (sym here.placed) ∙ free)) | inr within ↦ within ]

    page_on : (g : SidePage) → Here g → IsPageOn limits m l (live g)
    page_on g here = record {
      pid = (in_range g here).1;
      stands = chain_of m state.owners l mp g here;
      fits = state.fitted g.row here.linked g.chain here.is_page.is_chain;
      level_is = here.is_page.on_level;
    }

    pub few : length level.side < limits.pids
    few =
        let some : 64 ≤ limits.pids = limits.allowed.some_pids in
        let above : AllByRecursion (λ n. 0 ≢ n) (pids level.side) = of_pids (λ n. 0 ≢ n) level.side (each_page (λ g. 0 ≢ g.page) (λ g here e. let above = (in_range g here).0 in omega arith)) in
        let below : AllByRecursion (λ n. n < limits.pids) (pids level.side) = of_pids (λ n. n < limits.pids) level.side (each_page (λ g. g.page < limits.pids) (λ g here. (in_range g here).1)) in
        let apart : AreApart (pids level.side) = apart_in state.owners (shared_part m) l mp level.side (Some first) (Some []) None None level.whole in
        rw (length-map level.side (λ g. g.page)) at (fewer limits.pids (pids level.side) (omega arith) apart above below)

    pub pages_on : HasPagesOn limits m l first
    pages_on = record {
      pages = map live level.side;
      side = side_from m state.owners l mp level.side (Some first) (Some []) level.whole;
      whole = whole_from m state.owners l mp level.side (Some first) (Some []) level.whole;
      few = rw (length-map level.side live) few;
      each = of_live (IsPageOn limits m l) level.side (each_page (λ g. IsPageOn limits m l (live g)) page_on);
    }

  pub leaf_pages : HasLeafPages limits m
  leaf_pages =
      let leaves = pages_on 0 1 (leaf_map log) (leaves m state.is_tree) in
      record {
        pages = leaves.pages;
        leaves = leaves.side;
        whole = leaves.whole;
        few = leaves.few;
        each = all-weaker (IsPageOn limits m 0) (IsLeafPage limits m) (λ page on. record { pid = on.pid; stands = on.stands; fits = on.fits; level = on.level_is }) leaves.pages leaves.each;
      }

-- by whatever points a trace is linearized, its memory has the map of their log
pub has_map_of_log : (limits : Limits) (entries : List Entry) (linear : IsLinearized limits (map turn_of entries) entries) → HasMapOf (memory_of limits entries) (log_of entries linear.points)
has_map_of_log limits entries linear =
    rw (take_all (length entries) entries (omega arith), take_all (length entries) linear.points (omega (arith, linear.pointed.beside))) at (linear.quiet.at_each (length entries) (omega arith))
