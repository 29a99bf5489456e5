-- The pairs of the leaves are those of the log.
use Rattle.listing.proofs.Words.{◌≡◌, inl, inr, ℕ, zero, suc, List, [], ◌∷◌, ◌++◌, length, Option, Some, None, refl, sym, subst, ap, ◌∙◌, arith, IsTrue}
use Rattle.listing.proofs.Words.{AllByRecursion, Contains, is_in_range, key_cmp, Limits, Value, all-weaker, Memory, content_in, high_in, low_in}
use Rattle.listing.proofs.Words.{IsSideChainFrom, IsWholeFrom, LivePage, Covers, IsUnder, IsUpTo, Key, HasLeafPages, IsLeafPage, covers_to, upto_trans}
use Rattle.std.proofs.Common.{map}
use Rattle.std.specs.Prelude.{MatchOption}
use Rattle.std.specs.List.Sorted.{IsStrictlySortedBy}
use Rattle.std.specs.declared.cmp.Ordering.TheVariants.{Less}
use Rattle.std.proofs.lemmas.List.{append-nil}
use Rattle.std.proofs.lemmas.List.Elements.{All-contains, All-from_recursion, Contains-append_cases, Contains-append_left, Contains-append_right}
use Rattle.base_page.proofs.ItemLaws.{all-append}
use Rattle.base_page.proofs.KeyLaws.{below_from, below_reach}
use Rattle.traces.specs.declared.trace.Entry.{Entry}
use Rattle.traces.specs.chain.Chains.{covers, level_in}
use Rattle.traces.specs.trace.Trace.{memory_of}
use Rattle.tree_law.specs.Keys.{IsBelow}
use Rattle.tree_law.specs.TraceLaws.{LeavesHaveMap}
use Rattle.tree_law.proofs.shape.KeyOrder.{below_not, empty_lowest}
use Rattle.listing.specs.Listed.{HavePages, IsListing}
use Rattle.listing.proofs.LeafPairs.{ascending, exact, inside, spans}
use Rattle.listing.proofs.Walking.{Pairs}

abbrev keys : Pairs → List (List ℕ)
keys pairs = map (λ pair. pair.0) pairs

abbrev AreLeaf : LivePage → Type 0
AreLeaf page = level_in page.chain ≡ 0

everywhere : (key : List ℕ) → IsTrue (is_in_range [] None key)
everywhere key = rw (empty_lowest key) refl

-- ---- in the order of their keys
all_keys : (P : List ℕ → Type 0) (pairs : Pairs) → AllByRecursion (λ pair. P pair.0) pairs → AllByRecursion P (keys pairs)
all_keys P [] each = tt
all_keys P (pair ∷ pairs) each = (each.0, all_keys P pairs each.1)

of_all_keys : (P : List ℕ → Type 0) (pairs : Pairs) → AllByRecursion P (keys pairs) → AllByRecursion (λ pair. P pair.0) pairs
of_all_keys P [] each = tt
of_all_keys P (pair ∷ pairs) each = (each.0, of_all_keys P pairs each.1)

join : (front back : Pairs) → IsStrictlySortedBy key_cmp (keys front) → IsStrictlySortedBy key_cmp (keys back)
    → AllByRecursion (λ pair. AllByRecursion (λ other. key_cmp pair.0 other.0 ≡ Less) back) front → IsStrictlySortedBy key_cmp (keys (front ++ back))
unfolding IsStrictlySortedBy
join [] back first second across = second
join (pair ∷ front) back first second across = (
  all_keys (λ key. key_cmp pair.0 key ≡ Less) (front ++ back) (all-append _ front back (of_all_keys (λ key. key_cmp pair.0 key ≡ Less) front first.0) across.0),
  join front back first.1 second across.1,
)

-- the pairs are at or above the low key, and ascend
abbrev Ascend : Key → Pairs → Type 0
Ascend low pairs = AllByRecursion (λ pair. IsUpTo low pair.0) pairs × IsStrictlySortedBy key_cmp (keys pairs)

ascends : (low : Key) (pages : List LivePage) (pairs : Pairs) → IsWholeFrom low pages → AllByRecursion AreLeaf pages → HavePages pages pairs → Ascend low pairs
ascends low [] pairs whole leaf has = absurd whole
ascends low (page ∷ pages) pairs whole leaf (own, rest, is, others, all) = go (λ high next. ascends high pages rest next leaf.1 others) (high_in page.chain) refl whole.1
  where
    in_page : AllByRecursion (λ pair. Covers page.chain pair.0) own
    in_page = inside page.chain leaf.0 own is

    above : AllByRecursion (λ pair. IsUpTo low pair.0) own
    above = all-weaker _ (λ pair. IsUpTo low pair.0) (λ pair c. rw (← whole.0) c.low) own in_page

    go : ((high : Key) → IsWholeFrom high pages → Ascend high rest) → (high : Option Key) → high_in page.chain ≡ high
        → MatchOption high (pages ≡ []) (λ next. IsWholeFrom next pages) → Ascend low pairs
    go after None e last =
        let none : rest ≡ [] = subst (λ ps. HavePages ps rest) last others in
        let only : pairs ≡ own = all ∙ ap (λ ps. own ++ ps) none ∙ append-nil own in
        rw only (above, ascending page.chain leaf.0 own is)
    go after (Some high) e next =
        let later = after high next in
        let under : IsBelow low high = rw (← whole.0) (subst (IsUnder (low_in page.chain)) e (spans page.chain leaf.0 own is)) in
        let across : AllByRecursion (λ pair. AllByRecursion (λ other. key_cmp pair.0 other.0 ≡ Less) rest) own = all-weaker _ (λ pair. AllByRecursion (λ other. key_cmp pair.0 other.0 ≡ Less) rest)
        (λ pair c. all-weaker _ (λ other. key_cmp pair.0 other.0 ≡ Less) (λ other from. below_reach pair.0 high other.0 (below_from pair.0 high (subst (IsUnder pair.0) e c.high)) from) rest later.0)
        own in_page in
        rw all (
          all-append _ own rest above (all-weaker _ (λ pair. IsUpTo low pair.0) (λ pair from. upto_trans low high pair.0 (below_not low high under) from) rest later.0),
          join own rest (ascending page.chain leaf.0 own is) later.1 across,
        )

-- ---- what is listed, and what a page has
-- a page of these has the value at the key
record IsSaid (pages : List LivePage) (key value : List ℕ) : Type 0 where
  pub page : LivePage
  pub among : Contains pages page
  pub covered : IsTrue (covers page.chain key)
  pub says : content_in page.chain key ≡ Some (Value value)

later_page : (first page : LivePage) (pages : List LivePage) → Contains pages page → Contains (first ∷ pages) page
later_page first page pages among = Contains-append_right (first ∷ []) pages page among

listed_said : (pages : List LivePage) (pairs : Pairs) → AllByRecursion AreLeaf pages → HavePages pages pairs → (key value : List ℕ) → Contains pairs (key, value) → IsSaid pages key value
listed_said [] pairs leaf none key value (n, lt, at) = let empty : length pairs ≡ 0 = ap length none in absurd (omega (arith, lt, empty))
listed_said (page ∷ pages) pairs leaf (own, rest, is, others, all) key value among = elim (Contains-append_cases own rest (key, value) (rw (← all) among)) [
  | inl here ↦ record {
    page = page;
    among = Contains-append_left (page ∷ []) pages page (0, omega arith, refl);
    covered = covers_to page.chain key (All-contains (λ pair. Covers page.chain pair.0) own (key, value) (All-from_recursion _ own (inside page.chain leaf.0 own is)) here);
    says = (exact page.chain leaf.0 own is key value).0 here;
  }
  | inr later ↦ let said = listed_said pages rest leaf.1 others key value later in record
      { page = said.page; among = later_page page said.page pages said.among; covered = said.covered; says = said.says }
]

said_listed : (pages : List LivePage) (pairs : Pairs) → AllByRecursion AreLeaf pages → HavePages pages pairs → (key value : List ℕ) (page : LivePage)
    → Contains pages page → content_in page.chain key ≡ Some (Value value) → Contains pairs (key, value)
said_listed [] pairs leaf none key value page (n, lt, at) says = absurd (omega (arith, lt))
said_listed (first ∷ pages) pairs leaf (own, rest, is, others, all) key value page among says = elim (Contains-append_cases (first ∷ []) pages page among) [
  | inl here ↦ rw all
      (Contains-append_left own rest (key, value) ((exact first.chain leaf.0 own is key value).1 (rw (← alone here) says)))
  | inr later ↦ rw all (Contains-append_right own rest (key, value) (said_listed pages rest leaf.1 others key value page later says))
]
  where
    alone : Contains (first ∷ []) page → page ≡ first
    alone (zero, lt, at) = sym at
    alone (suc n, lt, at) = absurd (omega (arith, lt))

-- a page begins one side chain
abbrev pub IsOneSide : Type 0
IsOneSide = (memory : Memory) (pid : ℕ) (one two : List LivePage) → IsSideChainFrom memory pid one → IsSideChainFrom memory pid two → one ≡ two

module _ (limits : Limits) (entries : List Entry) where
  pub leaves_are_listed : LeavesHaveMap → IsOneSide → (leaves : HasLeafPages limits (memory_of limits entries)) (pairs : Pairs) → HavePages leaves.pages pairs → IsListing limits entries pairs
  leaves_are_listed have one leaves pairs has linear =
      let there = have limits entries linear in
      let leaf : AllByRecursion AreLeaf leaves.pages = all-weaker (IsLeafPage limits (memory_of limits entries)) AreLeaf (λ page is. is.level) leaves.pages leaves.each in
      record {
        ascending = (ascends [] leaves.pages pairs leaves.whole leaf has).1;
        exact = λ key value. (
          (λ among. let said = listed_said leaves.pages pairs leaf has key value among in
              (everywhere key, (there.same key value).0 (leaves.pages, said.page, leaves.leaves, said.among, said.covered, said.says))),
          (λ says.
              let (pages, page, are, among, covered, decides) = (there.same key value).1 says.1 in
              said_listed leaves.pages pairs leaf has key value page (rw (← one (memory_of limits entries) 1 pages leaves.pages are leaves.leaves) among) decides),
        );
      }
