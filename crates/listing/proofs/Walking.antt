-- Going over the leaves from left to right, and what is listed of each.
use Rattle.listing.proofs.Words.{◌≡◌, ◌<◌, ◌+◌, ℕ, List, [], ◌∷◌, ◌++◌, length, Option, Some, None, MatchOption, refl, sym, subst, ap, ◌∙◌, arith}
use Rattle.listing.proofs.Words.{append_assoc, AllByRecursion, length-append, Page, Limits, Record, Memory, Makes, IsSideChainFrom, LivePage, HasLeafPages}
use Rattle.listing.proofs.Words.{IsLeafPage, StandsAt, pairs_of}
use Rattle.std.proofs.lemmas.List.{append-nil}
use Rattle.base_page.proofs.ItemLaws.{back_all}
use Rattle.base_page.specs.Rules.{IsRuled}
use Rattle.traces.specs.chain.Chains.{right_in}
use Rattle.listing.specs.Listed.{HasPage, HavePages}

abbrev pub Pairs : Type 0
Pairs = List (List ℕ × List ℕ)

-- Of the leaves that stand these pairs are those of the first ones, as many as counted; the others stand from the page on.
pub record IsPartly (memory : Memory) (pages : List LivePage) (pairs : Pairs) (count pid : ℕ) : Type 0 where
  pub front : List LivePage
  pub rest : List LivePage
  pub whole : pages ≡ front ++ rest
  pub long : length front ≡ count
  pub listed : HavePages front pairs
  pub next : IsSideChainFrom memory pid rest

abbrev pub HasListed : Limits → Memory → Pairs → ℕ → ℕ → Type 0
HasListed limits memory pairs count pid = (leaves : HasLeafPages limits memory) → IsPartly memory leaves.pages pairs count pid

pub none_listed : (limits : Limits) (memory : Memory) → HasListed limits memory [] 0 1
none_listed limits memory leaves = record { front = []; rest = leaves.pages; whole = refl; long = refl; listed = refl; next = leaves.leaves }

-- a page more
listed_one : (page : LivePage) (own : Pairs) → HasPage page.chain own → HavePages (page ∷ []) own
listed_one page own has = (own, [], has, refl, sym (append-nil own))

listed_more : (front back : List LivePage) (before own : Pairs) → HavePages front before → HavePages back own → HavePages (front ++ back) (before ++ own)
listed_more [] back before own none has = rw none has
listed_more (page ∷ front) back before own (first, rest, is, others, all) has =
    (first, rest ++ own, is, listed_more front back rest own others has, ap (λ p. p ++ own) all ∙ append_assoc first rest own)

-- the leaf that is next, and those to its right
record IsNext (limits : Limits) (memory : Memory) (pages front : List LivePage) (pid : ℕ) : Type 0 where
  pub page : LivePage
  pub later : List LivePage
  pub whole : pages ≡ front ++ page ∷ later
  pub below : pid < limits.pids
  pub stands : StandsAt memory pid page.chain
  pub right : MatchOption (right_in page.chain) (later ≡ []) (λ right. IsSideChainFrom memory right later)

module _ (limits : Limits) (memory : Memory) (leaves : HasLeafPages limits memory) (pairs : Pairs) (count pid : ℕ) (at : IsPartly memory leaves.pages pairs count pid) where
  next_leaf : IsNext limits memory leaves.pages at.front pid
  next_leaf = go at.rest at.whole at.next
    where
      go : (rest : List LivePage) → leaves.pages ≡ at.front ++ rest → IsSideChainFrom memory pid rest → IsNext limits memory leaves.pages at.front pid
      go [] whole next = absurd next
      go (page ∷ later) whole next =
          let each : AllByRecursion (IsLeafPage limits memory) (page ∷ later) = back_all (IsLeafPage limits memory) at.front (page ∷ later)
          (subst (AllByRecursion (IsLeafPage limits memory)) whole leaves.each) in
          record { page = page; later = later; whole = whole; below = rw (← next.0) each.0.pid; stands = record { records = next.1.records; fits = each.0.fits }; right = next.2 }

  -- there is a leaf more
  pub is_more : count < limits.pids
  is_more =
      let next = next_leaf in
      let long : length leaves.pages ≡ length at.front + length (next.page ∷ next.later) = ap length next.whole ∙ length-append at.front (next.page ∷ next.later) in
      omega (arith, leaves.few, at.long)

  -- its PID is in range
  pub leaf_below : pid < limits.pids
  leaf_below = next_leaf.below

  -- its chain stands
  pub leaf_at : (chain : List Record) × StandsAt memory pid chain
  leaf_at = (next_leaf.page.chain, next_leaf.stands)

  module _ (made : Page) (makes : (chain : List Record) → StandsAt memory pid chain → Makes chain made) (ruled : IsRuled made) where
    abbrev own : Pairs
    own = pairs_of made.items

    leaf : Makes next_leaf.page.chain made
    leaf = makes next_leaf.page.chain next_leaf.stands

    with_own : HavePages (at.front ++ next_leaf.page ∷ []) (pairs ++ own)
    with_own = listed_more at.front (next_leaf.page ∷ []) pairs own at.listed (listed_one next_leaf.page own (record { page = made; makes = leaf; ruled = ruled; are = refl }))

    right_is : (right : Option ℕ) → made.right ≡ right → MatchOption right (next_leaf.later ≡ []) (λ next. IsSideChainFrom memory next next_leaf.later)
    right_is right e = rw (← (sym leaf.right ∙ e)) next_leaf.right

    -- the next leaf is to the right
    pub leaf_more : (right : ℕ) → made.right ≡ Some right → IsPartly memory leaves.pages (pairs ++ pairs_of made.items) (count + 1) right
    leaf_more right e = record {
      front = at.front ++ next_leaf.page ∷ [];
      rest = next_leaf.later;
      whole = next_leaf.whole ∙ sym (append_assoc at.front (next_leaf.page ∷ []) next_leaf.later);
      long = length-append at.front (next_leaf.page ∷ []) ∙ ap (λ n. n + 1) at.long;
      listed = with_own;
      next = right_is (Some right) e;
    }

    -- this was the last one
    pub leaf_last : made.right ≡ None → HavePages leaves.pages (pairs ++ pairs_of made.items)
    leaf_last e = rw (next_leaf.whole, right_is None e) with_own
