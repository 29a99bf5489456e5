-- Going over the pages of a level from left to right.
use Rattle.std.proofs.Common.{◌≡◌, ◌<◌, ◌+◌, ℕ, List, [], ◌∷◌, ◌++◌, length, Option, Some, None, MatchOption, refl, sym, subst, ap, ◌∙◌, arith, append_assoc}
use Rattle.std.specs.List.{AllByRecursion}
use Rattle.std.proofs.lemmas.List.{length-append}
use Rattle.base_page.proofs.ItemLaws.{back_all}
use Rattle.tree_limits.specs.declared.limits.Limits.{Limits}
use Rattle.deltas.specs.declared.record.Record.{Record}
use Rattle.deltas.specs.Memory.{Memory}
use Rattle.traces.specs.chain.Chains.{right_in}
use Rattle.traces.specs.chain.SideChain.{IsSideChainFrom, LivePage}
use Rattle.listing.specs.Listed.{StandsAt}
use Rattle.tree_law.specs.LevelPages.{HasPagesOn, IsPageOn}

-- These are the first pages, as many as counted; the others stand from the page on.
pub record IsFront (memory : Memory) (pages front : List LivePage) (count pid : ℕ) : Type 0 where
  pub rest : List LivePage
  pub whole : pages ≡ front ++ rest
  pub long : length front ≡ count
  pub next : IsSideChainFrom memory pid rest

abbrev pub HasFront : Limits → Memory → ℕ → List LivePage → ℕ → ℕ → Type 0
HasFront limits memory first front count pid = (number : ℕ) (has : HasPagesOn limits memory number first) → IsFront memory has.pages front count pid

pub no_front : (limits : Limits) (memory : Memory) (first : ℕ) → HasFront limits memory first [] 0 first
no_front limits memory first number has = record { rest = has.pages; whole = refl; long = refl; next = has.side }

-- the page that is next
record IsNext (limits : Limits) (memory : Memory) (number : ℕ) (pages front : List LivePage) (pid : ℕ) : Type 0 where
  pub page : LivePage
  pub later : List LivePage
  pub whole : pages ≡ front ++ page ∷ later
  pub pid_is : page.pid ≡ pid
  pub on : IsPageOn limits memory number page
  pub right : MatchOption (right_in page.chain) (later ≡ []) (λ right. IsSideChainFrom memory right later)

module _ (limits : Limits) (memory : Memory) (number first : ℕ) (has : HasPagesOn limits memory number first) (front : List LivePage) (count pid : ℕ)
    (at : IsFront memory has.pages front count pid) where
  next_page : IsNext limits memory number has.pages front pid
  next_page = go at.rest at.whole at.next
    where
      go : (rest : List LivePage) → has.pages ≡ front ++ rest → IsSideChainFrom memory pid rest → IsNext limits memory number has.pages front pid
      go [] whole next = absurd next
      go (page ∷ later) whole next =
          let each : AllByRecursion (IsPageOn limits memory number) (page ∷ later) = back_all (IsPageOn limits memory number) front (page ∷ later)
          (subst (AllByRecursion (IsPageOn limits memory number)) whole has.each) in
          record { page = page; later = later; whole = whole; pid_is = next.0; on = each.0; right = next.2 }

  -- there is a page more
  pub is_more : count < limits.pids
  is_more =
      let next = next_page in
      let long : length has.pages ≡ length front + length (next.page ∷ next.later) = ap length next.whole ∙ length-append front (next.page ∷ next.later) in
      omega (arith, has.few, at.long)

  pub pid_below : pid < limits.pids
  pid_below = subst (λ n. n < limits.pids) next_page.pid_is next_page.on.pid

  pub chain_at : (chain : List Record) × StandsAt memory pid chain
  chain_at = (next_page.page.chain, subst (λ n. StandsAt memory n next_page.page.chain) next_page.pid_is (record { records = next_page.on.stands.records; fits = next_page.on.fits }))

  module _ (page : LivePage) (pid_same : page.pid ≡ pid) (is : (stands : List Record) → StandsAt memory pid stands → page.chain ≡ stands) where
    same_chain : next_page.page.chain ≡ page.chain
    unfolding next_page chain_at
    same_chain = sym (is next_page.page.chain chain_at.1)

    same_page : next_page.page ≡ page
    same_page = go next_page.page page (next_page.pid_is ∙ sym pid_same) same_chain
      where
        go : (one other : LivePage) → one.pid ≡ other.pid → one.chain ≡ other.chain → one ≡ other
        go one other p c = subst (λ (n : ℕ). one ≡ record { pid = n; chain = other.chain }) p (subst (λ (ch : List Record). one ≡ record { pid = one.pid; chain = ch }) c refl)

    right_is : (right : Option ℕ) → right_in page.chain ≡ right → MatchOption right (next_page.later ≡ []) (λ next. IsSideChainFrom memory next next_page.later)
    right_is right e = subst (λ o. MatchOption o (next_page.later ≡ []) (λ next. IsSideChainFrom memory next next_page.later)) (ap right_in same_chain ∙ e) next_page.right

    whole_is : has.pages ≡ front ++ page ∷ next_page.later
    whole_is = subst (λ (p : LivePage). has.pages ≡ front ++ p ∷ next_page.later) same_page next_page.whole

    pub page_more : (right : ℕ) → right_in page.chain ≡ Some right → IsFront memory has.pages (front ++ page ∷ []) (count + 1) right
    page_more right e = record {
      rest = next_page.later;
      whole = whole_is ∙ sym (append_assoc front (page ∷ []) next_page.later);
      long = length-append front (page ∷ []) ∙ ap (λ n. n + 1) at.long;
      next = right_is (Some right) e;
    }

    pub page_last : right_in page.chain ≡ None → front ++ page ∷ [] ≡ has.pages
    page_last e = sym (whole_is ∙ ap (λ later. front ++ page ∷ later) (right_is None e))
