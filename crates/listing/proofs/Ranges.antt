-- The ranges of leaves that follow one another: no two of them have a key.
use Rattle.listing.proofs.Words.{◌≡◌, inl, inr, zero, suc, List, [], ◌∷◌, ◌++◌, Option, Some, None, MatchOption, refl, sym, subst, ◌∙◌, arith, AllByRecursion}
use Rattle.listing.proofs.Words.{Contains, Record, high_in, low_in, Makes, IsWholeFrom, LivePage, Covers, IsUnder, IsUpTo, Key, upto_trans}
use Rattle.std.proofs.Common.{◌⊎◌}
use Rattle.std.proofs.lemmas.List.Elements.{Contains-append_cases}
use Rattle.traces.specs.chain.Fitted.{IsFitted}
use Rattle.traces.proofs.FittedLaws.{Makes-base}
use Rattle.tree_law.specs.Keys.{IsBelow}
use Rattle.tree_law.proofs.shape.KeyOrder.{below_not, not_below, upto_refl}

-- a page's low key is below its end
abbrev pub Spans : LivePage → Type 0
Spans page = IsUnder (low_in page.chain) (high_in page.chain)

pub fitted_spans : (chain : List Record) → IsFitted chain → IsUnder (low_in chain) (high_in chain)
fitted_spans [] fitted = absurd fitted
fitted_spans (newest ∷ []) (page, is, stands) =
    let makes : Makes (newest ∷ []) page = rw is (Makes-base page stands.ruled.is_page.ordered.ascending stands.alive) in
    rw (← makes.low, ← makes.high) stands.ruled.is_page.spans
fitted_spans (newest ∷ older ∷ under) (over, rest) = rw (← over.makes_now.low, ← over.makes_now.high) over.ruled.is_page.spans

none_there : (page : LivePage) → Contains [] page → ⊥
none_there page (n, lt, at) = absurd (omega (arith, lt))

first_or_later : (first page : LivePage) (pages : List LivePage) → Contains (first ∷ pages) page → (page ≡ first) ⊎ Contains pages page
first_or_later first page pages among = elim (Contains-append_cases (first ∷ []) pages page among) [ inl here ↦ inl (alone here) | inr later ↦ inr later ]
  where
    alone : Contains (first ∷ []) page → page ≡ first
    alone (zero, lt, at) = sym at
    alone (suc n, lt, at) = absurd (omega (arith, lt))

-- no page is below the first one
above : (low : Key) (pages : List LivePage) → IsWholeFrom low pages → AllByRecursion Spans pages → (page : LivePage) → Contains pages page → IsUpTo low (low_in page.chain)
above low [] whole spans page among = absurd whole
above low (first ∷ pages) whole spans page among = elim (first_or_later first page pages among) [
  | inl here ↦ rw (here, whole.0) (upto_refl low)
  | inr later ↦ go (λ high next. above high pages next spans.1 page later) (high_in first.chain) refl whole.1 later
]
  where
    go : ((high : Key) → IsWholeFrom high pages → IsUpTo high (low_in page.chain)) → (high : Option Key) → high_in first.chain ≡ high
        → MatchOption high (pages ≡ []) (λ next. IsWholeFrom next pages) → Contains pages page → IsUpTo low (low_in page.chain)
    go after None e last later = absurd (none_there page (subst (λ ps. Contains ps page) last later))
    go after (Some high) e next later =
        let under : IsBelow low high = rw (← whole.0) (subst (IsUnder (low_in first.chain)) e spans.0) in
        upto_trans low high (low_in page.chain) (below_not low high under) (after high next)

-- a key is in the range of one page alone
pub one_has : (low : Key) (pages : List LivePage) → IsWholeFrom low pages → AllByRecursion Spans pages → (key : Key) (one other : LivePage) → Contains pages one
    → Contains pages other → Covers one.chain key → Covers other.chain key → one ≡ other
one_has low [] whole spans key one other in_one in_other has has_other = absurd whole
one_has low (first ∷ pages) whole spans key one other in_one in_other has has_other = elim (first_or_later first one pages in_one) [
  | inl here ↦ elim (first_or_later first other pages in_other) [
    | inl same ↦ here ∙ sym same
    | inr later ↦ absurd (apart one other here later has has_other)
  ]
  | inr beyond ↦ elim (first_or_later first other pages in_other) [
    | inl same ↦ absurd (apart other one same beyond has_other has)
    | inr later ↦ rest (λ high next. one_has high pages next spans.1 key one other beyond later has has_other) (high_in first.chain) whole.1 beyond
  ]
]
  where
    apart : (here there : LivePage) → here ≡ first → Contains pages there → Covers here.chain key → Covers there.chain key → ⊥
    apart here there is later has_here has_there = go (high_in first.chain) refl whole.1
      where
        go : (high : Option Key) → high_in first.chain ≡ high → MatchOption high (pages ≡ []) (λ next. IsWholeFrom next pages) → ⊥
        go None e last = none_there there (subst (λ ps. Contains ps there) last later)
        go (Some high) e next =
            not_below key high (subst (IsUnder key) e (rw (← is) has_here.high))
            (upto_trans high (low_in there.chain) key (above high pages next spans.1 there later) has_there.low)

    rest : ((high : Key) → IsWholeFrom high pages → one ≡ other) → (high : Option Key) → MatchOption high (pages ≡ []) (λ next. IsWholeFrom next pages) → Contains pages one → one ≡ other
    rest after None last beyond = absurd (none_there one (subst (λ ps. Contains ps one) last beyond))
    rest after (Some high) next beyond = after high next

-- the ranges from a page on
pub whole_at : (low : Key) (front : List LivePage) (page : LivePage) (later : List LivePage) → IsWholeFrom low (front ++ page ∷ later) → IsWholeFrom (low_in page.chain) (page ∷ later)
whole_at low [] page later whole = (refl, whole.1)
whole_at low (first ∷ front) page later whole = go (λ high next. whole_at high front page later next) (high_in first.chain) whole.1
  where
    some_page : (front : List LivePage) → front ++ page ∷ later ≡ [] → ⊥
    some_page [] e = cc
    some_page (p ∷ ps) e = cc

    go : ((high : Key) → IsWholeFrom high (front ++ page ∷ later) → IsWholeFrom (low_in page.chain) (page ∷ later)) → (high : Option Key)
        → MatchOption high (front ++ page ∷ later ≡ []) (λ next. IsWholeFrom next (front ++ page ∷ later)) → IsWholeFrom (low_in page.chain) (page ∷ later)
    go after None last = absurd (some_page front last)
    go after (Some high) next = after high next
