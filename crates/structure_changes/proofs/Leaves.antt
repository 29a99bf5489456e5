-- A change of one page keeps the leaves whole, and the map, where it does so from that page on.
use Rattle.std.proofs.Common.{◌≡◌, ◌≢◌, ◌<◌, ◌≤◌, ◌⊎◌, inl, inr, ◌↔◌, ℕ, zero, suc, List, [], ◌∷◌, length, Option, Some, None, refl, sym, ap, ◌∙◌, subst, arith}
use Rattle.std.specs.Prelude.{IsTrue, MatchOption, unwrap_or}
use Rattle.std.specs.List.{AllByRecursion, Contains}
use Rattle.structure_changes.proofs.Words.{eqb_tells, Value, Record, next_row, Memory, replaced_at, IsChainFrom, IsChainOf, chain_rows, content_in, covers, high_in, level_in, right_in}
use Rattle.structure_changes.proofs.Words.{LivePage, IsSideChainFrom, IsWholeFrom, HasLeaves, IsSpareRow, KeepsMap, with_link, replaced_other}
use Rattle.traces.proofs.ChainLaws.{IsSideChainFrom-unique}

-- chains

-- none of the rows is this one
abbrev pub Avoids : ℕ → List ℕ → Type 0
Avoids row rows = AllByRecursion (λ other. other ≢ row) rows

avoids : (row : ℕ) (rows : List ℕ) → ¬ Contains rows row → Avoids row rows
avoids row [] h = tt
avoids row (x ∷ xs) h = ((λ e. h (0, omega arith, e)), avoids row xs (λ (k, lt, e). h (suc k, omega (arith, lt), e)))

-- a chain stays where a row is written that is none of its own
pub chain_stays : (rows : ℕ → Option Record) (row : ℕ) (new : Option Record) (start : ℕ) (chain : List Record) → IsChainFrom rows start chain
    → Avoids row (chain_rows start chain) → IsChainFrom (replaced_at row new rows) start chain
chain_stays rows row new start [] h a = h
chain_stays rows row new start (x ∷ xs) h a = (
  replaced_other row new rows start a.0 ∙ h.0,
  elim (next_row x) as
      (λ o. MatchOption o (xs ≡ []) (λ next. IsChainFrom rows next xs) → Avoids row (chain_rows (unwrap_or o 0) xs)
      → MatchOption o (xs ≡ []) (λ next. IsChainFrom (replaced_at row new rows) next xs)) [
        | None ↦ λ e b. e
        | Some next ↦ λ under b. chain_stays rows row new next xs under b
      ] h.1 a.1,
)

pub avoided : (memory : Memory) (row pid : ℕ) (chain : List Record) → IsSpareRow memory row → IsChainOf memory pid chain → Avoids row (chain_rows (memory.slots pid) chain)
avoided memory row pid chain spare is = avoids row (chain_rows (memory.slots pid) chain) (λ among. spare.unlinked (pid, chain, is, among))

-- what pages show

-- The page has the value at the key.
abbrev ShowsAt : List ℕ → List ℕ → LivePage → Type 0
ShowsAt key value page = IsTrue (covers page.chain key) × (content_in page.chain key ≡ Some (Value value))

abbrev pub Shows : List ℕ → List ℕ → List LivePage → Type 0
Shows key value [] = ⊥
Shows key value (page ∷ pages) = ShowsAt key value page ⊎ Shows key value pages

abbrev pub AreAlike : List LivePage → List LivePage → Type 0
AreAlike pages others = (key value : List ℕ) → Shows key value pages ↔ Shows key value others

shown : (key value : List ℕ) (pages : List LivePage) (page : LivePage) → Contains pages page → ShowsAt key value page → Shows key value pages
shown key value [] page (k, lt, e) h = absurd (omega (arith, lt))
shown key value (first ∷ pages) page (zero, lt, e) h = inl (subst (ShowsAt key value) (sym e) h)
shown key value (first ∷ pages) page (suc k, lt, e) h = inr (shown key value pages page (k, omega (arith, lt), e) h)

found : (key value : List ℕ) (pages : List LivePage) → Shows key value pages → (page : LivePage) × Contains pages page × ShowsAt key value page
found key value [] h = absurd h
found key value (first ∷ pages) (inl here) = (first, (0, omega arith, refl), here)
found key value (first ∷ pages) (inr there) = let (page, (k, lt, e), h) = found key value pages there in (page, (suc k, omega (arith, lt), e), h)

-- the pages of a memory from one on, which are whole from a key on, and leaves
pub record Segment (memory : Memory) (pid : ℕ) (low : List ℕ) (pages : List LivePage) : Type 0 where
  pub sides : IsSideChainFrom memory pid pages
  pub whole : IsWholeFrom low pages
  pub level : AllByRecursion (λ page. level_in page.chain ≡ 0) pages

-- another memory has pages there that show the same
abbrev pub Goes : Memory → ℕ → List ℕ → List LivePage → Type 0
Goes after pid low pages = (others : List LivePage) × Segment after pid low others × AreAlike pages others

pub keeps : (memory after : Memory) (h : HasLeaves memory) → Goes after 1 [] h.pages → KeepsMap memory after
keeps memory after h (others, segment, alike) = record {
  leaves = record { pages = others; leaves = segment.sides; whole = segment.whole; level = segment.level };
  same = λ key value. (
    (λ (pages, page, is, among, within, content).
        let same : pages ≡ h.pages = IsSideChainFrom-unique memory 1 pages h.pages is h.leaves in
        let (other, there, at) = found key value others ((alike key value).0 (subst (Shows key value) same (shown key value pages page among (within, content)))) in
        (others, other, segment.sides, there, at.0, at.1)),
    (λ (pages, page, is, among, within, content).
        let same : pages ≡ others = IsSideChainFrom-unique after 1 pages others is segment.sides in
        let (other, there, at) = found key value h.pages ((alike key value).1 (subst (Shows key value) same (shown key value pages page among (within, content)))) in
        (h.pages, other, h.leaves, there, at.0, at.1)),
  );
}

-- the pages after one are others
abbrev pub Apart : ℕ → List LivePage → Type 0
Apart pid pages = AllByRecursion (λ (page : LivePage). page.pid ≢ pid) pages

-- a page among those from another on begins fewer
shorter : (memory : Memory) (pid : ℕ) (pages : List LivePage) → IsSideChainFrom memory pid pages → (bound : ℕ) → length pages ≤ bound
    → (start : ℕ) (longer : List LivePage) → IsSideChainFrom memory start longer → bound < length longer → Apart start pages
shorter memory pid [] h bound le start longer is lt = absurd h
shorter memory pid (page ∷ pages) h bound le start longer is lt = (
  (λ e.
      let same : longer ≡ page ∷ pages = IsSideChainFrom-unique memory start longer (page ∷ pages) is (rw (← sym h.0 ∙ e) h) in
      let equal = ap length same in
      omega (arith, equal, le, lt)),
  elim (right_in page.chain) as (λ o. MatchOption o (pages ≡ []) (λ right. IsSideChainFrom memory right pages) → Apart start pages) [
    | None ↦ λ none. subst (Apart start) (sym none) tt
    | Some right ↦ λ rest. shorter memory right pages rest bound (omega (arith, le)) start longer is lt
  ] h.2,
)

pub apart : (memory : Memory) (pid : ℕ) (page : LivePage) (pages : List LivePage) → IsSideChainFrom memory pid (page ∷ pages) → Apart pid pages
apart memory pid page pages h =
    elim (right_in page.chain) as (λ o. MatchOption o (pages ≡ []) (λ right. IsSideChainFrom memory right pages) → Apart pid pages) [
      | None ↦ λ none. subst (Apart pid) (sym none) tt
      | Some right ↦ λ rest. shorter memory right pages rest (length pages) (omega arith) pid (page ∷ pages) h (omega arith)
    ] h.2

-- a memory in which every page but one stands as before
module _ (memory after : Memory) (one : ℕ) (stays : (pid : ℕ) (chain : List Record) → pid ≢ one → IsChainOf memory pid chain → IsChainOf after pid chain) where
  pub sides_stay : (pid : ℕ) (pages : List LivePage) → IsSideChainFrom memory pid pages → Apart one pages → IsSideChainFrom after pid pages
  sides_stay pid [] h a = h
  sides_stay pid (page ∷ pages) h a = (
    h.0,
    stays pid page.chain (λ e. a.0 (h.0 ∙ e)) h.1,
    elim (right_in page.chain) as (λ o. MatchOption o (pages ≡ []) (λ right. IsSideChainFrom memory right pages) → MatchOption o (pages ≡ []) (λ right. IsSideChainFrom after right pages)) [
      | None ↦ λ none. none
      | Some right ↦ λ rest. sides_stay right pages rest a.1
    ] h.2,
  )

  pub stays_whole : (pid : ℕ) (low : List ℕ) (pages : List LivePage) → Segment memory pid low pages → Apart one pages → Goes after pid low pages
  stays_whole pid low pages s a = (pages, record { sides = sides_stay pid pages s.sides a; whole = s.whole; level = s.level }, (λ key value. ((λ h. h), (λ h. h))))

  -- the pages after a page, where none of them is that one
  pub rest_stays : (right : Option ℕ) (pages : List LivePage) → MatchOption right (pages ≡ []) (λ next. IsSideChainFrom memory next pages) → Apart one pages
      → MatchOption right (pages ≡ []) (λ next. IsSideChainFrom after next pages)
  rest_stays None pages side a = side
  rest_stays (Some next) pages side a = sides_stay next pages side a

  -- what comes after a page
  abbrev Tail : List LivePage → Option ℕ → Option (List ℕ) → Type 0
  Tail pages right high = (others : List LivePage) × MatchOption right (others ≡ []) (λ next. IsSideChainFrom after next others)
      × MatchOption high (others ≡ []) (λ key. IsWholeFrom key others) × AllByRecursion (λ (page : LivePage). level_in page.chain ≡ 0) others × AreAlike pages others

  tail : (pages : List LivePage) (right : Option ℕ) (high : Option (List ℕ)) → MatchOption right (pages ≡ []) (λ next. IsSideChainFrom memory next pages)
      → MatchOption high (pages ≡ []) (λ key. IsWholeFrom key pages)
      → AllByRecursion (λ (page : LivePage). level_in page.chain ≡ 0) pages → ((next : ℕ) (key : List ℕ) → Segment memory next key pages → Goes after next key pages) → Tail pages right high
  tail pages None None side whole level go = (pages, side, whole, level, (λ key value. ((λ h. h), (λ h. h))))
  tail pages None (Some high) side whole level go = absurd (subst (IsWholeFrom high) side whole)
  tail pages (Some right) None side whole level go = absurd (subst (IsSideChainFrom memory right) whole side)
  tail pages (Some right) (Some high) side whole level go =
      let (others, segment, alike) = go right high (record { sides = side; whole = whole; level = level }) in
      (others, segment.sides, segment.whole, segment.level, alike)

  after_page : (pid : ℕ) (low : List ℕ) (page : LivePage) (pages : List LivePage) → Segment memory pid low (page ∷ pages) → pid ≢ one
      → Tail pages (right_in page.chain) (high_in page.chain) → Goes after pid low (page ∷ pages)
  after_page pid low page pages s other (others, side, whole, level, alike) = (
    page ∷ others,
    record { sides = (s.sides.0, stays pid page.chain other s.sides.1, side); whole = (s.whole.0, whole); level = (s.level.0, level) },
    (λ key value. (
      (λ h. elim h [ inl first ↦ inl first | inr rest ↦ inr ((alike key value).0 rest) ]),
      (λ h. elim h [ inl first ↦ inl first | inr rest ↦ inr ((alike key value).1 rest) ]),
    )),
  )

  -- where the pages from that one on go, those from every other do
  module _ (here : (low : List ℕ) (pages : List LivePage) → Segment memory one low pages → Goes after one low pages) where
    pub goes : (pid : ℕ) (low : List ℕ) (pages : List LivePage) → Segment memory pid low pages → Goes after pid low pages
    goes pid low [] s = absurd s.sides
    goes pid low (page ∷ pages) s = elim (eqb_tells pid one) [
      | inl same ↦ rw same.1 (here low (page ∷ pages) (rw (← same.1) s))
      | inr other ↦ after_page pid low page pages s other.1 (tail pages (right_in page.chain) (high_in page.chain) s.sides.2 s.whole.1 s.level.1 (λ next key segment. goes next key pages segment))
    ]

-- linking

pub link_stays : (memory : Memory) (page row : ℕ) (content : Record) (pid : ℕ) (chain : List Record) → pid ≢ page → IsChainOf memory pid chain
    → Avoids row (chain_rows (memory.slots pid) chain) → IsChainOf (with_link page row content memory) pid chain
link_stays memory page row content pid chain other is avoid =
    let slot : replaced_at page row memory.slots pid ≡ memory.slots pid = replaced_other page row memory.slots pid other in
    record {
      page = is.page;
      linked = rw slot is.linked;
      records = rw slot (chain_stays memory.rows row (Some content) (memory.slots pid) chain is.records avoid);
    }

-- a page that isn't among the leaves
apart_if : (memory : Memory) (one : ℕ) → ((chain : List Record) → IsChainOf memory one chain → level_in chain ≡ 0 → ⊥) → (pid : ℕ) (pages : List LivePage) → IsSideChainFrom memory pid pages
    → AllByRecursion (λ (page : LivePage). level_in page.chain ≡ 0) pages → Apart one pages
apart_if memory one never pid [] h level = tt
apart_if memory one never pid (page ∷ pages) h level = (
  (λ e. never page.chain (rw (← sym h.0 ∙ e) h.1) level.0),
  elim (right_in page.chain) as (λ o. MatchOption o (pages ≡ []) (λ right. IsSideChainFrom memory right pages) → Apart one pages) [
    | None ↦ λ none. subst (Apart one) (sym none) tt
    | Some right ↦ λ rest. apart_if memory one never right pages rest level.1
  ] h.2,
)

segment : (memory : Memory) (h : HasLeaves memory) → Segment memory 1 [] h.pages
segment memory h = record { sides = h.leaves; whole = h.whole; level = h.level }

-- the same leaves stand, where another page changes
pub beside_keeps : (memory after : Memory) (one : ℕ) → HasLeaves memory → ((pid : ℕ) (chain : List Record) → pid ≢ one → IsChainOf memory pid chain → IsChainOf after pid chain)
    → ((chain : List Record) → IsChainOf memory one chain → level_in chain ≡ 0 → ⊥) → KeepsMap memory after
beside_keeps memory after one h stays never = keeps memory after h (stays_whole memory after one stays 1 [] h.pages (segment memory h) (apart_if memory one never 1 h.pages h.leaves h.level))

-- the leaves go where one page goes
pub page_keeps : (memory after : Memory) (one : ℕ) → HasLeaves memory → ((pid : ℕ) (chain : List Record) → pid ≢ one → IsChainOf memory pid chain → IsChainOf after pid chain)
    → ((low : List ℕ) (pages : List LivePage) → Segment memory one low pages → Goes after one low pages) → KeepsMap memory after
page_keeps memory after one h stays here = keeps memory after h (goes memory after one stays here 1 [] h.pages (segment memory h))
