-- Going to the right until a leaf has the key.
use Rattle.listing.proofs.Words.{◌≡◌, ◌<◌, ◌≤◌, ◌+◌, ℕ, List, [], ◌∷◌, ◌++◌, length, Some, MatchOption, refl, sym, subst, ap, ◌∙◌, arith, append_assoc}
use Rattle.listing.proofs.Words.{AllByRecursion, length-append, Page, Record, Memory, Limits, low_in, Makes, IsSideChainFrom, IsWholeFrom, LivePage}
use Rattle.listing.proofs.Words.{IsUnder, IsUpTo, Key, HasLeafPages, IsLeafPage, covers_to, StandsAt}
use Rattle.std.proofs.lemmas.List.Elements.{Contains-append_right}
use Rattle.base_page.proofs.ItemLaws.{back_all}
use Rattle.base_page.specs.Rules.{IsRuled}
use Rattle.base_page.specs.Shown.{pairs_shown}
use Rattle.base_page.specs.declared.page.shows.Direction.TheVariants.{Forward}
use Rattle.row_chain.proofs.PairLaws.{pairs_in}
use Rattle.tree_law.proofs.shape.KeyOrder.{empty_lowest}
use Rattle.listing.specs.Listed.{IsAmong, IsFoundAt, IsPageFrom, IsBeyondEnd}
use Rattle.listing.proofs.Ranges.{whole_at}

-- The leaf with this PID isn't behind the key, and so many leaves at least are to its left.
pub record IsOnWay (memory : Memory) (pages : List LivePage) (from : Key) (count pid : ℕ) : Type 0 where
  pub front : List LivePage
  pub page : LivePage
  pub later : List LivePage
  pub whole : pages ≡ front ++ page ∷ later
  pub next : IsSideChainFrom memory pid (page ∷ later)
  pub low : IsUpTo (low_in page.chain) from
  pub enough : count ≤ length front

-- the page with this PID, and those to its right
record IsPlaced (memory : Memory) (pages : List LivePage) (pid : ℕ) : Type 0 where
  pub front : List LivePage
  pub page : LivePage
  pub later : List LivePage
  pub whole : pages ≡ front ++ page ∷ later
  pub next : IsSideChainFrom memory pid (page ∷ later)

placed : (memory : Memory) (pages : List LivePage) (pid : ℕ) → IsAmong memory pages pid → IsPlaced memory pages pid
placed memory pages pid among = go among.rest among.whole among.next
  where
    go : (rest : List LivePage) → pages ≡ among.front ++ rest → IsSideChainFrom memory pid rest → IsPlaced memory pages pid
    go [] whole next = absurd next
    go (page ∷ later) whole next = record { front = among.front; page = page; later = later; whole = whole; next = next }

module _ (limits : Limits) (memory : Memory) (leaves : HasLeafPages limits memory) where
  -- a leaf stands, at a PID in range
  stands_at : (front : List LivePage) (page : LivePage) (later : List LivePage) (pid : ℕ) → leaves.pages ≡ front ++ page ∷ later
      → IsSideChainFrom memory pid (page ∷ later) → (pid < limits.pids) × StandsAt memory pid page.chain
  stands_at front page later pid whole next =
      let each : AllByRecursion (IsLeafPage limits memory) (page ∷ later) = back_all (IsLeafPage limits memory) front (page ∷ later)
      (subst (AllByRecursion (IsLeafPage limits memory)) whole leaves.each) in
      (rw (← next.0) each.0.pid, record { records = next.1.records; fits = each.0.fits })

  pub among_stands : (pid : ℕ) → IsAmong memory leaves.pages pid → (pid < limits.pids) × ((chain : List Record) × StandsAt memory pid chain)
  among_stands pid among =
      let p = placed memory leaves.pages pid among in
      let (below, stands) = stands_at p.front p.page p.later pid p.whole p.next in
      (below, (p.page.chain, stands))

  -- the first leaf is among them
  pub first_among : IsAmong memory leaves.pages 1
  first_among = record { front = []; rest = leaves.pages; whole = refl; next = leaves.leaves }

  pub from_first : (from : Key) → IsOnWay memory leaves.pages from 0 1
  from_first from = go leaves.pages refl leaves.leaves leaves.whole
    where
      go : (pages : List LivePage) → leaves.pages ≡ pages → IsSideChainFrom memory 1 pages → IsWholeFrom [] pages → IsOnWay memory leaves.pages from 0 1
      go [] e next whole = absurd next
      go (page ∷ later) e next whole = record { front = []; page = page; later = later; whole = e; next = next; low = rw whole.0 (empty_lowest from); enough = omega arith }

  pub from_near : (from : Key) (near : ℕ) → IsAmong memory leaves.pages near → ((chain : List Record) → StandsAt memory near chain → IsUpTo (low_in chain) from)
      → IsOnWay memory leaves.pages from 0 near
  from_near from near among low =
      let p = placed memory leaves.pages near among in
      record { front = p.front; page = p.page; later = p.later; whole = p.whole; next = p.next; low = low p.page.chain (stands_at p.front p.page p.later near p.whole p.next).1; enough = omega arith }

  module _ (from : Key) (count pid : ℕ) (at : IsOnWay memory leaves.pages from count pid) where
    pub way_stands : (pid < limits.pids) × StandsAt memory pid at.page.chain
    way_stands = stands_at at.front at.page at.later pid at.whole at.next

    -- there is a leaf more
    pub way_more : count < limits.pids
    way_more =
        let long : length leaves.pages ≡ length at.front + length (at.page ∷ at.later) = ap length at.whole ∙ length-append at.front (at.page ∷ at.later) in
        omega (arith, leaves.few, at.enough, long)

    module _ (made : Page) (makes : (chain : List Record) → StandsAt memory pid chain → Makes chain made) where
      is : Makes at.page.chain made
      is = makes at.page.chain way_stands.1

      -- this leaf has the key
      pub way_found : IsUnder from made.high → IsFoundAt memory leaves.pages from pid
      way_found under = record { front = at.front; page = at.page; later = at.later; whole = at.whole; next = at.next; has = record { low = at.low; high = subst (IsUnder from) is.high under } }

      -- it is to the right
      pub way_on : (right : ℕ) → made.right ≡ Some right → IsBeyondEnd from made.high → IsOnWay memory leaves.pages from (count + 1) right
      way_on right e (high, ends, passed) = go at.later at.whole follows after
        where
          follows : IsSideChainFrom memory right at.later
          follows = subst (λ o. MatchOption o (at.later ≡ []) (λ next. IsSideChainFrom memory next at.later)) (sym is.right ∙ e) at.next.2

          after : IsWholeFrom high at.later
          after =
              subst (λ o. MatchOption o (at.later ≡ []) (λ next. IsWholeFrom next at.later)) (sym is.high ∙ ends)
              (whole_at [] at.front at.page at.later (subst (IsWholeFrom []) at.whole leaves.whole)).1

          go : (later : List LivePage) → leaves.pages ≡ at.front ++ at.page ∷ later → IsSideChainFrom memory right later → IsWholeFrom high later → IsOnWay memory leaves.pages from (count + 1) right
          go [] whole next ranges = absurd next
          go (page ∷ later) whole next ranges =
              let long : length (at.front ++ at.page ∷ []) ≡ length at.front + 1 = length-append at.front (at.page ∷ []) in
              record {
                front = at.front ++ at.page ∷ [];
                page = page;
                later = later;
                whole = whole ∙ sym (append_assoc at.front (at.page ∷ []) (page ∷ later));
                next = next;
                low = rw ranges.0 passed;
                enough = omega (arith, at.enough, long);
              }

  module _ (from : Key) (pid : ℕ) (f : IsFoundAt memory leaves.pages from pid) where
    pub found_stands : (pid < limits.pids) × StandsAt memory pid f.page.chain
    found_stands = stands_at f.front f.page f.later pid f.whole f.next

    pub found_among : IsAmong memory leaves.pages pid
    found_among = record { front = f.front; rest = f.page ∷ f.later; whole = f.whole; next = f.next }

    pub shows_from : (made : Page) → ((chain : List Record) → StandsAt memory pid chain → Makes chain made) → IsRuled made
        → IsPageFrom leaves.pages from (pairs_shown Forward from made.items) made.high
    shows_from made makes ruled =
        let is : Makes f.page.chain made = makes f.page.chain found_stands.1 in
        record {
          page = f.page;
          among = rw f.whole (Contains-append_right f.front (f.page ∷ f.later) f.page (0, omega arith, refl));
          covers = covers_to f.page.chain from f.has;
          ends = sym is.high;
          are = pairs_in f.page.chain made from is ruled.is_page;
        }
