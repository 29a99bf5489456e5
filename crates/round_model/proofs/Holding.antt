-- What was read stays known while other pages are read.
use Rattle.round_model.proofs.Words.{◌≡◌, ◌≢◌, ◌<◌, inl, inr, ℕ, zero, suc, ◌==◌, List, [], ◌∷◌, Bool, true, false, cond, Option, Some, None, refl, sym, ap, arith, MatchOption}
use Rattle.round_model.proofs.Words.{AllByRecursion, eq-eqb, eqb-true, eqb_tells, Limits, Record, replaced_at, next_row, IsChainFrom, Knowledge, learn, learn_slot, IsUnread, Version}
use Rattle.round_model.proofs.Words.{HasRead, is_removed, IsInHand}
use Rattle.structure_changes.specs.Readings.{HasSeen}
use Rattle.traces.specs.discipline.Discipline.{IsBeyond}
use Rattle.bw_model.specs.declared.step.Step.TheVariants as step
use Rattle.bw_model.specs.declared.step.Answer.TheVariants as answer
use Rattle.round_model.specs.Walks.{IsNamedAt, IsNextAt, IsPast}

-- A row is read again; what was seen there before is the same record.
pub chain_more : (seen : ℕ → Option Record) (n : ℕ) (w : Record) → ((before : Record) → seen n ≡ Some before → w ≡ before) → (chain : List Record) (row : ℕ)
    → IsChainFrom seen row chain → IsChainFrom (replaced_at n (Some w) seen) row chain
chain_more seen n w same [] row h = absurd h
chain_more seen n w same (v ∷ vs) row h = (go (row == n) refl, deeper (next_row v) (λ next. chain_more seen n w same vs next) h.1)
  where
    go : (b : Bool) → (row == n) ≡ b → cond b (Some w) (seen row) ≡ Some v
    go true e = let j : row ≡ n = eqb-true row n e in ap Some (same v (rw (← j) h.0))
    go false e = h.0

    deeper : (o : Option ℕ) → ((next : ℕ) → IsChainFrom seen next vs → IsChainFrom (replaced_at n (Some w) seen) next vs)
        → MatchOption o (vs ≡ []) (λ next. IsChainFrom seen next vs) → MatchOption o (vs ≡ []) (λ next. IsChainFrom (replaced_at n (Some w) seen) next vs)
    deeper None more h = h
    deeper (Some next) more h = more next h

-- a page whose slot and rows are known as they were is in hand as it was, and names what it named
pub in_hand_as : {limits : Limits} {k : Knowledge} {version : Version} (now : Knowledge) (h : IsInHand limits k version)
    → now.read.heads version.pid ≡ Some version.head → IsChainFrom now.read.seen version.head version.chain → IsInHand limits now version
in_hand_as now h head read = record { page = h.page; row = h.row; seen = record { head = head; read = read }; sound = h.sound }

named_as : {limits : Limits} {k : Knowledge} {page level : ℕ} {low : List ℕ} (now : Knowledge) (h : IsNamedAt limits k page level low)
    → IsInHand limits now h.naming → IsNamedAt limits now page level low
named_as now h in_hand = record { naming = h.naming; in_hand = in_hand; alive = h.alive; apart = h.apart; names = h.names }

next_as : {limits : Limits} {k : Knowledge} {page level : ℕ} {low : List ℕ} (now : Knowledge) (h : IsNextAt limits k page level low)
    → IsInHand limits now h.left → now.read.before h.left.pid h.beyond.removed ≡ Some h.beyond.row → IsChainFrom now.read.seen h.beyond.row h.beyond.chain
    → IsNextAt limits now page level low
next_as {page = page} now h in_hand order read =
    let b = h.beyond in
    let beyond : IsBeyond now h.left.pid h.left.chain page =
    record { removed = b.removed; row = b.row; chain = b.chain; right = b.right; order = order; read = read; gone = b.gone; named = b.named } in
    record { left = h.left; in_hand = in_hand; alive = h.alive; apart = h.apart; beyond = beyond; names = h.names }

-- a page in hand that isn't removed was read
abbrev pub has_read : {k : Knowledge} {version : Version} → HasSeen k version → is_removed version.chain ≡ false → HasRead k version.pid version.head
has_read {version = version} seen alive = record { head = seen.head; chain = version.chain; read = seen.read; alive = alive }

-- another slot is read

slot_head : (k : Knowledge) (page n other row : ℕ) → other ≢ page → k.read.heads other ≡ Some row → (learn_slot page n k).read.heads other ≡ Some row
slot_head k (suc page) (suc n) other row apart h = elim (eqb_tells other (suc page)) [ inl same ↦ absurd (apart same.1) | inr differs ↦ rw differs.0 h ]
slot_head k page n other row apart h = h

slot_chain : (k : Knowledge) (page n : ℕ) (row : ℕ) (chain : List Record) → IsChainFrom k.read.seen row chain → IsChainFrom (learn_slot page n k).read.seen row chain
slot_chain k (suc page) zero row chain h = h
slot_chain k page n row chain h = h

pub in_hand_slot : (limits : Limits) (k : Knowledge) (page n : ℕ) (version : Version) → version.pid ≢ page → IsInHand limits k version → IsInHand limits (learn_slot page n k) version
in_hand_slot limits k page n version apart h =
    in_hand_as (learn_slot page n k) h (slot_head k page n version.pid version.head apart h.seen.head)
    (slot_chain k page n version.head version.chain h.seen.read)

pub named_slot : (limits : Limits) (k : Knowledge) (page n level : ℕ) (low : List ℕ) → IsNamedAt limits k page level low → IsNamedAt limits (learn_slot page n k) page level low
named_slot limits k page n level low h = named_as (learn_slot page n k) h (in_hand_slot limits k page n h.naming h.apart h.in_hand)

pub slot_before : (k : Knowledge) (page n left other row : ℕ) → left ≢ page → k.read.before left other ≡ Some row → (learn_slot page n k).read.before left other ≡ Some row
slot_before k (suc page) (suc n) left other row apart h = elim (eqb_tells left (suc page)) [ inl same ↦ absurd (apart same.1) | inr differs ↦ rw differs.0 h ]
slot_before k page n left other row apart h = h

pub next_slot : (limits : Limits) (k : Knowledge) (page n level : ℕ) (low : List ℕ) → IsNextAt limits k page level low → IsNextAt limits (learn_slot page n k) page level low
next_slot limits k page n level low h =
    let b = h.beyond in
    next_as (learn_slot page n k) h (in_hand_slot limits k page n h.left h.apart h.in_hand) (slot_before k page n h.left.pid b.removed b.row h.apart b.order)
    (slot_chain k page n b.row b.chain b.read)

pub past_slot : (k : Knowledge) (page n level : ℕ) (low : List ℕ) (others : List ℕ) → IsUnread page others → AllByRecursion (IsPast k level low) others
    → AllByRecursion (IsPast (learn_slot page n k) level low) others
past_slot k page n level low [] new h = tt
past_slot k page n level low (other ∷ others) new h = (
  record { head = h.0.head; chain = h.0.chain; in_slot = slot_head k page n other h.0.head (λ e. new.0 (sym e)) h.0.in_slot; read = slot_chain k page n h.0.head h.0.chain h.0.read; past = h.0.past },
  past_slot k page n level low others new.1 h.1,
)

-- what was known when the slot was read
pub before_slot : (k : Knowledge) (page n other head : ℕ) → 0 < page → 0 < n → k.read.heads other ≡ Some head → (learn_slot page n k).read.before page other ≡ Some head
before_slot k zero n other head some linked is = absurd (omega (arith, some))
before_slot k (suc page) zero other head some linked is = absurd (omega (arith, linked))
before_slot k (suc page) (suc n) other head some linked is = let e : (suc page == suc page) ≡ true = eq-eqb (suc page) (suc page) refl in rw e is

-- a row is read
module _ (k : Knowledge) (row : ℕ) (w : Record) (same : (before : Record) → k.read.seen row ≡ Some before → w ≡ before) where
  abbrev now : Knowledge
  now = learn k (step.Row row) (answer.Content w)

  pub read_more : (other head : ℕ) (chain : List Record) → k.read.heads other ≡ Some head → IsChainFrom k.read.seen head chain
      → (now.read.heads other ≡ Some head) × IsChainFrom now.read.seen head chain
  read_more other head chain held read = (held, chain_more k.read.seen row w same chain head read)

  pub in_hand_row : (limits : Limits) (version : Version) → IsInHand limits k version → IsInHand limits now version
  in_hand_row limits version h = in_hand_as now h h.seen.head (chain_more k.read.seen row w same version.chain version.head h.seen.read)

  pub named_row : (limits : Limits) (page level : ℕ) (low : List ℕ) → IsNamedAt limits k page level low → IsNamedAt limits now page level low
  named_row limits page level low h = named_as now h (in_hand_row limits h.naming h.in_hand)

  pub next_read : (limits : Limits) (page level : ℕ) (low : List ℕ) → IsNextAt limits k page level low → IsNextAt limits now page level low
  next_read limits page level low h =
      next_as now h (in_hand_row limits h.left h.in_hand) h.beyond.order (chain_more k.read.seen row w same h.beyond.chain h.beyond.row h.beyond.read)

  pub past_row : (level : ℕ) (low : List ℕ) (others : List ℕ) → AllByRecursion (IsPast k level low) others → AllByRecursion (IsPast now level low) others
  past_row level low [] h = tt
  past_row level low (other ∷ others) h = (
    record { head = h.0.head; chain = h.0.chain; in_slot = h.0.in_slot; read = chain_more k.read.seen row w same h.0.chain h.0.head h.0.read; past = h.0.past },
    past_row level low others h.1,
  )
