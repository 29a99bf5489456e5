-- The visit of a page whose chain stands in the memory: it reads one record after another, and finds the whole page.
use Rattle.progress.proofs.Words.{◌≡◌, ◌<◌, ◌++◌, append_assoc, ℕ, suc, List, [], ◌∷◌, length, Some, None, refl, sym, ap, ◌∙◌, inl, inr, arith, MatchOption, Limits, Answer, Memory, next_row}
use Rattle.progress.proofs.Words.{Record, IsChainFrom, IsChainOf, IsAnswer, Version, Number, Content, Empty, Whole, Visit, VisitState, Slot, Row}
use Rattle.round_model.specs.Visits.{Completes, Continues, FindsHead, Responds, wanted_step}

module _ (memory : Memory) where
  -- what is still to be read of the page's chain, and how many steps that takes
  abbrev pub IsLeft : List Record → List Record → VisitState → ℕ → Type 0
  IsLeft chain part Slot steps = steps ≡ suc (length chain)
  IsLeft chain part (Row head row) steps = (rest : List Record) × (steps ≡ length rest) × IsChainFrom memory.rows row rest × (part ++ rest ≡ chain)

  -- The visit goes on, with one step fewer.
  pub record GoesOn (old next : Visit) (chain : List Record) (steps : ℕ) : Type 0 where
    pub is_pid : next.pid ≡ old.pid
    pub left : ℕ
    pub fewer : suc left ≡ steps
    pub is_left : IsLeft chain next.part next.state left

  head : (limits : Limits) (pid : ℕ) (part chain : List Record) (state : VisitState) (steps : ℕ) (told : Answer Record) (next : Visit) → IsChainOf memory pid chain → IsLeft chain part state steps
      → IsAnswer memory (wanted_step (record { limits = limits; pid = pid; part = part; state = state })) told → FindsHead (record { limits = limits; pid = pid; part = part; state = state }) told next
      → GoesOn (record { limits = limits; pid = pid; part = part; state = state }) next chain steps
  head limits pid part chain (Row h r) steps told next is left answer f = let e = f.asked in absurd (cc)
  head limits pid part chain Slot steps told next is left answer f =
      let row : memory.slots pid ≡ f.row = (let both : Number (memory.slots pid) ≡ Number f.row = sym answer ∙ f.is in cc) in
      rw f.goes
      (record { is_pid = refl; left = length chain; fewer = sym left; is_left = (chain, refl, rw (← row) is.records, refl) })

  -- the record in a row of a chain is the chain's
  first_of : (row under : ℕ) (content : Record) (rest : List Record) → IsChainFrom memory.rows row rest → memory.rows row ≡ Some content
      → next_row content ≡ Some under → (below : List Record) × (rest ≡ content ∷ below) × IsChainFrom memory.rows under below
  first_of row under content [] from there more = absurd from
  first_of row under content (newest ∷ below) from there more =
      let same : newest ≡ content = (let both : Some newest ≡ Some content = sym from.0 ∙ there in cc) in
      let next : MatchOption (Some under) (below ≡ []) (λ n. IsChainFrom memory.rows n below) = rw (ap next_row same ∙ more) at from.1 in
      (below, ap (λ (c : Record). c ∷ below) same, next)

  last_of : (row : ℕ) (content : Record) (rest : List Record) → IsChainFrom memory.rows row rest → memory.rows row ≡ Some content → next_row content ≡ None → rest ≡ content ∷ []
  last_of row content [] from there last = absurd from
  last_of row content (newest ∷ below) from there last =
      let same : newest ≡ content = (let both : Some newest ≡ Some content = sym from.0 ∙ there in cc) in
      let next : below ≡ [] = rw (ap next_row same ∙ last) at from.1 in
      (λ i. same i ∷ next i)

  content_of : (row : ℕ) (content : Record) (told : Answer Record) → (c : Record) × (memory.rows row ≡ Some c) × (told ≡ Content c) → told ≡ Content content → memory.rows row ≡ Some content
  content_of row content told (c, there, is) e = let same : c ≡ content = (let both : Content c ≡ Content content = sym is ∙ e in cc) in there ∙ ap Some same

  pub goes_on : (limits : Limits) (pid : ℕ) (part chain : List Record) (state : VisitState) (steps : ℕ) (told : Answer Record) (next : Visit) → IsLeft chain part state steps
      → IsAnswer memory (wanted_step (record { limits = limits; pid = pid; part = part; state = state })) told → Continues (record { limits = limits; pid = pid; part = part; state = state }) told next
      → GoesOn (record { limits = limits; pid = pid; part = part; state = state }) next chain steps
  goes_on limits pid part chain Slot steps told next left answer c = let e = c.asked in absurd (cc)
  goes_on limits pid part chain (Row head row) steps told next left answer c =
      let row_is : row ≡ c.row = (let e = c.asked in cc) in
      let head_is : head ≡ c.head = (let e = c.asked in cc) in
      let there = content_of row c.content told answer c.is in
      let f = first_of row c.under c.content left.0 left.2 there c.more in
      rw c.goes
      (record
      { is_pid = refl; left = length f.0; fewer = sym (left.1 ∙ ap length f.1); is_left = (f.0, refl, f.2, append_assoc part (c.content ∷ []) f.0 ∙ ap (λ rest. part ++ rest) (sym f.1) ∙ left.3) })

  pub visits : (old next : Visit) (chain : List Record) (steps : ℕ) (told : Answer Record) → IsChainOf memory old.pid chain
      → IsLeft chain old.part old.state steps → IsAnswer memory (wanted_step old) told → Responds old told next None → GoesOn old next chain steps
  visits old next chain steps told is left answer r = elim r [
    | inl f ↦ head old.limits old.pid old.part chain old.state steps told next is left answer f
    | inr c ↦ goes_on old.limits old.pid old.part chain old.state steps told next left answer c
  ]

  -- the slot isn't empty
  pub not_empty : (old next : Visit) (chain : List Record) (told : Answer Record) → IsChainOf memory old.pid chain → IsAnswer memory (wanted_step old) told → Responds old told next (Some Empty) → ⊥
  not_empty old next chain told is answer f =
      let at : told ≡ Number (memory.slots old.pid) = rw f.asked at answer in
      let zeroth : memory.slots old.pid ≡ 0 = (let both : Number (memory.slots old.pid) ≡ Number 0 = sym at ∙ f.is in cc) in
      let linked = is.linked in
      omega (arith, zeroth, linked)

  whole : (limits : Limits) (pid : ℕ) (part chain : List Record) (state : VisitState) (steps : ℕ) (told : Answer Record) (version : Version) → IsLeft chain part state steps
      → IsAnswer memory (wanted_step (record { limits = limits; pid = pid; part = part; state = state })) told
      → Completes (record { limits = limits; pid = pid; part = part; state = state }) told version → (version.chain ≡ chain) × (0 < steps)
  whole limits pid part chain Slot steps told version left answer c = let e = c.asked in absurd (cc)
  whole limits pid part chain (Row head row) steps told version left answer c =
      let row_is : row ≡ c.row = (let e = c.asked in cc) in
      let there = content_of row c.content told answer c.is in
      let last = last_of row c.content left.0 left.2 there c.last in
      let one : length left.0 ≡ 1 = ap length last in
      let is = left.1 in
      (c.chain ∙ ap (λ rest. part ++ rest) (sym last) ∙ left.3, omega (arith, one, is))

  -- the whole page is found
  pub finds : (old next : Visit) (chain : List Record) (steps : ℕ) (told : Answer Record) (version : Version) → IsLeft chain old.part old.state steps
      → IsAnswer memory (wanted_step old) told → Responds old told next (Some (Whole version))
      → (version.pid ≡ old.pid) × (version.chain ≡ chain) × (0 < steps)
  finds old next chain steps told version left answer c = let f = whole old.limits old.pid old.part chain old.state steps told version left answer c in (c.pid, f.0, f.1)

  -- once the slot was read, the row that it had is the one that it has
  abbrev pub IsAtHead : ℕ → VisitState → Type 0
  IsAtHead pid Slot = Unit {0}
  IsAtHead pid (Row head row) = head ≡ memory.slots pid

  pub heads : (old next : Visit) (told : Answer Record) → IsAnswer memory (wanted_step old) told → Responds old told next None → IsAtHead old.pid old.state → IsAtHead next.pid next.state
  heads old next told answer r at = elim r [
    | inl f ↦
        let is : told ≡ Number (memory.slots old.pid) = rw f.asked at answer
        in
        let row : f.row ≡ memory.slots old.pid = (let both : Number f.row ≡ Number (memory.slots old.pid) = sym f.is ∙ is in cc) in
        rw f.goes row
    | inr c ↦
        let here : IsAtHead old.pid (Row c.head c.row) = rw c.asked at at in
        rw c.goes here
  ]
