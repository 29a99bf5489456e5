-- What is in store after a step that links nothing over a page's chain.
use Rattle.tree_law.proofs.Words.{false, ◌⊎◌, [], ap, refl, Option, suc, List, inl, ◌≢◌, ◌≤◌, inr, ◌∷◌, sym, ℕ, ◌≡◌, ◌∙◌, ◌<◌, arith, Some, ◌+◌, ◌*◌, ◌-◌, Item, Key, Child, root_over, Owners}
use Rattle.tree_law.proofs.Words.{Linked, IsClosed, Shared, Placed, PageOwner, Keeps, Fresh, Indexed, Cleared, put, IsWorth, is_alive, life, total}
use Rattle.tree_law.proofs.shape.Puts.{by_equal, put_other, put_same}
use Rattle.tree_law.proofs.changes.Alive.{dead_worth, worth_kept, worth_most}
use Rattle.tree_law.proofs.changes.Counting.{fewer}
use Rattle.tree_law.proofs.changes.Lives.{above_empty}
use Rattle.tree_law.proofs.changes.Totals.{none, one}

module _ (o o' : Owners) (m m' : Shared) (n : ℕ) (closed : IsClosed o m) (same : (row : ℕ) → o.row row ≡ Linked → m'.rows row ≡ m.rows row)
    (worths worths' : ℕ → ℕ) (each : (page : ℕ) → IsWorth o m page (worths page)) (each' : (page : ℕ) → IsWorth o' m' page (worths' page)) where
  abbrev lives : ℕ → ℕ
  lives page = life (o.page page) (m.slots page)

  abbrev lives' : ℕ → ℕ
  lives' page = life (o'.page page) (m'.slots page)

  -- the page is as it was, or is worth nothing now
  abbrev pub IsSteady : ℕ → Type 0
  IsSteady page = ((o'.page page ≡ o.page page) × (m'.slots page ≡ m.slots page)) ⊎ ((is_alive (o'.page page) ≡ false) × (life (o'.page page) (m'.slots page) ≡ 0))

  steady_worth : (page : ℕ) → IsSteady page → worths' page ≤ worths page
  steady_worth page (inl (owner, slot)) = worth_kept o o' m m' closed same page (worths page) (worths' page) (each page) (each' page) (λ alive. (sym (ap is_alive owner) ∙ alive, slot))
  steady_worth page (inr (dead, over)) = let none : worths' page ≡ 0 = dead_worth o' m' page (worths' page) (each' page) dead in omega arith

  steady_life : (page : ℕ) → IsSteady page → lives' page ≤ lives page
  steady_life page (inl (owner, slot)) = let is : lives' page ≡ lives page = rw (owner, slot) refl in omega arith
  steady_life page (inr (dead, over)) = omega (arith, over)

  -- So much less is in store.
  abbrev pub Sinks : ℕ → Type 0
  Sinks loss = (total worths' n + total lives' n) + loss ≤ total worths n + total lives n

  -- each page is steady
  pub steady : ((page : ℕ) → IsSteady page) → Sinks 0
  steady each_is =
      let bodies : total worths' n ≤ total worths n = none worths worths' n (λ page lt. steady_worth page (each_is page)) in
      let lived : total lives' n ≤ total lives n = none lives lives' n (λ page lt. steady_life page (each_is page)) in
      omega arith

  -- a page whose term is gone is out of the tree
  pub clear_store : (p actor level : ℕ) (low : Key) (row : ℕ) → p < n → o.page p ≡ Cleared actor level low → m.slots p ≡ Some row → ((page : ℕ) → IsSteady page) → lives' p ≡ 0 → Sinks 1
  clear_store p actor level low row within was held each_is over =
      let bodies : total worths' n ≤ total worths n = none worths worths' n (λ page lt. steady_worth page (each_is page)) in
      let lived : total lives' n + lives p ≤ total lives n + lives' p = one lives lives' p n within (λ page lt ne. steady_life page (each_is page)) in
      let one_left : lives p ≡ 1 = rw (was, held) refl in
      omega arith

  -- a new root is put over the old one and its right
  pub root_store : (x y b l row level : ℕ) (s : Key) → b < n → o.page b ≡ Placed Fresh l s → o.page y ≡ Keeps x
      → o'.page ≡ put (put o.page b (Placed Indexed l s)) y (Placed Indexed (suc l) []) → m'.slots ≡ m.slots → s ≢ []
      → m'.slots y ≡ Some row → (old : ℕ) → m'.rows row ≡ Some (root_over level old s b) → Sinks 1
  root_store x y b l row level s within was own moves slots some at old stands =
      let apart : b ≢ y = λ e. absurd (let twice : Placed Fresh l s ≡ Keeps x = sym was ∙ ap o.page e ∙ own in cc) in
      let at_y : o'.page y ≡ Placed Indexed (suc l) [] = ap (λ (f : ℕ → PageOwner). f y) moves ∙ put_same (put o.page b (Placed Indexed l s)) y (Placed Indexed (suc l) []) in
      let at_b : o'.page b ≡ Placed Indexed l s =
      ap (λ (f : ℕ → PageOwner). f b) moves ∙ put_other (put o.page b (Placed Indexed l s)) y (Placed Indexed (suc l) []) b apart ∙ put_same o.page b (Placed Indexed l s) in
      let others : (page : ℕ) → page ≢ b → page ≢ y → o'.page page ≡ o.page page = λ page nb ny. ap (λ (f : ℕ → PageOwner). f page) moves ∙ put_other
      (put o.page b (Placed Indexed l s)) y (Placed Indexed (suc l) []) page ny ∙ put_other o.page b (Placed Indexed l s) page nb in
      let slot : (page : ℕ) → m'.slots page ≡ m.slots page = λ page. ap (λ (f : ℕ → Option ℕ). f page) slots in
      let terms : List Item = record { key = []; content = Child old false } ∷ record { key = s; content = Child b false } ∷ [] in
      let small : worths' y ≤ (1 - 1) + 6 * (2 - 7) =
      worth_most o' m' y (worths' y) (each' y) row (root_over level old s b ∷ []) 2 at (stands, refl) (λ items are. fewer items terms are.ascending (λ key has. rw (are.contents key) at has)) in
      let bodies : total worths' n ≤ total worths n = none worths worths' n (λ page lt. by_equal page y
      (λ e t. let empty : worths' page ≤ 0 = rw e small in omega arith)
      (λ ny t. by_equal page b
      (λ e u. worth_kept o o' m m' closed same page (worths page) (worths' page) (each page) (each' page) (λ alive. (ap is_alive (ap o.page e ∙ was), slot page)))
      (λ nb u. steady_worth page (inl (others page nb ny, slot page))))) in
      let lived : total lives' n + lives b ≤ total lives n + lives' b = one lives lives' b n within (λ page lt nb. by_equal page y
      (λ e t. let over : lives' page ≡ 0 = rw (e, at_y) refl in omega arith)
      (λ ny t. steady_life page (inl (others page nb ny, slot page)))) in
      let worth : lives b ≡ 40 = rw was (above_empty s 40 some) in
      let less : lives' b ≡ 32 = rw at_b (above_empty s 32 some) in
      omega arith
