-- The chains of the pages that are alive, and what they are worth.
use Rattle.tree_law.proofs.Words.{false, [], ap, refl, Option, None, List, true, inl, length, ◌≤◌, inr, ◌∷◌, sym, ℕ, ◌≡◌, Bool, ◌∙◌, arith, Some, ◌+◌, ◌*◌, ◌-◌, same_Some, Update, Item, Key}
use Rattle.tree_law.proofs.Words.{Record, IsChainFrom, IsChainFrom-unique, Knowledge, IsFitted, AreFitted, Owners, Linked, IsClosed, Shared, IsTree, Placed, PageOwner, Stage, rank, Fresh}
use Rattle.tree_law.proofs.Words.{Indexed, Held, spec, decided, IsItemsOf, IsWorth, is_alive}
use Rattle.tree_law.specs.Changes.{AliveChain, IsWorthBy, chain_worth}
use Rattle.tree_law.proofs.shape.Rows.{rows_kept}
use Rattle.tree_law.proofs.shape.Sides.{locate}
use Rattle.tree_law.proofs.changes.Items.{same_items}

-- a page that is alive stands at a stage before removal
pub record AliveAt (w : PageOwner) : Type 0 where
  pub stage : Stage
  pub level : ℕ
  pub low : Key
  pub placed : w ≡ Placed stage level low
  pub on : rank stage ≤ 3

pub alive_at : (w : PageOwner) → is_alive w ≡ true → AliveAt w
alive_at (Placed Fresh level low) e = record { stage = Fresh; level = level; low = low; placed = refl; on = omega arith }
alive_at (Placed Indexed level low) e = record { stage = Indexed; level = level; low = low; placed = refl; on = omega arith }
alive_at (Placed Held level low) e = record { stage = Held; level = level; low = low; placed = refl; on = omega arith }
alive_at w e = absurd (cc)

-- a fitted chain decides items, 24 at most
pub items_of : (chain : List Record) → IsFitted chain → (items : List Item) × IsItemsOf chain items × (length items ≤ 24)
items_of [] h = absurd h
items_of (newest ∷ []) (page, is, stands) = (page.items, rw is (record { ascending = stands.ruled.is_page.ordered.ascending; contents = λ key. refl }), stands.ruled.is_page.ordered.few)
items_of (newest ∷ older ∷ under) h = (h.0.made.items, h.0.makes_now.items, h.0.ruled.is_page.ordered.few)

module _ {m : Shared} {log : List Update} {o : Owners} {knows : ℕ → Knowledge} {point : ℕ → Option (List Update)} {logs : ℕ → List (List Update)} (g : IsTree m log o knows point logs)
    (fitted : AreFitted o m.rows) where
  alive_chain : (page : ℕ) → is_alive (o.page page) ≡ true → AliveChain o m page
  alive_chain page alive =
      let w = alive_at (o.page page) alive in
      let t = g.tree.levels w.level (g.tree.exact.below page w.level w.low w.stage w.placed) in
      let l = locate o m w.level (spec log o.index w.level) t.side (Some (g.tree.first w.level)) (Some []) None None page t.whole (t.listed page w.low w.stage w.placed w.on) in
      let here = l.here.is_page in
      let items = items_of l.page.chain (fitted l.page.row l.here.linked l.page.chain here.is_chain).fitted in
      record { row = l.page.row; head = ap m.slots (sym l.is) ∙ here.head; linked = l.here.linked; chain = l.page.chain; is_chain = here.is_chain; items = items.0; are = items.1 }

  by_life : (page : ℕ) (b : Bool) → (b ≡ true → AliveChain o m page) → (worth : ℕ) × IsWorthBy b o m page worth
  by_life page true chain = let c = chain refl in (chain_worth c.chain c.items, (c, refl))
  by_life page false chain = (0, refl)

  -- each page is worth something
  pub worth_of : (page : ℕ) → (worth : ℕ) × IsWorth o m page worth
  worth_of page = by_life page (is_alive (o.page page)) (alive_chain page)

module _ (o : Owners) (m : Shared) (page worth : ℕ) (is : IsWorth o m page worth) where
  pub alive_worth : is_alive (o.page page) ≡ true → (c : AliveChain o m page) × (worth ≡ chain_worth c.chain c.items)
  alive_worth e = rw e at is

  pub dead_worth : is_alive (o.page page) ≡ false → worth ≡ 0
  dead_worth e = rw e at is

  -- a page is worth no more than its chain with so many items
  pub worth_most : (row : ℕ) (chain : List Record) (most : ℕ) → m.slots page ≡ Some row → IsChainFrom m.rows row chain
      → ((items : List Item) → IsItemsOf chain items → length items ≤ most) → worth ≤ (length chain - 1) + 6 * (most - 7)
  worth_most row chain most at stands few = elim (decided (is_alive (o.page page))) [
    | inr dead ↦ let none : worth ≡ 0 = dead_worth dead in omega arith
    | inl alive ↦
        let c = (alive_worth alive).0 in
        let is_worth : worth ≡ chain_worth c.chain c.items = (alive_worth alive).1 in
        let row_is : c.row ≡ row = same_Some c.row row (sym c.head ∙ at) in
        let chain_is : c.chain ≡ chain = IsChainFrom-unique m.rows row c.chain chain (rw row_is at c.is_chain) stands in
        let lengths : length c.chain ≡ length chain = ap length chain_is in
        let count : length c.items ≤ most = few c.items (rw chain_is at c.are) in
        omega arith
  ]

  -- one that is alive is worth no less than its chain and its items
  pub worth_least : is_alive (o.page page) ≡ true → (row : ℕ) (chain : List Record) (items : List Item) → m.slots page ≡ Some row → IsChainFrom m.rows row chain → IsItemsOf chain items
      → (length chain - 1) + 6 * (length items - 7) ≤ worth
  worth_least alive row chain items at stands are =
      let c = (alive_worth alive).0 in
      let is_worth : worth ≡ chain_worth c.chain c.items = (alive_worth alive).1 in
      let row_is : c.row ≡ row = same_Some c.row row (sym c.head ∙ at) in
      let chain_is : c.chain ≡ chain = IsChainFrom-unique m.rows row c.chain chain (rw row_is at c.is_chain) stands in
      let lengths : length c.chain ≡ length chain = ap length chain_is in
      let count : length items ≤ length c.items = same_items c.chain c.items c.are items (rw (← chain_is) at are) in
      omega arith

-- a page that was alive before, and whose slot is as it was, is worth no more
pub worth_kept : (o o' : Owners) (m m' : Shared) → IsClosed o m → ((row : ℕ) → o.row row ≡ Linked → m'.rows row ≡ m.rows row) → (page worth worth' : ℕ) → IsWorth o m page worth
    → IsWorth o' m' page worth'
    → (is_alive (o'.page page) ≡ true → (is_alive (o.page page) ≡ true) × (m'.slots page ≡ m.slots page)) → worth' ≤ worth
worth_kept o o' m m' closed same page worth worth' old new stays = elim (decided (is_alive (o'.page page))) [
  | inr dead ↦ let none : worth' ≡ 0 = dead_worth o' m' page worth' new dead in omega arith
  | inl alive ↦
      let was = stays alive in
      let c = (alive_worth o m page worth old was.0).0 in
      let is_worth : worth ≡ chain_worth c.chain c.items = (alive_worth o m page worth old was.0).1 in
      let most : worth' ≤ (length c.chain - 1) + 6 * (length c.items - 7) =
      worth_most o' m' page worth' new c.row c.chain (length c.items) (was.1 ∙ c.head) (rows_kept o m m'.rows closed same c.row c.chain c.linked c.is_chain) (same_items c.chain c.items c.are) in
      omega arith
]

-- no chain is worth more than 114
pub worth_bound : (o : Owners) (m : Shared) (fitted : AreFitted o m.rows) (page worth : ℕ) → IsWorth o m page worth → worth ≤ 114
worth_bound o m fitted page worth is = elim (decided (is_alive (o.page page))) [
  | inr dead ↦ let none : worth ≡ 0 = dead_worth o m page worth is dead in omega arith
  | inl alive ↦
      let c = (alive_worth o m page worth is alive).0 in
      let is_worth : worth ≡ chain_worth c.chain c.items = (alive_worth o m page worth is alive).1 in
      let page_chain = fitted c.row c.linked c.chain c.is_chain in
      let items = items_of c.chain page_chain.fitted in
      let short : length c.chain ≤ 13 = page_chain.short in
      let fewer : length c.items ≤ length items.0 = same_items c.chain items.0 items.1 c.items c.are in
      let few : length items.0 ≤ 24 = items.2 in
      omega arith
]
