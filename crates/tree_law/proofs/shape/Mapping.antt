-- The memory has the map of the log: the leaves are whole, and decide each key as the log does.
use Rattle.tree_law.proofs.Words.{false, [], ap, refl, Option, suc, None, List, true, ◌∷◌, sym, ℕ, ◌≡◌, Bool, zero, ◌∙◌, ◌<◌, arith, Some, map, same_Some, Contains, MatchOption}
use Rattle.tree_law.proofs.Words.{is_under, Update, logged_value, ContentOf, Memory, Record, IsChainOf, content_in, right_in, low_in, high_in, value_of, Knowledge, LivePage, IsSideChainFrom}
use Rattle.tree_law.proofs.Words.{HasMapOf, Key, Covers, IsUnder, Owners, IsChain, leaf_map, shared_part, slot_in, row_in, IsTree, Level, SidePage, InPlace, IsPart}
use Rattle.traces.specs.chain.SideChain.{IsWholeFrom, IsLeaves, Spells}
use Rattle.traces.proofs.ChainLaws.{IsSideChainFrom-unique}
use Rattle.tree_law.proofs.shape.KeyOrder.{empty_lowest, covers_from, covers_to}
use Rattle.tree_law.proofs.shape.Sides.{StartsFrom}
use Rattle.tree_law.proofs.links.Updating.{value_of_map}

-- a page as all see it
abbrev pub live : SidePage → LivePage
live g = record { pid = g.page; chain = g.chain }

-- a slot that holds a row is that of a page
pub slot_some : (slots : ℕ → ℕ) (p r : ℕ) → slot_in slots p ≡ Some r → (0 < p) × (slots p ≡ r) × (0 < r)
slot_some slots zero r e = absurd (cc)
slot_some slots (suc p) r e = (elim (slots (suc p)) as (λ n. row_in n ≡ Some r → (0 < suc p) × (n ≡ r) × (0 < r)) [
  | zero ↦ λ f. absurd (cc)
  | suc n ↦ λ f. let same : suc n ≡ r = same_Some (suc n) r f in (omega arith, same, omega arith)
]) e

pub chain_at : (memory : Memory) (p x : ℕ) (c : List Record) → slot_in memory.slots p ≡ Some x → IsChain memory.rows c (Some x) → IsChainOf memory p c
chain_at memory p x c e h = let s = slot_some memory.slots p x e in record { page = s.0; linked = rw s.1 s.2; records = rw s.1 h }

module _ (memory : Memory) (o : Owners) (lv : ℕ) (mp : Key → Option ContentOf) where
  pub chain_of : (g : SidePage) → InPlace o (shared_part memory) lv mp g → IsChainOf memory g.page g.chain
  chain_of g h = chain_at memory g.page g.row g.chain h.is_page.head h.is_page.is_chain

  -- the pages are a side chain, and their ranges follow one another
  pub side_from : (gs : List SidePage) (p : Option ℕ) (low : Option Key) → IsPart o (shared_part memory) lv mp gs p low None None
      → MatchOption p (map live gs ≡ []) (λ q. IsSideChainFrom memory q (map live gs))
  side_from [] None low h = refl
  side_from (g ∷ gs) (Some p) low h = (sym (same_Some p g.page h.0), rw (same_Some p g.page h.0) (chain_of g h.2), side_from gs (right_in g.chain) (high_in g.chain) h.3)
  side_from gs p low h = absurd (cc h.0)

  pub whole_from : (gs : List SidePage) (p : Option ℕ) (low : Option Key) → IsPart o (shared_part memory) lv mp gs p low None None
      → MatchOption low (map live gs ≡ []) (λ k. IsWholeFrom k (map live gs))
  whole_from [] p None h = refl
  whole_from (g ∷ gs) p (Some k) h = (sym (same_Some k (low_in g.chain) h.1), whole_from gs (right_in g.chain) (high_in g.chain) h.3)
  whole_from gs p low h = absurd (cc h.1)

  -- a page among them is in its place
  pub among : (gs : List SidePage) (p : Option ℕ) (low : Option Key) → IsPart o (shared_part memory) lv mp gs p low None None → (page : LivePage)
      → Contains (map live gs) page → (g : SidePage) × (live g ≡ page) × InPlace o (shared_part memory) lv mp g
  among [] p low h page (n, lt, e) = absurd (omega arith)
  among (g ∷ gs) p low h page (zero, lt, e) = (g, e, h.2)
  among (g ∷ gs) p low h page (suc n, lt, e) = among gs (right_in g.chain) (high_in g.chain) h.3 page (n, omega arith, e)

  -- one of the pages covers the key
  abbrev pub Covering : List SidePage → Key → Type 0
  Covering gs key = (g : SidePage) × Contains (map live gs) (live g) × InPlace o (shared_part memory) lv mp g × Covers g.chain key

  -- a key from the first low key on is covered by one of them
  pub covering : (gs : List SidePage) (p : Option ℕ) (low : Option Key) → IsPart o (shared_part memory) lv mp gs p low None None → (key : Key) → StartsFrom low key → Covering gs key
  covering [] p low h key s = absurd (rw h.1 at s)
  covering (g ∷ gs) p low h key s = go (λ u. covering gs (right_in g.chain) (high_in g.chain) h.3 key u) (high_in g.chain) refl
    where
      here : IsUnder key (high_in g.chain) → Covering (g ∷ gs) key
      here u = (g, (zero, omega arith, refl), h.2, record { low = rw h.1 at s; high = u })

      later : Covering gs key → Covering (g ∷ gs) key
      later r = (r.0, (suc r.1.0, (let lt = r.1.1 in omega arith), r.1.2), r.2, r.3)

      test : (StartsFrom (high_in g.chain) key → Covering gs key) → (high : Key) → high_in g.chain ≡ Some high → (t : Bool) → is_under key (Some high) ≡ t → Covering (g ∷ gs) key
      test rest high e true u = here (rw e u)
      test rest high e false u = later (rest (rw e u))

      go : (StartsFrom (high_in g.chain) key → Covering gs key) → (high : Option Key) → high_in g.chain ≡ high → Covering (g ∷ gs) key
      go rest None e = here (rw e)
      go rest (Some high) e = test rest high e (is_under key (Some high)) refl

module _ (memory : Memory) {log : List Update} {o : Owners} {knows : ℕ → Knowledge} {point : ℕ → Option (List Update)} {logs : ℕ → List (List Update)}
    (g : IsTree (shared_part memory) log o knows point logs) where
  pub leaves : Level o (shared_part memory) 0 (leaf_map log) 1
  leaves = rw g.tree.leaf at (g.tree.levels 0 (omega arith))

  pub is_leaves : IsLeaves memory (map live leaves.side)
  is_leaves = side_from memory o 0 (leaf_map log) leaves.side (Some 1) (Some []) leaves.whole

  spelled : (key value : Key) → Spells memory key value → logged_value log key ≡ Some value
  spelled key value (pages, page, side, contains, inside, content) =
      let same : pages ≡ map live leaves.side = IsSideChainFrom-unique memory 1 pages (map live leaves.side) side is_leaves in
      let f = among memory o 0 (leaf_map log) leaves.side (Some 1) (Some []) leaves.whole page (rw same at contains) in
      let chain : f.0.chain ≡ page.chain = ap (λ (q : LivePage). q.chain) f.1 in
      let is : content_in f.0.chain key ≡ leaf_map log key = f.2.is_page.same key (covers_from f.0.chain key (rw chain inside)) in
      sym (value_of_map (logged_value log key)) ∙ ap value_of (sym is ∙ ap (λ c. content_in c key) chain ∙ content)

  spells : (key value : Key) → logged_value log key ≡ Some value → Spells memory key value
  spells key value e =
      let f = covering memory o 0 (leaf_map log) leaves.side (Some 1) (Some []) leaves.whole key (empty_lowest key) in
      (map live leaves.side, live f.0, is_leaves, f.1, covers_to f.0.chain key f.3, f.2.is_page.same key f.3 ∙ rw e)

  has_map : HasMapOf memory log
  has_map = record {
    whole = (map live leaves.side, is_leaves, whole_from memory o 0 (leaf_map log) leaves.side (Some 1) (Some []) leaves.whole);
    same = λ key value. (spelled key value, spells key value);
  }

pub map_of : {m : Memory} {log : List Update} {o : Owners} {knows : ℕ → Knowledge} {point : ℕ → Option (List Update)} {logs : ℕ → List (List Update)}
    → IsTree (shared_part m) log o knows point logs → HasMapOf m log
map_of {m} g = has_map m g
