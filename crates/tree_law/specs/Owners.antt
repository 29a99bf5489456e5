-- Who has which row and page, and what follows for what actors know.
use Rattle.std.specs.Prelude.{◌≡◌, ◌≤◌, ℕ, suc, ◌⊎◌, List, [], ◌∷◌, Option, Some, None, IfSome, MatchOption, Bool, true, false, ⊤, IsSome}
use Rattle.std.specs.Option.{option_map}
use Rattle.bw_model.specs.Log.{Update, logged_value}
use Rattle.base_page.specs.declared.item.Content.{Content}
use Rattle.base_page.specs.declared.item.Content.TheVariants.{Value, Child}
use Rattle.deltas.specs.declared.record.Record.{Record}
use Rattle.deltas.specs.Records.{next_row}
use Rattle.traces.specs.chain.Chains.{IsChainFrom, content_in, level_in, low_in, high_in, right_in, is_removed}
use Rattle.tree_law.specs.Keys.{Key, IsBelow, IsWithinEnd, Covers}
use Rattle.traces.specs.discipline.Knowledge.{OwnRow, Foreign, Taken, Written, OwnPage, Other, Empty, Ready, Gone}
use Rattle.tree_law.specs.Phase.{PageOwner, Nobody, Keeps, Placed, Cleared, rank, child_of, rank_of}
use Rattle.tree_law.specs.Shared.{Shared}

-- the chain from a row, or none from no row
abbrev pub IsChain : (ℕ → Option Record) → List Record → Option ℕ → Type 0
IsChain rows chain start = MatchOption start (chain ≡ []) (λ row. IsChainFrom rows row chain)

-- who has a row
pub data Owner : Type 0 where
  Free : Owner
  Spare : (actor : ℕ) → Owner
  Linked : Owner

pub record Owners : Type 0 where
  pub row : ℕ → Owner
  pub page : ℕ → PageOwner
  pub index : ℕ → Key → Option Content  -- by level and low key, the term of the page there

-- in the tree at this level and low key, and at least so far
abbrev pub Reached : ℕ → ℕ → Key → PageOwner → Type 0
Reached r l s Nobody = ⊥
Reached r l s (Keeps a) = ⊥
Reached r l s (Placed st l' s') = (l' ≡ l) × (s' ≡ s) × (r ≤ rank st)
Reached r l s (Cleared a l' s') = (l' ≡ l) × (s' ≡ s)

-- a page goes forward only
abbrev pub Forward : PageOwner → PageOwner → Type 0
Forward w n = (r l : ℕ) (s : Key) → Reached r l s w → Reached r l s n

-- what a chain names is in the tree, where it says
pub record ChainNames (o : Owners) (c : List Record) : Type 0 where
  pub right : (q : ℕ) → right_in c ≡ Some q → (s : Key) × (high_in c ≡ Some s) × Reached 0 (level_in c) s (o.page q)
  pub items : (l : ℕ) (s : Key) (i : Content) → level_in c ≡ suc l → Covers c s → content_in c s ≡ Some i → Reached (rank_of i) l s (o.page (child_of i))

-- what a linked row is
pub record IsLinked (o : Owners) (m : Shared) (r : ℕ) : Type 0 where
  pub linked : o.row r ≡ Linked
  pub content : Record
  pub stands : m.rows r ≡ Some content
  pub next : IfSome (next_row content) (λ n. o.row n ≡ Linked)
  pub rest : List Record
  pub is_rest : IsChain m.rows rest (next_row content)

abbrev pub IsClosed : Owners → Shared → Type 0
IsClosed o m = (r : ℕ) → o.row r ≡ Linked → IsLinked o m r

abbrev pub OwnFits : ℕ → Owner → Option Record → OwnRow → Type 0
OwnFits a o w Foreign = ⊤
OwnFits a o w Taken = o ≡ Spare a
OwnFits a o w (Written v) = (o ≡ Spare a) × (w ≡ Some v)

abbrev pub Owns : ℕ → Owners → Shared → (ℕ → OwnRow) → Type 0
Owns a o m own = (r : ℕ) → OwnFits a (o.row r) (m.rows r) (own r)

abbrev pub PageFits : ℕ → PageOwner → Option ℕ → OwnPage → Type 0
PageFits a o s Other = ⊤
PageFits a o s Empty = (o ≡ Keeps a) × (s ≡ None)
PageFits a o s (Ready r) = (o ≡ Keeps a) × (s ≡ Some r)
PageFits a o s Gone = (l : ℕ) × (k : Key) × (o ≡ Cleared a l k) × IsSome s

abbrev pub OwnsPages : ℕ → Owners → Shared → (ℕ → OwnPage) → Type 0
OwnsPages a o m pages = (p : ℕ) → PageFits a (o.page p) (m.slots p) (pages p)

-- a record that was read stands, and its row is linked
abbrev pub SeenFits : Owner → Option Record → Option Record → Type 0
SeenFits o w None = ⊤
SeenFits o w (Some v) = (o ≡ Linked) × (w ≡ Some v)

abbrev pub Among : List Update → List (List Update) → Type 0
Among l [] = ⊥
Among l (x ∷ xs) = (l ≡ x) ⊎ Among l xs

-- what the leaves are to decide
abbrev pub leaf_map : List Update → Key → Option Content
leaf_map log key = option_map Value (logged_value log key)

-- the chain from the row; on a leaf that is not removed it decides each key of its range as the log does
pub record SpellsLog (o : Owners) (m : Shared) (x : ℕ) (l : List Update) : Type 0 where
  pub linked : o.row x ≡ Linked
  pub chain : List Record
  pub is_chain : IsChain m.rows chain (Some x)
  pub same : level_in chain ≡ 0 → is_removed chain ≡ false → (k : Key) → Covers chain k → content_in chain k ≡ leaf_map l k

-- the term of the page is gone
abbrev pub IsCleared : PageOwner → Type 0
IsCleared w = (a l : ℕ) × (s : Key) × (w ≡ Cleared a l s)

-- a cleared page whose slot is empty
abbrev pub IsOut : PageOwner → Option ℕ → Type 0
IsOut w s = (s ≡ None) × IsCleared w

-- A slot that was read: of a page of the chain's level and low key, at the log of an own step. A removed chain stays
-- there until the page is cleared; what another one names is in the tree.
abbrev pub HeadFits : Owners → Shared → List (List Update) → ℕ → Option ℕ → Type 0
HeadFits o m logs p None = ⊤
HeadFits o m logs p (Some x) =
    (l : List Update) × Among l logs × (h : SpellsLog o m x l) × Reached 0 (level_in h.chain) (low_in h.chain) (o.page p) ×
    (is_removed h.chain ≡ true → (m.slots p ≡ Some x) ⊎ IsOut (o.page p) (m.slots p)) × (is_removed h.chain ≡ false → ChainNames o h.chain)

-- the row over which the operation linked its update spelled the log at its point, until its actor leaves
abbrev pub LinkFits : Owners → Shared → Option (List Update) → Option (Option ℕ) → Type 0
LinkFits o m point None = point ≡ None
LinkFits o m point (Some None) = (l : List Update) × (point ≡ Some l)
LinkFits o m point (Some (Some x)) = (l : List Update) × (point ≡ Some l) × SpellsLog o m x l

-- slot f had been read as x before slot p was read as y
pub record InOrder (o : Owners) (m : Shared) (logs : List (List Update)) (p y f x : ℕ) : Type 0 where
  pub above : o.row x ≡ Linked
  pub below : o.row y ≡ Linked
  pub chain : List Record
  pub is_chain : IsChain m.rows chain (Some x)
  pub placed : Reached 0 (level_in chain) (low_in chain) (o.page f)
  -- as long as f is as it was, the page that was then there has not been cleared
  pub uncleared : (c d : List Record) → IsChain m.rows c (Some x) → IsChain m.rows d (Some y) → is_removed c ≡ false → is_removed d ≡ false
      → level_in c ≡ suc (level_in d) → Covers c (low_in d) → m.slots f ≡ Some x → IsCleared (o.page p) → ⊥
  -- a page with a held term that then was not where it had to be was merged
  pub merged : (c d : List Record) (s : Key) (q : ℕ) → IsChain m.rows c (Some x) → IsChain m.rows d (Some y) → is_removed c ≡ false → is_removed d ≡ false
      → level_in c ≡ suc (level_in d) → Covers c s → content_in c s ≡ Some (Child q true)
      → IsBelow (low_in d) s → IsWithinEnd s (high_in d) → (high_in d ≡ Some s → right_in d ≡ Some q → ⊥) → Reached 4 (level_in d) s (o.page q)
  -- a removed leaf that then was right of the page spelled the log
  pub spelled : (c d : List Record) → IsChain m.rows c (Some x) → IsChain m.rows d (Some y) → is_removed c ≡ true → is_removed d ≡ false → level_in c ≡ 0
      → right_in d ≡ Some f → (l : List Update) × Among l logs × ((k : Key) → Covers c k → content_in c k ≡ leaf_map l k)
  -- what a removed page names that then was right of the page is in the tree, where it says
  pub beyond : (c d : List Record) → IsChain m.rows c (Some x) → IsChain m.rows d (Some y) → is_removed c ≡ true → is_removed d ≡ false → right_in d ≡ Some f → ChainNames o c

abbrev pub OrderFits : Owners → Shared → List (List Update) → ℕ → ℕ → Option ℕ → Option ℕ → Type 0
OrderFits o m logs p f None x = ⊤
OrderFits o m logs p f (Some y) None = ⊤
OrderFits o m logs p f (Some y) (Some x) = InOrder o m logs p y f x

-- what an actor has read is so
pub record Knows (o : Owners) (m : Shared) (seen : ℕ → Option Record) (learnt roots : ℕ → Bool) (heads : ℕ → Option ℕ) (before : ℕ → ℕ → Option ℕ)
    (linked : Option (Option ℕ)) (point : Option (List Update)) (logs : List (List Update)) : Type
    0 where
  pub seen_fits : (r : ℕ) → SeenFits (o.row r) (m.rows r) (seen r)
  pub learnt_fits : (r : ℕ) → learnt r ≡ true → o.row r ≡ Linked
  pub roots_fit : (p : ℕ) → roots p ≡ true → (l : ℕ) × Reached 0 l [] (o.page p)
  pub heads_fit : (p : ℕ) → HeadFits o m logs p (heads p)
  pub orders_fit : (p f : ℕ) → OrderFits o m logs p f (heads p) (before p f)
  pub linked_fits : LinkFits o m point linked
