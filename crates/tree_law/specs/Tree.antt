-- The invariant of the tree: its levels as segments, the exact index, and what each actor knows.
use Rattle.std.specs.Prelude.{◌≡◌, ◌≢◌, ◌<◌, ◌≤◌, ℕ, zero, suc, ◌⊎◌, List, [], ◌∷◌, Option, Some, None, true}
use Rattle.bw_model.specs.Log.{Update}
use Rattle.base_page.specs.declared.item.Content.{Content}
use Rattle.deltas.specs.declared.record.Record.{Record}
use Rattle.traces.specs.chain.Chains.{content_in, level_in, low_in, high_in, right_in, is_removed}
use Rattle.tree_law.specs.Keys.{Key, IsUnder, Covers}
use Rattle.traces.specs.discipline.Knowledge.{Knowledge}
use Rattle.tree_law.specs.Phase.{Stage, Fresh, Indexed, Merged, PageOwner, Nobody, Placed, Cleared, mark, rank, stage_removed, child_of}
use Rattle.tree_law.specs.Shared.{Shared}
use Rattle.tree_law.specs.Owners.{IsChain, Free, Linked, Owners, IsClosed, IsOut, Owns, OwnsPages, leaf_map, Knows}

-- What a level is to decide: the leaves the log, each other level the terms of the level below. So the index is a second
-- log, and an index page is treated as a leaf is.
abbrev pub spec : List Update → (ℕ → Key → Option Content) → ℕ → Key → Option Content
spec log index zero = leaf_map log
spec log index (suc l) = index l

pub record SidePage : Type 0 where
  pub page : ℕ
  pub row : ℕ
  pub chain : List Record

-- the page's slot holds this chain, of this level, whose range is not empty, and which decides each key of its range as the map does
pub record IsSidePage (rows : ℕ → Option Record) (slots : ℕ → Option ℕ) (level : ℕ) (map : Key → Option Content) (p : SidePage) : Type 0 where
  pub head : slots p.page ≡ Some p.row
  pub is_chain : IsChain rows p.chain (Some p.row)
  pub on_level : level_in p.chain ≡ level
  pub some : IsUnder (low_in p.chain) (high_in p.chain)
  pub same : (k : Key) → Covers p.chain k → content_in p.chain k ≡ map k

-- a page of a level
pub record InPlace (o : Owners) (m : Shared) (level : ℕ) (map : Key → Option Content) (g : SidePage) : Type 0 where
  pub stage : Stage
  pub placed : o.page g.page ≡ Placed stage level (low_in g.chain)
  pub on : rank stage ≤ 3
  pub flagged : is_removed g.chain ≡ stage_removed stage
  pub linked : o.row g.row ≡ Linked
  pub is_page : IsSidePage m.rows m.slots level map g

-- a part of a side chain, from one place to another
abbrev pub IsPart : Owners → Shared → ℕ → (Key → Option Content) → List SidePage → Option ℕ → Option Key → Option ℕ → Option Key → Type 0
IsPart o m e map [] p low q high = (p ≡ q) × (low ≡ high)
IsPart o m e map (g ∷ gs) p low q high = (p ≡ Some g.page) × (low ≡ Some (low_in g.chain)) × InPlace o m e map g × IsPart o m e map gs (right_in g.chain) (high_in g.chain) q high

abbrev pub HasSidePage : ℕ → List SidePage → Type 0
HasSidePage p [] = ⊥
HasSidePage p (g ∷ gs) = (g.page ≡ p) ⊎ HasSidePage p gs

-- the side chain of a level, with all pages of the level
pub record Level (o : Owners) (m : Shared) (level : ℕ) (map : Key → Option Content) (first : ℕ) : Type 0 where
  pub side : List SidePage
  pub whole : IsPart o m level map side (Some first) (Some []) None None
  pub listed : (p : ℕ) (s : Key) (st : Stage) → o.page p ≡ Placed st level s → rank st ≤ 3 → HasSidePage p side

-- the terms are those of the pages; on the root's level all but the root are fresh
pub record Exact (page : ℕ → PageOwner) (index : ℕ → Key → Option Content) (top root : ℕ) : Type 0 where
  pub below : (q l : ℕ) (s : Key) (st : Stage) → page q ≡ Placed st l s → l ≤ top
  pub posted : (q l : ℕ) (s : Key) (st : Stage) (i : Content) → page q ≡ Placed st l s → l < top → mark st q ≡ Some i → index l s ≡ Some i
  pub named : (l : ℕ) (s : Key) (i : Content) → index l s ≡ Some i → (l < top) × ((st : Stage) × (page (child_of i) ≡ Placed st l s) × (mark st (child_of i) ≡ Some i))
  pub others : (q : ℕ) (s : Key) (st : Stage) → page q ≡ Placed st top s → q ≢ root → st ≡ Fresh
  pub gone : (q a l : ℕ) (s : Key) → page q ≡ Cleared a l s → l < top
  pub is_root : page root ≡ Placed Indexed top []

-- no more on a side chain
abbrev pub IsOff : PageOwner → ℕ → Key → Type 0
IsOff w l s = (w ≡ Placed Merged l s) ⊎ ((a : ℕ) × (w ≡ Cleared a l s))

-- the slot of a page that is no more on a side chain
pub record Off (o : Owners) (m : Shared) (q l : ℕ) (s : Key) : Type 0 where
  pub row : ℕ
  pub chain : List Record
  pub head : m.slots q ≡ Some row
  pub linked : o.row row ≡ Linked
  pub is_chain : IsChain m.rows chain (Some row)
  pub flagged : is_removed chain ≡ true
  pub level : level_in chain ≡ l
  pub low : low_in chain ≡ s

pub record HasLevels (o : Owners) (m : Shared) (log : List Update) : Type 0 where
  pub top : ℕ
  pub first : ℕ → ℕ
  pub leaf : first 0 ≡ 1
  pub root : m.root ≡ first top
  pub levels : (l : ℕ) → l ≤ top → Level o m l (spec log o.index l) (first l)
  pub exact : Exact o.page o.index top m.root
  pub off : (q l : ℕ) (s : Key) → IsOff (o.page q) l s → IsOut (o.page q) (m.slots q) ⊎ Off o m q l s

pub record FreeAreUnowned (o : Owners) (m : Shared) : Type 0 where
  pub row : (r : ℕ) → m.free r ≡ true → o.row r ≡ Free
  pub page : (p : ℕ) → m.free_pages p ≡ true → (o.page p ≡ Nobody) × (m.slots p ≡ None)

-- For each actor the log at the point of its present operation, if it has one, and the logs at all its own steps.
pub record IsTree (m : Shared) (log : List Update) (o : Owners) (knows : ℕ → Knowledge) (point : ℕ → Option (List Update)) (logs : ℕ → List (List Update)) : Type 0 where
  pub frees : FreeAreUnowned o m
  pub closed : IsClosed o m
  pub tree : HasLevels o m log
  pub owns : (a : ℕ) → Owns a o m (knows a).own.rows
  pub owns_pages : (a : ℕ) → OwnsPages a o m (knows a).own.pages
  pub sound : (a : ℕ) → Knows o m (knows a).read.seen (knows a).read.learnt (knows a).read.roots (knows a).read.heads (knows a).read.before (knows a).asked.linked (point a) (logs a)
