-- The levels of a memory, each a whole side chain, and the exact index between them.
use Rattle.std.specs.Prelude.{◌≡◌, ◌≤◌, ℕ, suc, List, [], length, Bool, Some, IsTrue, ◌↔◌}
use Rattle.std.specs.List.{Contains}
use Rattle.tree_limits.specs.declared.limits.Limits.{Limits}
use Rattle.base_page.specs.declared.item.Content.TheVariants.{Child}
use Rattle.deltas.specs.declared.record.Record.{Record}
use Rattle.deltas.specs.Memory.{Memory}
use Rattle.traces.specs.chain.Chains.{IsChainOf, content_in, level_in, low_in, covers}
use Rattle.traces.specs.chain.SideChain.{LivePage, IsSideChainFrom, IsWhole}
use Rattle.traces.specs.declared.trace.Entry.{Entry}
use Rattle.traces.specs.trace.Trace.{memory_at}
use Rattle.linearization.specs.Index.{IsRootLevel, IsLeftmost, IsExactIndex}
use Rattle.tree_law.specs.Keys.{Key}
use Rattle.tree_law.specs.Phase.{Stage, PageOwner, Placed, mark, rank}
use Rattle.tree_law.specs.Owners.{Owners}

-- The pages have at the key a term for the child.
abbrev pub HasTermAt : List LivePage → Key → ℕ → Bool → Type 0
HasTermAt pages key child held = (page : LivePage) × Contains pages page × IsTrue (covers page.chain key) × (content_in page.chain key ≡ Some (Child child held))

-- The page of the PID is of the level, and begins at the key.
abbrev pub IsPageIn : Memory → ℕ → Key → ℕ → Type 0
IsPageIn memory level key pid = (chain : List Record) × IsChainOf memory pid chain × (level_in chain ≡ level) × (low_in chain ≡ key)

-- The page is at a stage that has a term, held or not.
abbrev pub HasMark : PageOwner → ℕ → Bool → Type 0
HasMark w child held = (st : Stage) × (l : ℕ) × (s : Key) × (w ≡ Placed st l s) × (mark st child ≡ Some (Child child held))

-- The page is on the side chain of the level, where it begins at the empty key.
abbrev pub IsFirst : Owners → ℕ → ℕ → Type 0
IsFirst o l q = (st : Stage) × (o.page q ≡ Placed st l []) × (rank st ≤ 3)

-- The root is the first page of the top level. Each level up to it is a whole side chain from its first page, the only one
-- that begins at the empty key; a level above 0 has just the terms of the pages of the level under it.
pub record IsIndexed (memory : Memory) (o : Owners) : Type 0 where
  pub top : ℕ
  pub first : ℕ → ℕ
  pub leftmost : first 0 ≡ 1
  pub root : memory.slots 0 ≡ first top
  pub firsts : (l : ℕ) → l ≤ top → (st : Stage) × (o.page (first l) ≡ Placed st l []) × (rank st ≤ 3)
  pub only : (q l : ℕ) (st : Stage) → l ≤ top → o.page q ≡ Placed st l [] → rank st ≤ 3 → q ≡ first l
  pub begins : (l : ℕ) → l ≤ top → IsPageIn memory l [] (first l)
  pub pages : (l : ℕ) → l ≤ top → List LivePage
  pub side : (l : ℕ) (le : l ≤ top) → IsSideChainFrom memory (first l) (pages l le)
  pub whole : (l : ℕ) (le : l ≤ top) → IsWhole (pages l le)
  pub terms : (l : ℕ) (le : suc l ≤ top) (key : Key) (child : ℕ) (held : Bool) → HasTermAt (pages (suc l) le) key child held ↔ (IsPageIn memory l key child × HasMark (o.page child) child held)

-- In the trace the first page of each level is the one that slot 0 first held, each level that a root had has a first page,
-- and the index was exact at each moment.
pub record IsIndexedAlong (limits : Limits) (entries : List Entry) (o : Owners) : Type 0 where
  pub leftmost : (l q : ℕ) → IsFirst o l q → IsLeftmost limits entries (length entries) l q
  pub rooted : (m l : ℕ) → m ≤ length entries → IsRootLevel (memory_at limits entries m) l → (q : ℕ) × IsFirst o l q
  pub exact : IsExactIndex limits entries
