-- The tree as it stands in one memory: what a walk finds that reads pages from their slots while nobody changes anything.
use Rattle.std.specs.Prelude.{◌≡◌, ◌≤◌, ◌<◌, ℕ, suc, List, [], length, Bool, true, false, Some, IsTrue}
use Rattle.std.specs.List.{Contains}
use Rattle.bw_model.specs.Bytes.{is_below}
use Rattle.tree_limits.specs.declared.limits.Limits.{Limits}
use Rattle.base_page.specs.declared.item.Content.TheVariants.{Child}
use Rattle.base_page.specs.Places.{IsGreatest}
use Rattle.deltas.specs.Memory.{Memory}
use Rattle.traces.specs.chain.Chains.{content_in, covers, high_in, is_removed, low_in, right_in}
use Rattle.traces.specs.chain.SideChain.{LivePage}
use Rattle.traces.specs.chain.Unheld.{IsUnheld}
use Rattle.tree_law.specs.Keys.{Key, IsUnder}
use Rattle.tree_law.specs.LevelPages.{IsPageOn}

-- The page that a term at the key names: it stands, is of the level, and begins at the key. Where the term isn't held, it isn't removed.
-- Where it isn't removed, it is one of the level's pages.
pub record IsChildAt (limits : Limits) (memory : Memory) (level : ℕ) (pages : List LivePage) (key : Key) (held : Bool) (child : LivePage) : Type 0 where
  pub is_page : IsPageOn limits memory level child
  pub begins : low_in child.chain ≡ key
  pub alive : held ≡ false → is_removed child.chain ≡ false
  pub among : is_removed child.chain ≡ false → Contains pages child

-- The pages of each level, from the leaves up to the level of the root, and none above.
pub record HasWholeTree (limits : Limits) (memory : Memory) : Type 0 where
  pub top : ℕ
  pub pages : ℕ → List LivePage
  pub below : (level : ℕ) (page : LivePage) → Contains (pages level) page → level ≤ top
  -- they stand, and are fewer than there are slots
  pub each : (level : ℕ) (page : LivePage) → Contains (pages level) page → IsPageOn limits memory level page
  pub few : (level : ℕ) → length (pages level) < limits.pids
  -- slot 0 has the first page of the top level
  pub root : (page : LivePage) × Contains (pages top) page × (page.pid ≡ memory.slots 0) × (low_in page.chain ≡ [])
  -- on each level a key is in the range of one page, and of no other; no range is empty
  pub covering : (level : ℕ) (key : Key) → level ≤ top → (page : LivePage) × Contains (pages level) page × IsTrue (covers page.chain key)
  pub one : (level : ℕ) (page other : LivePage) (key : Key) → Contains (pages level) page → Contains (pages level) other
      → IsTrue (covers page.chain key) → IsTrue (covers other.chain key) → page ≡ other
  pub spans : (level : ℕ) (page : LivePage) → Contains (pages level) page → IsUnder (low_in page.chain) (high_in page.chain)
  -- a page's right is the page of its level that begins where it ends
  pub right : (level : ℕ) (page : LivePage) (next : ℕ) → Contains (pages level) page → right_in page.chain ≡ Some next
      → (right : LivePage) × Contains (pages level) right × (right.pid ≡ next) × (high_in page.chain ≡ Some (low_in right.chain))
  -- a term names a page of the level below, which begins at its key
  pub child : (level pid : ℕ) (above : LivePage) (key : Key) (held : Bool) → Contains (pages (suc level)) above → content_in above.chain key ≡ Some (Child pid held)
      → IsTrue (covers above.chain key) × ((child : LivePage) × (child.pid ≡ pid) × IsChildAt limits memory level (pages level) key held child)
  -- a removed page has a held term, in the page above that has its low key; and none of its own terms is held
  pub removed : (level : ℕ) (page : LivePage) → Contains (pages level) page → is_removed page.chain ≡ true
      → (above : LivePage) × Contains (pages (suc level)) above × (content_in above.chain (low_in page.chain) ≡ Some (Child page.pid true))
  pub unheld : (level : ℕ) (page : LivePage) → Contains (pages level) page → is_removed page.chain ≡ true → IsUnheld page.chain
  -- the greatest term below a held one is in the same page, and isn't held
  pub left : (level pid : ℕ) (above : LivePage) (key : Key) → Contains (pages (suc level)) above → content_in above.chain key ≡ Some (Child pid true)
      → (low : Key) × (child : ℕ) × IsGreatest (content_in above.chain) (λ other. is_below other key) low (Child child false)
