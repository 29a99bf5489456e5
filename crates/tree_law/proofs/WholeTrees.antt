-- The whole tree in the memory of a state, with its pages by whose they are.
use Rattle.tree_law.proofs.Words.{List, Limits, Entry, memory_of, IsState, ℕ, ◌≡◌, ◌≤◌, Contains, LivePage, Key, Placed, Stage, rank}
use Rattle.tree_law.specs.OneMemory.{HasWholeTree}
use Rattle.tree_law.proofs.memory.Children.{child, left, removed}
use Rattle.tree_law.proofs.memory.Pages.{covered, each, few, listed, on_level, one, pages, right, root, spans}
use Rattle.tree_law.proofs.memory.Unheld.{unheld}
use Rattle.tree_law.proofs.shape.Mapping.{live}

-- A whole tree; each page that is on a side chain is one of its level's.
pub record HasListedTree (limits : Limits) (entries : List Entry) (state : IsState limits entries) : Type 0 where
  pub tree : HasWholeTree limits (memory_of limits entries)
  pub listed : (level pid : ℕ) (low : Key) (stage : Stage) → state.owners.page pid ≡ Placed stage level low → rank stage ≤ 3 → (page : LivePage) × (page.pid ≡ pid) × Contains (tree.pages level) page

pub listed_tree : (limits : Limits) (entries : List Entry) (state : IsState limits entries) → HasListedTree limits entries state
listed_tree limits entries state = record {
  tree = record {
    top = state.is_tree.tree.top;
    pages = pages limits entries state;
    below = λ l page has. (on_level limits entries state l page has).le;
    each = each limits entries state;
    few = few limits entries state;
    root = root limits entries state;
    covering = covered limits entries state;
    one = one limits entries state;
    spans = spans limits entries state;
    right = right limits entries state;
    child = child limits entries state;
    removed = removed limits entries state;
    unheld = unheld limits entries state;
    left = left limits entries state;
  };
  listed = λ level pid low stage placed on. let r = listed limits entries state level pid low stage placed on in (live r.place, r.is, r.contains);
}
