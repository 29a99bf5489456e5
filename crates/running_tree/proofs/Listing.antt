-- What is listed of a closed tree.
use Rattle.std.proofs.Common.{◌≡◌, ℕ, List, [], length, Option, refl}
use Rattle.traces.specs.declared.trace.Entry.{Entry}
use Rattle.running_tree.proofs.Words.{memory_of, Memory, ClosedTree, CountsAll, IsLeftBy, KeepMemory, ListsAll, ListsPage}
use Rattle.listing.specs.Listed.{HavePages, IsAmong, IsPageFrom, PagesAreListed, PagesAreShown}
use Rattle.tree_law.specs.Leaves.{HasLeafPages}
use Rattle.tree_law.specs.TraceLaws.{LeavesStand}

module _ (stand : LeavesStand) (are : PagesAreListed) (closed : ClosedTree) where
  leaves_by : (run : List Entry) → IsLeftBy closed run → HasLeafPages closed.limits (memory_of closed.limits run)
  leaves_by run left = stand closed.limits run left.seen.lawful.state

  -- the leaves of the run that has left the tree stand
  pub some_leaves : (run : List Entry) × IsLeftBy closed run → (memory : Memory) × KeepMemory closed.limits closed.words memory × HasLeafPages closed.limits memory
  some_leaves (run, left) = (memory_of closed.limits run, left.keeps, leaves_by run left)

  pub lists_all : (pairs : List (List ℕ × List ℕ))
      → ((memory : Memory) → KeepMemory closed.limits closed.words memory → (leaves : HasLeafPages closed.limits memory) → HavePages leaves.pages pairs)
      → ListsAll closed pairs
  lists_all pairs have run left = are closed.limits run (leaves_by run left) pairs (have (memory_of closed.limits run) left.keeps (leaves_by run left))

  pub counts_all : (count : ℕ)
      → ((memory : Memory) → KeepMemory closed.limits closed.words memory → (leaves : HasLeafPages closed.limits memory) → (pairs : List (List ℕ × List ℕ)) ×
      HavePages leaves.pages pairs × (count ≡ length pairs))
      → CountsAll closed count
  counts_all count has run left =
      let (pairs, have, long) = has (memory_of closed.limits run) left.keeps (leaves_by run left) in
      (pairs, are closed.limits run (leaves_by run left) pairs have, long)

-- the first leaf is among the leaves
pub first_near : (closed : ClosedTree) (memory : Memory) → KeepMemory closed.limits closed.words memory → (leaves : HasLeafPages closed.limits memory) → IsAmong memory leaves.pages 1
first_near closed memory keep leaves = record { front = []; rest = leaves.pages; whole = refl; next = leaves.leaves }

pub lists_page : LeavesStand → PagesAreShown → (closed : ClosedTree) (from : List ℕ) (pairs : List (List ℕ × List ℕ)) (next : Option (List ℕ))
    → ((memory : Memory) → KeepMemory closed.limits closed.words memory → (leaves : HasLeafPages closed.limits memory) → IsPageFrom leaves.pages from pairs next) → ListsPage closed from pairs next
lists_page stand are closed from pairs next has run left =
    let leaves = stand closed.limits run left.seen.lawful.state in
    are closed.limits run leaves from pairs next (has (memory_of closed.limits run) left.keeps leaves)
