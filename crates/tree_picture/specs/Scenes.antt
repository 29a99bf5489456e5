-- What stands in a tree.
use Rattle.std.specs.Prelude.{◌≡◌, ℕ, List}
use Rattle.tree_limits.specs.declared.limits.Limits.{Limits}
use Rattle.deltas.specs.Memory.{Memory, how_many}
use Rattle.traces.specs.chain.SideChain.{LivePage}
use Rattle.tree_picture.specs.Levels.{AreLevels}
use Rattle.tree_picture.specs.declared.slots.Slot.{Slot}
use Rattle.tree_picture.specs.Slots.{slots_below}

-- the PID in slot 0; the slots that aren't 0, in their order; the pages of each level from left to right, from the root's level down to the leaves; how many PIDs and rows
-- are free; and the epoch
pub record Scene : Type 0 where
  pub root : ℕ
  pub slots : List Slot
  pub levels : List (List LivePage)
  pub free_pids : ℕ
  pub free_rows : ℕ
  pub epoch : ℕ

-- The scene is what stands in the memory of a tree of these limits, and nothing else.
pub record IsSceneOf (limits : Limits) (memory : Memory) (scene : Scene) : Type 0 where
  pub root : scene.root ≡ memory.slots 0
  pub slots : scene.slots ≡ slots_below memory limits.pids
  pub levels : AreLevels memory scene.levels
  pub free_pids : scene.free_pids ≡ how_many memory.free_pids limits.pids
  pub free_rows : scene.free_rows ≡ how_many memory.free_rows limits.rows
  pub epoch : scene.epoch ≡ memory.epoch
