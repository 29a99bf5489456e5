-- A reader's rounds come to an end in one memory whose tree is whole, also beside pages that were removed.
use Rattle.std.specs.Prelude.{List, ◌≡◌, ◌+◌, ◌*◌, ℕ, true, Some}
use Rattle.std.specs.List.{Contains, count_by}
use Rattle.tree_limits.specs.declared.limits.Limits.{Limits}
use Rattle.base_page.specs.declared.item.Content.TheVariants.{Child}
use Rattle.deltas.specs.Memory.{Memory}
use Rattle.traces.specs.chain.Chains.{content_in, is_removed, low_in}
use Rattle.traces.specs.declared.trace.Entry.{Entry}
use Rattle.traces.specs.discipline.Knowledge.{knows}
use Rattle.traces.specs.discipline.Recalled.{Recalled}
use Rattle.traces.specs.trace.Trace.{memory_of}
use Rattle.traces.specs.chain.SideChain.{LivePage}
use Rattle.structure_changes.specs.Versions.{Version}
use Rattle.round_model.specs.ReadRounds.{ReadRound, Shows}
use Rattle.op_machine.specs.machine.GoesLeft.{first_read, read_left_of}
use Rattle.op_machine.specs.machine.Tasks.{Task}
pub use Rattle.linearization.specs.ReadersEnd.{one_walk}
use Rattle.tree_law.specs.LevelPages.{IsPageOn}
use Rattle.tree_law.specs.OneMemory.{HasWholeTree}
use Rattle.tree_law.specs.State.{IsState}
use Rattle.progress.specs.ReaderRuns.{EndsWithin, FindsEach}
use Rattle.progress.specs.RoundsIn.{IsRoundIn, WasRemovedLeaf}

module _ {limits : Limits} {memory : Memory} (tree : HasWholeTree limits memory) where
  -- how many leaves are removed
  abbrev pub removed_leaves : ℕ
  removed_leaves = count_by (λ (leaf : LivePage). is_removed leaf.chain) (tree.pages 0)

  -- A leaf is removed, and the page above it has its term.
  pub record IsRemovedLeaf (leaf : Version) : Type 0 where
    pub stands : IsPageOn limits memory 0 (record { pid = leaf.pid; chain = leaf.chain })
    pub gone : is_removed leaf.chain ≡ true
    pub above : LivePage
    pub on : Contains (tree.pages 1) above
    pub term : content_in above.chain (low_in leaf.chain) ≡ Some (Child leaf.pid true)

-- A lookup takes two rounds at most.
abbrev pub LookupsEnd : Type 0
LookupsEnd = (limits : Limits) (memory : Memory) → HasWholeTree limits memory → (task : Task)
    → EndsWithin memory task (first_read task) (2 * one_walk limits) × FindsEach memory task (first_read task)

-- One that goes to the left of a removed leaf takes that round, and one for each removed leaf at most.
abbrev pub LeftRoundsEnd : Type 0
LeftRoundsEnd = (limits : Limits) (memory : Memory) (tree : HasWholeTree limits memory) (task : Task) (leaf : Version) (round : ReadRound) → IsRemovedLeaf tree leaf
    → EndsWithin memory task (read_left_of leaf round) ((1 + removed_leaves tree) * one_walk limits) × FindsEach memory task (read_left_of leaf round)

-- One that goes to the left of a removed leaf that was read before, whose term may be gone, takes one round more.
abbrev pub StaleRoundsEnd : Type 0
StaleRoundsEnd = (limits : Limits) (memory : Memory) (tree : HasWholeTree limits memory) (task : Task) (leaf : Version) (round : ReadRound) → WasRemovedLeaf tree leaf
    → EndsWithin memory task (read_left_of leaf round) ((2 + removed_leaves tree) * one_walk limits) × FindsEach memory task (read_left_of leaf round)

-- Wherever a round stands in the memory, the reader takes the rest of the page that it reads, the rest of that round, which is as long as two at
-- most, and then as many rounds as one that goes to the left of a removed leaf.
abbrev pub StandingRoundsEnd : Type 0
StandingRoundsEnd = (limits : Limits) (memory : Memory) (tree : HasWholeTree limits memory) (task : Task) (round : ReadRound) → IsRoundIn tree round
    → EndsWithin memory task round ((4 + removed_leaves tree) * one_walk limits + 14)

-- So a lookup takes two rounds in the memory of a state;
abbrev pub LookupsEndInStates : Type 0
LookupsEndInStates = (limits : Limits) (entries : List Entry) (task : Task) → IsState limits entries
    → EndsWithin (memory_of limits entries) task (first_read task) (2 * one_walk limits) × FindsEach (memory_of limits entries) task (first_read task)

-- and wherever a round stands there that shows what its actor knows, the reader takes at most so many as there are PIDs, and four.
abbrev pub RoundsEndInStates : Type 0
RoundsEndInStates = (limits : Limits) (entries : List Entry) (actor : ℕ) (r : Recalled) (task : Task) (round : ReadRound) → IsState limits entries → Shows round (knows entries actor) r
    → EndsWithin (memory_of limits entries) task round ((4 + limits.pids) * one_walk limits)
