-- What a change of an operation is for.
use Rattle.std.specs.Prelude.{◌≡◌, ◌<◌, ℕ, List, Option, Some, None, false, IsTrue, length, ⊤, ◌≤◌}
use Rattle.bw_model.specs.declared.command.Command.{Command}
use Rattle.bw_model.specs.declared.command.Command.TheVariants.{Get, Insert, Upsert, Delete, DeleteIf, Swap, Add, Page, Back, Tidy}
use Rattle.bw_model.specs.declared.command.Reply.{Reply as ReplyOf}
use Rattle.bw_model.specs.Numbers.{sum_bytes}
use Rattle.bw_model.specs.Replies.{command_key, reply_of}
use Rattle.deltas.specs.declared.record.Record.{Record}
use Rattle.deltas.specs.declared.record.Record.TheVariants.{Base}
use Rattle.deltas.specs.declared.record.Record.TheVariants as newest
use Rattle.traces.specs.chain.Chains.{IsChainFrom, covers, is_removed, level_in}
use Rattle.traces.specs.discipline.Discipline.{chain_value}
use Rattle.traces.specs.discipline.Knowledge.{Knowledge}
use Rattle.change_machine.specs.declared.change.End.{End}
use Rattle.change_machine.specs.declared.change.End.TheVariants.{Won}
use Rattle.structure_changes.specs.declared.plan.Plan.{Plan}
use Rattle.structure_changes.specs.declared.plan.Plan.TheVariants.{Install, Split, Root, Unlink}
use Rattle.change_machine.specs.Changes.{linked_after, linked_by}
use Rattle.structure_changes.specs.declared.after.After.TheVariants.{Round, Limbo, Errand}
use Rattle.structure_changes.specs.declared.split.SplitPlan.{SplitPlan}
use Rattle.structure_changes.specs.Sizes.{HasFewItems}
use Rattle.linearization.specs.Halves.{AreHalves}
use Rattle.op_parts.specs.Errands.{with_errand}
use Rattle.op_parts.specs.Hands.{IsTakenBy, TakesNothing}
use Rattle.op_machine.specs.machine.Upkeep.{IsTidying}
use Rattle.op_parts.specs.declared.then.Then.{Then}
use Rattle.op_parts.specs.declared.then.Then.TheVariants.{After, Reply}

-- The plan links the command's update over a leaf as it was read, where no consolidation is due, nor, if the update adds an item, a split; and this
-- is the reply over that leaf.
pub record IsUpdateOf (k : Knowledge) (command : Command) (plan : Plan) (answered : ReplyOf) : Type 0 where
  pub pid : ℕ
  pub head : ℕ
  pub content : Record
  pub is : plan ≡ Install pid head content
  pub updates : (before : Option (Option ℕ)) → linked_by content head before ≡ Some (Some head)
  pub chain : List Record
  pub read : IsChainFrom k.read.seen head chain
  pub leaf : level_in chain ≡ 0
  pub short : length chain ≤ 8
  pub room : chain_value chain (command_key command) ≡ None → HasFewItems chain
  pub alive : is_removed chain ≡ false
  pub covers : IsTrue (covers chain (command_key command))
  pub replies : reply_of command (chain_value chain (command_key command)) ≡ Some answered

-- The plan is no split.
abbrev pub IsNoSplit : Plan → Type 0
IsNoSplit (Install pid head content) = ⊤
IsNoSplit (Split pid split) = ⊥
IsNoSplit (Root left root) = ⊤
IsNoSplit (Unlink pid head unterm removal) = ⊤

-- What a change brings: an update its reply, a split the errand to its new page, a change that takes something out of the tree what it
-- takes out, another change nothing.
abbrev pub Brings : Knowledge → Command → Plan → Then → Type 0
Brings k command plan (Reply answered) = IsUpdateOf k command plan answered
Brings k command plan (After Round) = IsNoSplit plan × TakesNothing plan × (linked_after plan Won None ≡ None) × IsTidying command plan
Brings k command plan (After (Limbo unlinked)) = IsTakenBy k plan unlinked
Brings k command plan (After (Errand key)) = (pid : ℕ) × (split : SplitPlan) × (plan ≡ Split pid split) × (split.upper.low ≡ key)

-- A base comes only over a chain that has deltas. A split is planned as one, and leaves items enough on both sides.
abbrev pub IsUsefulOver : Knowledge → ℕ → Record → Type 0
IsUsefulOver k head (Base page) = (chain : List Record) → IsChainFrom k.read.seen head chain → 1 < length chain
IsUsefulOver k head (newest.Split split) = ⊥
IsUsefulOver k head content = ⊤

abbrev pub IsUsefulPlan : Knowledge → Plan → Type 0
IsUsefulPlan k (Install pid head content) = IsUsefulOver k head content
IsUsefulPlan k (Split pid split) = (chain : List Record) → IsChainFrom k.read.seen split.next chain → AreHalves chain split.upper.items
IsUsefulPlan k plan = ⊤

-- The page that is to be split was read with the row that the split comes over.
abbrev pub IsReadPlan : Knowledge → Plan → Type 0
IsReadPlan k (Split pid split) = k.read.heads pid ≡ Some split.next
IsReadPlan k plan = ⊤

-- The record that a command places over the row next, if it may change the map: what an addition writes goes by the value that the
-- key has.
abbrev pub update_over : Command → Option (List ℕ) → ℕ → Record
update_over (Get key) old next = newest.Remove (record { level = 0; next = next })
update_over (Insert key value) old next = newest.Put (record { next = next; key = key; value = value })
update_over (Upsert key value) old next = newest.Put (record { next = next; key = key; value = value })
update_over (Delete key) old next = newest.Delete (record { next = next; key = key })
update_over (DeleteIf key expected) old next = newest.Delete (record { next = next; key = key })
update_over (Swap key expected value) old next = newest.Put (record { next = next; key = key; value = value })
update_over (Add key number) old next = newest.Put (record { next = next; key = key; value = sum_bytes old number })
update_over (Page from) old next = newest.Remove (record { level = 0; next = next })
update_over (Back upto) old next = newest.Remove (record { level = 0; next = next })
update_over (Tidy key) old next = newest.Remove (record { level = 0; next = next })

-- the errands once a change has ended: a split that won adds its own
abbrev pub errands_after : End → Then → List (List ℕ) → List (List ℕ)
errands_after Won (After (Errand key)) errands = with_errand key errands
errands_after end then errands = errands
