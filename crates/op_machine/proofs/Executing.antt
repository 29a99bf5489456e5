-- A command at the leaf of its key.
use Rattle.op_machine.proofs.Words.{◌≡◌, inl, inr, ℕ, List, [], ◌∷◌, Bool, Some, None, is_some, true, false, refl}
use Rattle.op_machine.proofs.Words.{ap, IsTrue, command_key, reply_of, update_of, covers, chain_value, Knowledge, Recalled, Spares, Version}
use Rattle.op_machine.proofs.Words.{ShowsState, Task, Limits, Record, IsFitted}
use Rattle.op_machine.proofs.Words.{Command, Tidy}
use Rattle.std.specs.Prelude.{not}
use Rattle.std.proofs.Math.Nat.{lt_of_not-le}
use Rattle.structure_changes.specs.Sizes.{HasFewItems, HasManyItems}
use Rattle.structure_changes.proofs.Places.{made}
use Rattle.bw_model.specs.declared.command.Reply.{Reply}
use Rattle.op_machine.specs.machine.Errands.{splits_of}
use Rattle.op_machine.specs.machine.Outcomes.{IsAtLeaf}
use Rattle.op_machine.specs.machine.States as at
use Rattle.op_machine.proofs.Commands.{none_due}
use Rattle.op_machine.proofs.Replying.{not_full}

-- in a small tree each round splits pages
small_splits : (limits : Limits) (errands : List (List ℕ)) (command : Command) → limits.is_large ≡ false → splits_of limits errands command ≡ true
small_splits limits [] (Tidy key) small = refl
small_splits limits (key ∷ errands) command small = refl
small_splits limits errands command small = ap not small

few_unless : (chain : List Record) → IsFitted chain → ¬ HasManyItems chain → HasFewItems chain
few_unless chain fitted few = let m = made chain fitted in (m.0.items, m.1.items, lt_of_not-le (λ many. few (m.0.items, m.1.items, many)))

module _ (task : Task) (spares : Spares) (k : Knowledge) (r : Recalled) (leaf : Version) (h : IsAtLeaf task spares k r leaf) (last : task.errands ≡ []) where
  -- the leaf has the key
  pub within : IsTrue (covers leaf.chain (command_key task.command))
  within = rw last at h.covered

  -- it has few items where an update adds one, which in a large tree was looked for there
  pub room_there : {P : Type 0} → (task.limits.is_large ≡ true → P → ¬ HasManyItems leaf.chain) → P → HasFewItems leaf.chain
  room_there tells adds = by_kind task.limits.is_large refl
    where
      by_kind : (large : Bool) → task.limits.is_large ≡ large → HasFewItems leaf.chain
      by_kind false small = h.few (small_splits task.limits task.errands task.command small)
      by_kind true large = few_unless leaf.chain h.page.in_hand.sound.is_chain.fitted (tells large adds)

  -- a command that changes nothing there answers
  pub answers_there : (reply : Reply) → reply_of task.command (chain_value leaf.chain (command_key task.command)) ≡ Some reply
      → is_some (update_of 0 task.command (chain_value leaf.chain (command_key task.command))) ≡ false
      → ShowsState task spares k r (at.Leave reply None)
  answers_there reply replies unchanged = (
    record { inside = h.seeks.inside; spare = h.seeks.spare; going = h.seeks.asked.going },
    record {
      command = task.command;
      going = h.seeks.asked.going;
      justified = inl (record {
        row = leaf.head;
        chain = leaf.chain;
        read = h.page.in_hand.seen.read;
        leaf = h.level;
        covers = within;
        is = replies;
        basis = inr (
          h.seeks.asked.unlinked,
          inl ((leaf.pid, h.page.in_hand.seen.head), h.page.alive),
          none_due task.actor 0 task.command (chain_value leaf.chain (command_key task.command)) unchanged,
        );
      });
    },
    not_full task.command (chain_value leaf.chain (command_key task.command)) reply replies,
  )
