-- A tidying at the leaf of its key, where nothing is due.
use Rattle.op_machine.proofs.Words.{◌≡◌, ◌≤◌, ◌<◌, inl, inr, ℕ, List, [], ◌∷◌, length, Bool, Option, Some, None, true, false, refl, ap, subst, arith, IsTrue, if◌then◌else◌, bytes_eq}
use Rattle.op_machine.proofs.Words.{Command, Add, Insert, Upsert, Delete, DeleteIf, Swap, Tidy, is_writer, reply_of, IsSpellablePage}
use Rattle.op_machine.proofs.Words.{Record, covers, level_in, MayReply, IsFitted, Knowledge}
use Rattle.op_machine.proofs.Words.{Recalled, Spares, Version, from_made, of_made, IsAtLeafBelow, Task, IsIdleFor}
use Rattle.bw_model.specs.Numbers.{is_number}
use Rattle.bw_model.specs.declared.command.Reply.{Reply}
use Rattle.bw_model.specs.declared.command.Reply.TheVariants.{Deleted, Differs, Replaced, Swapped, Tidied}
use Rattle.base_page.specs.Pages.{Page}
use Rattle.deltas.specs.declared.record.Record.TheVariants.{Base}
use Rattle.traces.proofs.FittedLaws.{Makes-base}
use Rattle.structure_changes.specs.Sizes.{HasFewItems}
use Rattle.structure_changes.proofs.Unheld.{leaf_unheld}
use Rattle.op_machine.specs.machine.Errands.{due_of, splits_of}
use Rattle.op_machine.proofs.HoldingBack.{kept_back}

-- a test that replies either way
replied : (b : Bool) (x y : Reply) {A : Type 0} → (if b then Some x else Some y) ≡ None → A
replied true x y none = cc
replied false x y none = cc

-- a writer whose reply goes by no value is a tidying
tidies : (c : Command) (old : Option (List ℕ)) → is_writer c ≡ true → reply_of c old ≡ None → (key : List ℕ) × (c ≡ Tidy key)
tidies (DeleteIf key expected) (Some before) writes none = replied (bytes_eq before expected) (Deleted before) (Differs before) none
tidies (Swap key expected value) (Some before) writes none = replied (bytes_eq before expected) Swapped (Differs before) none
tidies (Add key number) (Some before) writes none = replied (is_number before) (Replaced before) (Differs before) none
tidies (Tidy key) old writes none = (key, refl)
tidies (Insert key value) None writes none = cc
tidies (Upsert key value) None writes none = cc
tidies (Delete key) None writes none = cc
tidies c old writes none = cc

-- a chain without deltas is a base alone
alone : (chain : List Record) → IsFitted chain → length chain ≤ 1 → (base : Page) × (chain ≡ Base base ∷ []) × IsSpellablePage base
alone [] fitted few = absurd fitted
alone (newest ∷ []) fitted few = (fitted.0, ap (λ (update_record : Record). update_record ∷ []) fitted.1, fitted.2)
alone (newest ∷ older ∷ under) fitted few = absurd (omega arith)

pub may_call : (task : Task) (spares : Spares) (k : Knowledge) (r : Recalled) (parent : Option Version) (leaf : Version) (old : Option (List ℕ))
    → IsAtLeafBelow task spares k r parent leaf → IsIdleFor task.command parent leaf → task.errands ≡ [] → reply_of task.command old ≡ None
    → MayReply task.limits task.actor k Tidied
may_call task spares k r parent leaf old below idle last none =
    let at = below.at in
    let tidy = tidies task.command old at.writer none in
    let due : due_of task.limits task.errands task.command ≡ 1 = rw (last, tidy.1) refl in
    let base = alone leaf.chain at.page.in_hand.sound.is_chain.fitted (omega (arith, due)) in
    let level : level_in (Base base.0 ∷ []) ≡ 0 = rw base.1 at at.level in
    let splits : splits_of task.limits task.errands task.command ≡ true = rw (last, tidy.1) refl in
    let few : HasFewItems (Base base.0 ∷ []) = subst HasFewItems base.1 (at.few splits) in
    let makes = Makes-base base.0 base.2.ruled.is_page.ordered.ascending base.2.alive in
    let covered : IsTrue (covers leaf.chain tidy.0) = rw (last, tidy.1) at at.covered in
    record {
      command = task.command;
      going = at.seeks.asked.going;
      justified = inr (inr (inr (inl (record {
        key = tidy.0;
        asks = tidy.1;
        is = refl;
        page = leaf.pid;
        head = leaf.head;
        basis = record { head = at.page.in_hand.seen.head; chain = leaf.chain; read = at.page.in_hand.seen.read; alive = at.page.alive };
        base = base.0;
        alone = base.1;
        leaf = level;
        covers = covered;
        few = of_made (Base base.0 ∷ []) base.0 (λ items. length items < 16) makes few;
        back = λ other small.
            kept_back task.limits k r task.command parent leaf (rw tidy.1 refl) below.above (below.termed splits) idle at.page.alive at.short
            (record {
              other = other;
              few = rw base.1 (from_made (Base base.0 ∷ []) base.0 (λ items. length items ≤ 4) makes small);
              unheld = leaf_unheld
                  leaf.chain at.page.in_hand.sound.is_chain.fitted at.level;
            });
        unlinked = at.seeks.asked.unlinked;
      }))));
    }
