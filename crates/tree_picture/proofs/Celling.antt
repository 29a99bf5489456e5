-- The table of epochs and limbo, one actor more, and that its words have room.
use Rattle.std.proofs.Common.{◌≡◌, ◌≤◌, ◌<◌, ◌+◌, ◌^◌, ◌++◌, ◌∷◌, [], ℕ, suc, List, Option, ap, append_assoc, arith, length, subst, sym, ◌∙◌}
use Rattle.std.specs.Prelude.{codes, decimal}
use Rattle.std.proofs.lemmas.Fmt.{length-decimal-le}
use Rattle.std.proofs.lemmas.List.{append-nil, length-append}
use Rattle.bw_model.specs.declared.step.Step.{Step as StepOf}
use Rattle.deltas.specs.declared.record.Record.{Record}
use Rattle.deltas.specs.Memory.{Memory}
use Rattle.epochs.specs.declared.entry.Stage.{Stage}
use Rattle.epochs.specs.declared.item.Item.{Item}
use Rattle.op_machine.specs.machine.Actors.{Actor}
use Rattle.tree_limits.specs.declared.limits.Limits.{Limits}
use Rattle.traces.specs.declared.trace.Entry.{Entry}
use Rattle.tree_picture.specs.Adding.{Adds}
use Rattle.tree_picture.specs.Cells.{AreActorsFrom, IsActorOf, actor_cells, cells_from, epoch_text, item_text, stage_text}
use Rattle.tree_picture.specs.declared.cells.Cell.{Cell}

pub actors_more : (limits : Limits) (entries : List Entry) (wanted : List (Option (StepOf Record))) (number : ℕ) (actors : List Actor) (at : Actor)
    → AreActorsFrom limits entries wanted number actors → IsActorOf limits entries wanted (number + length actors) at → AreActorsFrom limits entries wanted number (actors ++ at ∷ [])
actors_more limits entries wanted number [] at are is =
    let same : number + 0 ≡ number = omega arith in (rw same at is, tt {0})
actors_more limits entries wanted number (first ∷ actors) at are is =
    let same : number + suc (length actors) ≡ number + 1 + length actors = omega arith in
    (are.0, actors_more limits entries wanted (number + 1) actors at are.1 (rw same at is))

pub cells_more : (memory : Memory) (number : ℕ) (actors : List Actor) (at : Actor)
    → cells_from memory number (actors ++ at ∷ []) ≡ cells_from memory number actors ++ actor_cells memory (number + length actors) at
cells_more memory number [] at =
    let same : number ≡ number + 0 = omega arith in append-nil (actor_cells memory number at) ∙ ap (λ n. actor_cells memory n at) same
cells_more memory number (first ∷ actors) at =
    let same : number + 1 + length actors ≡ number + suc (length actors) = omega arith in
    ap (λ (cells : List Cell). actor_cells memory number first ++ cells) (cells_more memory (number + 1) actors at ∙ ap (λ n. cells_from memory (number + 1) actors ++ actor_cells memory n at) same)
    ∙ sym (append_assoc (actor_cells memory number first) (cells_from memory (number + 1) actors) (actor_cells memory (number + suc (length actors)) at))

pub few_behind : (before : List ℕ) (number : ℕ) → length before ≤ 9 → number < 2 ^ 64 → length (before ++ decimal number) ≤ 29
few_behind before number short small =
    omega (arith, short, length-append before (decimal number), length-decimal-le 20 number (omega arith) (omega (arith, small)) (omega (arith, small)))

-- the words for a cell have room
pub epoch_fits : (actor epoch : ℕ) (words : List ℕ) → length (epoch_text epoch) ≤ 29 → actor < 2 ^ 8 → Adds [] words (codes "actor " ++ decimal actor ++ epoch_text epoch)
    → words ≡ codes "actor " ++ decimal actor ++ epoch_text epoch
epoch_fits actor epoch words short small adds =
    adds (omega (
      arith,
      length-append (codes "actor " ++ decimal actor) (epoch_text epoch),
      length-append (codes "actor ") (decimal actor),
      length-decimal-le 10 actor (omega arith) (omega (arith, small)) (omega (arith, small)),
      short,
    ))

pub limbo_fits : (item : Item) (stage : Stage) (words : List ℕ) → length (item_text item) ≤ 29 → length (stage_text stage) ≤ 29 → Adds [] words (item_text item ++ stage_text stage)
    → words ≡ item_text item ++ stage_text stage
limbo_fits item stage words short few adds = adds (omega (arith, length-append (item_text item) (stage_text stage), short, few))
