-- Where a sweep begins, and where an answer leads it.
use Rattle.std.specs.Prelude.{◌≡◌, ◌<◌, ◌≤◌, ◌^◌, ◌||◌, ℕ, suc, [], ◌∷◌, Bool, true, false, if◌then◌else◌, Option, None, Some, IsTrue, IsFalse}
use Rattle.std.specs.List.{list_any}
use Rattle.tree_limits.specs.declared.limits.Limits.{Limits}
use Rattle.bw_model.specs.declared.step.Answer.{Answer}
use Rattle.bw_model.specs.declared.step.Answer.TheVariants.{Number}
use Rattle.deltas.specs.declared.record.Record.{Record}
use Rattle.epochs.specs.Limbo.{Limbo, all_restaged, compared_with, firsts_restaged, is_unstamped, stamped_by}
use Rattle.epochs.specs.Words.{IsHandedOn}
use Rattle.sweep.specs.Announced.{Announced, none_yet, with_next}
use Rattle.sweep.specs.declared.sweep.State.{State}
use Rattle.sweep.specs.declared.sweep.TheConstants.{MOST_COMPARED}
use Rattle.sweep.specs.declared.sweep.State.TheVariants.{Epoch, Retire, Announce, Reuse}

abbrev pub IsEmpty : Limbo → Type 0
IsEmpty limbo = (limbo.rows.entries ≡ []) × (limbo.pids.entries ≡ [])

abbrev pub has_unstamped : Limbo → Bool
has_unstamped limbo = list_any (λ entry. is_unstamped entry.stage) limbo.rows.entries || list_any (λ entry. is_unstamped entry.stage) limbo.pids.entries

-- The first word of what may be freed is freed next; where nothing may, the sweep has ended.
abbrev pub Frees : Limbo → Option State → Limbo → Type 0
Frees limbo None after = IsHandedOn limbo None after
Frees limbo (Some (Reuse reuse)) after = IsHandedOn limbo (Some reuse) after
Frees limbo (Some Epoch) after = ⊥
Frees limbo (Some (Retire epoch)) after = ⊥
Frees limbo (Some (Announce announced)) after = ⊥

-- This is the least epoch that another actor has announced. In a large tree it is compared with the first items of each list alone, so
-- that a sweep takes no longer where more is in limbo. What is freed makes room for others, which the next sweep compares.
abbrev pub after_comparing : Limits → ℕ → Limbo → Limbo
after_comparing limits least limbo =
    if limits.is_large then firsts_restaged MOST_COMPARED (compared_with (least ∷ [])) limbo else all_restaged (compared_with (least ∷ [])) limbo

-- All that is in limbo has a stamp, and the first of the other actors announced this: the next one is read, if there is one.
-- What all of them have passed may be freed, of what is compared.
pub record Compares (limits : Limits) (announced : Announced) (limbo : Limbo) (next : Option State) (after : Limbo) : Type 0 where
  pub reads : suc announced.count < limits.actors → (next ≡ Some (Announce announced)) × (after ≡ limbo)
  pub frees : limits.actors ≤ suc announced.count → Frees (after_comparing limits announced.least limbo) next after

-- The epoch was read. It is retired, unless it is the last one.
pub record Stamps (limits : Limits) (epoch : ℕ) (limbo : Limbo) (next : Option State) (after : Limbo) : Type 0 where
  pub retires : epoch < 2 ^ 62 → (next ≡ Some (Retire epoch)) × (after ≡ all_restaged (stamped_by epoch) limbo)
  pub last : 2 ^ 62 ≤ epoch → Compares limits none_yet (all_restaged (stamped_by epoch) limbo) next after

-- after an answer: the next state, if the sweep goes on, and the limbo
abbrev pub Moves : Limits → State → Limbo → Answer Record → Option State → Limbo → Type 0
Moves limits Epoch limbo (Number epoch) next after = Stamps limits epoch limbo next after
Moves limits (Retire epoch) limbo told next after = Compares limits none_yet limbo next after
Moves limits (Announce announced) limbo (Number epoch) next after = Compares limits (with_next epoch announced) limbo next after
Moves limits (Reuse reuse) limbo told next after = Frees limbo next after
Moves limits state limbo told next after = ⊥

-- at the begin: where something has no stamp, the epoch is read first
pub record BeginsSweep (limits : Limits) (limbo : Limbo) (first : Option State) (after : Limbo) : Type 0 where
  pub empty : IsEmpty limbo → (first ≡ None) × (after ≡ limbo)
  pub epoch : IsTrue (has_unstamped limbo) → (first ≡ Some Epoch) × (after ≡ limbo)
  pub stamped : (IsEmpty limbo → ⊥) → IsFalse (has_unstamped limbo) → Compares limits none_yet limbo first after

-- the state of a sweep that goes on
abbrev pub state_if : Bool → State → Option State
state_if true state = Some state
state_if false state = None
