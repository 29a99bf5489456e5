-- Which steps are taken on a word.
use Rattle.std.proofs.Common.{◌≡◌, ℕ, Bor, refl, sym, subst, arith}
use Rattle.running_tree.proofs.Words.{step_of_loan, StepOf, Record, IsWithin, Limits, HasWord}
use Rattle.bw_model.specs.declared.step.Step.TheVariants.{Slot, Row, Epoch, Announce, PidBits, RowBits, Place, Exchange, TakePid, TakeRow, Enter, Leave, Retire, ReusePids, ReuseRows}

-- a step that neither reads a record nor places one
pub on_word : (limits : Limits) (step : StepOf (Bor Record)) → IsWithin limits (step_of_loan step) → ((row : ℕ) → step ≡ Row row → ⊥)
    → ((row : ℕ) (content : Bor Record) → step ≡ Place row content → ⊥) → HasWord limits (step_of_loan step)
on_word limits (Slot pid) within reads places = within
on_word limits (Row row) within reads places = reads row refl
on_word limits Epoch within reads places = tt
on_word limits (Announce actor) within reads places = let few = limits.allowed.few_actors in omega (arith, few, within)
on_word limits (PidBits word) within reads places = let whole = limits.allowed.whole_pids in omega (arith, whole, within)
on_word limits (RowBits word) within reads places = let whole = limits.allowed.whole_rows in omega (arith, whole, within)
on_word limits (Place row content) within reads places = places row content refl
on_word limits (Exchange slot old new) within reads places = within.0
on_word limits (TakePid pid) within reads places = within
on_word limits (TakeRow row) within reads places = within
on_word limits (Enter epoch) within reads places = tt
on_word limits Leave within reads places = tt
on_word limits (Retire epoch) within reads places = within
on_word limits (ReusePids word bits) within reads places = let whole = limits.allowed.whole_pids in let few = within.0 in omega (arith, whole, few)
on_word limits (ReuseRows word bits) within reads places = let whole = limits.allowed.whole_rows in let few = within.0 in omega (arith, whole, few)

-- a step that isn't the leave, with the record that is lent
pub lent_stays : (step : StepOf (Bor Record)) → (step ≡ Leave → ⊥) → step_of_loan step ≡ Leave → ⊥
lent_stays Leave stays leaves = stays refl
lent_stays step stays leaves = cc leaves

-- a step that reads a slot, or enters
pub slot_stays : (step : StepOf (Bor Record)) (pid : ℕ) → step ≡ Slot pid → step_of_loan step ≡ Leave → ⊥
slot_stays step pid is = subst (λ s. step_of_loan s ≡ Leave → ⊥) (sym is) (λ leaves. cc)

pub enter_stays : (step : StepOf (Bor Record)) (epoch : ℕ) → step ≡ Enter epoch → step_of_loan step ≡ Leave → ⊥
enter_stays step epoch is = subst (λ s. step_of_loan s ≡ Leave → ⊥) (sym is) (λ leaves. cc)
