-- Operations that read, or fill, slots of pages that nobody has taken, or take numbers without end.
use Rattle.linearization.proofs.Words.{codes, slice_get, ◌≡◌, ◌<◌, ◌≤◌, ℕ, zero, suc, Some, None, Bool, true, false, refl, arith, inl, inr, lit<, ◌∙◌, Command, Insert, TakePid, Entry}
use Rattle.linearization.proofs.Words.{HasFewChanges, IsDirect, Operation, IsInPhase, Phase, free, owned}
use Rattle.bw_model.specs.declared.step.Answer.TheVariants.{Whether}
use Rattle.bw_model.specs.declared.step.Link.TheVariants as link
use Rattle.traces.specs.declared.trace.Entry.TheVariants.{Begin, Step}
use Rattle.linearization.specs.Examples.{small, foreign_fill, many_takes, unmet_read}
use Rattle.linearization.proofs.Listed.{passes_at}
use Rattle.linearization.proofs.PhaseLaws.{is_taken, moved_by_step}

abbrev operation : Operation
operation = record { start = 0; actor = 0; command = Insert (codes "a") (codes "1") }

takes_no_pid : Entry → Bool
takes_no_pid (Step actor (TakePid pid) answer reply) = false
takes_no_pid entry = true

pub not_filled : ¬ IsDirect small foreign_fill
unfolding takes_no_pid
not_filled direct =
    let h = direct.links operation 3 5 0 2 refl (None, record { begun = lit< tt; entry = refl; not_ended = λ later command low high e. once later command low high e }) in
    let filled : h.0 ≡ link.Ready = (let is : Some link.Ready ≡ Some h.0 = h.1 in cc) in
    by_phase (h.2 (inl filled))
  where
    once : (later : ℕ) (command : Command) → 0 < later → later < 3 → slice_get foreign_fill later ≡ Some (Begin 0 command) → ⊥
    once zero command low high e = omega arith
    once (suc zero) command low high e = cc
    once (suc (suc zero)) command low high e = cc
    once (suc (suc (suc later))) command low high e = omega arith

    by_phase : IsInPhase small foreign_fill 3 5 owned → ⊥
    by_phase (inr (rests, is)) = cc is
    by_phase (inl (m, from, lt, moves, rests)) =
        let took = is_taken from owned moves.holds refl in
        let e : false ≡ true = passes_at (λ k. takes_no_pid) foreign_fill refl m (Step took.0 (TakePid 5) (Whether true) took.1.0) (moves.at ∙ (λ i. Some (took.1.1 i))) in
        cc

pub not_met : ¬ IsDirect small unmet_read
not_met direct =
    let h = direct.settled operation 1 5 2 refl (None, record { begun = lit< tt; entry = refl; not_ended = λ later command low high e. omega arith }) (lit< tt) (lit< tt) in
    by_phase h.0 h.2 h.1
  where
    by_phase : (phase : Phase) → (phase ≡ free → ⊥) → IsInPhase small unmet_read 1 5 phase → ⊥
    by_phase phase other (inr (rests, is)) = other is
    by_phase phase other (inl (zero, from, lt, moves, rests)) = let step = moved_by_step from phase moves.holds in let e = step.3.1 in let at = moves.at in cc
    by_phase phase other (inl (suc m, from, lt, moves, rests)) = omega arith

pub not_so_many : ¬ HasFewChanges small many_takes
not_so_many h = let bound : 153 ≤ 152 = h.takes 154 in absurd (omega arith)
