-- What one more entry makes of the rows that an actor knows.
use Rattle.linearization.proofs.Words.{◌≡◌, ◌<◌, ◌≤◌, ℕ, suc, List, [], ◌∷◌, ◌++◌, length, Some, inl, inr, arith, StepOf, Answer, Record, Entry, ShowsRow, IsStep, slice_get, slice_get_below}
use Rattle.bw_model.specs.declared.step.Step.TheVariants.{Enter, Leave}
use Rattle.traces.proofs.TraceLaws.{TakesStep-push_cases, ShowsRow-kept}
use Rattle.linearization.specs.Faithful.{KnowsRow, Disturbs}

module _ (entries : List Entry) (last : Entry) where
  -- knowledge at an earlier step stays
  pub KnowsRow-before : (n actor row : ℕ) → n ≤ length entries → KnowsRow entries n actor row → KnowsRow (entries ++ last ∷ []) n actor row
  KnowsRow-before n actor row le knows = record {
    at = knows.at;
    before = knows.before;
    shown = ShowsRow-kept entries last knows.at actor row knows.shown;
    inside = λ later epoch answer low high. (
      (λ enters. elim (TakesStep-push_cases entries last later actor (Enter epoch) answer enters)
          [ inl h ↦ (knows.inside later epoch answer low high).0 h | inr h ↦ absurd (past later low high h.0) ]),
      (λ leaves. elim (TakesStep-push_cases entries last later actor Leave answer leaves) [ inl h ↦ (knows.inside later epoch answer low high).1 h | inr h ↦ absurd (past later low high h.0) ]),
    );
    undisturbed =
        λ later other step answer low high is. elim (TakesStep-push_cases entries last later other step answer is)
        [ inl h ↦ knows.undisturbed later other step answer low high h | inr h ↦ absurd (past later low high h.0) ];
  }
    where
      past : (later : ℕ) → knows.at < later → later < n → later ≡ length entries → ⊥
      past later low high is = omega arith

  -- it outlives an entry by which the actor doesn't enter or leave, and which doesn't disturb the row
  pub KnowsRow-kept : (actor row : ℕ) → KnowsRow entries (length entries) actor row
      → ((epoch : ℕ) (answer : Answer Record) → ¬ IsStep last actor (Enter epoch) answer × ¬ IsStep last actor Leave answer)
      → ((other : ℕ) (step : StepOf Record) (answer : Answer Record) → IsStep last other step answer → ¬ Disturbs step answer row)
      → KnowsRow (entries ++ last ∷ []) (suc (length entries)) actor row
  KnowsRow-kept actor row knows stays calm = record {
    at = knows.at;
    before = let lt : knows.at < length entries = knows.before in omega arith;
    shown = ShowsRow-kept entries last knows.at actor row knows.shown;
    inside = λ later epoch answer low high. (
      (λ enters. elim (TakesStep-push_cases entries last later actor (Enter epoch) answer enters)
          [ inl h ↦ (knows.inside later epoch answer low (within h.1)).0 h | inr h ↦ (stays epoch answer).0 h.1 ]),
      (λ leaves. elim (TakesStep-push_cases entries last later actor Leave answer leaves) [ inl h ↦ (knows.inside later epoch answer low (within h.1)).1 h | inr h ↦ (stays epoch answer).1 h.1 ]),
    );
    undisturbed =
        λ later other step answer low high is. elim (TakesStep-push_cases entries last later other step answer is)
        [ inl h ↦ knows.undisturbed later other step answer low (within h.1) h | inr h ↦ calm other step answer h.1 ];
  }
    where
      within : {k : ℕ} {x : Entry} → slice_get entries k ≡ Some x → k < length entries
      within {k = k} {x = x} e = slice_get_below entries k x e

  -- and what the entry shows is known after it
  pub KnowsRow-shown : (actor row : ℕ) → ShowsRow (entries ++ last ∷ []) (length entries) actor row → KnowsRow (entries ++ last ∷ []) (suc (length entries)) actor row
  KnowsRow-shown actor row shown = record {
    at = length entries;
    before = omega arith;
    shown = shown;
    inside = λ later epoch answer low high. absurd (omega arith);
    undisturbed = λ later other step answer low high. absurd (omega arith);
  }
