-- One more entry: where updates are made.
use Rattle.tree_law.proofs.Words.{[], ap, suc, List, true, inl, length, ◌++◌, ◌≤◌, inr, ◌∷◌, sym, ℕ, ◌≡◌, Bool, ◌∙◌, ◌<◌, arith, Some, take, cases_lt, slice_get, ◌↔◌, Update, Limits}
use Rattle.tree_law.proofs.Words.{slice_get_below, slice_get_kept, slice_get-push_cases, slice_get-push, take-push_whole, memory_at-push, memory_at, memory_of, Entry, log_at-push, log_at}
use Rattle.tree_law.proofs.Words.{log_of, UpdatesAtLinks, LinksUpdate, Happens}
use Rattle.linearization.specs.Updates.{IsUpdating}
use Rattle.tree_law.proofs.trace.Marks.{take_whole}
use Rattle.tree_law.proofs.trace.Owned.{pushed_length, point_below, point_last}

module _ (limits : Limits) (entries : List Entry) (points : List Bool) (last : Entry) (mark : Bool) (beside : length points ≡ length entries) where
  abbrev entries' : List Entry
  entries' = entries ++ last ∷ []

  abbrev points' : List Bool
  points' = points ++ mark ∷ []

  -- the last entry makes an update
  abbrev pub UpdatesNow : Type 0
  UpdatesNow = (mark ≡ true) × ((update : Update) × (log_of entries' points' ≡ log_of entries points ++ update ∷ []))

  log_same : (n : ℕ) → n ≤ length entries → log_at entries' points' n ≡ log_at entries points n
  log_same n le = log_at-push entries points (last ∷ []) (mark ∷ []) n beside le

  log_before : log_at entries' points' (length entries) ≡ log_of entries points
  log_before =
      ap (λ es. log_of es (take (length entries) points')) (take-push_whole entries (last ∷ [])) ∙ ap (log_of entries) (ap (λ n. take n points') (sym beside) ∙ take-push_whole points (mark ∷ []))

  log_after : log_at entries' points' (suc (length entries)) ≡ log_of entries' points'
  log_after = ap (λ es. log_of es (take (suc (length entries)) points')) (take_whole entries' (suc (length entries)) (sym (pushed_length entries last)))
      ∙ ap (log_of entries') (take_whole points' (suc (length entries)) (ap suc (sym beside) ∙ sym (pushed_length points mark)))

  pub updates_push : UpdatesAtLinks limits entries points → (UpdatesNow ↔ LinksUpdate (memory_of limits entries) last) → UpdatesAtLinks limits entries' points'
  updates_push old now n =
      let to : IsUpdating entries' points' n → Happens limits entries' n LinksUpdate = λ h. elim (cases_lt n (length entries)) [
        | inl lt ↦
            let was = (old n).0 (
              point_below points mark n (omega (arith, lt, beside)) h.0,
              (h.1.0, sym (log_same (suc n) (omega (arith, lt))) ∙ h.1.1 ∙ ap (λ l. l ++ h.1.0 ∷ []) (log_same n (omega (arith, lt)))),
            ) in
            record { entry = was.entry; at = slice_get_kept entries (last ∷ []) n _ was.at; holds = rw (memory_at-push limits entries (last ∷ []) n (omega (arith, lt))) was.holds }
        | inr le ↦
            let at : n ≡ length entries = omega (arith, (slice_get_below points' n true h.0), (pushed_length points mark), beside, le) in
            let grows : log_of entries' points' ≡ log_of entries points ++ h.1.0 ∷ [] = sym log_after ∙ (rw at at h.1.1) ∙ ap (λ l. l ++ h.1.0 ∷ []) log_before in
            record {
              entry = last;
              at = ap (slice_get entries') at ∙ slice_get-push entries last;
              holds = rw (ap (memory_at limits entries') at ∙ ap (memory_of limits) (take-push_whole entries (last ∷ []))) (now.0 (point_last points mark n (at ∙ sym beside) h.0, (h.1.0, grows)));
            }
      ] in
      let from : Happens limits entries' n LinksUpdate → IsUpdating entries' points' n = λ h. elim (slice_get-push_cases entries last n h.entry h.at) [
        | inl before ↦
            let lt : n < length entries = slice_get_below entries n h.entry before in
            let was = (old n).1 (record { entry = h.entry; at = before; holds = rw (memory_at-push limits entries (last ∷ []) n (omega (arith, lt))) at h.holds }) in
            (slice_get_kept points (mark ∷ []) n true was.0, (was.1.0, log_same (suc n) (omega (arith, lt)) ∙ was.1.1 ∙ ap (λ l. l ++ was.1.0 ∷ []) (sym (log_same n (omega (arith, lt))))))
        | inr here ↦
            let made = now.1 (rw (ap (memory_at limits entries') here.0 ∙ ap (memory_of limits) (take-push_whole entries (last ∷ []))) at (rw here.1 at h.holds)) in (
              ap (slice_get points') (here.0 ∙ sym beside) ∙ slice_get-push points mark ∙ ap Some made.0,
              (made.1.0, ap (λ k. log_at entries' points' (suc k)) here.0 ∙ log_after ∙ made.1.1 ∙ ap (λ l. l ++ made.1.0 ∷ []) (sym log_before ∙ ap (log_at entries' points') (sym here.0))),
            )
      ] in
      (to, from)
