-- Laws of whole runs.
use Rattle.std.proofs.Common.{◌≡◌, ℕ, List, [], ◌∷◌, ◌++◌, length, refl, arith, ◌⊎◌, inl, inr, Bool, true, false, Option, ◌↔◌, is_some}
use Rattle.shell_lines.specs.declared.request.Language.{Language}
use Rattle.bw_shell.specs.Turns.{Trace, IsOneMap, opening_trace}
use Rattle.tree_limits.specs.declared.limits.Limits.{Limits}
use Rattle.bw_shell.specs.declared.refusal.RefusedLine.{RefusedLine}
use Rattle.byte_streams.specs.Output.{Sink, Prints}
use Rattle.bw_shell.specs.Text.{last_line}
use Rattle.bw_shell.specs.Weave.{IsTranscriptFrom, HasRun, IsWholeRun}
use Rattle.byte_streams.proofs.Showing.{shows_then, writes_whole}

-- a writer that fails later fails too
pub later_cut : (language : Language) (m : Trace) (left : Option (List ℕ)) (taken : List ℕ) (failed : Bool) (after : Trace) (text : List ℕ) (r : Option RefusedLine) (cut cut' : Bool)
    → (cut ≡ true → cut' ≡ true) → IsTranscriptFrom language m left taken failed after text r cut → IsTranscriptFrom language m left taken failed after text r cut'
later_cut language m left taken failed after text r cut cut' more (inl p) = inl p
later_cut language m left taken failed after text r cut cut' more (inr (inl p)) = inr (inl p)
later_cut language m left taken failed after text r cut cut' more (inr (inr p)) =
    inr (inr (p.0, elim p.1 [ inl a ↦ inl a | inr b ↦ inr (more b) ], p.2))

pub no_items : (xs : List ℕ) → length xs ≡ 0 → xs ≡ []
no_items [] h = refl
no_items (x ∷ xs) h = absurd (omega arith)

-- what the status says: 1 where something is wrong, 0 where nothing is
pub one_else : (status : ℕ) (P : Type 0) → status ≡ 1 → (P → ⊥) → (status ≡ 0) ↔ P
one_else status P one no_p = (λ e. absurd (omega arith), λ p. absurd (no_p p))

pub is_whole_run : {language : Language} (limits : Limits) (in_old in_new : Option (List ℕ)) (rf : Bool) (a b c d : Sink) (after : Trace) (line : Option RefusedLine) (status : ℕ)
    → HasRun language (opening_trace limits) in_old in_new rf a b after line → IsOneMap after → Prints b c (last_line line) → Prints c d []
    → a.failed ≡ false → a.held ≡ [] → (d.failed ≡ false → d.held ≡ [])
    → (status ≡ 0) ↔ ((rf ≡ false) × (d.failed ≡ false) × (is_some line ≡ false)) → (status ≡ 0) ⊎ (status ≡ 1)
    → IsWholeRun language limits in_old in_new rf a.contents d.contents d.failed status
is_whole_run limits in_old in_new rf a b c d after line status h one last end sound fresh ends is either = record {
  taken = h.taken;
  after = after;
  text = h.text ++ last_line line;
  refused = is_some line;
  reads = h.reads;
  says = inr (h.text, line, later_cut _ (opening_trace limits) in_new h.taken rf after h.text line b.failed d.failed (λ e. (end.stays (last.stays e).1).1) h.says, one, refl, refl);
  writes = writes_whole a d (h.text ++ last_line line) (shows_then (shows_then h.shows last) end) sound fresh ends;
  status_is = is;
  status_else = either;
}
