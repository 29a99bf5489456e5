-- One word of a row changes.
use Rattle.table_rule.proofs.Words.{Limits, List, Memory, SpellsWhere, arith, few_words, get_or, get_or-set_other, row_at, row_within, set, subst, sym, used_in}
use Rattle.table_rule.proofs.Words.{width_of, words_in, ℕ, ◌<◌, ◌∙◌, ◌≡◌}
use Rattle.traces.specs.trace.Steps.{IsWordOf}
use Rattle.tree_words.specs.Layout.{slot_at, epoch_at, announced_at, pid_bits_at, row_bits_at}

module _ (limits : Limits) where
  -- A word of a row changes, and so no word but this row's.
  pub spells_row : (words : List ℕ) (memory memory' : Memory) (P Q : ℕ → Type 0) → SpellsWhere limits words memory P → (row k x : ℕ) → row < limits.rows
      → k < width_of limits row → memory' ≡ record memory { rows = memory'.rows }
      → ((other j : ℕ) → other < limits.rows → j < width_of limits other → j < used_in limits (memory'.rows other) → Q other
      → get_or (set words (row_at limits row k) x) (row_at limits other j) 0 ≡ get_or (words_in limits (memory'.rows other)) j 0)
      → SpellsWhere limits (set words (row_at limits row k) x) memory' Q
  spells_row words memory memory' P Q sp row k x within small same rows = let at : ℕ = row_at limits row k in let inside = row_within limits row within in
      let few = few_words limits row in rw same (record {
        slots = λ pid below. get_or-set_other words at (slot_at limits pid) x 0 (λ e. absurd (omega arith)) ∙ sp.slots pid below;
        pid_bits = λ word below. subst (IsWordOf memory.free_pids word) (sym (get_or-set_other words at (pid_bits_at limits word) x 0 (λ e. absurd (omega arith)))) (sp.pid_bits word below);
        row_bits = λ word below. subst (IsWordOf memory.free_rows word) (sym (get_or-set_other words at (row_bits_at limits word) x 0 (λ e. absurd (omega arith)))) (sp.row_bits word below);
        epoch = get_or-set_other words at epoch_at x 0 (omega arith) ∙ sp.epoch;
        announced = λ actor below. get_or-set_other words at (announced_at actor) x 0 (omega arith) ∙ sp.announced actor below;
        pads = λ i pad. get_or-set_other words at i x 0 (let high = pad.1 in omega arith) ∙ sp.pads i pad;
        rows = rows;
      })
