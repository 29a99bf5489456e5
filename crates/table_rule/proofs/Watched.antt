-- A word is watched, which keeps the rule: the words stay, and the seat has seen the longest run.
use Rattle.table_rule.proofs.Words.{Allows, Entry, Idle, IsAnswer, IsOf, IsSettled, Limits, List, Memory, Mine, Part, PartFits, Place, Record, alone, ap}
use Rattle.table_rule.proofs.Words.{arith, get_or, keeps, map, memory_of, none, part, seen_of, set-get_or, subst, with_run, ℕ, [], ◌<◌, ◌≡◌}
use Rattle.atomic_table.specs.Table.{step as made}
use Rattle.atomic_table.specs.Seated.{TableId}
use Rattle.tree_limits.specs.Limits.{most_large_actors}
use Rattle.bw_model.specs.declared.step.Answer.TheVariants.{Number}
use Rattle.bw_model.specs.declared.step.Step.{Step}
use Rattle.bw_model.specs.declared.step.Step.TheVariants.{ReusePids, ReuseRows}
use Rattle.tree_words.specs.Changes.{HasWord, SetsBits, StepsChangeOneWord, WordsStandApart, SpellsParts, changed_word, operation_of, answer_by}
use Rattle.tree_words.specs.declared.operations.Operation.TheVariants.{Load}
use Rattle.table_rule.specs.Steps.{Watches}
use Rattle.table_rule.proofs.Parts.{spells_views}
use Rattle.table_rule.proofs.Roster.{view_refreshed}
use Rattle.table_rule.proofs.Turns.{TableState, Rule}

-- a step that reads a word sets no bits, and is told the number
reads_none : (step : Step Record) → operation_of step ≡ Load → SetsBits step
reads_none (ReusePids word bits) is = cc
reads_none (ReuseRows word bits) is = cc
reads_none other is = tt

reads_number : (limits : Limits) (step : Step Record) (found : ℕ) → HasWord limits step → operation_of step ≡ Load → answer_by step found ≡ Number found
reads_number limits (Place row content) found has is = absurd has
reads_number limits other found has is = cc

module _ (change : StepsChangeOneWord) (limits : Limits) (law : Limits → List Entry → Type 0) where
  -- what the memory answers after the longest run
  answered : (s : TableState) (h : Rule limits law s) (actor i : ℕ) (step : Step Record) → actor < most_large_actors → HasWord limits step
      → operation_of step ≡ Load → i ≡ changed_word limits actor step
      → IsAnswer (memory_of limits h.run) step (Number (get_or s.words i 0))
  answered s h actor i step few has reads at =
      let m : Memory = memory_of limits h.run in
      let parts : SpellsParts limits s.words m = spells_views limits s.words m (IsSettled s.views) (λ row. ⊥) (λ row none. absurd none) h.spells in
      let found : ℕ = get_or s.words (changed_word limits actor step) 0 in
      let told_is : IsAnswer m step (answer_by step found) = (change limits s.words m actor step h.wide parts few has (reads_none step reads)).answers in
      let number : IsAnswer m step (Number found) = subst (IsAnswer m step) (reads_number limits step found has reads) told_is in
      rw at number

  watches : (slots id : ℕ) (me : Mine) (i : ℕ) → Allows (Rule limits law) slots id me i (λ n. n) (Watches law (made slots i 0 0 none) me)
  watches slots id me i s h _ at _ =
      let run : List Entry = h.run in
      let view : List Part = map (with_run run) me.0 in (
        view,
        keeps,
        tt,
        rw (set-get_or s.words i 0) (view_refreshed limits (law limits) s h id me.0 at),
        λ limits' actor step is few has reads word.
            let fits : PartFits limits s.words run (part limits' actor (seen_of me) Idle) = (rw is at (h.each id me.0 at)).0 in
            let now : (view, me.1) ≡ (alone limits' actor run Idle, []) = ap (λ (m : Mine). (map (with_run run) m.0, m.1)) is in
            let saw : seen_of (view, me.1) ≡ run = ap seen_of now in (
              rw saw now,
              rw (fits.own_limits, saw)
                  record {
                    legal = h.legal;
                    extends = fits.extends;
                    begins = h.begins;
                    answered = answered s h actor i step few
                        (rw (← fits.own_limits) has) reads
                        (rw (← fits.own_limits) word);
                  },
            ),
      )

-- the same as the function asks for it
module _ (change : StepsChangeOneWord) (first : WordsStandApart) (law : Limits → List Entry → Type 0) (limits key : Limits) (table seat : TableId) (of : IsOf limits key table seat) where
  pub watches_at : (slots id : ℕ) (me : Mine) (actor i : ℕ) (step : Step Record) → actor < most_large_actors → HasWord limits step → i ≡ changed_word limits actor step
      → (seat ≡ table) × (i < table.words) × Allows (Rule key law) slots id me i (λ n. n) (Watches law (made slots i 0 0 none) me)
  watches_at slots id me actor i step few has at =
      let own = (first limits actor step few has).there in
      let wide = of.wide in (
        of.same,
        omega (arith, at, own, wide),
        watches change key law slots id me i,
      )
