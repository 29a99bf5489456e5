-- Each step that is one atomic operation on a word keeps the rule.
use Rattle.table_rule.proofs.Words.{Allows, Answer, Bool, Command, Done, Entry, Event, Idle, IsLawfulStep, IsOf, IsSettled, Limits, List, Memory, Mine, Option}
use Rattle.table_rule.proofs.Words.{Record, Reply, SitsAt, SpellsWhere, alone, ap, arith, eqb, false, get_elem?, get_or, get_or-set_other, if◌then◌else◌}
use Rattle.table_rule.proofs.Words.{memory_after, memory_of, refl, row_at, seen_of, set, some, subst, sym, true, width_of, words_in, ℕ, ◌<◌, ◌∙◌, ◌≡◌}
use prog.Atomic.{either}
use Rattle.atomic_table.specs.Seated.{TableId}
use Rattle.tree_limits.specs.Limits.{most_large_actors}
use Rattle.bw_model.specs.declared.step.Step.{Step}
use Rattle.tree_words.specs.Changes.{HasWord, SetsBits, TellsNothing, changed_word, left_by, operation_of, answer_by, word_after, words_after, SpellsParts}
use Rattle.tree_words.specs.Changes.{ChangesOneWord, OperationsLeaveWords, StepsChangeOneWord, StoresTellNothing, WordsStandApart, HasOwnWord}
use Rattle.tree_words.specs.declared.operations.Operation.{Operation}
use Rattle.tree_words.specs.declared.operations.Operation.TheVariants as operation
use Rattle.table_rule.specs.Steps.{Acts}
use Rattle.table_rule.proofs.Parts.{settled_back, spells_views}
use Rattle.table_rule.proofs.Turns.{TableState, Rule, Ready, event}

-- the other parts are the memory's, and the rows are as they were
with_rows : (limits : Limits) (words words' : List ℕ) (m m' : Memory) (settled : ℕ → Type 0)
    → ((row j : ℕ) → row < limits.rows → j < width_of limits row → get_or words' (row_at limits row j) 0 ≡ get_or words (row_at limits row j) 0) → m'.rows ≡ m.rows
    → SpellsWhere limits words m settled → SpellsParts limits words' m' → SpellsWhere limits words' m' settled
with_rows limits words words' m m' settled stay records sp parts = record {
  slots = parts.slots;
  pid_bits = parts.pid_bits;
  row_bits = parts.row_bits;
  epoch = parts.epoch;
  announced = parts.announced;
  pads = parts.pads;
  rows = λ row j within below used is. stay row j within below
      ∙ sp.rows row j within below (rw (← records) used) is
      ∙ ap (λ (rows : ℕ → Option Record). get_or (words_in limits (rows row)) j 0) (sym records);
}

module _ (change : StepsChangeOneWord) (first : WordsStandApart) (limits : Limits) (law : Limits → List Entry → Type 0) where
  step_ready : (s : TableState) (h : Rule limits law s) (id actor : ℕ) (seen : List Entry) (begun : Option Command) (step : Step Record) (reply : Option Reply)
      → get_elem? s.views id ≡ some (alone limits actor seen Idle) → actor < most_large_actors → HasWord limits step → SetsBits step
      → Ready limits law s h id actor (changed_word limits actor step) (word_after step (get_or s.words (changed_word limits actor step) 0)) begun step
      (answer_by step (get_or s.words (changed_word limits actor step) 0)) reply
  step_ready s h id actor seen begun step reply at few has bits =
      let m : Memory = memory_of limits h.run in
      let own : HasOwnWord limits actor step = first limits actor step few has in
      let parts : SpellsParts limits s.words m = spells_views limits s.words m (IsSettled s.views) (λ row. ⊥) (λ row none. absurd none) h.spells in
      let c : ChangesOneWord limits s.words m actor step = change limits s.words m actor step h.wide parts few has bits in
      let stay : (row j : ℕ) → row < limits.rows → j < width_of limits row → get_or (words_after limits actor step s.words) (row_at limits row j) 0 ≡ get_or s.words (row_at limits row j) 0 = λ row
      j below small. get_or-set_other s.words (changed_word limits actor step) (row_at limits row j) _ 0 (λ e. own.apart row j below small (sym e)) in
      let spells : SpellsWhere limits (words_after limits actor step s.words) (memory_after actor step m) (IsSettled s.views)
      = with_rows limits s.words (words_after limits actor step s.words) m (memory_after actor step m) (IsSettled s.views) stay c.records h.spells c.spells in
      record {
        answered = c.answers;
        spells = λ view _. spells_views limits (words_after limits actor step s.words) (memory_after actor step m) (IsSettled s.views) (IsSettled (set s.views id view))
            (λ row is. settled_back s.views id limits actor seen Idle view row at tt is) spells;
        kept = λ row content is. h.kept row content (ap (λ (rows : ℕ → Option Record). rows row) (sym c.records) ∙ is);
        writes = λ other row _ _ below j small. stay row j below small;
        records = λ other row _ _. ap (λ (rows : ℕ → Option Record). rows row) c.records;
      }

  acts : (slots id actor : ℕ) (me : Mine) (begun : Option Command) (step : Step Record) (reply : Option Reply) → SitsAt limits actor Idle me
      → IsLawfulStep law limits actor (seen_of me) begun step reply
      → actor < most_large_actors → HasWord limits step → SetsBits step → Allows (Rule limits law) slots id me (changed_word limits actor step) (word_after step) (Acts law begun step reply me)
  acts slots id actor me begun step reply is may few has bits = event limits law slots id actor me (changed_word limits actor step) (word_after step) begun step reply (answer_by step) is may
      (λ s h at. step_ready s h id actor (seen_of me) begun step reply at few has bits)

module _ (change : StepsChangeOneWord) (first : WordsStandApart) (law : Limits → List Entry → Type 0) (limits key : Limits) (table seat : TableId) (of : IsOf limits key table seat)
    (slots id actor : ℕ) (me : Mine) (begun : Option Command) (reply : Option Reply) (is : SitsAt limits actor Idle me) (few : actor < most_large_actors)
    (step : Step Record) (range : HasWord limits step) (bits : SetsBits step) (may : IsLawfulStep law limits actor (seen_of me) begun step reply) (i : ℕ) (e : i ≡ changed_word limits actor step) where
  there : i < table.words
  there = let own = (first limits actor step few range).there in let wide = of.wide in omega arith

  allowed : Allows (Rule limits law) slots id me (changed_word limits actor step) (word_after step) (Acts law begun step reply me)
  allowed = acts change first limits law slots id actor me begun step reply is may few range bits

  -- an operation that leaves there what the step leaves
  pub arm : (f : ℕ → ℕ) → ((found : ℕ) → f found ≡ word_after step found)
      → (seat ≡ table) × (i < table.words) × Allows (Rule key law) slots id me i f (Acts law begun step reply me)
  arm f same = (
    of.same,
    there,
    subst (λ (z : Limits × ℕ × (ℕ → ℕ)). Allows (Rule z.0 law) slots id me z.1 z.2 (Acts law begun step reply me)) (λ k. (sym of.own k, sym e k, λ found. sym (same found) k)) allowed,
  )

  -- a store, which tells nothing
  pub store_arm : (x : ℕ) → ((found : ℕ) → x ≡ word_after step found) → ((found : ℕ) → answer_by step found ≡ Done)
      → (seat ≡ table) × (i < table.words) × Allows (Rule key law) slots id me i (λ _. x) (λ _. Acts law begun step reply me x)
  store_arm x same quiet = (
    of.same,
    there,
    subst (λ (z : Limits × ℕ × (ℕ → ℕ) × (ℕ → Answer Record)). Allows (Rule z.0 law) slots id me z.1 z.2 (λ found. Event law begun step reply Idle me (z.3 found)))
        (λ k. (sym of.own k, sym e k, (λ found. sym (same found) k), (λ found. (quiet found ∙ sym (quiet x)) k))) allowed,
  )

-- What an operation leaves and tells, whichever it is: it is the step's.
pub left_as : OperationsLeaveWords → (step : Step Record) (made kind : Operation) → made ≡ kind → made ≡ operation_of step → (found : ℕ) → left_by kind found ≡ word_after step found
left_as leave step made kind is of found = ap (λ o. left_by o found) (sym is ∙ of) ∙ leave step found

pub quiet_as : StoresTellNothing → (step : Step Record) (made kind : Operation) → made ≡ kind → made ≡ operation_of step → TellsNothing step kind
quiet_as quiet step made kind is of = subst (TellsNothing step) (sym of ∙ is) (quiet step)

pub exchanged : (old new found : ℕ) → either (eqb found old) new found ≡ left_by (operation.Exchange old new) found
exchanged old new found = by_test (eqb found old)
  where
    by_test : (b : Bool) → either b new found ≡ (if b then new else found)
    by_test true = refl
    by_test false = refl
