-- Each step that is one atomic operation changes one word, which has its answer.
use Rattle.std.proofs.Common.{◌≡◌, ◌≢◌, ℕ, ◌+◌, ◌/◌, ◌<◌, eqb, Bool, true, false, List, length, get_or, set, sym, refl, ap, ◌∙◌, subst, arith, get_or-set_same, get_or-set_other}
use Rattle.std.proofs.lemmas.List.{set-get_or}
use Rattle.std.specs.Prelude.{if◌then◌else◌, bit_or}
use mathlib.Core.Logic.{dite}
use native.Mathlib.Decide.{ℕ_discrete}
use Rattle.tree_limits.specs.declared.limits.Limits.{Limits}
use Rattle.tree_limits.specs.Limits.{most_large_actors}
use Rattle.bw_model.specs.declared.step.Answer.TheVariants.{Number, Whether}
use Rattle.bw_model.specs.declared.step.Step.{Step}
use Rattle.bw_model.specs.declared.step.Step.TheVariants.{Slot, Row, Epoch, Announce, PidBits, RowBits, Place, Exchange, TakePid, TakeRow, Enter, Leave, Retire, ReusePids, ReuseRows}
use Rattle.deltas.specs.declared.record.Record.{Record}
use Rattle.deltas.specs.Memory.{Memory, replaced_at}
use Rattle.traces.specs.trace.Steps.{IsWordOf, memory_after}
use Rattle.tree_words.specs.Layout.{slot_at, pid_bits_at, row_bits_at, epoch_at, announced_at, width}
use Rattle.tree_words.specs.Changes.{HasWord, SetsBits, word_after, SpellsParts, ChangesOneWord, OperationsLeaveWords, StepsChangeOneWord, StoresTellNothing, WordsStandApart}
use Rattle.tree_words.proofs.FreeBits.{word_kept, bits_set, word_apart, taken, found_free}
use Rattle.tree_words.proofs.RowWidths.{few_words, row_within}
use Rattle.deltas.proofs.Replaced.{replaced_same, replaced_other}

module _ (limits : Limits) (words : List ℕ) (m : Memory) (long : length words ≡ width limits) (sp : SpellsParts limits words m) where
  same : (i : ℕ) → SpellsParts limits (set words i (get_or words i 0)) m
  same i = rw (← set-get_or words i 0) at sp

  slot_set : (i x : ℕ) → i < limits.pids → SpellsParts limits (set words (slot_at limits i) x) (record m { slots = replaced_at i x m.slots })
  slot_set i x within = record {
    slots = λ p below. dite (ℕ_discrete p i)
        (λ e. ap (λ k. get_or (set words (slot_at limits i) x) (slot_at limits k) 0) e ∙ get_or-set_same words (slot_at limits i) x 0 (omega arith) ∙ sym
        (replaced_same i x m.slots) ∙ ap (replaced_at i x m.slots) (sym e))
        (λ ne. get_or-set_other words (slot_at limits i) (slot_at limits p) x 0 (λ e. ne (omega arith)) ∙ sp.slots p below ∙ sym (replaced_other i x m.slots p ne));
    pid_bits = λ w below. subst (IsWordOf m.free_pids w) (sym (get_or-set_other words (slot_at limits i) (pid_bits_at limits w) x 0 (omega arith))) (sp.pid_bits w below);
    row_bits = λ w below. subst (IsWordOf m.free_rows w) (sym (get_or-set_other words (slot_at limits i) (row_bits_at limits w) x 0 (omega arith))) (sp.row_bits w below);
    epoch = get_or-set_other words (slot_at limits i) epoch_at x 0 (omega arith) ∙ sp.epoch;
    announced = λ b below. get_or-set_other words (slot_at limits i) (announced_at b) x 0 (omega arith) ∙ sp.announced b below;
    pads = λ k pad. get_or-set_other words (slot_at limits i) k x 0 (let high = pad.1 in omega arith) ∙ sp.pads k pad;
    rows = λ row j rl jl used none. absurd none;
  }

  epoch_set : (x : ℕ) → SpellsParts limits (set words epoch_at x) (record m { epoch = x })
  epoch_set x = record {
    slots = λ p below. get_or-set_other words epoch_at (slot_at limits p) x 0 (omega arith) ∙ sp.slots p below;
    pid_bits = λ w below. subst (IsWordOf m.free_pids w) (sym (get_or-set_other words epoch_at (pid_bits_at limits w) x 0 (omega arith))) (sp.pid_bits w below);
    row_bits = λ w below. subst (IsWordOf m.free_rows w) (sym (get_or-set_other words epoch_at (row_bits_at limits w) x 0 (omega arith))) (sp.row_bits w below);
    epoch = get_or-set_same words epoch_at x 0 (omega arith);
    announced = λ b below. get_or-set_other words epoch_at (announced_at b) x 0 (omega arith) ∙ sp.announced b below;
    pads = λ k pad. get_or-set_other words epoch_at k x 0 (let low = pad.0 in omega arith) ∙ sp.pads k pad;
    rows = λ row j rl jl used none. absurd none;
  }

  announced_set : (a x : ℕ) → a < most_large_actors → SpellsParts limits (set words (announced_at a) x) (record m { announced = replaced_at a x m.announced })
  announced_set a x within = record {
    slots = λ p below. get_or-set_other words (announced_at a) (slot_at limits p) x 0 (omega arith) ∙ sp.slots p below;
    pid_bits = λ w below. subst (IsWordOf m.free_pids w) (sym (get_or-set_other words (announced_at a) (pid_bits_at limits w) x 0 (omega arith))) (sp.pid_bits w below);
    row_bits = λ w below. subst (IsWordOf m.free_rows w) (sym (get_or-set_other words (announced_at a) (row_bits_at limits w) x 0 (omega arith))) (sp.row_bits w below);
    epoch = get_or-set_other words (announced_at a) epoch_at x 0 (omega arith) ∙ sp.epoch;
    announced = λ b below. dite (ℕ_discrete b a)
        (λ e. ap (λ k. get_or (set words (announced_at a) x) (announced_at k) 0) e ∙ get_or-set_same words (announced_at a) x 0 (omega arith) ∙ sym
        (replaced_same a x m.announced) ∙ ap (replaced_at a x m.announced) (sym e))
        (λ ne. get_or-set_other words (announced_at a) (announced_at b) x 0 (λ e. ne (omega arith)) ∙ sp.announced b below ∙ sym (replaced_other a x m.announced b ne));
    pads = λ k pad. get_or-set_other words (announced_at a) k x 0 (pad.2 a within) ∙ sp.pads k pad;
    rows = λ row j rl jl used none. absurd none;
  }

  -- a word of free PIDs becomes one of other free PIDs, to which the other words are true
  pid_bits_set : (w x : ℕ) (free : ℕ → Bool) → w < limits.pids / 64 → IsWordOf free w x → ((v bits : ℕ) → v ≢ w → IsWordOf m.free_pids v bits → IsWordOf free v bits)
      → SpellsParts limits (set words (pid_bits_at limits w) x) (record m { free_pids = free })
  pid_bits_set w x free within here there = record {
    slots = λ p below. get_or-set_other words (pid_bits_at limits w) (slot_at limits p) x 0 (omega arith) ∙ sp.slots p below;
    pid_bits = λ v below. dite (ℕ_discrete v w)
        (λ e. subst (λ k. IsWordOf free k (get_or (set words (pid_bits_at limits w) x) (pid_bits_at limits k) 0)) (sym e)
        (subst (IsWordOf free w) (sym (get_or-set_same words (pid_bits_at limits w) x 0 (omega arith))) here))
        (λ ne. subst (IsWordOf free v) (sym (get_or-set_other words (pid_bits_at limits w) (pid_bits_at limits v) x 0 (λ e. ne (omega arith))))
        (there v (get_or words (pid_bits_at limits v) 0) ne (sp.pid_bits v below)));
    row_bits = λ v below. subst (IsWordOf m.free_rows v) (sym (get_or-set_other words (pid_bits_at limits w) (row_bits_at limits v) x 0 (omega arith))) (sp.row_bits v below);
    epoch = get_or-set_other words (pid_bits_at limits w) epoch_at x 0 (omega arith) ∙ sp.epoch;
    announced = λ b below. get_or-set_other words (pid_bits_at limits w) (announced_at b) x 0 (omega arith) ∙ sp.announced b below;
    pads = λ k pad. get_or-set_other words (pid_bits_at limits w) k x 0 (let high = pad.1 in omega arith) ∙ sp.pads k pad;
    rows = λ row j rl jl used none. absurd none;
  }

  row_bits_set : (w x : ℕ) (free : ℕ → Bool) → w < limits.rows / 64 → IsWordOf free w x → ((v bits : ℕ) → v ≢ w → IsWordOf m.free_rows v bits → IsWordOf free v bits)
      → SpellsParts limits (set words (row_bits_at limits w) x) (record m { free_rows = free })
  row_bits_set w x free within here there = record {
    slots = λ p below. get_or-set_other words (row_bits_at limits w) (slot_at limits p) x 0 (omega arith) ∙ sp.slots p below;
    pid_bits = λ v below. subst (IsWordOf m.free_pids v) (sym (get_or-set_other words (row_bits_at limits w) (pid_bits_at limits v) x 0 (omega arith))) (sp.pid_bits v below);
    row_bits = λ v below. dite (ℕ_discrete v w)
        (λ e. subst (λ k. IsWordOf free k (get_or (set words (row_bits_at limits w) x) (row_bits_at limits k) 0)) (sym e)
        (subst (IsWordOf free w) (sym (get_or-set_same words (row_bits_at limits w) x 0 (omega arith))) here))
        (λ ne. subst (IsWordOf free v) (sym (get_or-set_other words (row_bits_at limits w) (row_bits_at limits v) x 0 (λ e. ne (omega arith))))
        (there v (get_or words (row_bits_at limits v) 0) ne (sp.row_bits v below)));
    epoch = get_or-set_other words (row_bits_at limits w) epoch_at x 0 (omega arith) ∙ sp.epoch;
    announced = λ b below. get_or-set_other words (row_bits_at limits w) (announced_at b) x 0 (omega arith) ∙ sp.announced b below;
    pads = λ k pad. get_or-set_other words (row_bits_at limits w) k x 0 (let high = pad.1 in omega arith) ∙ sp.pads k pad;
    rows = λ row j rl jl used none. absurd none;
  }

  -- an exchange writes only where it finds the number that it looks for
  slot_exchanged : (p new : ℕ) → p < limits.pids → (b : Bool)
      → SpellsParts limits (set words (slot_at limits p) (if b then new else get_or words (slot_at limits p) 0)) (record m { slots = if b then replaced_at p new m.slots else m.slots })
  slot_exchanged p new below true = slot_set p new below
  slot_exchanged p new below false = same (slot_at limits p)

  epoch_moved : (next : ℕ) (b : Bool) → SpellsParts limits (set words epoch_at (if b then next else get_or words epoch_at 0)) (record m { epoch = if b then next else m.epoch })
  epoch_moved next true = epoch_set next
  epoch_moved next false = same epoch_at

  module _ (actor : ℕ) (few : actor < most_large_actors) where
    abbrev Changes : Step Record → Type 0
    Changes step = ChangesOneWord limits words m actor step

    changes : (step : Step Record) → HasWord limits step → SetsBits step → Changes step
    changes (Slot pid) within bits = record { answers = ap Number (sp.slots pid within); spells = same (slot_at limits pid); records = refl }
    changes (Row row) within bits = absurd within
    changes Epoch within bits = record { answers = ap Number sp.epoch; spells = same epoch_at; records = refl }
    changes (Announce other) within bits = record { answers = ap Number (sp.announced other within); spells = same (announced_at other); records = refl }
    changes (PidBits word) within bits = record { answers = (get_or words (pid_bits_at limits word) 0, sp.pid_bits word within, refl); spells = same (pid_bits_at limits word); records = refl }
    changes (RowBits word) within bits = record { answers = (get_or words (row_bits_at limits word) 0, sp.row_bits word within, refl); spells = same (row_bits_at limits word); records = refl }
    changes (Place row content) within bits = absurd within
    changes (Exchange slot old new) within bits = record {
      answers = ap (λ found. Whether (eqb found old)) (sp.slots slot within);
      spells =
          subst
          (λ (found : ℕ). SpellsParts limits (set words (slot_at limits slot) (if eqb found old then new else get_or words (slot_at limits slot) 0)) (memory_after actor (Exchange slot old new) m))
          (sym (sp.slots slot within))
          (slot_exchanged slot new within (eqb (m.slots slot) old));
      records = refl;
    }
    changes (TakePid pid) within bits = record {
      answers = ap Whether (found_free m.free_pids pid (get_or words (pid_bits_at limits (pid / 64)) 0) (sp.pid_bits (pid / 64) (let p = limits.allowed.whole_pids in omega arith)));
      spells =
          pid_bits_set (pid / 64) (word_after (TakePid pid) (get_or words (pid_bits_at limits (pid / 64)) 0)) (replaced_at pid false m.free_pids) (let p = limits.allowed.whole_pids in omega arith)
          (taken m.free_pids pid (get_or words (pid_bits_at limits (pid / 64)) 0) (sp.pid_bits (pid / 64) (let p = limits.allowed.whole_pids in omega arith)))
          (λ v x ne other. word_kept m.free_pids v x other pid ne);
      records = refl;
    }
    changes (TakeRow row) within bits = record {
      answers = ap Whether (found_free m.free_rows row (get_or words (row_bits_at limits (row / 64)) 0) (sp.row_bits (row / 64) (let r = limits.allowed.whole_rows in omega arith)));
      spells =
          row_bits_set (row / 64) (word_after (TakeRow row) (get_or words (row_bits_at limits (row / 64)) 0)) (replaced_at row false m.free_rows) (let r = limits.allowed.whole_rows in omega arith)
          (taken m.free_rows row (get_or words (row_bits_at limits (row / 64)) 0) (sp.row_bits (row / 64) (let r = limits.allowed.whole_rows in omega arith)))
          (λ v x ne other. word_kept m.free_rows v x other row ne);
      records = refl;
    }
    changes (Enter epoch) within bits = record { answers = refl; spells = announced_set actor epoch few; records = refl }
    changes Leave within bits = record { answers = refl; spells = announced_set actor 0 few; records = refl }
    changes (Retire epoch) within bits = record {
      answers = ap (λ found. Whether (eqb found epoch)) sp.epoch;
      spells = subst (λ (found : ℕ). SpellsParts limits (set words epoch_at (if eqb found epoch then epoch + 1 else get_or words epoch_at 0)) (memory_after actor (Retire epoch) m)) (sym sp.epoch)
          (epoch_moved (epoch + 1) (eqb m.epoch epoch));
      records = refl;
    }
    changes (ReusePids word more) within bits = record {
      answers = refl;
      spells = pid_bits_set word (bit_or (get_or words (pid_bits_at limits word) 0) more) (memory_after actor (ReusePids word more) m).free_pids within
          (bits_set m.free_pids word (get_or words (pid_bits_at limits word) 0) (sp.pid_bits word within) more bits) (λ v x ne other. word_apart m.free_pids v x other word more ne);
      records = refl;
    }
    changes (ReuseRows word more) within bits = record {
      answers = refl;
      spells = row_bits_set word (bit_or (get_or words (row_bits_at limits word) 0) more) (memory_after actor (ReuseRows word more) m).free_rows within
          (bits_set m.free_rows word (get_or words (row_bits_at limits word) 0) (sp.row_bits word within) more bits) (λ v x ne other. word_apart m.free_rows v x other word more ne);
      records = refl;
    }

pub all_change : StepsChangeOneWord
all_change limits words memory actor step long spells few within bits = changes limits words memory long spells actor few step within bits

pub all_apart : WordsStandApart
all_apart limits actor (Row row) few within = absurd within
all_apart limits actor (Place row content) few within = absurd within
all_apart limits actor (TakePid pid) few within = let p = limits.allowed.whole_pids in
    record { there = omega arith; apart = λ row j below small. λ e. absurd (let inside = row_within limits row below in let few' = few_words limits row in omega arith) }
all_apart limits actor (TakeRow row) few within = let r = limits.allowed.whole_rows in
    record { there = omega arith; apart = λ row j below small. λ e. absurd (let inside = row_within limits row below in let few' = few_words limits row in omega arith) }
all_apart limits actor other few within =
    record { there = omega arith; apart = λ row j below small. λ e. absurd (let inside = row_within limits row below in let few' = few_words limits row in omega arith) }

pub all_leave : OperationsLeaveWords
all_leave (Slot pid) found = refl
all_leave other found = refl

pub all_quiet : StoresTellNothing
all_quiet (Enter epoch) = λ found. refl
all_quiet Leave = λ found. refl
all_quiet other = tt
