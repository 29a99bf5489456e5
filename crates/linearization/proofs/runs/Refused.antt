-- Traces that the definitions refuse.
use Rattle.linearization.proofs.Words.{codes, slice_get, ◌≡◌, ◌<◌, ℕ, [], ◌∷◌, Some, None, Option, true, refl, arith, inl, inr, lit<, Command, Get, Insert, Record, TakesStep, IsDirect}
use Rattle.linearization.proofs.Words.{IsFaithful, Operation}
use Rattle.bw_model.specs.declared.command.Reply.{Reply}
use Rattle.bw_model.specs.declared.step.Step.TheVariants.{Slot, Row, TakeRow}
use Rattle.bw_model.specs.declared.step.Answer.TheVariants.{Number, Content, Whether}
use Rattle.bw_model.specs.declared.step.Link.TheVariants as link
use Rattle.traces.specs.declared.trace.Entry.TheVariants.{Begin, Step}
use Rattle.linearization.specs.Examples.{small, opening_leaf, unnamed_read, two_puts, needless_base, taking_reader}
use Rattle.linearization.proofs.Listed.{EachAt-get, stands_at}
use Rattle.linearization.proofs.runs.Kinds.{is_begin}

abbrev operation : Operation
operation = record { start = 0; actor = 0; command = Insert (codes "a") (codes "1") }

pub not_faithful : ¬ IsFaithful small unnamed_read
not_faithful faithful = let knows = faithful.known 3 0 1 (Content (opening_leaf)) (None, refl) in
    elim knows.shown [
      | inl slot ↦ no_slot knows.at slot.0 slot.1 slot.2
      | inr above ↦ no_record knows.at above.0 above.1 knows.before above.2
    ]
  where
    no_slot : (n pid : ℕ) → 0 < pid → TakesStep unnamed_read n 0 (Slot pid) (Number 1) → ⊥
    no_slot n pid page is = EachAt-get (λ k e. (p : ℕ) (r : Option Reply) → 0 < p → e ≡ Step 0 (Slot p) (Number 1) r → ⊥) unnamed_read
        (λ p r h e. cc, (λ p r h e. cc, (λ p r h e. let root : 0 ≡ p = cc in omega arith, (λ p r h e. cc, tt)))) n _ is.1 pid is.0 page refl

    no_record : (n row : ℕ) (content : Record) → n < 3 → TakesStep unnamed_read n 0 (Row row) (Content content) → ⊥
    no_record n row content h is = EachAt-get (λ k e. (p : ℕ) (c : Record) (r : Option Reply) → k < 3 → e ≡ Step 0 (Row p) (Content c) r → ⊥) unnamed_read
        (λ p c r h e. cc, (λ p c r h e. cc, (λ p c r h e. cc, (λ p c r h e. omega arith, tt)))) n _ is.1 row content is.0 h refl

pub not_direct : ¬ IsDirect small two_puts
not_direct direct = let same : ◌≡◌ {A = ℕ} 4 6 = direct.once operation 4 6 link.Put link.Put refl
    (1, 1, 2, (None, record { begun = lit< tt; entry = refl; not_ended = λ later command low high e. begun_once later command low e }), refl)
    (1, 2, 3, (None, record { begun = lit< tt; entry = refl; not_ended = λ later command low high e. begun_once later command low e }), refl) (inl refl) (inl refl) in omega arith
  where
    begun_once : (later : ℕ) (command : Command) → 0 < later → slice_get two_puts later ≡ Some (Begin 0 command) → ⊥
    begun_once later command after e = let first : later ≡ 0 = stands_at is_begin two_puts later _ e refl in omega arith

pub not_useful : ¬ IsDirect small needless_base
not_useful direct = let long : 1 < 1 = direct.useful operation 3 1 1 2 (opening_leaf ∷ []) refl
    (None, record { begun = lit< tt; entry = refl; not_ended = λ later command low high e. begun_once later command low e }) refl
    (record { page = lit< tt; linked = lit< tt; records = (refl, refl) }) in omega arith
  where
    begun_once : (later : ℕ) (command : Command) → 0 < later → slice_get needless_base later ≡ Some (Begin 0 command) → ⊥
    begun_once later command after e = let first : later ≡ 0 = stands_at is_begin needless_base later _ e refl in omega arith

pub not_reading : ¬ IsDirect small taking_reader
not_reading direct = direct.reads (record { start = 0; actor = 0; command = Get (codes "a") }) 1 (TakeRow 2) (Whether true) refl refl
    (None, record { begun = lit< tt; entry = refl; not_ended = λ later command low high e. omega arith })
