-- Each step is one of an operation.
use Rattle.progress.proofs.Words.{◌≡◌, ◌<◌, ℕ, zero, suc, List, Option, None, Some, take, refl, sym, ap, ◌∙◌, inl, inr, arith, eqb_tells, IsSome, slice_get, Limits, Command, Reply, Answer}
use Rattle.progress.proofs.Words.{StepOf, Record, Entry, Begin, Step, IsRun, TakesStep, command_of, commands_after, take-one, IsOperation, Operation, TakesOwnStep, take_past}
use Rattle.traces.proofs.TraceLaws.{command_of-push}

-- The actor began an operation at a place before this one, and none after it.
pub record LastBegin (entries : List Entry) (a n : ℕ) : Type 0 where
  pub start : ℕ
  pub command : Command
  pub begins : slice_get entries start ≡ Some (Begin a command)
  pub low : start < n
  pub unended : (later : ℕ) (c : Command) → start < later → later < n → slice_get entries later ≡ Some (Begin a c) → ⊥

-- what was so before the last entry is so still, where it begins nothing of the actor's
pub one_on : (entries : List Entry) (a n : ℕ) → ((c : Command) → slice_get entries n ≡ Some (Begin a c) → ⊥) → LastBegin entries a n → LastBegin entries a (suc n)
one_on entries a n never h = record {
  start = h.start;
  command = h.command;
  begins = h.begins;
  low = let low = h.low in omega arith;
  unended = λ later c after before e. elim (eqb_tells later n) [
    | inl same ↦ never c (rw same.1 at e)
    | inr apart ↦ h.unended later c after (let ne = apart.1 in omega arith) e
  ];
}

pub begins_here : (entries : List Entry) (a n : ℕ) (c : Command) → slice_get entries n ≡ Some (Begin a c) → LastBegin entries a (suc n)
begins_here entries a n c at = record { start = n; command = c; begins = at; low = omega arith; unended = λ later d after before e. absurd (omega arith) }

-- the commands that are under way after one entry more
pub command_next : (entries : List Entry) (a n : ℕ) (e : Entry) → slice_get entries n ≡ Some e → command_of (take (suc n) entries) a ≡ commands_after (command_of (take n entries)) e a
command_next entries a n e at = rw (take-one entries n e at) (ap (λ (f : ℕ → Option Command). f a) (command_of-push (take n entries) e))

-- an actor that has an operation under way has begun it
pub last_begin : (entries : List Entry) (a n : ℕ) → IsSome (command_of (take n entries) a) → LastBegin entries a n
last_begin entries a zero some = absurd (cc)
last_begin entries a (suc n) some = by_entry (λ before. last_begin entries a n before) (slice_get entries n) refl
  where
    by_entry : (IsSome (command_of (take n entries) a) → LastBegin entries a n) → (o : Option Entry) → slice_get entries n ≡ o → LastBegin entries a (suc n)
    by_entry earlier None at = one_on entries a n (λ c e. cc (at, e)) (earlier (rw (take_past entries n at) at some))
    by_entry earlier (Some (Begin b c)) at = elim (eqb_tells a b) [
      | inl same ↦ begins_here entries a n c (at ∙ ap (λ x. Some (Begin x c)) (sym same.1))
      | inr apart ↦ one_on entries a n (λ d e. apart.1 (let f : Some (Begin b c) ≡ Some (Begin a d) = sym at ∙ e in cc))
          (earlier (rw apart.0 at (rw (command_next entries a n (Begin b c) at) at some)))
    ]
    by_entry earlier (Some (Step b s x None)) at = one_on entries a n (λ d e. cc (at, e)) (earlier (rw (command_next entries a n (Step b s x None) at) at some))
    by_entry earlier (Some (Step b s x (Some r))) at = elim (eqb_tells a b) [
      | inl same ↦ absurd (let none = rw same.0 at (rw (command_next entries a n (Step b s x (Some r)) at) at some) in cc)
      | inr apart ↦ one_on entries a n (λ d e. cc (at, e)) (earlier (rw apart.0 at (rw (command_next entries a n (Step b s x (Some r)) at) at some)))
    ]

-- the operation that a step is of
pub record IsOneOf (limits : Limits) (entries : List Entry) (n a : ℕ) (s : StepOf Record) (x : Answer Record) : Type 0 where
  pub operation : Operation
  pub begun : IsOperation entries operation
  pub mine : operation.actor ≡ a
  pub took : TakesOwnStep entries operation n s x

pub one_of : (limits : Limits) (entries : List Entry) → IsRun limits entries → (n a : ℕ) (s : StepOf Record) (x : Answer Record) → TakesStep entries n a s x → IsOneOf limits entries n a s x
one_of limits entries run n a s x took =
    let h = last_begin entries a n (run.each n _ took.1).0 in
    record {
      operation = record { start = h.start; actor = a; command = h.command };
      begun = h.begins;
      mine = refl;
      took = (took.0, record { begun = h.low; entry = took.1; not_ended = h.unended });
    }

-- the actor of a step is one of the stated number
pub actor_below : (limits : Limits) (entries : List Entry) → IsRun limits entries → (n a : ℕ) (s : StepOf Record) (x : Answer Record) (r : Option Reply)
    → slice_get entries n ≡ Some (Step a s x r) → a < limits.actors
actor_below limits entries run n a s x r at = let h = last_begin entries a n (run.each n _ at).0 in (run.each h.start _ h.begins).0
