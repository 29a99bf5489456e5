-- A command on a seat that is done: its operation.
use Rattle.walks.proofs.Words.{Bool, Called, Command, Entry, Finishes, IsOneHistory, IsRunOn, IsSame, List, None, Operation, Reply, Seat, Some, StartsWith}
use Rattle.walks.proofs.Words.{WasIdle, ap, append-nil, append_assoc, arith, false, if◌then◌else◌, inl, inr, length, length-append, sym, true}
use Rattle.walks.proofs.Words.{unfinished_command, ℕ, [], ◌++◌, ◌+◌, ◌∙◌, ◌∷◌, ◌≡◌, ◌≤◌}
use Rattle.bw_model.specs.declared.step.Answer.TheVariants as answer
use Rattle.bw_model.specs.declared.step.Step.TheVariants.{Leave}
use Rattle.traces.specs.declared.trace.Entry.TheVariants.{Step}
use Rattle.traces.specs.discipline.Disciplined.{own_entries}
use Rattle.linearization.specs.Operations.{IsOperation}
use Rattle.running_tree.specs.Calls.{EndsWith, answered_last, calls_in, calls_of}
use Rattle.running_tree.specs.declared.called.Called.TheVariants as called
use Rattle.running_tree.proofs.Going.{answered_snoc}
use Rattle.map_laws.proofs.Asking.{Calls, finishes, fronts, is_operation, last_unanswered, operation, since}

-- the seat has seen more, and this ends with the reply to its last call
record IsReplied (seat : Seat) (asked : Command) (answered : Reply) (later : Seat) : Type 0 where
  pub grows : StartsWith later.seen seat.seen
  pub more : later.seen ≡ seat.seen → ⊥
  pub ends : EndsWith later answered
  pub calls : Calls
  pub last : calls_in later ≡ calls ++ (asked, Some answered) ∷ []

longer : {X : Type 0} (xs : List X) (x : X) → xs ≡ xs ++ x ∷ [] → ⊥
longer xs x e = let long = ap length e ∙ length-append xs (x ∷ []) in omega (arith, long)

replied : (asked : Bool) (seat later : Seat) (wanted : Command) (budget : ℕ) (answered : Reply) → IsSame seat later
    → unfinished_command seat ≡ (if asked then Some wanted else None)
    → IsRunOn asked seat wanted budget (called.Done answered) later → IsReplied seat wanted answered later
replied false seat later wanted budget answered same ready h = record {
  grows = h.grows;
  more = λ e. longer (calls_in seat) (wanted, Some answered) ((λ i. calls_of (sym same.actor i) (sym e i)) ∙ h.calls);
  ends = h.ends;
  calls = calls_in seat;
  last = h.calls;
}
replied true seat later wanted budget answered same ready h =
    let (before, is) = last_unanswered seat.actor seat.seen wanted ready in record {
      grows = h.grows;
      more =
          λ e. let as_many : length (own_entries seat.actor seat.seen) ≡ length (own_entries later.actor later.seen) = λ i. length
          (own_entries (sym same.actor i) (sym e i)) in let some = h.some in omega arith;
      ends = h.ends;
      calls = before;
      last = h.calls ∙ ap (λ calls. answered_last calls answered) is ∙ answered_snoc before wanted None answered;
    }

-- The command, which was called or resumed, is an operation of what the seat has seen: it was begun after all that the seat had seen while it was
-- idle, and ended with the seat's last step.
pub record IsCompleted (asked : Bool) (seat : Seat) (wanted : Command) (budget : ℕ) (answered : Reply) (later : Seat) : Type 0 where
  pub begun : ℕ
  pub done : ℕ
  pub begins : IsOperation later.seen (record { start = begun; actor = later.actor; command = wanted })
  pub ends : Finishes later.seen (record { start = begun; actor = later.actor; command = wanted }) done answered
  pub last : length later.seen ≡ done + 1
  pub since : (early : List Entry) → WasIdle seat early → length early ≤ begun
  pub run : IsRunOn asked seat wanted budget (called.Done answered) later

module _ (asked : Bool) (seat later : Seat) (wanted : Command) (budget : ℕ) (came : Called) (answered : Reply) (same : IsSame seat later)
    (ready : unfinished_command seat ≡ (if asked then Some wanted else None)) (runs : IsRunOn asked seat wanted budget came later)
    (is_done : came ≡ called.Done answered) (history : IsOneHistory later.limits later.seen) where
  abbrev done : IsRunOn asked seat wanted budget (called.Done answered) later
  done = rw (← is_done) runs

  abbrev r : IsReplied seat wanted answered later
  r = replied asked seat later wanted budget answered same ready done

  -- the entries before its last one
  abbrev front : List Entry
  front = r.ends.0

  abbrev mine : Operation
  mine = operation later.limits later.seen front later.actor wanted answered r.calls history.linearized.run.run r.ends.1 r.last

  begun_after : (early : List Entry) → WasIdle seat early → length early ≤ mine.start
  begun_after early idle = elim (fronts early (idle.0.0 ++ r.grows.0) front (Step later.actor Leave answer.Done (Some answered)) whole) [
    | inl none ↦ absurd (r.more (r.grows.1 ∙ ap (λ rest. seat.seen ++ rest) (both_none idle.0.0 r.grows.0 none) ∙ append-nil seat.seen))
    | inr rest ↦ since later.limits later.seen front later.actor wanted answered r.calls history.linearized.run.run r.ends.1 r.last early rest.0
        rest.1 (rw same.actor idle.1)
  ]
    where
      both_none : {X : Type 0} (xs ys : List X) → xs ++ ys ≡ [] → ys ≡ []
      both_none [] ys e = e
      both_none (x ∷ xs) ys e = cc

      whole : early ++ (idle.0.0 ++ r.grows.0) ≡ front ++ Step later.actor Leave answer.Done (Some answered) ∷ []
      whole = sym (append_assoc early idle.0.0 r.grows.0) ∙ ap (λ front. front ++ r.grows.0) (sym idle.0.1) ∙ sym r.grows.1 ∙ r.ends.1

  pub completed : IsCompleted asked seat wanted budget answered later
  completed = record {
    begun = mine.start;
    done = length front;
    begins = is_operation later.limits later.seen front later.actor wanted answered r.calls history.linearized.run.run r.ends.1 r.last;
    ends = finishes later.limits later.seen front later.actor wanted answered r.calls history.linearized.run.run r.ends.1 r.last;
    last = ap length r.ends.1 ∙ length-append front _;
    since = begun_after;
    run = done;
  }
