-- How many steps a reader's round has left, among moments that are to come.
use Rattle.progress.proofs.Words.{◌≡◌, ◌<◌, ◌≤◌, ◌+◌, ◌*◌, ◌++◌, ◌⊎◌, ℕ, List, [], ◌∷◌, length, true, cond, Option, None, Some, sym, ap, ◌∙◌, inl, inr, arith, add-mul, if◌then◌else◌, Limits}
use Rattle.progress.proofs.Words.{Command, Entry, Begin, IsNext, memory_of, ReadEnd, Again, Removed, Leaf, Beside, ReadRound, Answer, Record, first_read, is_leaving, is_reading, AfterReading}
use Rattle.progress.proofs.Words.{StepsReading, State, Read, Task, is_step_of, one_memory, IsLast, IsState, operation_from, IsLawfulMoment, Moment, all_changes, changes_tree, own_steps}
use Rattle.progress.proofs.Words.{slice_get-push, slice_get_below, take-push_whole, PaysForRound}
use Rattle.traces.proofs.Pushes.{slice_get-push_cases, slice_get_kept}
use Rattle.progress.specs.ReaderStates.{TakesFewer}
use Rattle.progress.proofs.ReaderPays.{pays_end}
use Rattle.progress.proofs.rounds.Among.{readers_end_among_changes}
use Rattle.progress.proofs.rounds.Counts.{many}
use Rattle.progress.proofs.rounds.Ending.{many_is_count}

abbrev pub moment_of : Entry → ReadRound → Moment
moment_of entry round = record { entry = entry; round = round }

-- the last operation was the last before the last entry, or that entry begins it
pub last_cases : (entries : List Entry) (last : Entry) (start actor : ℕ) (command : Command) → IsLast (entries ++ last ∷ []) (operation_from start actor command)
    → IsLast entries (operation_from start actor command) ⊎ ((start ≡ length entries) × (last ≡ Begin actor command))
last_cases entries last start actor command latest = elim (slice_get-push_cases entries last start _ latest.begun) [
  | inl before ↦ inl (record { begun = before; unended = λ later other low e. latest.unended later other low (slice_get_kept entries (last ∷ []) later _ e) })
  | inr at ↦ inr (at.0, sym at.1)
]

-- where the actor begins one, it is the last
pub last_begun : (entries : List Entry) (start actor : ℕ) (command asked : Command) → IsLast (entries ++ Begin actor command ∷ []) (operation_from start actor asked) → start ≡ length entries
last_begun entries start actor command asked latest = elim (last_cases entries (Begin actor command) start actor asked latest) [
  | inl before ↦ absurd (latest.unended (length entries) command (slice_get_below entries start _ before.begun) (slice_get-push entries (Begin actor command)))
  | inr at ↦ at.0
]

-- the last entry of a state may stand after those before it
pub next_of : (limits : Limits) (entries : List Entry) (entry : Entry) → IsState limits (entries ++ entry ∷ []) → IsNext limits entries entry
next_of limits entries entry later = rw (← take-push_whole entries (entry ∷ [])) (later.run.each (length entries) entry (slice_get-push entries entry))

some_few : (left worth : ℕ) → 0 < left + 0 * worth → 0 < left
some_few left worth few = omega (arith, few)

at_first : (steps changes worth : ℕ) → steps < (1 + changes) * worth → steps < worth + changes * worth
at_first steps changes worth few = let product = add-mul 1 changes worth in omega (arith, few, product)

moment_on : (own after all more changes left rest worth : ℕ) → all ≡ own + after → all < left + (more + changes) * worth → left + more * worth ≤ rest + own → after < rest + changes * worth
moment_on own after all more changes left rest worth same few less = let product = add-mul more changes worth in omega (arith, same, few, less, product)

module _ (limits : Limits) (actor : ℕ) (task : Task) where
  -- in the memory of a state
  pub few_fresh : (entries : List Entry) (round : ReadRound) → IsState limits entries → TakesFewer limits actor task entries round (one_memory limits)
  few_fresh entries round state moments are =
      at_first (own_steps actor moments) (all_changes limits entries moments) (one_memory limits) (readers_end_among_changes limits entries actor task round moments state are)

  pub few_some : (entries : List Entry) (round : ReadRound) (left : ℕ) → TakesFewer limits actor task entries round left → 0 < left
  few_some entries round left few = some_few left (one_memory limits) (few [] tt)

  -- after one moment
  pub few_on : (entries : List Entry) (round : ReadRound) (moment : Moment) (own more left rest : ℕ) → IsLawfulMoment limits actor task entries round moment
      → cond {A = ℕ} (is_step_of actor moment.entry) 1 0 ≡ own
      → ◌≡◌ {A = ℕ} (if changes_tree (memory_of limits entries) moment.entry then 1 else 0) more → left + more * one_memory limits ≤ rest + own
      → TakesFewer limits actor task entries round left → TakesFewer limits actor task (entries ++ moment.entry ∷ []) moment.round rest
  few_on entries round moment own more left rest is one changes less few moments are =
      let all : own_steps actor (moment ∷ moments) ≡ own + own_steps actor moments =
      sym (many_is_count (λ (m : Moment). is_step_of actor m.entry) (moment ∷ moments)) ∙ ap
      (λ (n : ℕ). n + many (λ (m : Moment). is_step_of actor m.entry) moments) one ∙ ap (λ (n : ℕ). own + n)
      (many_is_count (λ (m : Moment). is_step_of actor m.entry) moments) in
      let whole : own_steps actor (moment ∷ moments) < left + (more + all_changes limits (entries ++ moment.entry ∷ []) moments) * one_memory limits =
      rw (← changes) (few (moment ∷ moments) (is, are)) in
      moment_on own (own_steps actor moments) (own_steps actor (moment ∷ moments)) more (all_changes limits (entries ++ moment.entry ∷ []) moments) left rest (one_memory limits) all whole less

-- a round from the end of a state on
pub round_fresh : (limits : Limits) (entries : List Entry) (task : Task) (round : ReadRound) (m : ℕ) → IsState limits entries → length entries ≤ m → PaysForRound limits entries task round m
round_fresh limits entries task round m state past = record {
  left = one_memory limits;
  few = few_fresh limits task.actor task entries round state;
  pays = pays_end limits entries task.actor m (one_memory limits + 1) past (omega arith);
}

-- after an answer the operation is in a round, or is to leave
pub after_reads : (task : Task) (next : ReadRound) (end : Option ReadEnd) (new : State) → AfterReading task next end new → (is_reading new ≡ true) ⊎ (is_leaving new ≡ true)
after_reads task next (Some (Leaf leaf)) new goes = inr goes
after_reads task next (Some (Beside left removed)) new goes = inr goes
after_reads task next other new goes = inl (ap is_reading goes)

-- what a round makes of an answer is the same for each task with its first round
pub same_steps : (task other : Task) (round : ReadRound) (told : Answer Record) (new : State) → first_read task ≡ first_read other
    → StepsReading task round told new → StepsReading other round told new
same_steps task other round told new same steps = record { next = steps.next; end = steps.end; responds = steps.responds; same = steps.same; goes = by_end steps.end steps.goes }
  where
    by_end : (end : Option ReadEnd) → AfterReading task steps.next end new → AfterReading other steps.next end new
    by_end None goes = goes
    by_end (Some Again) goes = goes ∙ ap Read same
    by_end (Some (Removed removed)) goes = goes
    by_end (Some (Leaf leaf)) goes = goes
    by_end (Some (Beside left removed)) goes = goes
