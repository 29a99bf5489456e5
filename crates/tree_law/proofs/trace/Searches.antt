-- What an operation has found stays found, and what a further step finds.
use Rattle.tree_law.proofs.Words.{false, ◌⊎◌, ap, refl, Option, suc, None, List, true, inl, length, ◌++◌, ◌≤◌, inr, ◌∷◌, sym, ℕ, ◌≡◌, Bool, zero, ◌∙◌, ◌<◌, arith, Some, slice_get}
use Rattle.tree_law.proofs.Words.{Command, Reply, Limits, Answer, Number, StepOf, PidBits, RowBits, Record, slice_get_below, memory_at-push, low_in, is_removed, LacksRoom, HoldsBack, after_begin}
use Rattle.tree_law.proofs.Words.{Knowledge, after_reply, learn, LivePage, Entry, Begin, Step, WasHeldBack, Operation, TakesOwnStep, operation_from, IsSearch, IsUnended, WasRead, []}
use Rattle.linearization.specs.Answered.{FindsNothingFree}
use Rattle.traces.specs.discipline.Knowledge.{Asked}
use Rattle.tree_law.proofs.shape.Puts.{by_equal}
use Rattle.tree_law.proofs.links.Exchanged.{exchanged_alike}
use Rattle.tree_law.proofs.trace.Owned.{pushed_length, own_kept, own_cases, takes_new}
use Rattle.tree_law.proofs.links.Learning.{learning, pid_word, row_word, wins}

-- the step and its answer are these
abbrev Is : StepOf Record → Answer Record → StepOf Record → Answer Record → Type 0
Is s x t y = (s ≡ t) × (x ≡ y)

-- the words of free PIDs that were read as 0, or else of free rows; and the step that reads one
abbrev no_words : Bool → Asked → ℕ → Bool
no_words true asked = asked.no_pids
no_words false asked = asked.no_rows

abbrev bits_of : Bool → ℕ → StepOf Record
bits_of true word = PidBits word
bits_of false word = RowBits word

-- Where a word is known as 0 after a step: the step read it, or it was known before.
words_cases : (pids : Bool) (k : Knowledge) (s : StepOf Record) (x : Answer Record) (word : ℕ) → no_words pids (learn k s x).asked word ≡ true
    → (no_words pids k.asked word ≡ true) ⊎ Is s x (bits_of pids word) (Number 0)
words_cases true k s x word e = (elim (learning k s x) as (λ s x k' v. k'.asked.no_pids word ≡ true → (k.asked.no_pids word ≡ true) ⊎ Is s x (PidBits word) (Number 0)) [
  | pid_word v zero ↦ by_equal word v (λ i t. rw t λ f. inr (ap PidBits (sym i), refl)) (λ ne t. rw t λ f. inl f)
  | pid_word v (suc n) ↦ λ f. inl f
  | wins p y z ↦ λ f. inl (rw (exchanged_alike p y z k).no_pids at f)
  | v ↦ λ f. inl f
]) e
words_cases false k s x word e = (elim (learning k s x) as (λ s x k' v. k'.asked.no_rows word ≡ true → (k.asked.no_rows word ≡ true) ⊎ Is s x (RowBits word) (Number 0)) [
  | row_word v zero ↦ by_equal word v (λ i t. rw t λ f. inr (ap RowBits (sym i), refl)) (λ ne t. rw t λ f. inl f)
  | row_word v (suc n) ↦ λ f. inl f
  | wins p y z ↦ λ f. inl (rw (exchanged_alike p y z k).no_rows at f)
  | v ↦ λ f. inl f
]) e

-- a page above the leaf was read, which held it back
pub held_back : {limits : Limits} {entries : List Entry} {op : Operation} {n : ℕ} (leaf : LivePage) (page row : ℕ) (chain : List Record) → WasRead limits entries op n page row chain
    → is_removed chain ≡ false → HoldsBack chain leaf.pid (low_in leaf.chain) → WasHeldBack limits entries op n leaf
held_back leaf page row chain read alive holds = record
    { step = read.step; before = read.before; parent = page; row = row; own = read.own; chain = chain; stood = read.stood; alive = alive; holds = holds }

module _ (entries : List Entry) (last : Entry) where
  abbrev longer : List Entry
  longer = entries ++ last ∷ []

  pub takes_kept : (op : Operation) (n : ℕ) (step : StepOf Record) (answer : Answer Record) → TakesOwnStep entries op n step answer → TakesOwnStep longer op n step answer
  takes_kept op n step answer h = (h.0, own_kept entries last op n step answer h.0 h.1)

  pub nothing_free_kept : (limits : Limits) (op : Operation) → FindsNothingFree limits entries op → FindsNothingFree limits longer op
  nothing_free_kept limits op (inl h) = inl (λ word lt. let f = h word lt in (f.0, takes_kept op f.0 _ _ f.1))
  nothing_free_kept limits op (inr h) = inr (λ word least lt. let f = h word least lt in (f.0, takes_kept op f.0 _ _ f.1))

  -- what was read before a step was read before each later one
  pub read_kept : (limits : Limits) (op : Operation) (n later page row : ℕ) (chain : List Record) → n ≤ later → WasRead limits entries op n page row chain
      → WasRead limits longer op later page row chain
  read_kept limits op n later page row chain le h =
      let early : h.step < n = h.before in
      let below : h.step < length entries = slice_get_below entries h.step _ h.own.1.entry in
      record {
        step = h.step;
        before = omega arith;
        own = takes_kept op h.step _ _ h.own;
        stood = rw (memory_at-push limits entries (last ∷ []) h.step (omega arith)) h.stood;
      }

  pub held_back_kept : (limits : Limits) (op : Operation) (n : ℕ) (leaf : LivePage) → WasHeldBack limits entries op n leaf → WasHeldBack limits longer op n leaf
  held_back_kept limits op n leaf h =
      held_back leaf h.parent h.row h.chain (read_kept limits op n n h.parent h.row h.chain (omega arith) (record { step = h.step; before = h.before; own = h.own; stood = h.stood })) h.alive h.holds

  -- what an operation has found stays found at an entry that isn't its own
  pub search_other : (op : Operation) (k : Knowledge) → IsSearch entries op k → ((step : StepOf Record) (answer : Answer Record) (reply : Option Reply) → last ≡ Step op.actor step answer reply → ⊥)
      → IsSearch longer op k
  search_other op k h never = record {
    unfinished =
        λ n reply ends. elim (own_cases entries last op n ends.0 ends.1 (Some reply) ends.2) [ inl own ↦ h.unfinished n reply (ends.0, ends.1, own) | inr at ↦ never ends.0 ends.1 (Some reply) at.1 ];
    pids_at = λ word e. let f = h.pids_at word e in (f.0, takes_kept op f.0 _ _ f.1);
    rows_at = λ word e. let f = h.rows_at word e in (f.0, takes_kept op f.0 _ _ f.1);
  }

  -- an operation that begins has found nothing
  pub search_new : (a : ℕ) (c : Command) (k : Knowledge) → IsSearch longer (operation_from (length entries) a c) (after_begin k c)
  search_new a c k = record {
    unfinished = λ n reply ends.
        let low : length entries < n = ends.2.begun in
        let high : n < length longer = slice_get_below longer n _ ends.2.entry in
        let long : length longer ≡ suc (length entries) = pushed_length entries last in
        omega arith;
    pids_at = λ word e. absurd (cc);
    rows_at = λ word e. absurd (cc);
  }

  -- and an own step that does not end it adds what it read
  pub search_own : (start a : ℕ) (c : Command) (s : StepOf Record) (x : Answer Record) (k : Knowledge) → slice_get entries start ≡ Some (Begin a c) → IsUnended entries start a
      → last ≡ Step a s x None → IsSearch entries (operation_from start a c) k → IsSearch longer (operation_from start a c) (after_reply (learn k s x) None)
  search_own start a c s x k begins unended is h = record {
    unfinished =
        λ n reply ends. elim (own_cases entries last (operation_from start a c) n ends.0 ends.1 (Some reply) ends.2)
        [ inl own ↦ h.unfinished n reply (ends.0, ends.1, own) | inr at ↦ let e = at.1 in absurd (cc) ];
    pids_at =
        λ word e. elim (words_cases true k s x word e)
        [ inl f ↦ let g = h.pids_at word f in (g.0, takes_kept (operation_from start a c) g.0 _ _ g.1) | inr new ↦ (length entries, takes (PidBits word) (Number 0) new.0 new.1) ];
    rows_at =
        λ word e. elim (words_cases false k s x word e)
        [ inl f ↦ let g = h.rows_at word f in (g.0, takes_kept (operation_from start a c) g.0 _ _ g.1) | inr new ↦ (length entries, takes (RowBits word) (Number 0) new.0 new.1) ];
  }
    where
      takes : (t : StepOf Record) (y : Answer Record) → s ≡ t → x ≡ y → TakesOwnStep longer (operation_from start a c) (length entries) t y
      takes t y i j = takes_new entries last start a c t y None begins unended (is ∙ λ d. Step a (i d) (j d) None)

-- what an actor may take for want of room, its operation has found
pub lacks : (limits : Limits) (entries : List Entry) (op : Operation) (k : Knowledge) → IsSearch entries op k → LacksRoom limits k → FindsNothingFree limits entries op
lacks limits entries op k h (inl words) = inl (λ word lt. h.pids_at word (words word lt))
lacks limits entries op k h (inr words) = inr (λ word least lt. h.rows_at word (words word least lt))
