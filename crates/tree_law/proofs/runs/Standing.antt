-- Traces in which each actor obeys its discipline, by a test: what a test can tell is computed, and the rest is owed.
use Rattle.tree_law.proofs.Words.{false, ◌⊎◌, [], refl, ltb, Option, suc, None, List, true, inl, ◌++◌, inr, ◌∷◌, subst, sym, ℕ, ◌≡◌, Bool, zero, Some, append_assoc, ◌==◌, ltb-true, append-nil}
use Rattle.tree_law.proofs.Words.{fold-append, IsFalse, IsTrue, ◌&&◌, ⊤, is_some, Command, Reply, Limits, Answer, Whether, Content, Number, Done, Start, StepOf, ReuseRows, ReusePids, Leave, TakePid}
use Rattle.tree_law.proofs.Words.{Row, TakeRow, Slot, Epoch, PidBits, Exchange, RowBits, Announce, Retire, Memory, Record, memory_of-push, command_of-push, MayReply, May, IsAllowed, MayFree}
use Rattle.tree_law.proofs.Words.{IsDisciplinedFrom, knows, Knowledge, knows_after, IsAnswer, memory_after, command_of, memory_of, commands_after, Entry, Begin, Step, and_right, and_left, small}
use Rattle.std.specs.Prelude.{is_none}
use Rattle.traces.specs.trace.Trace.{memory_after_entry}

-- whether the operations begin and go on in turn
abbrev in_turn : (ℕ → Option Command) → List Entry → Bool
in_turn commands [] = true
in_turn commands (Begin actor command ∷ entries) = (ltb actor 2 && is_none (commands actor)) && in_turn (commands_after commands (Begin actor command)) entries
in_turn commands (Step actor step answer reply ∷ entries) = is_some (commands actor) && in_turn (commands_after commands (Step actor step answer reply)) entries

-- what the memory answers, where it can be computed
abbrev shown : Option Record → Answer Record → Answer Record
shown (Some content) answer = Content content
shown None Start = Done
shown None answer = Start

abbrev answered : Memory → StepOf Record → Answer Record → Answer Record
answered memory (Slot page) answer = Number (memory.slots page)
answered memory (Row row) answer = shown (memory.rows row) answer
answered memory Epoch answer = Number memory.epoch
answered memory (Announce actor) answer = Number (memory.announced actor)
answered memory (Exchange slot old new) answer = Whether (memory.slots slot == old)
answered memory (TakePid page) answer = Whether (memory.free_pids page)
answered memory (TakeRow row) answer = Whether (memory.free_rows row)
answered memory (Retire epoch) answer = Whether (memory.epoch == epoch)
answered memory (PidBits word) answer = answer
answered memory (RowBits word) answer = answer
answered memory step answer = Done

-- the answers of the memory, and those of the trace
abbrev answers : Memory → List Entry → List (Answer Record)
answers memory [] = []
answers memory (Begin actor command ∷ entries) = answers memory entries
answers memory (Step actor step answer reply ∷ entries) = answered memory step answer ∷ answers (memory_after actor step memory) entries

abbrev given : List Entry → List (Answer Record)
given [] = []
given (Begin actor command ∷ entries) = given entries
given (Step actor step answer reply ∷ entries) = answer ∷ given entries

-- whether the step is allowed by what a test tells of what its actor knows
abbrev plain : Knowledge → StepOf Record → Bool
plain k (Slot zero) = k.inside
plain k (Slot (suc page)) = k.inside && k.read.roots (suc page)
plain k (Row row) = k.inside && k.read.learnt row
plain k Epoch = true
plain k (Announce other) = true
plain k (TakePid page) = true
plain k (TakeRow row) = true
plain k step = false

abbrev is_plain : (ℕ → Knowledge) → Entry → Bool
is_plain ks (Begin actor command) = true
is_plain ks (Step actor step answer None) = plain (ks actor) step
is_plain ks (Step actor step answer (Some reply)) = false

-- what is to be shown of another step, without a reply and with one
abbrev Asks : ℕ → Knowledge → Memory → StepOf Record → Answer Record → Type 0
Asks actor k memory Leave answer = ⊥
Asks actor k memory (PidBits word) answer = IsAnswer memory (PidBits word) answer
Asks actor k memory (RowBits word) answer = IsAnswer memory (RowBits word) answer
Asks actor k memory (ReusePids word bits) answer = IsFalse k.inside × MayFree small actor k (ReusePids word bits)
Asks actor k memory (ReuseRows word bits) answer = IsFalse k.inside × MayFree small actor k (ReuseRows word bits)
Asks actor k memory step answer = May actor k step

abbrev Replies : ℕ → Knowledge → StepOf Record → Reply → Type 0
Replies actor k Leave reply = IsTrue k.inside × MayReply small actor k reply
Replies actor k step reply = ⊥

abbrev Owes : (ℕ → Knowledge) → Memory → Entry → Type 0
Owes ks memory (Begin actor command) = ⊥
Owes ks memory (Step actor step answer None) = Asks actor (ks actor) memory step answer
Owes ks memory (Step actor step answer (Some reply)) = Replies actor (ks actor) step reply

abbrev Adds : Bool → Type 0 → Type 0 → Type 0
Adds true Here Later = Later
Adds false Here Later = Here × Later

-- what is owed for the entries, where the actors know this and the memory is so
abbrev pub Owed : (ℕ → Knowledge) → Memory → List Entry → Type 0
Owed ks memory [] = ⊤
Owed ks memory (entry ∷ entries) = Adds (is_plain ks entry) (Owes ks memory entry) (Owed (knows_after ks entry) (memory_after_entry memory entry) entries)

parts : (plain : Bool) (Here Later : Type 0) → Adds plain Here Later → ((plain ≡ true) ⊎ Here) × Later
parts true Here Later h = (inl refl, h)
parts false Here Later h = (inr h.0, h.1)

content_of : (row : Option Record) (answer : Answer Record) → shown row answer ≡ answer → (content : Record) × (row ≡ Some content) × (answer ≡ Content content)
content_of (Some content) answer e = (content, refl, sym e)
content_of None Start e = absurd (cc)
content_of None answer e = absurd (cc)

allowed : {actor : ℕ} {k : Knowledge} {step : StepOf Record} → May actor k step → MayFree small actor k step → (step ≡ Leave → ⊥) → IsAllowed small actor k step None
allowed may frees stays = record { may = may; frees = frees; replied = tt; ends = λ e. absurd (stays e) }

quiet : (actor : ℕ) (k : Knowledge) (memory : Memory) (step : StepOf Record) (answer : Answer Record) → (plain k step ≡ true) ⊎ Asks actor k memory step answer → answered memory step answer ≡ answer
    → IsAllowed small actor k step None × IsAnswer memory step answer
quiet actor k memory (Slot zero) answer (inl h) e = (allowed h tt (λ f. cc), sym e)
quiet actor k memory (Slot (suc page)) answer (inl h) e = (allowed (and_left k.inside (k.read.roots (suc page)) h, inl (and_right k.inside (k.read.roots (suc page)) h)) tt (λ f. cc), sym e)
quiet actor k memory (Row row) answer (inl h) e = (allowed (and_left k.inside (k.read.learnt row) h, and_right k.inside (k.read.learnt row) h) tt (λ f. cc), content_of (memory.rows row) answer e)
quiet actor k memory (Row row) answer (inr h) e = (allowed h tt (λ f. cc), content_of (memory.rows row) answer e)
quiet actor k memory Epoch answer h e = (allowed tt tt (λ f. cc), sym e)
quiet actor k memory (Announce other) answer h e = (allowed tt tt (λ f. cc), sym e)
quiet actor k memory (TakePid page) answer h e = (allowed tt tt (λ f. cc), sym e)
quiet actor k memory (TakeRow row) answer h e = (allowed tt tt (λ f. cc), sym e)
quiet actor k memory Leave answer (inr h) e = absurd h
quiet actor k memory (PidBits word) answer (inr h) e = (allowed tt tt (λ f. cc), h)
quiet actor k memory (RowBits word) answer (inr h) e = (allowed tt tt (λ f. cc), h)
quiet actor k memory (ReusePids word bits) answer (inr h) e = (allowed h.0 h.1 (λ f. cc), sym e)
quiet actor k memory (ReuseRows word bits) answer (inr h) e = (allowed h.0 h.1 (λ f. cc), sym e)
quiet actor k memory step answer (inr h) e = (allowed h tt (λ f. cc), sym e)
quiet actor k memory step answer (inl h) e = absurd (cc)

replying : (actor : ℕ) (k : Knowledge) (memory : Memory) (step : StepOf Record) (answer : Answer Record) (reply : Reply) → Replies actor k step reply → answered memory step answer ≡ answer
    → IsAllowed small actor k step (Some reply) × IsAnswer memory step answer
replying actor k memory Leave answer reply h e = (record { may = h.0; frees = tt; replied = (refl, h.1); ends = λ f. refl }, sym e)
replying actor k memory step answer reply h e = absurd h

none_is : {X : Type 0} (o : Option X) → is_none o ≡ true → o ≡ None
none_is None e = refl
none_is (Some x) e = absurd (cc)

-- what is so of the entries where these are the commands, what the actors know, and the memory
abbrev StandsBy : (ℕ → Option Command) → (ℕ → Knowledge) → Memory → List Entry → Type 0
StandsBy commands ks memory entries = (in_turn commands entries ≡ true) × (answers memory entries ≡ given entries) × Owed ks memory entries

abbrev StandsAfter : List Entry → List Entry → Type 0
StandsAfter before entries = StandsBy (command_of before) (knows before) (memory_of small before) entries

ahead : (before entries : List Entry) (entry : Entry)
    → StandsBy (commands_after (command_of before) entry) (knows_after (knows before) entry) (memory_after_entry (memory_of small before) entry) entries
    → StandsAfter (before ++ entry ∷ []) entries
ahead before entries entry h =
    let ks = sym (fold-append knows_after _ before (entry ∷ [])) in
    let memory = sym (memory_of-push small before entry) in
    subst (λ (stand : Type 0). stand) (λ i. StandsBy ((sym (command_of-push before entry)) i) (ks i) (memory i) entries) h

stand : (entries before : List Entry) → StandsAfter before entries → IsDisciplinedFrom small before entries
stand [] before h = tt
stand (Begin actor command ∷ entries) before h =
    let here : (ltb actor 2 && is_none (command_of before actor)) ≡ true = and_left (ltb actor 2 && is_none (command_of before actor)) _ h.0 in (
      (ltb-true actor 2 (and_left (ltb actor 2) _ here), none_is (command_of before actor) (and_right (ltb actor 2) _ here)),
      stand entries (before ++ Begin actor command ∷ []) (ahead before entries (Begin actor command) (and_right (ltb actor 2 && is_none (command_of before actor)) _ h.0, h.1, h.2)),
    )
stand (Step actor step answer None ∷ entries) before h =
    let same = h.1 in
    let part = parts (plain (knows before actor) step) _ _ h.2 in
    let here = quiet actor (knows before actor) (memory_of small before) step answer part.0 (cc) in (
      (and_left (is_some (command_of before actor)) _ h.0, here.0, here.1),
      stand entries (before ++ Step actor step answer None ∷ []) (ahead before entries (Step actor step answer None) (and_right (is_some (command_of before actor)) _ h.0, (cc), part.1)),
    )
stand (Step actor step answer (Some reply) ∷ entries) before h =
    let same = h.1 in
    let here = replying actor (knows before actor) (memory_of small before) step answer reply h.2.0 (cc) in (
      (and_left (is_some (command_of before actor)) _ h.0, here.0, here.1),
      stand entries (before ++ Step actor step answer (Some reply) ∷ [])
          (ahead before entries (Step actor step answer (Some reply)) (and_right (is_some (command_of before actor)) _ h.0, (cc), h.2.1)),
    )

pub disciplined : (before entries : List Entry) → in_turn (command_of before) entries ≡ true → answers (memory_of small before) entries ≡ given entries
    → Owed (knows before) (memory_of small before) entries
    → IsDisciplinedFrom small before entries
disciplined before entries turn same owed = stand entries before (turn, same, owed)

-- the parts of a trace
pub joined : (limits : Limits) (before first second : List Entry) → IsDisciplinedFrom limits before first → IsDisciplinedFrom limits (before ++ first) second
    → IsDisciplinedFrom limits before (first ++ second)
joined limits before [] second h i = rw (append-nil before) at i
joined limits before (entry ∷ first) second h i = (h.0, joined limits (before ++ entry ∷ []) first second h.1 (rw (append_assoc before (entry ∷ []) first) i))

-- one after another
pub ◌▸◌ : {A B : Type 0} → A → B → A × B
here ▸ later = (here, later)

infixr 30 ◌▸◌
