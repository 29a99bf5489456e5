-- A run in which one actor alone has operations: each is a begin, steps without a reply, and a step with one.
use Rattle.std.specs.Prelude.{◌≢◌, slice_get, Option, IsSome, ◌==◌, if◌then◌else◌}
use Rattle.running_tree.proofs.Words.{AllByRecursion, Command, Reply, Limits, Answer, StepOf, Record, is_entry_of, own_entries, command_of, command_of-push, calls_along}
use Rattle.std.proofs.Common.{◌≡◌, ◌≤◌, ◌++◌, ◌⊎◌, inl, inr, ℕ, List, [], ◌∷◌, length, take, refl, sym, ap, subst, ◌∙◌, true, false, Bool, Some, None, arith, append_assoc, append-nil}
use mathlib.Core.Logic.{dite}
use native.Mathlib.Decide.{ℕ_discrete}
use Rattle.traces.specs.declared.trace.Entry.{Entry}
use Rattle.traces.specs.declared.trace.Entry.TheVariants.{Begin, Step}
use Rattle.traces.specs.trace.Run.{IsNext, IsRun}
use Rattle.traces.proofs.Pushes.{take-push_whole}
use Rattle.running_tree.proofs.Going.{answered_snoc}

abbrev pub who : Entry → ℕ
who (Begin actor command) = actor
who (Step actor step answer reply) = actor

-- all are entries of actor 0
abbrev pub AreOurs : List Entry → Type 0
AreOurs = AllByRecursion (λ entry. who entry ≡ 0)

equal_number : (n : ℕ) → (n == n) ≡ true
equal_number n = grind (arith)

own_itself : (entry : Entry) → is_entry_of (who entry) entry ≡ true
own_itself (Begin actor command) = equal_number actor
own_itself (Step actor step answer reply) = equal_number actor

tail_none : (b : Bool) (entry : Entry) (entries : List Entry) → (if b then entry ∷ entries else entries) ≡ [] → entries ≡ []
tail_none true entry entries e = cc
tail_none false entry entries e = e

head_none : (b : Bool) (entry : Entry) (entries : List Entry) → (if b then entry ∷ entries else entries) ≡ [] → b ≡ true → ⊥
head_none true entry entries e is = cc
head_none false entry entries e is = cc

-- where no other actor has an entry
pub are_ours : (run : List Entry) → ((actor : ℕ) → actor ≢ 0 → own_entries actor run ≡ []) → AreOurs run
are_ours [] others = tt
are_ours (entry ∷ run) others = (
  dite (ℕ_discrete (who entry) 0) (λ same. same) (λ other. absurd (head_none (is_entry_of (who entry) entry) entry (own_entries (who entry) run) (others (who entry) other) (own_itself entry))),
  are_ours run (λ actor other. tail_none (is_entry_of actor entry) entry (own_entries actor run) (others actor other)),
)

ours_is : (entry : Entry) → who entry ≡ 0 → is_entry_of 0 entry ≡ true
ours_is (Begin actor command) e = rw e refl
ours_is (Step actor step answer reply) e = rw e refl

pub all_own : (run : List Entry) → AreOurs run → own_entries 0 run ≡ run
all_own [] ours = refl
all_own (entry ∷ run) ours = rw (ours_is entry ours.0) (ap (λ rest. entry ∷ rest) (all_own run ours.1))

-- a step of actor 0 without a reply
abbrev pub IsSilent : Entry → Type 0
IsSilent entry = (step : StepOf Record) × (answer : Answer Record) × (entry ≡ Step 0 step answer None)

-- the entries of the calls, one after the other
abbrev pub Blocks : List (Command × Option Reply) → List Entry → Type 0
Blocks [] rest = rest ≡ []
Blocks ((command, None) ∷ calls) rest = ⊥
Blocks ((command, Some reply) ∷ calls) rest = (mid : List Entry) × (step : StepOf Record) × (answer : Answer Record) × (after : List Entry)
    × (rest ≡ Begin 0 command ∷ (mid ++ Step 0 step answer (Some reply) ∷ after)) × AllByRecursion IsSilent mid × Blocks calls after

record Parsed (rest : List Entry) : Type 0 where
  calls : List (Command × Option Reply)
  blocks : Blocks calls rest
  along : (old : List (Command × Option Reply)) → calls_along old rest ≡ old ++ calls

-- the same while an operation of the command is unfinished
record ParsedIn (command : Command) (rest : List Entry) : Type 0 where
  reply : Reply
  mid : List Entry
  step : StepOf Record
  answer : Answer Record
  after : List Entry
  is : rest ≡ mid ++ Step 0 step answer (Some reply) ∷ after
  silent : AllByRecursion IsSilent mid
  calls : List (Command × Option Reply)
  blocks : Blocks calls after
  along : (old : List (Command × Option Reply)) → calls_along (old ++ (command, None) ∷ []) rest ≡ old ++ (command, Some reply) ∷ calls

abbrev ParsedFrom : Option Command → List Entry → Type 0
ParsedFrom None rest = Parsed rest
ParsedFrom (Some command) rest = ParsedIn command rest

none_some : (o : Option Command) → o ≡ None → IsSome o → ⊥
none_some None e s = cc
none_some (Some c) e s = cc

pub get_middle : (before : List Entry) (entry : Entry) (rest : List Entry) → slice_get (before ++ entry ∷ rest) (length before) ≡ Some entry
get_middle [] entry rest = refl
get_middle (one ∷ before) entry rest = get_middle before entry rest

number_either : (a b : ℕ) → ((a == b) ≡ true) × (a ≡ b) ⊎ ((a == b) ≡ false) × (a ≢ b)
number_either a b = dite (ℕ_discrete a b) (λ same. inl (rw same (equal_number b), same)) (λ other. inr (grind (arith, other), other))

module _ (limits : Limits) (run : List Entry) (runs : IsRun limits run) where
  next : (before : List Entry) (entry : Entry) (rest : List Entry) → run ≡ before ++ entry ∷ rest → IsNext limits before entry
  next before entry rest is =
      let at : slice_get run (length before) ≡ Some entry = ap (λ es. slice_get es (length before)) is ∙ get_middle before entry rest in
      let front : take (length before) run ≡ before = ap (take (length before)) is ∙ take-push_whole before (entry ∷ rest) in
      subst (λ es. IsNext limits es entry) front (runs.each (length before) entry at)

  further : (before : List Entry) (entry : Entry) (rest : List Entry) → run ≡ before ++ entry ∷ rest → run ≡ (before ++ entry ∷ []) ++ rest
  further before entry rest is = is ∙ sym (append_assoc before (entry ∷ []) rest)

  module _ (idle : command_of run 0 ≡ None) where
    parse : (now : Option Command) (before rest : List Entry) → run ≡ before ++ rest → AreOurs rest → command_of before 0 ≡ now → ParsedFrom now rest
    parse None before [] is ours now = record { calls = []; blocks = refl; along = λ old. sym (append-nil old) }
    parse (Some command) before [] is ours now =
        let whole : command_of run 0 ≡ command_of before 0 = ap (λ es. command_of es 0) (is ∙ append-nil before) in
        absurd (none_some (command_of run 0) idle (subst IsSome (sym (whole ∙ now)) refl))
    parse None before (Begin actor asked ∷ rest) is ours now =
        let here : run ≡ before ++ Begin 0 asked ∷ rest = is ∙ ap (λ a. before ++ Begin a asked ∷ rest) ours.0 in
        let p : ParsedIn asked rest = parse (Some asked) (before ++ Begin 0 asked ∷ []) rest (further before (Begin 0 asked) rest here) ours.1
        (ap (λ cs. cs 0) (command_of-push before (Begin 0 asked))) in
        record {
          calls = (asked, Some p.reply) ∷ p.calls;
          blocks = (
            p.mid,
            p.step,
            p.answer,
            p.after,
            (let front : Begin actor asked ∷ rest ≡ Begin 0 asked ∷ rest = ap (λ a. Begin a asked ∷ rest) ours.0 in front ∙ ap (λ es. Begin 0 asked ∷ es) p.is),
            p.silent,
            p.blocks,
          );
          along = p.along;
        }
    parse (Some command) before (Begin actor asked ∷ rest) is ours now =
        let here : run ≡ before ++ Begin 0 asked ∷ rest = is ∙ ap (λ a. before ++ Begin a asked ∷ rest) ours.0 in
        absurd (none_some (command_of before 0) (next before (Begin 0 asked) rest here).1 (subst IsSome (sym now) refl))
    parse None before (Step actor step answer reply ∷ rest) is ours now =
        let here : run ≡ before ++ Step 0 step answer reply ∷ rest = is ∙ ap (λ a. before ++ Step a step answer reply ∷ rest) ours.0 in
        absurd (none_some (command_of before 0) now (next before (Step 0 step answer reply) rest here).0)
    parse (Some command) before (Step actor step answer None ∷ rest) is ours now =
        let here : run ≡ before ++ Step 0 step answer None ∷ rest = is ∙ ap (λ a. before ++ Step a step answer None ∷ rest) ours.0 in
        let p : ParsedIn command rest = parse (Some command) (before ++ Step 0 step answer None ∷ []) rest (further before (Step 0 step answer None) rest here)
        ours.1 (ap (λ cs. cs 0) (command_of-push before (Step 0 step answer None)) ∙ now) in
        record {
          reply = p.reply;
          mid = Step 0 step answer None ∷ p.mid;
          step = p.step;
          answer = p.answer;
          after = p.after;
          is =
              (let front : Step actor step answer None ∷ rest ≡ Step 0 step answer None ∷ rest = ap (λ a. Step a step answer None ∷ rest) ours.0 in front ∙ ap
              (λ es. Step 0 step answer None ∷ es) p.is);
          silent = ((step, answer, refl), p.silent);
          calls = p.calls;
          blocks = p.blocks;
          along = p.along;
        }
    parse (Some command) before (Step actor step answer (Some given) ∷ rest) is ours now =
        let here : run ≡ before ++ Step 0 step answer (Some given) ∷ rest = is ∙ ap (λ a. before ++ Step a step answer (Some given) ∷ rest) ours.0 in
        let p : Parsed rest = parse None (before ++ Step 0 step answer (Some given) ∷ []) rest (further before (Step 0 step answer (Some given)) rest here)
        ours.1 (ap (λ cs. cs 0) (command_of-push before (Step 0 step answer (Some given)))) in
        record {
          reply = given;
          mid = [];
          step = step;
          answer = answer;
          after = rest;
          is = ap (λ a. Step a step answer (Some given) ∷ rest) ours.0;
          silent = tt;
          calls = p.calls;
          blocks = p.blocks;
          along =
              λ old. ap (λ calls. calls_along calls rest) (answered_snoc old command None given) ∙ p.along (old ++ (command, Some given) ∷ []) ∙ append_assoc old ((command, Some given) ∷ []) p.calls;
        }

    -- the run is the entries of its calls
    pub in_blocks : AreOurs run → Blocks (calls_along [] run) run
    in_blocks ours =
        let p : Parsed run = parse None [] run refl ours refl in
        subst (λ calls. Blocks calls run) (sym (p.along [])) p.blocks

  module _ (actor : ℕ) (beyond : limits.actors ≤ actor) where
    -- there is no actor beyond the limits
    pub absent : (before rest : List Entry) → run ≡ before ++ rest → command_of before actor ≡ None → own_entries actor rest ≡ []
    absent before [] is none = refl
    absent before (Begin other asked ∷ rest) is none = elim (number_either actor other) [
      | inl same ↦ let few = (next before (Begin other asked) rest is).0 in let one = same.1 in absurd (omega (arith, few, one, beyond))
      | inr apart ↦ rw apart.0
          (absent (before ++ Begin other asked ∷ []) rest (further before (Begin other asked) rest is) (ap (λ cs. cs actor) (command_of-push before (Begin other asked)) ∙ rw apart.0 none))
    ]
    absent before (Step other step answer None ∷ rest) is none = elim (number_either actor other) [
      | inl same ↦ absurd (none_some (command_of before other) (ap (command_of before) (sym same.1) ∙ none) (next before (Step other step answer None) rest is).0)
      | inr apart ↦ rw apart.0 (absent (before ++ Step other step answer None ∷ []) rest (further before (Step other step answer None) rest is)
          (ap (λ cs. cs actor) (command_of-push before (Step other step answer None)) ∙ none))
    ]
    absent before (Step other step answer (Some reply) ∷ rest) is none = elim (number_either actor other) [
      | inl same ↦ absurd (none_some (command_of before other) (ap (command_of before) (sym same.1) ∙ none) (next before (Step other step answer (Some reply)) rest is).0)
      | inr apart ↦ rw apart.0 (absent (before ++ Step other step answer (Some reply) ∷ []) rest (further before (Step other step answer (Some reply)) rest is)
          (ap (λ cs. cs actor) (command_of-push before (Step other step answer (Some reply))) ∙ rw apart.0 none))
    ]
