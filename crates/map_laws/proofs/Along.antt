-- What holds along a run of one actor's calls: between two of them, and within one.
use Rattle.map_laws.proofs.Words.{Answer, Begin, Bool, Command, Entry, IsOperation, IsOwnEntry, IsRun, IsSome, Limits, List, None, Option, Record, Reply, Some}
use Rattle.map_laws.proofs.Words.{Step, StepOf, answered_last, answered_snoc, ap, append-nil, append_assoc, arith, call_after, calls_along, calls_of}
use Rattle.map_laws.proofs.Words.{command_of, command_of-push, commands_after, either, eq-eqb, eqb-true, false, if◌then◌else◌, inl, inr, is_entry_of, length}
use Rattle.map_laws.proofs.Words.{operation_at, own_entries, pushed_length, refl, slice_get, slice_get-append_left, slice_get-push, slice_get-push_cases}
use Rattle.map_laws.proofs.Words.{slice_get_below, slice_get_kept, subst, suc, sym, take, take-push_whole, true, ℕ, [], ◌++◌, ◌<◌, ◌∙◌, ◌∷◌, ◌≡◌, ◌≤◌, ◌⊎◌}
use Rattle.traces.specs.trace.Run.{IsNext}
use Rattle.map_laws.proofs.Asking.{Calls}
use Rattle.map_laws.proofs.Spans.{IsOpenAt}

pub get_middle : {X : Type 0} (xs : List X) (x : X) (ys : List X) → slice_get (xs ++ x ∷ ys) (length xs) ≡ Some x
get_middle [] x ys = refl
get_middle (y ∷ xs) x ys = get_middle xs x ys

push_if : (b : Bool) (all : Calls) (entry : Entry) (entries : List Entry) → calls_along (if b then call_after all entry else all) entries ≡ calls_along all (if b then entry ∷ entries else entries)
push_if true all entry entries = refl
push_if false all entry entries = refl

others_leave : (commands : ℕ → Option Command) (actor : ℕ) (entry : Entry) → is_entry_of actor entry ≡ false → commands_after commands entry actor ≡ commands actor
others_leave commands actor (Begin other asked) apart = ap (λ (b : Bool). if b then Some asked else commands actor) apart
others_leave commands actor (Step other step told None) apart = refl
others_leave commands actor (Step other step told (Some given)) apart = ap (λ (b : Bool). if b then None else commands actor) apart

open_on : (front : List Entry) (entry : Entry) (actor start : ℕ) (asked : Command) → ((other : Command) → entry ≡ Begin actor other → ⊥)
    → IsOpenAt front actor asked start → IsOpenAt (front ++ entry ∷ []) actor asked start
open_on front entry actor start asked never h = record {
  begins = slice_get_kept front (entry ∷ []) start (Begin actor asked) h.begins;
  last = λ later other after is. elim (slice_get-push_cases front entry later (Begin actor other) is) [ inl before ↦ h.last later other after before | inr last ↦ never other (sym last.1) ];
}

open_at_end : (front : List Entry) (actor : ℕ) (asked : Command) → IsOpenAt (front ++ Begin actor asked ∷ []) actor asked (length front)
open_at_end front actor asked = record {
  begins = slice_get-push front (Begin actor asked);
  last =
      λ later other after is. let below : later < length (front ++ Begin actor asked ∷ []) = slice_get_below (front ++ Begin actor asked ∷ []) later
      (Begin actor other) is in let long = pushed_length front (Begin actor asked) in omega arith;
}

no_command : (o : Option Command) → IsSome o → o ≡ None → ⊥
no_command None some none = cc
no_command (Some asked) some none = cc

module _ (run : List Entry) (actor since : ℕ) (D : Calls → ℕ → Type 0) (U : Calls → Command → ℕ → ℕ → Type 0) where
  -- each entry of the run from a place on keeps what holds of the calls that are done, and of the one that was begun at a place
  pub record Keeps : Type 0 where
    pub begins : (calls : Calls) (asked : Command) (n : ℕ) → slice_get run n ≡ Some (Begin actor asked) → D calls n → U calls asked n (suc n)
    pub steps : (calls : Calls) (asked : Command) (start n : ℕ) (step : StepOf Record) (told : Answer Record) → IsOperation run (operation_at actor start asked)
        → IsOwnEntry run (operation_at actor start asked) n step told None → command_of (take n run) actor ≡ Some asked → U calls asked start n
        → U calls asked start (suc n)
    pub ends : (calls : Calls) (asked : Command) (start n : ℕ) (step : StepOf Record) (told : Answer Record) (given : Reply)
        → IsOperation run (operation_at actor start asked) → IsOwnEntry run (operation_at actor start asked) n step told (Some given)
        → command_of (take n run) actor ≡ Some asked → U calls asked start n → D (calls ++ (asked, Some given) ∷ []) (suc n)
    pub waits : (calls : Calls) (n : ℕ) (entry : Entry) → since ≤ n → slice_get run n ≡ Some entry → is_entry_of actor entry ≡ false → D calls n → D calls (suc n)
    pub lasts : (calls : Calls) (asked : Command) (start n : ℕ) (entry : Entry) → since ≤ n → slice_get run n ≡ Some entry → is_entry_of actor entry ≡ false
        → U calls asked start n → U calls asked start (suc n)

  -- the actor is within a call
  pub record Busy (front : List Entry) (all : Calls) : Type 0 where
    pub asked : Command
    pub has : command_of front actor ≡ Some asked
    pub calls : Calls
    pub is : all ≡ calls ++ (asked, None) ∷ []
    pub start : ℕ
    pub opened : IsOpenAt front actor asked start
    pub holds : U calls asked start (length front)

  abbrev pub Now : List Entry → Calls → Type 0
  Now front all = ((command_of front actor ≡ None) × D all (length front)) ⊎ Busy front all

  module _ (limits : Limits) (is_run : IsRun limits run) (keeps : Keeps) where
    at_end : (front back : List Entry) (entry : Entry) → run ≡ front ++ entry ∷ back → slice_get run (length front) ≡ Some entry
    at_end front back entry is = ap (λ es. slice_get es (length front)) is ∙ get_middle front entry back

    next : (front back : List Entry) (entry : Entry) → run ≡ front ++ entry ∷ back → IsNext limits front entry
    next front back entry is = rw (← (ap (take (length front)) is ∙ take-push_whole front (entry ∷ back))) (is_run.each (length front) entry (at_end front back entry is))

    command_then : (front : List Entry) (entry : Entry) → command_of (front ++ entry ∷ []) actor ≡ commands_after (command_of front) entry actor
    command_then front entry = ap (λ commands. commands actor) (command_of-push front entry)

    still : (front back : List Entry) (entry : Entry) → run ≡ front ++ entry ∷ back → (asked : Command) → command_of front actor ≡ Some asked → command_of (take (length front) run) actor ≡ Some asked
    still front back entry is asked has = ap (λ es. command_of es actor) (ap (take (length front)) is ∙ take-push_whole front (entry ∷ back)) ∙ has

    opens : (front back : List Entry) → run ≡ front ++ back → (start : ℕ) (asked : Command) → IsOpenAt front actor asked start → IsOperation run (operation_at actor start asked)
    opens front back is start asked h = ap (λ es. slice_get es start) is ∙ slice_get_kept front back start (Begin actor asked) h.begins

    own : (front back : List Entry) (step : StepOf Record) (told : Answer Record) (reply : Option Reply) → run ≡ front ++ Step actor step told reply ∷ back
        → (start : ℕ) (asked : Command) → IsOpenAt front actor asked start
        → IsOwnEntry run (operation_at actor start asked) (length front) step told reply
    own front back step told reply is start asked h = record {
      begun = slice_get_below front start (Begin actor asked) h.begins;
      entry = at_end front back (Step actor step told reply) is;
      not_ended =
          λ later other after before there. h.last later other after
          (sym (slice_get-append_left front (Step actor step told reply ∷ back) later before) ∙ sym (ap (λ es. slice_get es later) is) ∙ there);
    }

    by_other : (front back : List Entry) (entry : Entry) (all : Calls) → run ≡ front ++ entry ∷ back → since ≤ length front → is_entry_of actor entry ≡ false
        → Now front all → Now (front ++ entry ∷ []) all
    by_other front back entry all is late apart (inl (none, holds)) =
        inl (
          command_then front entry ∙ others_leave (command_of front) actor entry apart ∙ none,
          subst (D all) (sym (pushed_length front entry))
              (keeps.waits all (length front) entry late (at_end front back entry is) apart holds),
        )
    by_other front back entry all is late apart (inr busy) = inr record {
      asked = busy.asked;
      has = command_then front entry ∙ others_leave (command_of front) actor entry apart ∙ busy.has;
      calls = busy.calls;
      is = busy.is;
      start = busy.start;
      opened = open_on front entry actor busy.start busy.asked (λ other begins. let own' : is_entry_of actor entry ≡ true = ap (is_entry_of actor) begins ∙ eq-eqb actor actor refl in cc) busy.opened;
      holds =
          subst (U busy.calls busy.asked busy.start) (sym (pushed_length front entry))
          (keeps.lasts busy.calls busy.asked busy.start (length front) entry late (at_end front back entry is) apart busy.holds);
    }

    by_begin : (front back : List Entry) (asked : Command) (all : Calls) → run ≡ front ++ Begin actor asked ∷ back → Now front all → Now (front ++ Begin actor asked ∷ []) (all ++ (asked, None) ∷ [])
    by_begin front back asked all is (inl (none, holds)) = inr record {
      asked = asked;
      has = command_then front (Begin actor asked) ∙ ap (λ (b : Bool). if b then Some asked else command_of front actor) (eq-eqb actor actor refl);
      calls = all;
      is = refl;
      start = length front;
      opened = open_at_end front actor asked;
      holds = subst (U all asked (length front)) (sym (pushed_length front (Begin actor asked))) (keeps.begins all asked (length front) (at_end front back (Begin actor asked) is) holds);
    }
    by_begin front back asked all is (inr busy) = let none = (next front back (Begin actor asked) is).1 in let some = busy.has in absurd (cc)

    by_step : (front back : List Entry) (step : StepOf Record) (told : Answer Record) (all : Calls) → run ≡ front ++ Step actor step told None ∷ back
        → Now front all → Now (front ++ Step actor step told None ∷ []) all
    by_step front back step told all is (inl (none, holds)) = absurd (no_command (command_of front actor) (next front back (Step actor step told None) is).0 none)
    by_step front back step told all is (inr busy) = inr record {
      asked = busy.asked;
      has = command_then front (Step actor step told None) ∙ busy.has;
      calls = busy.calls;
      is = busy.is;
      start = busy.start;
      opened = open_on front (Step actor step told None) actor busy.start busy.asked (λ other begins. cc) busy.opened;
      holds = subst (U busy.calls busy.asked busy.start) (sym (pushed_length front (Step actor step told None)))
          (keeps.steps busy.calls busy.asked busy.start (length front) step told
          (opens front (Step actor step told None ∷ back) is busy.start busy.asked busy.opened)
          (own front back step told None is busy.start busy.asked busy.opened) (still front back (Step actor step told None) is busy.asked busy.has)
          busy.holds);
    }

    by_end : (front back : List Entry) (step : StepOf Record) (told : Answer Record) (given : Reply) (all : Calls)
        → run ≡ front ++ Step actor step told (Some given) ∷ back → Now front all
        → Now (front ++ Step actor step told (Some given) ∷ []) (answered_last all given)
    by_end front back step told given all is (inl (none, holds)) = absurd (no_command (command_of front actor) (next front back (Step actor step told (Some given)) is).0 none)
    by_end front back step told given all is (inr busy) = inl (
      command_then front (Step actor step told (Some given)) ∙ ap (λ (b : Bool). if b then None else command_of front actor) (eq-eqb actor actor refl),
      rw (ap (λ (calls : Calls). answered_last calls given) busy.is ∙ answered_snoc busy.calls busy.asked None given)
          (subst (D (busy.calls ++ (busy.asked, Some given) ∷ [])) (sym (pushed_length front (Step actor step told (Some given))))
          (keeps.ends busy.calls busy.asked busy.start (length front) step told given
          (opens front (Step actor step told (Some given) ∷ back) is busy.start busy.asked busy.opened)
          (own front back step told (Some given) is busy.start busy.asked busy.opened)
          (still front back (Step actor step told (Some given)) is busy.asked busy.has) busy.holds)),
    )

    by_own : (front back : List Entry) (entry : Entry) (all : Calls) → run ≡ front ++ entry ∷ back → is_entry_of actor entry ≡ true → Now front all → Now (front ++ entry ∷ []) (call_after all entry)
    by_own front back (Begin who asked) all is mine =
        subst (λ w. run ≡ front ++ Begin w asked ∷ back → Now front all → Now (front ++ Begin w asked ∷ []) (all ++ (asked, None) ∷ [])) (eqb-true actor who mine) (by_begin front back asked all) is
    by_own front back (Step who step told None) all is mine =
        subst (λ w. run ≡ front ++ Step w step told None ∷ back → Now front all → Now (front ++ Step w step told None ∷ []) all) (eqb-true actor who mine) (by_step front back step told all) is
    by_own front back (Step who step told (Some given)) all is mine =
        subst
        (λ w. run ≡ front ++ Step w step told (Some given) ∷ back → Now front all → Now (front ++ Step w step told (Some given) ∷ []) (answered_last all given))
        (eqb-true actor who mine) (by_end front back step told given all) is

    by_entry : (front back : List Entry) (entry : Entry) (all : Calls) → run ≡ front ++ entry ∷ back → since ≤ length front → Now front all
        → Now (front ++ entry ∷ []) (if is_entry_of actor entry then call_after all entry else all)
    by_entry front back entry all is late now = either (is_entry_of actor entry)
        (λ mine. rw mine (by_own front back entry all is mine now))
        (λ apart. rw apart (by_other front back entry all is late apart now))

    pub along : (front back : List Entry) (all : Calls) → run ≡ front ++ back → since ≤ length front → Now front all → Now run (calls_along all (own_entries actor back))
    along front [] all is late now = subst (λ es. Now es all) (sym (is ∙ append-nil front)) now
    along front (entry ∷ back) all is late now =
        let long = pushed_length front entry in
        subst (Now run) (push_if (is_entry_of actor entry) all entry (own_entries actor back))
        (along (front ++ entry ∷ []) back (if is_entry_of actor entry then call_after all entry else all) (is ∙ sym (append_assoc front (entry ∷ []) back))
        (omega arith) (by_entry front back entry all is late now))

    -- of the calls from a place on at which the actor had none
    pub keeps_on : (front back : List Entry) → run ≡ front ++ back → since ≤ length front → command_of front actor ≡ None → D [] (length front) → Now run (calls_of actor back)
    keeps_on front back is late none first = along front back [] is late (inl (none, first))
