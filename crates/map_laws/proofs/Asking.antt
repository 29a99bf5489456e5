-- A seat's call that is done: the operation that it was.
use Rattle.map_laws.proofs.Words.{Begin, Command, Entry, Finishes, IsOperation, IsRun, Leave, Limits, List, None, Operation, Option, Reply, Some, Step}
use Rattle.map_laws.proofs.Words.{answered_last, answered_snoc, ap, arith, call_after, calls_along, calls_of, command_of, commands_after, dec_le, dite, either}
use Rattle.map_laws.proofs.Words.{eq-eqb, false, fold, inl, inr, is_entry_of, length, own_entries, own_push, refl, slice_get, slice_get-push}
use Rattle.map_laws.proofs.Words.{slice_get-push_cases, slice_get_below, slice_get_kept, subst, sym, true, ℕ, [], ◌++◌, ◌+◌, ◌∙◌, ◌∷◌, ◌≡◌, ◌≤◌, ◌⊎◌}
use Rattle.traces.proofs.RunLaws.{IsRun-last}
use Rattle.bw_model.specs.declared.step.Answer.TheVariants as answer
use Rattle.map_laws.proofs.Ending.{some_of}
use Rattle.map_laws.proofs.Spans.{IsOpenAt, begun_since, in_hand}

abbrev pub Calls : Type 0
Calls = List (Command × Option Reply)

-- the last call has no reply
abbrev EndsUnanswered : Calls → Command → Type 0
EndsUnanswered calls asked = (before : Calls) × (calls ≡ before ++ (asked, None) ∷ [])

-- whatever was before, the actor's command is that of its last call
abbrev IsTold : ℕ → List Entry → Command → Type 0
IsTold actor run asked = (commands : ℕ → Option Command) (calls : Calls) → ((c : Command) → commands actor ≡ Some c → EndsUnanswered calls c) → fold commands_after commands run actor ≡ Some asked
    → EndsUnanswered (calls_along calls (own_entries actor run)) asked

told : (actor : ℕ) (commands : ℕ → Option Command) (calls : Calls) (run : List Entry) (asked : Command) → ((c : Command) → commands actor ≡ Some c → EndsUnanswered calls c)
    → fold commands_after commands run actor ≡ Some asked → EndsUnanswered (calls_along calls (own_entries actor run)) asked
told actor commands calls [] asked fits is = fits asked is
told actor commands calls (entry ∷ run) asked fits is = by_entry entry (λ commands' calls' fits' is'. told actor commands' calls' run asked fits' is') is
  where
    -- whether the entry is the actor's
    either_way : (e : Entry) (commands' : ℕ → Option Command) → IsTold actor run asked → fold commands_after commands' run actor ≡ Some asked
        → (is_entry_of actor e ≡ true → (c : Command) → commands' actor ≡ Some c → EndsUnanswered (call_after calls e) c)
        → (is_entry_of actor e ≡ false → (c : Command) → commands' actor ≡ Some c → EndsUnanswered calls c)
        → EndsUnanswered (calls_along calls (own_entries actor (e ∷ run))) asked
    either_way e commands' rest along own other = either (is_entry_of actor e)
        (λ mine. rw mine (rest commands' (call_after calls e) (own mine) along))
        (λ others. rw others (rest commands' calls (other others) along))

    by_entry : (e : Entry) → IsTold actor run asked → fold commands_after (commands_after commands e) run actor ≡ Some asked → EndsUnanswered (calls_along calls (own_entries actor (e ∷ run))) asked
    by_entry (Begin who c) rest along = either_way (Begin who c) (commands_after commands (Begin who c)) rest along
        (λ mine d has. let some : Some c ≡ Some d = rw mine at has in let same : c ≡ d = cc in
        subst (EndsUnanswered (calls ++ (c, None) ∷ [])) same (calls, refl))
        (λ others d has. fits d (rw others at has))
    by_entry (Step who step answer None) rest along = either_way (Step who step answer None) commands rest along (λ mine c has. fits c has) (λ others c has. fits c has)
    by_entry (Step who step answer (Some given)) rest along = either_way (Step who step answer (Some given)) (commands_after commands (Step who step answer (Some given))) rest along
        (λ mine d has. let none : None ≡ Some d = rw mine at has in absurd (cc))
        (λ others d has. fits d (rw others at has))

pub last_unanswered : (actor : ℕ) (run : List Entry) (asked : Command) → command_of run actor ≡ Some asked → EndsUnanswered (calls_of actor run) asked
last_unanswered actor run asked is = told actor (λ a. None) [] run asked (λ c has. absurd (cc)) is

along_push : (calls : Calls) (entries : List Entry) (e : Entry) → calls_along calls (entries ++ e ∷ []) ≡ call_after (calls_along calls entries) e
along_push calls [] e = refl
along_push calls (first ∷ entries) e = along_push (call_after calls first) entries e

calls_push : (actor : ℕ) (run : List Entry) (e : Entry) → is_entry_of actor e ≡ true → calls_of actor (run ++ e ∷ []) ≡ call_after (calls_of actor run) e
calls_push actor run e mine = ap (calls_along []) (own_push actor run e mine) ∙ along_push [] (own_entries actor run) e

-- the last of a list
last_or : {X : Type 0} → X → List X → X
last_or x [] = x
last_or x (y ∷ ys) = last_or y ys

last_is : {X : Type 0} (d : X) (xs : List X) (x : X) → last_or d (xs ++ x ∷ []) ≡ x
unfolding last_or
last_is d [] x = refl
last_is d (y ∷ xs) x = last_is y xs x

same_last : {X : Type 0} (xs ys : List X) (x y : X) → xs ++ x ∷ [] ≡ ys ++ y ∷ [] → x ≡ y
same_last xs ys x y e = sym (last_is x xs x) ∙ ap (last_or x) e ∙ last_is x ys y

-- what stands before the last
pub fronts : {X : Type 0} (early rest front : List X) (e : X) → early ++ rest ≡ front ++ e ∷ [] → (rest ≡ []) ⊎ ((more : List X) × (front ≡ early ++ more))
fronts [] rest front e is = inr (front, refl)
fronts {X = X} (x ∷ early) rest [] e is = elim rest as (λ r. early ++ r ≡ [] → (r ≡ []) ⊎ ((more : List X) × ([] ≡ (x ∷ early) ++ more)))
    [ [] ↦ λ t. inl refl | y ∷ ys ↦ λ t. absurd (nonempty early y ys t) ] (tail_is is)
  where
    tail_is : {a b : X} {xs ys : List X} → a ∷ xs ≡ b ∷ ys → xs ≡ ys
    tail_is h = cc

    nonempty : (xs : List X) (y : X) (ys : List X) → xs ++ y ∷ ys ≡ [] → ⊥
    nonempty [] y ys h = cc
    nonempty (z ∷ xs) y ys h = cc
fronts {X = X} (x ∷ early) rest (z ∷ front) e is = elim (fronts early rest front e (tail_is is)) [
  | inl none ↦ inl none
  | inr more ↦ inr (more.0, (λ i. (sym (head_is is)) i ∷ more.1 i))
]
  where
    tail_is : {a b : X} {xs ys : List X} → a ∷ xs ≡ b ∷ ys → xs ≡ ys
    tail_is h = cc

    head_is : {a b : X} {xs ys : List X} → a ∷ xs ≡ b ∷ ys → a ≡ b
    head_is h = cc

-- The run is one that ends with the operation's Leave.
module _ (limits : Limits) (run front : List Entry) (actor : ℕ) (asked : Command) (answered : Reply) (calls : Calls) (is_run : IsRun limits run)
    (ends : run ≡ front ++ Step actor Leave answer.Done (Some answered) ∷ []) (is_last : calls_of actor run ≡ calls ++ (asked, Some answered) ∷ []) where
  abbrev leave : Entry
  leave = Step actor Leave answer.Done (Some answered)

  has_asked : command_of front actor ≡ Some asked
  has_asked =
      let (c, has) = some_of (command_of front actor) (IsRun-last limits front leave (subst (IsRun limits) ends is_run)).0 in
      let (before, unanswered) = last_unanswered actor front c has in
      let answers : calls_of actor run ≡ before ++ (c, Some answered) ∷ [] =
      ap (calls_of actor) ends ∙ calls_push actor front leave (eq-eqb actor actor refl) ∙ ap (λ calls. answered_last calls answered) unanswered ∙ answered_snoc before c None answered in
      let same : c ≡ asked = ap (λ pair. pair.0) (same_last before calls (c, Some answered) (asked, Some answered) (sym answers ∙ is_last)) in
      has ∙ ap Some same

  pub opened : (start : ℕ) × IsOpenAt front actor asked start
  opened = in_hand front actor asked has_asked

  abbrev pub operation : Operation
  operation = record { start = opened.0; actor = actor; command = asked }

  pub is_operation : IsOperation run operation
  is_operation = subst (λ es. slice_get es opened.0 ≡ Some (Begin actor asked)) (sym ends) (slice_get_kept front (leave ∷ []) opened.0 (Begin actor asked) opened.1.begins)

  pub finishes : Finishes run operation (length front) answered
  finishes = (
    Leave,
    answer.Done,
    record {
      begun = slice_get_below front opened.0 (Begin actor asked) opened.1.begins;
      entry = rw ends (slice_get-push front leave);
      not_ended = λ later c after before at. elim (slice_get-push_cases front leave later (Begin actor c) (rw (← ends) at)) [
        | inl there ↦ opened.1.last later c after there
        | inr last ↦ let here = last.0 in omega arith
      ];
    },
  )

  -- it was begun after what the actor has seen while it had none
  pub since : (early more : List Entry) → front ≡ early ++ more → command_of early actor ≡ None → length early ≤ opened.0
  since early more is none =
      let (place, begins) = begun_since early more actor asked none (ap (λ es. command_of es actor) (sym is) ∙ has_asked) in
      let there : slice_get front (length early + place) ≡ Some (Begin actor asked) = ap (λ es. slice_get es (length early + place)) is ∙ begins in
      dite (dec_le (length early) opened.0) (λ le. le) (λ gt. absurd (opened.1.last (length early + place) asked (omega arith) there))
