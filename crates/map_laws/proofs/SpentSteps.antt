-- A call that is spent has taken its budget in own steps of one operation; a lookup's are few for each change of the tree.
use Rattle.map_laws.proofs.Words.{Answer, Begin, Bool, Command, Entry, IsOperation, IsOwnStep, IsRun, IsSame, List, None, Option, Record, Reply, Seat, Some}
use Rattle.map_laws.proofs.Words.{Step, StepOf, ap, append-nil, arith, calls_along, calls_of, drop, eq-eqb, false, fold-append, if◌then◌else◌, inl, inr}
use Rattle.map_laws.proofs.Words.{is_entry_of, length, operation_at, own_append, own_entries, own_push, pushed_length, refl, same_Some, slice_get, suc, sym}
use Rattle.map_laws.proofs.Words.{take, take-one, take-push_whole, true, unfinished_command, ℕ, [], ◌++◌, ◌+◌, ◌-◌, ◌<◌, ◌==◌, ◌∙◌, ◌∷◌, ◌≡◌, ◌≤◌, ◌⊎◌}
use Rattle.std.proofs.Common.{◌*◌, cond}
use Rattle.std.specs.Prelude.{slice_range}
use Rattle.std.specs.List.{count_by}
use Rattle.std.proofs.Math.Nat.{mul-le-mul_left}
use Rattle.std.proofs.lemmas.Bool.Decides.{eqb_tells}
use Rattle.std.proofs.lemmas.List.{take_all}
use Rattle.std.proofs.lemmas.List.Elements.{All-weaker}
use Rattle.traces.specs.trace.Trace.{Happens}
use Rattle.traces.proofs.Cuts.{get_drop}
use Rattle.linearization.specs.Direct.{is_step_of}
use Rattle.linearization.specs.Progress.{AreAmong, ChangesTree, steps_from}
use Rattle.linearization.specs.ReadersEnd.{one_memory}
use Rattle.running_tree.specs.Calls.{IsSpent}
use Rattle.running_tree.specs.declared.called.Called.TheVariants.{Done, Spent}
use Rattle.map_laws.specs.Budgets.{LookupsAreDone}
use Rattle.map_laws.proofs.Along.{Keeps, Now, along}
use Rattle.map_laws.proofs.Asking.{Calls}

along_append : (calls : Calls) (xs ys : List Entry) → calls_along calls (xs ++ ys) ≡ calls_along (calls_along calls xs) ys
along_append calls [] ys = refl
along_append calls (x ∷ xs) ys = along_append _ xs ys

module _ (run : List Entry) (actor : ℕ) where
  -- how many entries of the first n are the actor's own
  abbrev own : ℕ → ℕ
  own n = length (own_entries actor (take n run))

  -- how many of those from a place on, up to another one, are its steps
  abbrev steps : ℕ → ℕ → ℕ
  steps start n = count_by (is_step_of actor) (slice_range run start n)

  own_next : (n : ℕ) (e : Entry) → slice_get run n ≡ Some e → is_entry_of actor e ≡ true → own (suc n) ≡ suc (own n)
  own_next n e at mine =
      ap (λ es. length (own_entries actor es)) (take-one run n e at) ∙ ap length (own_push actor (take n run) e mine) ∙ pushed_length (own_entries actor (take n run)) e

  own_still : (n : ℕ) (e : Entry) → slice_get run n ≡ Some e → is_entry_of actor e ≡ false → own (suc n) ≡ own n
  own_still n e at apart =
      ap (λ es. length (own_entries actor es)) (take-one run n e at)
      ∙ ap length
      (own_append actor (take n run) (e ∷ []) ∙ ap (λ (b : Bool). own_entries actor (take n run) ++ (if b then e ∷ [] else [])) apart ∙ append-nil (own_entries actor (take n run)))

  steps_next : (start n : ℕ) (e : Entry) → start ≤ n → slice_get run n ≡ Some e → steps start (suc n) ≡ steps start n + cond (is_step_of actor e) 1 0
  steps_next start n e le at =
      let parts : suc n - start ≡ suc (n - start) = omega (arith, le) in
      let place : start + (n - start) ≡ n = omega (arith, le) in
      let there : slice_get (drop start run) (n - start) ≡ Some e = get_drop run start (n - start) ∙ ap (slice_get run) place ∙ at in
      let one : count_by (is_step_of actor) (take (suc (n - start)) (drop start run)) ≡ steps start n + cond (is_step_of actor e) 1 0 =
      ap (count_by (is_step_of actor)) (take-one (drop start run) (n - start) e there) ∙ fold-append _ _ (take (n - start) (drop start run)) (e ∷ []) in
      ap (λ k. count_by (is_step_of actor) (take k (drop start run))) parts ∙ one

  steps_none : (n : ℕ) → steps n n ≡ 0
  steps_none n = ap (λ k. count_by (is_step_of actor) (take k (drop n run))) (let e : n - n ≡ 0 = omega arith in e)

  other_steps : (e : Entry) → is_entry_of actor e ≡ false → is_step_of actor e ≡ false
  other_steps (Begin other command) apart = refl
  other_steps (Step other step told reply) apart = elim (eqb_tells other actor) [
    | inl same ↦ absurd (let mine : (actor == other) ≡ true = eq-eqb actor other (sym same.1) in let both : true ≡ false = sym mine ∙ apart in cc both)
    | inr off ↦ off.0
  ]

  module _ (early many : ℕ) where
    -- The operation under way began after that place, and the own entries since then are its begin and its steps.
    record Under (asked : Command) (start n : ℕ) : Type 0 where
      late : early ≤ start
      after : start < n
      counted : own n ≡ own early + (1 + steps start n)
      last : (steps start n ≡ 0) ⊎ ((k : ℕ) × (k < n) × IsOwnStep run (operation_at actor start asked) k × (steps start (suc k) ≡ steps start n))

    abbrev AtRest : Calls → ℕ → Type 0
    AtRest calls n = (many ≤ length calls) × (early ≤ n) × (length calls ≡ many → own n ≡ own early)

    abbrev UnderWay : Calls → Command → ℕ → ℕ → Type 0
    UnderWay calls asked start n = (many ≤ length calls) × (early ≤ n) × (length calls ≡ many → Under asked start n)

    mine : (step : StepOf Record) (told : Answer Record) (reply : Option Reply) → is_step_of actor (Step actor step told reply) ≡ true
    mine step told reply = eq-eqb actor actor refl

    keeps : Keeps run actor early AtRest UnderWay
    keeps = record {
      begins = λ calls asked n at rest. (
        rest.0,
        (omega (arith, rest.1)),
        λ same.
            let before = rest.2 same in
            let one = own_next n (Begin actor asked) at (eq-eqb actor actor refl) in
            let none : steps n (suc n) ≡ 0 = steps_next n n (Begin actor asked) (omega arith) at ∙ ap (λ k. k + 0) (steps_none n) in
            record { late = rest.1; after = omega arith; counted = omega (arith, before, one, none); last = inl none },
      );
      steps = λ calls asked start n step told is entry has under. (
        under.0,
        (omega (arith, under.1)),
        λ same.
            let u = under.2 same in
            let one = own_next n (Step actor step told None) entry.entry (eq-eqb actor actor refl) in
            let more = steps_next start n (Step actor step told None) (let after = u.after in omega (arith, after)) entry.entry in
            let yes : cond {A = ℕ} (is_step_of actor (Step actor step told None)) 1 0 ≡ 1 = ap (λ (b : Bool). cond {A = ℕ} b 1 0) (mine step told None) in
            let before = u.counted in
            let after = u.after in
            record {
              late = u.late;
              after = omega (arith, after);
              counted = omega (arith, one, more, yes, before);
              last = inr (n, omega arith, (step, told, (None, entry)), refl);
            },
      );
      ends = λ calls asked start n step told given is entry has under.
          let long : length (calls ++ (asked, Some given) ∷ []) ≡ suc (length calls) = pushed_length calls (asked, Some given) in
          let enough = under.0 in
          (omega (arith, long, enough), (omega (arith, under.1)), λ same. absurd (omega (arith, long, enough, same)));
      waits = λ calls n entry late at apart rest. (rest.0, (omega (arith, late)), λ same. own_still n entry at apart ∙ rest.2 same);
      lasts = λ calls asked start n entry late at apart under. (
        under.0,
        (omega (arith, late)),
        λ same.
            let u = under.2 same in
            let after = u.after in
            let before = u.counted in
            let still = own_still n entry at apart in
            let no : cond {A = ℕ} (is_step_of actor entry) 1 0 ≡ 0 = ap (λ (b : Bool). cond {A = ℕ} b 1 0) (other_steps entry apart) in
            let next = steps_next start n entry (omega (arith, after)) at in
            let as_many : steps start n ≡ steps start (suc n) = omega (arith, no, next) in
            record {
              late = u.late;
              after = omega (arith, after);
              counted = omega (arith, before, still, as_many);
              last = elim u.last [ inl none ↦ inl (sym as_many ∙ none) | inr h ↦ inr (h.0, (let below = h.1 in omega (arith, below)), h.2, h.3 ∙ as_many) ];
            },
      );
    }

-- A call that is spent: its operation, whose steps from its begin to the last one are its budget.
record StepsOfSpent (old new : Seat) (command : Command) (budget : ℕ) : Type 0 where
  start : ℕ
  last : ℕ
  late : length old.seen ≤ start
  within : last < length new.seen
  begun : IsOperation new.seen (operation_at new.actor start command)
  own_step : IsOwnStep new.seen (operation_at new.actor start command) last
  counted : steps_from new.seen new.actor start last ≡ budget

spent_steps : (old new : Seat) (command : Command) (budget : ℕ) → IsRun new.limits new.seen → IsSame old new → unfinished_command old ≡ None
    → 0 < budget → IsSpent old command budget new
    → StepsOfSpent old new command budget
spent_steps old new command budget is_run same idle some spent =
    by_now (along new.seen new.actor (length old.seen) (AtRest new.seen new.actor (length old.seen) (length olds)) (UnderWay new.seen new.actor (length old.seen) (length olds)) new.limits is_run
    (keeps new.seen new.actor (length old.seen) (length olds)) old.seen spent.grows.0 olds spent.grows.1 (omega arith)
    (inl (rw same.actor idle, (omega arith, omega arith, λ e. refl))))
  where
    olds : Calls
    olds = calls_of new.actor old.seen

    -- the calls are those before, and this one
    all_are : calls_along olds (own_entries new.actor spent.grows.0) ≡ olds ++ (command, None) ∷ []
    all_are =
        sym (along_append [] (own_entries new.actor old.seen) (own_entries new.actor spent.grows.0)) ∙ sym (ap (calls_along []) (own_append new.actor old.seen spent.grows.0))
        ∙ sym (ap (calls_of new.actor) spent.grows.1) ∙ spent.calls ∙ ap (λ a. calls_of a old.seen ++ (command, None) ∷ []) (sym same.actor)

    by_now : Now new.seen new.actor (length old.seen) (AtRest new.seen new.actor (length old.seen) (length olds)) (UnderWay new.seen new.actor (length old.seen) (length olds)) new.seen
        (calls_along olds (own_entries new.actor spent.grows.0)) → StepsOfSpent old new command budget
    by_now (inl (none, rest)) = absurd (let both : None ≡ Some command = sym none ∙ spent.busy in cc both)
    by_now (inr busy) =
        let long : length (busy.calls ++ (busy.asked, None) ∷ []) ≡ suc (length busy.calls) = pushed_length busy.calls (busy.asked, None) in
        let one_more : length (olds ++ (command, None) ∷ []) ≡ suc (length olds) = pushed_length olds (command, None) in
        let both : length (busy.calls ++ (busy.asked, None) ∷ []) ≡ length (olds ++ (command, None) ∷ []) = ap length (sym busy.is ∙ all_are) in
        let u = busy.holds.2 (omega (arith, long, one_more, both)) in
        let command_is : busy.asked ≡ command = same_Some busy.asked command (sym busy.has ∙ spent.busy) in
        let whole : own new.seen new.actor (length new.seen) ≡ length (own_entries new.actor new.seen) =
        ap (λ es. length (own_entries new.actor es)) (take_all (length new.seen) new.seen (omega arith)) in
        let before : own new.seen new.actor (length old.seen) ≡ length (own_entries old.actor old.seen) =
        ap (λ es. length (own_entries new.actor es)) (ap (take (length old.seen)) spent.grows.1 ∙ take-push_whole old.seen spent.grows.0)
        ∙ ap (λ a. length (own_entries a old.seen)) same.actor in
        let counted = u.counted in
        let taken = spent.steps in
        let as_many : steps new.seen new.actor busy.start (length new.seen) ≡ budget = omega (arith, whole, before, counted, taken) in
        elim u.last [
          | inl none ↦ absurd (omega (arith, none, as_many, some))
          | inr h ↦ record {
            start = busy.start;
            last = h.0;
            late = u.late;
            within = h.1;
            begun = rw (← command_is) busy.opened.begins;
            own_step = rw (← command_is) h.2;
            counted = h.3 ∙ as_many;
          }
        ]

pub lookups_done : LookupsAreDone
lookups_done old new command budget most (Done reply) history same idle reader called few enough = (reply, refl)
lookups_done old new command budget most Spent history same idle reader spent few enough =
    let s = spent_steps old new command budget history.linearized.run.run same idle (omega (arith, enough)) spent in
    let h = history.orderly.readers.few (operation_at new.actor s.start command) s.last s.begun reader s.own_step in
    let late = s.late in
    let within = s.within in
    let among : AreAmong new.limits new.seen (length old.seen) (length new.seen) ChangesTree h.0 = record {
      increasing = h.1.increasing;
      each =
          All-weaker (λ place. (s.start ≤ place) × (place ≤ s.last) × Happens new.limits new.seen place ChangesTree)
          (λ place. (length old.seen ≤ place) × (place ≤ length new.seen) × Happens new.limits new.seen place ChangesTree)
          (λ place g. let low : s.start ≤ place = g.0 in let high : place ≤ s.last = g.1 in (omega (arith, low, late), omega (arith, high, within), g.2)) h.0 h.1.each;
    } in
    absurd (too_many (one_memory new.limits) (length h.0) most (steps_from new.seen new.actor s.start s.last) budget (few h.0 among) h.2 s.counted enough)
  where
    too_many : (worth changes most steps budget : ℕ) → changes ≤ most → steps ≤ worth * (changes + 1) + 3 → steps ≡ budget → worth * (most + 1) + 3 < budget → ⊥
    too_many worth changes most steps budget few paid same enough =
        let grown : worth * (changes + 1) ≤ worth * (most + 1) = mul-le-mul_left worth (omega (arith, few)) in
        omega (arith, grown, paid, same, enough)
