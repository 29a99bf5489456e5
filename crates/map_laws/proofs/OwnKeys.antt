-- The replies to an actor's calls about a key that nobody else changes are those of a map with this one key.
use Rattle.map_laws.proofs.Words.{Answer, AreOwnReplies, Begin, Bool, Command, Entry, Finishes, HasPoints, IsAnswered, IsLinearized, IsOperation, IsOwnEntry}
use Rattle.map_laws.proofs.Words.{IsOwnStep, IsPoint, IsRun, IsTrue, IsTrueReply, Limits, List, None, Operation, Option, Record, RepliesAtPoint, Reply, Some}
use Rattle.map_laws.proofs.Words.{Step, StepOf, Turn, Update, and_both, and_left, and_right, ap, arith, calls_of, command_of, dite, either, eq-eqb, eqb-false}
use Rattle.map_laws.proofs.Words.{false, has_point, if◌then◌else◌, inl, inr, is_about, is_entry_of, is_writer, length, log_at, logged_value, may_change}
use Rattle.map_laws.proofs.Words.{memory_at, operation_at, refl, reply_of, slice_get, slice_get_below, subst, suc, sym, take, tells, true, updates_by}
use Rattle.map_laws.proofs.Words.{value_made, value_then, value_through, zero, ℕ, ℕ_discrete, [], ◌++◌, ◌<◌, ◌==◌, ◌∙◌, ◌∷◌, ◌≡◌, ◌≤◌, ◌⊎◌}
use Rattle.std.specs.Prelude.{◌&&◌}
use Rattle.std.proofs.lemmas.List.{append-nil, length-take-le}
use Rattle.deltas.specs.Memory.{Memory}
use Rattle.traces.proofs.Cuts.{get_take}
use Rattle.linearization.specs.Answered.{RepliesAt}
use Rattle.linearization.proofs.LogLaws.{log_at-step}
use Rattle.map_laws.specs.OwnKeys.{ChangesAlone, ChangesAloneSince}
use Rattle.bw_model.specs.declared.command.Reply.TheVariants as reply
use Rattle.map_laws.proofs.Along.{Keeps, Now, keeps_on}
use Rattle.map_laws.proofs.Asking.{Calls}
use Rattle.map_laws.proofs.Effects.{about_key, effect, reader_keeps}
use Rattle.map_laws.proofs.Ending.{get-from_take, own_before, some_of}
use Rattle.map_laws.proofs.Spans.{in_hand}

abbrev pub Value : Type 0
Value = Option (List ℕ)

module _ (key : List ℕ) where
  one_more : (before : Value) (calls : Calls) (asked : Command) (given : Reply) → AreOwnReplies key before calls
      → (IsTrue (tells key asked given) → reply_of asked (value_through key before calls) ≡ Some given)
      → AreOwnReplies key before (calls ++ (asked, Some given) ∷ [])
  one_more before [] asked given are is = (is, tt)
  one_more before ((other, None) ∷ calls) asked given are is = one_more before calls asked given are is
  one_more before ((other, Some said) ∷ calls) asked given (first, rest) is = (first, one_more (value_then key before other said) calls asked given rest is)

  one_open : (before : Value) (calls : Calls) (asked : Command) → AreOwnReplies key before calls → AreOwnReplies key before (calls ++ (asked, None) ∷ [])
  one_open before [] asked are = tt
  one_open before ((other, None) ∷ calls) asked are = one_open before calls asked are
  one_open before ((other, Some said) ∷ calls) asked (first, rest) = (first, one_open (value_then key before other said) calls asked rest)

  pub through_one : (before : Value) (calls : Calls) (asked : Command) (given : Reply)
      → value_through key before (calls ++ (asked, Some given) ∷ []) ≡ value_then key (value_through key before calls) asked given
  through_one before [] asked given = refl
  through_one before ((other, None) ∷ calls) asked given = through_one before calls asked given
  through_one before ((other, Some said) ∷ calls) asked given = through_one (value_then key before other said) calls asked given

pub and_true : (a b : Bool) → b ≡ true → a && b ≡ a
and_true true b is = is
and_true false b is = refl

pub and_false : (a b : Bool) → b ≡ false → a && b ≡ false
and_false true b is = is
and_false false b is = refl

-- a reply with a point is the map's there
pub replied : (limits : Limits) (run : List Entry) (points : List Bool) (operation : Operation) (given : Reply) → has_point given ≡ true
    → IsTrueReply limits run points operation given → RepliesAtPoint limits run points operation given
replied limits run points operation reply.Full has says = absurd (cc)
replied limits run points operation reply.Tidied has says = absurd (cc)
replied limits run points operation other has says = says

pub at_key : (key : List ℕ) (log : List Update) (memory : Memory) (asked : Command) (given : Reply) → RepliesAt memory log asked given → is_about key asked ≡ true
    → reply_of asked (logged_value log key) ≡ Some given
at_key key log memory asked given (inl by_value) is = rw (about_key key asked is) by_value
at_key key log memory asked given (inr (inl page)) is = let never : false ≡ true = sym (ap (is_about key) page.asks) ∙ is in absurd (cc)
at_key key log memory asked given (inr (inr page)) is = let never : false ≡ true = sym (ap (is_about key) page.asks) ∙ is in absurd (cc)

pub stands_at : {X : Type 0} (xs : List X) (n : ℕ) → n < length xs → (x : X) × (slice_get xs n ≡ Some x)
stands_at [] n below = absurd (omega arith)
stands_at (x ∷ xs) zero below = (x, refl)
stands_at (x ∷ xs) (suc n) below = stands_at xs n (omega arith)

module _ (limits : Limits) (run : List Entry) (points : List Bool) (pointed : HasPoints run points) (answered : IsAnswered limits run points) (is_run : IsRun limits run) (key : List ℕ) where
  abbrev pub value_at : ℕ → Value
  value_at n = logged_value (log_at run points n) key

  pub mark_at : (n : ℕ) (entry : Entry) → slice_get run n ≡ Some entry → (marked : Bool) × (slice_get points n ≡ Some marked)
  mark_at n entry at = let below = slice_get_below run n entry at in let beside = pointed.beside in stands_at points n (omega arith)

  pub unmarked : (n : ℕ) (entry : Entry) → slice_get run n ≡ Some entry → slice_get points n ≡ Some false → value_at (suc n) ≡ value_at n
  unmarked n entry at mark = ap (λ (log : List Update). logged_value log key) (log_at-step run points n entry false pointed.beside at mark)

  marked_begin : (n actor : ℕ) (asked : Command) (marked : Bool) → slice_get run n ≡ Some (Begin actor asked) → slice_get points n ≡ Some marked → value_at (suc n) ≡ value_at n
  marked_begin n actor asked false at mark = unmarked n (Begin actor asked) at mark
  marked_begin n actor asked true at mark =
      ap (λ (log : List Update). logged_value log key) (log_at-step run points n (Begin actor asked) true pointed.beside at mark ∙ append-nil (log_at run points n))

  pub at_begin : (n actor : ℕ) (asked : Command) → slice_get run n ≡ Some (Begin actor asked) → value_at (suc n) ≡ value_at n
  at_begin n actor asked at = let m = mark_at n (Begin actor asked) at in marked_begin n actor asked m.0 at m.1

  pub marked_step : (n actor : ℕ) (step : StepOf Record) (told : Answer Record) (said : Option Reply) (asked : Command)
      → slice_get run n ≡ Some (Step actor step told said) → slice_get points n ≡ Some true → command_of (take n run) actor ≡ Some asked
      → value_at (suc n) ≡ (if is_about key asked then value_made asked (value_at n) else value_at n)
  marked_step n actor step told said asked at mark has =
      ap (λ (log : List Update). logged_value log key) (log_at-step run points n (Step actor step told said) true pointed.beside at mark
      ∙ ap (λ (o : Option Command). log_at run points n ++ updates_by actor o (log_at run points n)) has) ∙ effect key (log_at run points n) actor asked

  -- the operation of a step
  pub owner : (n actor : ℕ) (step : StepOf Record) (told : Answer Record) (said : Option Reply) → slice_get run n ≡ Some (Step actor step told said)
      → (asked : Command) × (start : ℕ) × (command_of (take n run) actor ≡ Some asked) × IsOperation run (operation_at actor start asked) × IsOwnStep run (operation_at actor start asked) n
  owner n actor step told said at =
      let (asked, has) = some_of (command_of (take n run) actor) (is_run.each n (Step actor step told said) at).0 in
      let (start, opened) = in_hand (take n run) actor asked has in
      let low : start < length (take n run) = slice_get_below (take n run) start (Begin actor asked) opened.begins in
      let within : n < length run = slice_get_below run n (Step actor step told said) at in
      let long : length (take n run) ≡ n = length-take-le n run (omega arith) in (
        asked,
        start,
        has,
        get-from_take n run start (Begin actor asked) opened.begins,
        (step, told, (said, record { begun = omega arith; entry = at; not_ended = λ later other after before there. opened.last later other after (get_take run later n before ∙ there) })),
      )

  -- a command that may not change the key's value leaves it
  pub kept_by : (asked : Command) (before : Value) → may_change key asked ≡ false → (if is_about key asked then value_made asked before else before) ≡ before
  kept_by asked before never = either (is_about key asked)
      (λ is. ap (λ (b : Bool). if b then value_made asked before else before) is ∙ reader_keeps asked before
      (either (is_writer asked) (λ writes. let may : may_change key asked ≡ true = and_both (is_about key asked) (is_writer asked) is writes in absurd (cc)) (λ reads. reads)))
      (λ apart. ap (λ (b : Bool). if b then value_made asked before else before) apart)

  module _ (actor since : ℕ) (alone : ChangesAloneSince run actor key since) (first : Value) where
    step_of_other : (n other : ℕ) (step : StepOf Record) (told : Answer Record) (said : Option Reply) (marked : Bool) → since ≤ n
        → slice_get run n ≡ Some (Step other step told said) → slice_get points n ≡ Some marked → (actor == other) ≡ false → value_at (suc n) ≡ value_at n
    step_of_other n other step told said false late at mark apart = unmarked n (Step other step told said) at mark
    step_of_other n other step told said true late at mark apart =
        let (asked, start, has, is, own) = owner n other step told said at in
        marked_step n other step told said asked at mark has ∙ kept_by asked (value_at n) (either (may_change key asked)
        (λ may. let same : other ≡ actor = alone.each (operation_at other start asked) n late is own may in absurd (eqb-false actor other apart (sym same)))
        (λ never. never))

    of_other : (n : ℕ) (entry : Entry) → since ≤ n → slice_get run n ≡ Some entry → is_entry_of actor entry ≡ false → value_at (suc n) ≡ value_at n
    of_other n (Begin other asked) late at apart = at_begin n other asked at
    of_other n (Step other step told said) late at apart = let m = mark_at n (Step other step told said) at in step_of_other n other step told said m.0 late at m.1 apart

    abbrev NoPoint : Operation → ℕ → Type 0
    NoPoint operation n = (m : ℕ) → m < n → IsOwnStep run operation m → IsPoint points m → ⊥

    -- the operation has had its point, where the key had the value
    record HadPoint (operation : Operation) (before : Value) (n : ℕ) : Type 0 where
      point : ℕ
      early : point < n
      own : IsOwnStep run operation point
      is : IsPoint points point
      old : value_at point ≡ before
      new : value_at n ≡ (if is_about key operation.command then value_made operation.command before else before)

    abbrev Stands : Operation → Value → ℕ → Type 0
    Stands operation before n = (NoPoint operation n × (value_at n ≡ before)) ⊎ HadPoint operation before n

    abbrev Idle : Calls → ℕ → Type 0
    Idle calls n = AreOwnReplies key first calls × (value_at n ≡ value_through key first calls)

    abbrev Within : Calls → Command → ℕ → ℕ → Type 0
    Within calls asked start n = AreOwnReplies key first calls × Stands (operation_at actor start asked) (value_through key first calls) n

    had_on : (operation : Operation) (before : Value) (n : ℕ) → HadPoint operation before n → value_at (suc n) ≡ value_at n → HadPoint operation before (suc n)
    had_on operation before n had keeps = let early = had.early in record { point = had.point; early = omega arith; own = had.own; is = had.is; old = had.old; new = keeps ∙ had.new }

    none_on : (operation : Operation) (n : ℕ) → (IsOwnStep run operation n → IsPoint points n → ⊥) → NoPoint operation n → NoPoint operation (suc n)
    none_on operation n here before m below own is = dite (ℕ_discrete m n)
        (λ same. here (subst (IsOwnStep run operation) same own) (subst (IsPoint points) same is))
        (λ other. before m (omega arith) own is)

    by_mark : (asked : Command) (start n : ℕ) (step : StepOf Record) (told : Answer Record) (said : Option Reply) (before : Value) (marked : Bool)
        → slice_get points n ≡ Some marked → IsOperation run (operation_at actor start asked)
        → IsOwnEntry run (operation_at actor start asked) n step told said → command_of (take n run) actor ≡ Some asked
        → Stands (operation_at actor start asked) before n → Stands (operation_at actor start asked) before (suc n)
    by_mark asked start n step told said before false mark is own has (inl (none, now)) =
        inl (none_on (operation_at actor start asked) n (λ owned point. let never : Some false ≡ Some true = sym mark ∙ point in cc) none, unmarked n (Step actor step told said) own.entry mark ∙ now)
    by_mark asked start n step told said before false mark is own has (inr had) = inr (had_on (operation_at actor start asked) before n had (unmarked n (Step actor step told said) own.entry mark))
    by_mark asked start n step told said before true mark is own has (inl (none, now)) = inr record {
      point = n;
      early = omega arith;
      own = (step, told, (said, own));
      is = mark;
      old = now;
      new = marked_step n actor step told said asked own.entry mark has ∙ ap (λ (v : Value). if is_about key asked then value_made asked v else v) now;
    }
    by_mark asked start n step told said before true mark is own has (inr had) =
        let same : had.point ≡ n = pointed.one (operation_at actor start asked) had.point n is had.own (step, told, (said, own)) had.is mark in let early = had.early in absurd (omega arith)

    own_step : (asked : Command) (start n : ℕ) (step : StepOf Record) (told : Answer Record) (said : Option Reply) (before : Value)
        → IsOperation run (operation_at actor start asked) → IsOwnEntry run (operation_at actor start asked) n step told said
        → command_of (take n run) actor ≡ Some asked → Stands (operation_at actor start asked) before n → Stands (operation_at actor start asked) before (suc n)
    own_step asked start n step told said before is own has stands = let m = mark_at n (Step actor step told said) own.entry in by_mark asked start n step told said before m.0 m.1 is own has stands

    abbrev Ended : Command → Reply → Value → ℕ → Type 0
    Ended asked given before n = (IsTrue (tells key asked given) → reply_of asked before ≡ Some given) × (value_at n ≡ value_then key before asked given)

    effective : (operation : Operation) (n : ℕ) (given : Reply) (before : Value) → has_point given ≡ true → IsOperation run operation
        → Finishes run operation n given → Stands operation before (suc n) → Ended operation.command given before (suc n)
    effective operation n given before has is ends (inl (none, now)) =
        let (m, own, point) = pointed.pointed operation n given is ends has in
        let low : m ≤ n = own_before limits run is_run operation n given ends m own in
        absurd (none m (omega arith) own point)
    effective operation n given before has is ends (inr had) = (
      λ tell.
          let (m, own, point, replies) = replied limits run points operation given has (answered.each operation n given is ends) in
          let same : m ≡ had.point = pointed.one operation m had.point is own had.own point had.is in
          let here : value_at m ≡ before = ap value_at same ∙ had.old in
          rw (← here) (at_key key (log_at run points m) (memory_at limits run m) operation.command given replies (and_left (is_about key operation.command) (has_point given) tell)),
      had.new ∙ sym (ap (λ (b : Bool). if b then value_made operation.command before else before) (and_true (is_about key operation.command) (has_point given) has)),
    )

    effectless : (operation : Operation) (n : ℕ) (given : Reply) (before : Value) → has_point given ≡ false → IsOperation run operation
        → Finishes run operation n given → Stands operation before (suc n) → Ended operation.command given before (suc n)
    effectless operation n given before never is ends (inl (none, now)) = (
      λ tell. let has : has_point given ≡ true = and_right (is_about key operation.command) (has_point given) tell in absurd (cc),
      now ∙ sym (ap (λ (b : Bool). if b then value_made operation.command before else before) (and_false (is_about key operation.command) (has_point given) never)),
    )
    effectless operation n given before never is ends (inr had) = absurd (pointed.pointless operation had.point n given is ends never had.own had.is)

    ended : (operation : Operation) (n : ℕ) (given : Reply) (before : Value) → IsOperation run operation → Finishes run operation n given
        → Stands operation before (suc n) → Ended operation.command given before (suc n)
    ended operation n given before is ends stands = either (has_point given)
        (λ has. effective operation n given before has is ends stands)
        (λ never. effectless operation n given before never is ends stands)

    keeps : Keeps run actor since Idle Within
    keeps = record {
      begins = λ calls asked n at idle. (idle.0, inl (λ m below own is. let begun = own.2.1.begun in omega arith, at_begin n actor asked at ∙ idle.1));
      steps = λ calls asked start n step told is own has within. (within.0, own_step asked start n step told None (value_through key first calls) is own has within.1);
      ends = λ calls asked start n step told given is own has within.
          let stands = own_step asked start n step told (Some given) (value_through key first calls) is own has within.1 in
          let end = ended (operation_at actor start asked) n given (value_through key first calls) is (step, told, own) stands in
          (one_more key first calls asked given within.0 end.0, end.1 ∙ sym (through_one key first calls asked given));
      waits = λ calls n entry late at apart idle. (idle.0, of_other n entry late at apart ∙ idle.1);
      lasts = λ calls asked start n entry late at apart within. (within.0, lasting asked start n entry late at apart (value_through key first calls) within.1);
    }
      where
        lasting : (asked : Command) (start n : ℕ) (entry : Entry) → since ≤ n → slice_get run n ≡ Some entry → is_entry_of actor entry ≡ false
            → (before : Value) → Stands (operation_at actor start asked) before n → Stands (operation_at actor start asked) before (suc n)
        lasting asked start n entry late at apart before (inl (none, now)) = inl (none_on (operation_at actor start asked) n (λ own point. not_own own) none, of_other n entry late at apart ∙ now)
          where
            not_own : IsOwnStep run (operation_at actor start asked) n → ⊥
            not_own (step, told, (said, own)) =
                let entry_is : Some entry ≡ Some (Step actor step told said) = sym at ∙ own.entry in
                let same : entry ≡ Step actor step told said = cc in
                let mine : is_entry_of actor entry ≡ true = ap (is_entry_of actor) same ∙ eq-eqb actor actor refl in cc
        lasting asked start n entry late at apart before (inr had) = inr (had_on (operation_at actor start asked) before n had (of_other n entry late at apart))

    by_now : (calls : Calls) → Now run actor since Idle Within run calls → AreOwnReplies key first calls
    by_now calls (inl (none, idle)) = idle.0
    by_now calls (inr busy) = subst (AreOwnReplies key first) (sym busy.is) (one_open key first busy.calls busy.asked busy.holds.0)

-- from a place on at which the actor had no operation
pub own_replies_since : (limits : Limits) (turns : List Turn) (front back : List Entry) (actor : ℕ) (key : List ℕ) (linear : IsLinearized limits turns (front ++ back))
    → command_of front actor ≡ None → ChangesAloneSince (front ++ back) actor key (length front)
    → AreOwnReplies key (logged_value (log_at (front ++ back) linear.points (length front)) key) (calls_of actor back)
own_replies_since limits turns front back actor key linear none alone =
    let run : List Entry = front ++ back in
    let first : Value = logged_value (log_at run linear.points (length front)) key in
    by_now limits run linear.points linear.pointed linear.answered linear.run.run key actor (length front) alone first (calls_of actor back)
    (keeps_on run actor (length front) (Idle limits run linear.points linear.pointed linear.answered linear.run.run key actor (length front) alone first)
    (Within limits run linear.points linear.pointed linear.answered linear.run.run key actor (length front) alone first)
    limits linear.run.run (keeps limits run linear.points linear.pointed linear.answered linear.run.run key actor (length front) alone first) front back refl (omega arith) none (tt, refl))

pub own_replies : (limits : Limits) (turns : List Turn) (run : List Entry) (actor : ℕ) (key : List ℕ) → IsLinearized limits turns run
    → ChangesAlone run actor key → AreOwnReplies key None (calls_of actor run)
own_replies limits turns run actor key linear alone = own_replies_since limits turns [] run actor key linear refl (record { each = λ operation n late is own may. alone.each operation is may })
