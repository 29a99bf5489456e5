-- What two calls reply, where the second one begins after the first one has returned.
use Rattle.map_laws.proofs.Words.{Answer, Begin, Bool, ComesBefore, Command, Entry, Finishes, Get, HasPoints, IsAnswered, IsDone, IsOneHistory, IsOperation}
use Rattle.map_laws.proofs.Words.{IsOwnStep, IsPoint, IsRun, IsSame, IsTrue, Limits, List, Operation, Option, Record, Reply, Seat, Some, Step, StepOf, Upsert}
use Rattle.map_laws.proofs.Words.{and_left, and_right, ap, arith, dec_le, dite, either, false, fits, has_point, if◌then◌else◌, inl, inr, is_about, length}
use Rattle.map_laws.proofs.Words.{log_at, map, may_change, memory_at, operation_at, reply_of, slice_get, slice_get_below, suc, sym, tells, true, turn_of}
use Rattle.map_laws.proofs.Words.{value_made, value_then, zero, ℕ, [], ◌+◌, ◌-◌, ◌<◌, ◌∙◌, ◌≡◌, ◌≤◌, ◌⊎◌}
use Rattle.std.proofs.Common.{◌≢◌}
use Rattle.map_laws.specs.RealTime.{AreApart, ChangedByTwo, ReplyInOrder, call_operation}
use Rattle.bw_model.specs.declared.command.Reply.TheVariants as reply
use Rattle.map_laws.proofs.Ending.{own_before}
use Rattle.map_laws.proofs.Fitting.{reply_fits}
use Rattle.map_laws.proofs.OwnKeys.{Value, and_false, and_true, at_begin, at_key, kept_by, mark_at, marked_step, owner, replied, stands_at, unmarked, value_at}
use Rattle.map_laws.proofs.ReadBack.{read_back}
use Rattle.map_laws.proofs.Whole.{are_apart, whole, last}

-- two operations that have one step are begun by the same command
same_command : (run : List Entry) (one other : Operation) (n : ℕ) → IsOperation run one → IsOperation run other → IsOwnStep run one n → IsOwnStep run other n → one.command ≡ other.command
same_command run one other n is is' (step, told, (said, own)) (step', told', (said', own')) =
    let entries : Some (Step one.actor step told said) ≡ Some (Step other.actor step' told' said') = sym own.entry ∙ own'.entry in
    let actors : one.actor ≡ other.actor = cc in
    dite (dec_le (suc one.start) other.start)
    (λ before. absurd (own.not_ended other.start other.command before own'.begun (is' ∙ ap (λ a. Some (Begin a other.command)) (sym actors))))
    (λ not_before. dite (dec_le (suc other.start) one.start)
    (λ after. absurd (own'.not_ended one.start one.command after own.begun (is ∙ ap (λ a. Some (Begin a one.command)) actors)))
    (λ not_after. let starts : one.start ≡ other.start = omega (arith, not_before, not_after) in
    let begins : Some (Begin one.actor one.command) ≡ Some (Begin other.actor other.command) = sym is ∙ ap (slice_get run) starts ∙ is' in cc))

module _ (limits : Limits) (run : List Entry) (points : List Bool) (pointed : HasPoints run points) (answered : IsAnswered limits run points) (is_run : IsRun limits run) (key : List ℕ) where
  abbrev value : ℕ → Value
  value n = value_at limits run points pointed answered is_run key n

  -- no operation that may change the key's value takes effect here
  abbrev Nobody : ℕ → Type 0
  Nobody n = IsPoint points n → (operation : Operation) → IsOperation run operation → IsOwnStep run operation n → IsTrue (may_change key operation.command) → ⊥

  quiet_step : (n actor : ℕ) (step : StepOf Record) (told : Answer Record) (said : Option Reply) (marked : Bool) → slice_get run n ≡ Some (Step actor step told said)
      → slice_get points n ≡ Some marked → Nobody n → value (suc n) ≡ value n
  quiet_step n actor step told said false at mark nobody = unmarked limits run points pointed answered is_run key n (Step actor step told said) at mark
  quiet_step n actor step told said true at mark nobody =
      let (asked, start, has, is, own) = owner limits run points pointed answered is_run key n actor step told said at in
      marked_step limits run points pointed answered is_run key n actor step told said asked at mark has
      ∙ kept_by limits run points pointed answered is_run key asked (value n) (either (may_change key asked) (λ may. absurd (nobody mark (operation_at actor start asked) is own may)) (λ never. never))

  quiet : (n : ℕ) (entry : Entry) → slice_get run n ≡ Some entry → Nobody n → value (suc n) ≡ value n
  quiet n (Begin actor asked) at nobody = at_begin limits run points pointed answered is_run key n actor asked at
  quiet n (Step actor step told said) at nobody = let m = mark_at limits run points pointed answered is_run key n (Step actor step told said) at in quiet_step n actor step told said m.0 at m.1 nobody

  for_long : (from many : ℕ) → from + many ≤ length run → ((n : ℕ) → from ≤ n → n < from + many → Nobody n) → value (from + many) ≡ value from
  for_long from zero within nobody = let e : from + zero ≡ from = omega arith in ap value e
  for_long from (suc many) within nobody =
      let e : from + suc many ≡ suc (from + many) = omega arith in
      let entry = stands_at run (from + many) (omega arith) in
      ap value e ∙ quiet (from + many) entry.0 entry.1 (nobody (from + many) (omega arith) (omega arith)) ∙ for_long from many (omega arith) (λ n low high. nobody n low (omega arith))

  until : (from to : ℕ) → from ≤ to → to ≤ length run → ((n : ℕ) → from ≤ n → n < to → Nobody n) → value to ≡ value from
  until from to le within nobody =
      let e : from + (to - from) ≡ to = omega arith in
      ap value (sym e) ∙ for_long from (to - from) (omega arith) (λ n low high. nobody n low (omega arith))

  -- an operation takes effect at its point
  after_point : (operation : Operation) (n : ℕ) → IsOperation run operation → IsOwnStep run operation n → IsPoint points n
      → value (suc n) ≡ (if is_about key operation.command then value_made operation.command (value n) else value n)
  after_point operation n is (step, told, (said, own)) point =
      let (asked, start, has, begins, owned) = owner limits run points pointed answered is_run key n operation.actor step told said own.entry in
      let same : asked ≡ operation.command = same_command run (operation_at operation.actor start asked) operation n begins is owned (step, told, (said, own)) in
      marked_step limits run points pointed answered is_run key n operation.actor step told said asked own.entry point has
      ∙ ap (λ (c : Command). if is_about key c then value_made c (value n) else value n) same

  below : (operation : Operation) (n : ℕ) → IsOwnStep run operation n → n < length run
  below operation n (step, told, (said, own)) = slice_get_below run n (Step operation.actor step told said) own.entry

  -- what an operation replied that had its point where the key had this value
  told_at : (operation : Operation) (done : ℕ) (given : Reply) → IsOperation run operation → Finishes run operation done given → has_point given ≡ true
      → (m : ℕ) × IsOwnStep run operation m × IsPoint points m × (IsTrue (tells key operation.command given) → reply_of operation.command (value m) ≡ Some given)
  told_at operation done given is ends has =
      let (m, own, point, replies) = replied limits run points operation given has (answered.each operation done given is ends) in (
        m,
        own,
        point,
        λ tell. at_key key (log_at run points m) (memory_at limits run m) operation.command given replies (and_left (is_about key operation.command) (has_point given) tell),
      )

  module _ (first second : Operation) (given told : Reply) (apart : AreApart run first second given) (done : ℕ) (finishes : Finishes run second done told)
      (two : ChangedByTwo run key first second) where
    abbrev start_value : Value
    start_value = value first.start

    -- what the first operation left
    abbrev left : Value
    left = value_then key start_value first.command given

    -- from some place after the first one's point on, and before the second one's, the key has that value
    abbrev LeftAt : Type 0
    LeftAt = (from : ℕ) × (first.start ≤ from) × (from ≤ suc apart.done) × (value from ≡ left) × ((n : ℕ) → from ≤ n → IsPoint points n → IsOwnStep run first n → ⊥)

    no_tell : (command : Command) (answer : Reply) → has_point answer ≡ false → tells key command answer ≡ false
    no_tell command answer never = and_false (is_about key command) (has_point answer) never

    second_says : (from : ℕ) → first.start ≤ from → from ≤ suc apart.done → value from ≡ left → ((n : ℕ) → from ≤ n → IsPoint points n → IsOwnStep run first n → ⊥)
        → IsTrue (tells key second.command told) → reply_of second.command left ≡ Some told
    second_says from late early is_left never tell =
        let (m, own, point, replies) = told_at second done told apart.begins finishes (and_right (is_about key second.command) (has_point told) tell) in
        let after = own.2.1.begun in
        let order = apart.apart in
        let end = below second m own in
        let same : value m ≡ value from = until from m (omega arith) (omega arith) (λ n low high point' operation is own' may.
        by m own point n low high point' (two.each operation n (omega arith) is own' may) own') in
        rw (← (same ∙ is_left)) (replies tell)
      where
        by : (m : ℕ) → IsOwnStep run second m → IsPoint points m → (n : ℕ) → from ≤ n → n < m → IsPoint points n → {operation : Operation} → (operation ≡ first) ⊎ (operation ≡ second)
            → IsOwnStep run operation n → ⊥
        by m own point n low high point' (inl same) own' = never n low point' (rw (← same) own')
        by m own point n low high point' (inr same) own' =
            let one : n ≡ m = pointed.one second n m apart.begins (rw (← same) own') own point' point in omega arith

    both : (IsTrue (tells key first.command given) → reply_of first.command start_value ≡ Some given) → LeftAt → ReplyInOrder key first.command given second.command told
    both says (from, late, early, is_left, never) = (start_value, (says, (second_says from late early is_left never, tt)))

    had_point : has_point given ≡ true → ReplyInOrder key first.command given second.command told
    had_point has =
        let (m, own, point, replies) = told_at first apart.done given apart.opens apart.ends has in
        let after = own.2.1.begun in
        let low : m ≤ apart.done = own_before limits run is_run first apart.done given apart.ends m own in
        let end = below first m own in
        let old : value m ≡ start_value = until first.start m (omega arith) (omega arith) (λ n late near point' operation is own' may.
        by m own point n low near point' (two.each operation n late is own' may) own') in
        let new : value (suc m) ≡ left =
        after_point first m apart.opens own point ∙ ap (λ (v : Value). if is_about key first.command then value_made first.command v else v) old
        ∙ sym (ap (λ (b : Bool). if b then value_made first.command start_value else start_value) (and_true (is_about key first.command) (has_point given) has)) in
        both (λ tell. rw (← old) (replies tell))
        (suc m, omega arith, omega arith, new, λ n late point' own'. let one : n ≡ m = pointed.one first n m apart.opens own' own point' point in omega arith)
      where
        by : (m : ℕ) → IsOwnStep run first m → IsPoint points m → (n : ℕ) → m ≤ apart.done → n < m → IsPoint points n → {operation : Operation} → (operation ≡ first) ⊎ (operation ≡ second)
            → IsOwnStep run operation n → ⊥
        by m own point n low near point' (inl same) own' =
            let one : n ≡ m = pointed.one first n m apart.opens (rw (← same) own') own point' point in omega arith
        by m own point n low near point' (inr same) own' = let later = apart.steps m n own (rw (← same) own') in omega arith

    had_none : has_point given ≡ false → ReplyInOrder key first.command given second.command told
    had_none never =
        let quiet_one : tells key first.command given ≡ false = no_tell first.command given never in
        let begun = apart.ends.2.begun in
        both (λ tell. let is : true ≡ false = sym tell ∙ quiet_one in cc) (
          first.start,
          omega arith,
          omega arith,
          sym (ap (λ (b : Bool). if b then value_made first.command start_value else start_value) quiet_one),
          λ n late point own. pointed.pointless first n apart.done given apart.opens apart.ends never own point,
        )

    pub two_calls : ReplyInOrder key first.command given second.command told
    two_calls = either (has_point given) had_point had_none

module _ (old first : Seat) (command : Command) (budget : ℕ) (given : Reply) (same : IsSame old first) (is : IsDone old command budget given first)
    (later new : Seat) (asked : Command) (comes : ComesBefore first given later asked new) (history : IsOneHistory new.limits new.seen) where
  abbrev one : Operation
  one = call_operation old command first.seen is.begins

  abbrev other : Operation
  other = call_operation later asked new.seen comes.begins

  pub apart_in_history : AreApart new.seen one other given
  apart_in_history = are_apart old first command budget given same is later new asked comes new.limits history.linearized.run.run

  module _ (more : ℕ) (told : Reply) (same_later : IsSame later new) (done : IsDone later asked more told new) (key : List ℕ) (two : ChangedByTwo new.seen key one other) where
    finishes : Finishes new.seen other (last later new asked more told same_later done comes.begins) told
    finishes = whole later new asked more told same_later done comes.begins

    pub replies_in_order : ReplyInOrder key command given asked told
    replies_in_order = two_calls new.limits new.seen history.linearized.points history.linearized.pointed history.linearized.answered history.linearized.run.run key one other given told
        apart_in_history (last later new asked more told same_later done comes.begins) finishes two

    pub first_fits : IsTrue (fits command given)
    first_fits = reply_fits new.limits (map turn_of new.seen) new.seen history.linearized one apart_in_history.done given apart_in_history.opens apart_in_history.ends

    pub second_fits : IsTrue (fits asked told)
    second_fits = reply_fits new.limits (map turn_of new.seen) new.seen history.linearized other (last later new asked more told same_later done comes.begins) told apart_in_history.begins finishes

-- a lookup shows what an upsert has set that has returned
pub reads_later : (old first : Seat) (key value : List ℕ) (budget : ℕ) (given : Reply) → (same : IsSame old first) → (is : IsDone old (Upsert key value) budget given first)
    → (later new : Seat) (comes : ComesBefore first given later (Get key) new) → IsOneHistory new.limits new.seen
    → (more : ℕ) (told : Reply) → IsSame later new → IsDone later (Get key) more told new
    → ChangedByTwo new.seen key (call_operation old (Upsert key value) first.seen is.begins) (call_operation later (Get key) new.seen comes.begins)
    → given ≢ reply.Full → told ≡ reply.Value value
reads_later old first key value budget given same is later new comes history more told same_later done two full =
    let (before, are) = replies_in_order old first (Upsert key value) budget given same is later new (Get key) comes history more told same_later done key two in
    read_back key before [] value given told are
    (first_fits old first (Upsert key value) budget given same is later new (Get key) comes history more told same_later done key two)
    (second_fits old first (Upsert key value) budget given same is later new (Get key) comes history more told same_later done key two) full
