-- What an operation of a run in which one actor alone has operations adds to the log, and what it replies.
use Rattle.std.specs.Prelude.{◌≢◌, slice_get, Option}
use Rattle.running_tree.proofs.Words.{AllByRecursion, Command, Upsert, Reply, Limits, Answer, StepOf, Update, set, logged_value, reply_of, Record, Memory, slice_get_below, command_of-push}
use Rattle.std.proofs.Common.{◌≡◌, ◌<◌, ◌≤◌, ◌+◌, ◌-◌, ◌++◌, ◌⊎◌, inl, inr, ℕ, zero, suc, List, [], ◌∷◌, length, take, refl, ap, subst, ◌∙◌, true, false, Bool, Some, None, arith, length-append}
use mathlib.Core.Logic.{dite}
use native.Mathlib.Decide.{ℕ_discrete}
use Rattle.bw_model.specs.declared.command.Reply.TheVariants as kind
use Rattle.traces.specs.declared.trace.Entry.{Entry}
use Rattle.traces.specs.declared.trace.Entry.TheVariants.{Begin, Step}
use Rattle.traces.specs.trace.Trace.{command_of, memory_at}
use Rattle.linearization.specs.Answered.{IsAnswered, IsTrueReply, RepliesAt, RepliesAtPoint}
use Rattle.linearization.specs.Operations.{Finishes, IsOwnStep, Operation}
use Rattle.linearization.specs.Points.{HasPoints, IsPoint, log_at, updates_at, updates_by}
use Rattle.linearization.proofs.LogLaws.{log_at-step, take-one}
use Rattle.running_tree.proofs.Alone.{IsSilent, get_middle}

get_behind : {X : Type 0} (xs ys : List X) (j : ℕ) → slice_get (xs ++ ys) (length xs + j) ≡ slice_get ys j
get_behind [] ys j = let same : 0 + j ≡ j = omega arith in ap (slice_get ys) same
get_behind (x ∷ xs) ys j = let more : suc (length xs) + j ≡ suc (length xs + j) = omega arith in ap (slice_get (x ∷ (xs ++ ys))) more ∙ get_behind xs ys j

stands_at : {X : Type 0} (xs : List X) (n : ℕ) → n < length xs → (x : X) × (slice_get xs n ≡ Some x)
stands_at [] n below = absurd (omega (arith, below))
stands_at (x ∷ xs) zero below = (x, refl)
stands_at (x ∷ xs) (suc n) below = stands_at xs n (omega (arith, below))

silent_at : (mid more : List Entry) (j : ℕ) → AllByRecursion IsSilent mid → j < length mid → (entry : Entry) × (slice_get (mid ++ more) j ≡ Some entry) × IsSilent entry
silent_at [] more j all below = absurd (omega (arith, below))
silent_at (entry ∷ mid) more zero all below = (entry, refl, all.0)
silent_at (entry ∷ mid) more (suc j) all below = silent_at mid more j all.1 (omega (arith, below))

-- where no step is a point, the log stays
flat : (entries : List Entry) (points : List Bool) (from d : ℕ) → length points ≡ length entries → from + d ≤ length entries → ((n : ℕ) → from ≤ n → n < from + d → IsPoint points n → ⊥)
    → log_at entries points (from + d) ≡ log_at entries points from
flat entries points from zero beside few none = let same : from + 0 ≡ from = omega arith in ap (log_at entries points) same
flat entries points from (suc d) beside few none =
    let more : from + suc d ≡ suc (from + d) = omega arith in
    let here : from + d < length entries = omega (arith, few) in
    let there : from + d < length points = omega (arith, here, beside) in
    let (entry, at) = stands_at entries (from + d) here in
    let (marked, mark) = stands_at points (from + d) there in
    let before : log_at entries points (from + d) ≡ log_at entries points from = flat entries points from d beside (omega (arith, few)) (λ n low high. none n low (omega (arith, high))) in
    ap (log_at entries points) more ∙ by_mark entry marked at mark ∙ before
  where
    by_mark : (entry : Entry) (marked : Bool) → slice_get entries (from + d) ≡ Some entry → slice_get points (from + d) ≡ Some marked
        → log_at entries points (suc (from + d)) ≡ log_at entries points (from + d)
    by_mark entry true at mark = absurd (none (from + d) (omega arith) (omega arith) mark)
    by_mark entry false at mark = log_at-step entries points (from + d) entry false beside at mark

step_or_begin : (o : Option Entry) (a b : ℕ) (step : StepOf Record) (answer : Answer Record) (reply : Option Reply) (command : Command)
    → o ≡ Some (Step a step answer reply) → o ≡ Some (Begin b command) → ⊥
step_or_begin o a b step answer reply command e f = cc

-- the operation's entries, from its begin to its last step
module _ (limits : Limits) (entries : List Entry) (points : List Bool) (pointed : HasPoints entries points) (says : IsAnswered limits entries points)
    (before mid after : List Entry) (key value : List ℕ) (step : StepOf Record) (answer : Answer Record) (reply : Reply)
    (is : entries ≡ before ++ Begin 0 (Upsert key value) ∷ (mid ++ Step 0 step answer (Some reply) ∷ after)) (silent : AllByRecursion IsSilent mid)
    (ends : (after ≡ []) ⊎ ((command : Command) × (rest : List Entry) × (after ≡ Begin 0 command ∷ rest))) (some : reply ≢ kind.Full) where
  abbrev asked : Command
  asked = Upsert key value

  abbrev start : ℕ
  start = length before

  abbrev last : ℕ
  last = length before + suc (length mid)

  abbrev operation : Operation
  operation = record { start = start; actor = 0; command = asked }

  begins : slice_get entries start ≡ Some (Begin 0 asked)
  begins = ap (λ es. slice_get es start) is ∙ get_middle before (Begin 0 asked) (mid ++ Step 0 step answer (Some reply) ∷ after)

  behind : (j : ℕ) → slice_get entries (start + suc j) ≡ slice_get (mid ++ Step 0 step answer (Some reply) ∷ after) j
  behind j = ap (λ es. slice_get es (start + suc j)) is ∙ get_behind before (Begin 0 asked ∷ (mid ++ Step 0 step answer (Some reply) ∷ after)) (suc j)

  ends_at : slice_get entries last ≡ Some (Step 0 step answer (Some reply))
  ends_at = behind (length mid) ∙ get_middle mid (Step 0 step answer (Some reply)) after

  silent_then : (n : ℕ) → start < n → n < last → (one : StepOf Record) × (told : Answer Record) × (slice_get entries n ≡ Some (Step 0 one told None))
  silent_then n low high =
      let place : n ≡ start + suc (n - suc start) = omega (arith, low) in
      let few : n - suc start < length mid = omega (arith, low, high) in
      let (entry, at, (one, told, same)) = silent_at mid (Step 0 step answer (Some reply) ∷ after) (n - suc start) silent few in
      (one, told, ap (slice_get entries) place ∙ behind (n - suc start) ∙ at ∙ ap Some same)

  a_step : (n : ℕ) → start < n → n ≤ last → (one : StepOf Record) × (told : Answer Record) × (given : Option Reply) × (slice_get entries n ≡ Some (Step 0 one told given))
  a_step n low high = dite (ℕ_discrete n last)
      (λ same. (step, answer, Some reply, ap (slice_get entries) same ∙ ends_at))
      (λ other. let (one, told, at) = silent_then n low (omega (arith, high, other)) in (one, told, None, at))

  no_begin : (n : ℕ) → start < n → n ≤ last → (command : Command) → slice_get entries n ≡ Some (Begin 0 command) → ⊥
  no_begin n low high command at = let (one, told, given, is_step) = a_step n low high in step_or_begin (slice_get entries n) 0 0 one told given command is_step at

  own : (n : ℕ) → start < n → n ≤ last → IsOwnStep entries operation n
  own n low high =
      let (one, told, given, at) = a_step n low high in
      (one, told, (given, record { begun = low; entry = at; not_ended = λ later command after_it before_it. no_begin later after_it (omega (arith, before_it, high)) command }))

  finishes : Finishes entries operation last reply
  finishes = (step, answer, record { begun = omega arith; entry = ends_at; not_ended = λ later command after_it before_it. no_begin later after_it (omega (arith, before_it)) command })

  in_run : last < length entries
  in_run = slice_get_below entries last (Step 0 step answer (Some reply)) ends_at

  -- no step after the last one is its
  next_is : (after' : List Entry) → after ≡ after' → slice_get entries (suc last) ≡ slice_get after' 0
  next_is after' same =
      let place : suc last ≡ start + suc (suc (length mid)) = omega arith in
      let more : suc (length mid) ≡ length mid + 1 = omega arith in
      ap (slice_get entries) place ∙ behind (suc (length mid)) ∙ ap (slice_get (mid ++ Step 0 step answer (Some reply) ∷ after)) more
      ∙ get_behind mid (Step 0 step answer (Some reply) ∷ after) 1 ∙ ap (λ es. slice_get es 0) same

  whole_length : length entries ≡ suc last + length after
  whole_length =
      let all : length entries ≡ length before + suc (length (mid ++ Step 0 step answer (Some reply) ∷ after)) = ap length is ∙ length-append before _ in
      let rest : length (mid ++ Step 0 step answer (Some reply) ∷ after) ≡ length mid + suc (length after) = length-append mid _ in
      omega (arith, all, rest)

  not_after : (n : ℕ) → IsOwnStep entries operation n → n ≤ last
  not_after n (one, told, (given, at)) = dite (ℕ_discrete n last)
      (λ same. omega (arith, same))
      (λ other. elim ends [
        | inl none ↦ let below = slice_get_below entries n _ at.entry in let nothing : length after ≡ 0 = ap length none in omega (arith, below, nothing, whole_length, other)
        | inr next ↦ dite (ℕ_discrete n (suc last))
            (λ same. absurd (step_or_begin (slice_get entries n) 0 0 one told given next.0 at.entry (ap (slice_get entries) same ∙ next_is (Begin 0 next.0 ∷ next.1) next.2)))
            (λ beyond. by_order next.0 (next_is (Begin 0 next.0 ∷ next.1) next.2) n other beyond at.not_ended)
      ])
    where
      by_order : (command : Command) → slice_get entries (suc last) ≡ Some (Begin 0 command) → (n : ℕ) → n ≢ last → n ≢ suc last
          → ((later : ℕ) (command : Command) → start < later → later < n → slice_get entries later ≡ Some (Begin 0 command) → ⊥) → n ≤ last
      by_order command next n other beyond ended = by_contradiction (n_or n)
        where
          n_or : (n : ℕ) → (n ≤ last) ⊎ (last < n)
          n_or n = grind (arith)

          by_contradiction : (n ≤ last) ⊎ (last < n) → n ≤ last
          by_contradiction (inl low) = low
          by_contradiction (inr high) = absurd (ended (suc last) command (omega arith) (omega (arith, high, other, beyond)) next)

  -- its command stands until its last step
  command_then : (j : ℕ) → j ≤ length mid → command_of (take (start + suc j) entries) 0 ≡ Some asked
  command_then zero few =
      let place : start + 1 ≡ suc start = omega arith in
      ap (λ n. command_of (take n entries) 0) place ∙ ap (λ es. command_of es 0) (take-one entries start (Begin 0 asked) begins) ∙ ap (λ cs. cs 0)
      (command_of-push (take start entries) (Begin 0 asked))
  command_then (suc j) few =
      let place : start + suc (suc j) ≡ suc (start + suc j) = omega arith in
      let (one, told, at) = silent_then (start + suc j) (omega arith) (omega (arith, few)) in
      ap (λ n. command_of (take n entries) 0) place ∙ ap (λ es. command_of es 0) (take-one entries (start + suc j) (Step 0 one told None) at)
      ∙ ap (λ cs. cs 0) (command_of-push (take (start + suc j) entries) (Step 0 one told None)) ∙ command_then j (omega (arith, few))

  command_at : (n : ℕ) → start < n → n ≤ last → command_of (take n entries) 0 ≡ Some asked
  command_at n low high =
      let place : n ≡ start + suc (n - suc start) = omega (arith, low) in
      ap (λ n. command_of (take n entries) 0) place ∙ command_then (n - suc start) (omega (arith, low, high))

  replied : (given : Reply) → given ≢ kind.Full → IsTrueReply limits entries points operation given → RepliesAtPoint limits entries points operation given
  replied kind.Full full says = absurd (full refl)
  replied kind.Tidied full says = let asks = says.asks in cc
  replied (kind.Value v) full says = says
  replied kind.None full says = says
  replied kind.Inserted full says = says
  replied (kind.Exists v) full says = says
  replied kind.Set full says = says
  replied (kind.Replaced v) full says = says
  replied (kind.Deleted v) full says = says
  replied kind.Absent full says = says
  replied kind.Swapped full says = says
  replied (kind.Differs v) full says = says
  replied (kind.Page items next) full says = says
  replied (kind.BackPage items next) full says = says

  abbrev old_log : List Update
  old_log = log_at entries points start

  at_point : (log : List Update) (memory : Memory) → RepliesAt memory log asked reply → reply_of asked (logged_value log key) ≡ Some reply
  at_point log memory (inl by_key) = by_key
  at_point log memory (inr (inl page)) = let asks = page.asks in cc
  at_point log memory (inr (inr page)) = let asks = page.asks in cc

  -- the operation adds its update to the log, and replies by the log before
  pub adds : (log_at entries points (suc last) ≡ log_at entries points start ++ set 0 key value ∷ []) × (reply_of (Upsert key value) (logged_value (log_at entries points start) key) ≡ Some reply)
  adds =
      let (m, owns, point, replies) = replied reply some (says.each operation last reply begins finishes) in
      let (one, told, (given, at)) = owns in
      let low : start < m = at.begun in
      let high : m ≤ last = not_after m owns in
      let first : log_at entries points m ≡ old_log = flat_between start m (omega (arith, low)) (omega (arith, high, in_run)) (λ n from to point'. before_point m owns point n from to high point') in
      let next : log_at entries points (suc m) ≡ log_at entries points m ++ updates_at (take m entries) (Step 0 one told given) (log_at entries points m) = log_at-step
      entries points m (Step 0 one told given) true pointed.beside at.entry point in
      let added : updates_at (take m entries) (Step 0 one told given) (log_at entries points m) ≡ set 0 key value ∷ [] = ap (λ o. updates_by 0 o (log_at entries points m)) (command_at m low high) in
      let rest : log_at entries points (suc last) ≡ log_at entries points (suc m) = flat_between (suc m) (suc last) (omega (arith, high))
      (omega (arith, in_run)) (λ n from to point'. after_point m owns point n from (omega (arith, to)) low point') in (
        rest ∙ next ∙ ap (λ more. log_at entries points m ++ more) added ∙ ap (λ log. log ++ set 0 key value ∷ []) first,
        subst (λ log. reply_of asked (logged_value log key) ≡ Some reply) first (at_point (log_at entries points m) (memory_at limits entries m) replies),
      )
    where
      flat_between : (from to : ℕ) → from ≤ to → to ≤ length entries → ((n : ℕ) → from ≤ n → n < to → IsPoint points n → ⊥) → log_at entries points to ≡ log_at entries points from
      flat_between from to low high none =
          let place : to ≡ from + (to - from) = omega (arith, low) in
          ap (log_at entries points) place ∙ flat entries points from (to - from) pointed.beside (omega (arith, high, low)) (λ n up down. none n up (omega (arith, down, low)))

      same_point : (m n : ℕ) → IsOwnStep entries operation m → IsPoint points m → start < n → n ≤ last → IsPoint points n → n ≡ m
      same_point m n owns point low high point' = pointed.one operation n m begins (own n low high) owns point' point

      before_point : (m : ℕ) → IsOwnStep entries operation m → IsPoint points m → (n : ℕ) → start ≤ n → n < m → m ≤ last → IsPoint points n → ⊥
      before_point m owns point n from to high point' = dite (ℕ_discrete n start)
          (λ same.
          let (other, starts, (one, told, (given, at))) = pointed.own n point' in
          step_or_begin (slice_get entries n) other.actor 0 one told given asked at.entry (ap (slice_get entries) same ∙ begins))
          (λ later. let same = same_point m n owns point (omega (arith, from, later)) (omega (arith, to, high)) point' in omega (arith, same, to))

      after_point : (m : ℕ) → IsOwnStep entries operation m → IsPoint points m → (n : ℕ) → suc m ≤ n → n ≤ last → start < m → IsPoint points n → ⊥
      after_point m owns point n from to low point' = let same = same_point m n owns point (omega (arith, from, low)) to point' in omega (arith, same, from)
