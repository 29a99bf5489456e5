-- All operations together take few steps, where nobody has placed a removal.
use Rattle.progress.proofs.Words.{◌≡◌, ◌<◌, ◌≤◌, ◌+◌, ◌-◌, ◌*◌, ◌⊎◌, ℕ, zero, suc, List, [], ◌∷◌, Option, None, Some, Bool, true, false, cond, take, refl, sym, ap, ◌∙◌, inl, inr, arith}
use Rattle.progress.proofs.Words.{mul-add, mul-le-mul_left, cases_lt, eqb_tells, count_by, ◌==◌, slice_get, Limits, Command, Entry, Begin, Step, cause_worth, IsRun, command_of, commands_after}
use Rattle.progress.proofs.Words.{HasFewChanges, IsDirect, KeepsPhases, is_step_of, IsOperation, IsOwnStep, Operation, get_take, take_past, AreAmong, ChangesTree, is_begin, steps_from}
use Rattle.progress.proofs.Words.{takes_number, PlacesNoRemoval}
use Rattle.linearization.specs.Progress.{is_end, is_step}
use Rattle.linearization.specs.UntilRemoval.{AreLockFreeUntilRemoval}
use Rattle.progress.proofs.Begun.{LastBegin, actor_below, begins_here, command_next, last_begin, one_on}
use Rattle.progress.proofs.Hindering.{happens, hinder, hinder_parts, is_change, paid_by_hinder}
use Rattle.progress.proofs.Tallies.{counted_range, counted_taken, listed, one_at_most, passes, passes_in, sum, sum_both, sum_less, sum_none, sum_one, sum_worth, itself}
use Rattle.progress.proofs.Tallies.{tally, tally_grows, tally_none, tally_split}

-- the entry begins an operation of the actor's
abbrev begin_of : ℕ → Entry → Bool
begin_of actor (Begin other command) = other == actor
begin_of actor (Step other step answer reply) = false

-- the entry ends one of the actor's
abbrev end_of : ℕ → Entry → Bool
end_of actor (Begin other command) = false
end_of actor (Step other step answer None) = false
end_of actor (Step other step answer (Some reply)) = other == actor

-- whether an operation is under way, as a number
abbrev under_way : Option Command → ℕ
under_way None = 0
under_way (Some command) = 1

at_most_one : (o : Option Command) → under_way o ≤ 1
at_most_one None = omega arith
at_most_one (Some command) = omega arith

sum_ones : (n : ℕ) → sum (λ i. 1) n ≡ n
sum_ones zero = refl
sum_ones (suc n) = let rest = sum_ones n in omega (arith, rest)

-- an earlier part places no removal either
none_before : (entries : List Entry) (m n : ℕ) → m ≤ n → PlacesNoRemoval (take n entries) → PlacesNoRemoval (take m entries)
none_before entries m n le none k actor row remove answer (reply, is) = elim (cases_lt k m) [
  | inl lt ↦ none k actor row remove answer (reply, get_take entries k n (omega arith) ∙ sym (get_take entries k m lt) ∙ is)
  | inr ge ↦ absurd (let e = beyond entries m k ge in cc (e, is))
]
  where
    beyond : {X : Type 0} (xs : List X) (m k : ℕ) → m ≤ k → slice_get (take m xs) k ≡ None
    beyond xs zero k le = refl
    beyond [] (suc m) k le = refl
    beyond (x ∷ xs) (suc m) zero le = absurd (omega arith)
    beyond (x ∷ xs) (suc m) (suc k) le = beyond xs m k (omega arith)

module _ (limits : Limits) (entries : List Entry) where
  -- Over all actors.
  abbrev by_actor : (ℕ → Entry → Bool) → ℕ → ℕ → ℕ
  by_actor p n a = tally (passes_in (p a) entries) 0 n

  module _ (p : ℕ → Entry → Bool) (q : Entry → Bool) (one : (k : ℕ) (e : Entry) → slice_get entries k ≡ Some e → sum (λ a. cond (p a e) 1 0) limits.actors ≡ cond (q e) 1 0) where
    one_place : (k : ℕ) (o : Option Entry) → slice_get entries k ≡ o → sum (λ a. cond (passes (p a) o) 1 0) limits.actors ≡ cond (passes q o) 1 0
    one_place k None at = sum_none (λ a. 0) limits.actors (λ i lt. refl)
    one_place k (Some e) at = one k e at

    sum_actors : (n : ℕ) → sum (by_actor p n) limits.actors ≡ tally (passes_in q entries) 0 n
    sum_actors zero = sum_none (λ a. 0) limits.actors (λ i lt. refl)
    sum_actors (suc n) =
        let rest = sum_actors n in
        let here : sum (λ a. cond (passes_in (p a) entries (0 + n)) 1 0) limits.actors ≡ cond (passes_in q entries (0 + n)) 1 0 = one_place (0 + n) (slice_get entries (0 + n)) refl in
        let both : sum (by_actor p (suc n)) limits.actors ≡ sum (by_actor p n) limits.actors + sum (λ a. cond (passes_in (p a) entries (0 + n)) 1 0) limits.actors
        = sum_both (by_actor p n) (λ a. cond (passes_in (p a) entries (0 + n)) 1 0) limits.actors in
        omega (arith, rest, here, both)

module _ (limits : Limits) (entries : List Entry) (run : IsRun limits entries) where
  one_step : (k : ℕ) (e : Entry) → slice_get entries k ≡ Some e → sum (λ a. cond (is_step_of a e) 1 0) limits.actors ≡ cond (is_step e) 1 0
  one_step k (Begin b c) at = sum_none (λ a. 0) limits.actors (λ i lt. refl)
  one_step k (Step b s x r) at = sum_one b limits.actors (actor_below limits entries run k b s x r at)

  one_begin : (k : ℕ) (e : Entry) → slice_get entries k ≡ Some e → sum (λ a. cond (begin_of a e) 1 0) limits.actors ≡ cond (is_begin e) 1 0
  one_begin k (Begin b c) at = sum_one b limits.actors (run.each k (Begin b c) at).0
  one_begin k (Step b s x r) at = sum_none (λ a. 0) limits.actors (λ i lt. refl)

-- Where hindrances pay for each operation, each of them for so many steps.
module _ (limits : Limits) (entries : List Entry) (run : IsRun limits entries) (worth top : ℕ)
    (pays : (op : Operation) (n : ℕ) → n ≤ top → IsOperation entries op → IsOwnStep entries op n
    → steps_from entries op.actor op.start n ≤ worth * (tally (hinder limits entries op.actor) op.start (suc n - op.start) + 1)) where
  module _ (a : ℕ) where
    abbrev steps : ℕ → Bool
    steps = passes_in (is_step_of a) entries

    abbrev begins : ℕ → Bool
    begins = passes_in (begin_of a) entries

    -- an entry is a step of the actor, or none
    mine : (k : ℕ) → (steps k ≡ false) ⊎ ((e : Entry) × (slice_get entries k ≡ Some e) × (is_step_of a e ≡ true))
    mine k = by_entry (slice_get entries k) refl
      where
        by_test : (e : Entry) (b : Bool) → is_step_of a e ≡ b → slice_get entries k ≡ Some e → (steps k ≡ false) ⊎ ((e : Entry) × (slice_get entries k ≡ Some e) × (is_step_of a e ≡ true))
        by_test e false is at = inl (ap (passes (is_step_of a)) at ∙ is)
        by_test e true is at = inr (e, at, is)

        by_entry : (o : Option Entry) → slice_get entries k ≡ o → (steps k ≡ false) ⊎ ((e : Entry) × (slice_get entries k ≡ Some e) × (is_step_of a e ≡ true))
        by_entry None at = inl (ap (passes (is_step_of a)) at)
        by_entry (Some e) at = by_test e (is_step_of a e) refl at

    -- the steps of one operation so far
    module _ (start : ℕ) (c : Command) (begun : slice_get entries start ≡ Some (Begin a c)) where
      abbrev op : Operation
      op = record { start = start; actor = a; command = c }

      span : (k : ℕ) → start + k ≤ top → ((later : ℕ) (d : Command) → start < later → later < start + k → slice_get entries later ≡ Some (Begin a d) → ⊥)
          → tally steps start k ≤ worth * (tally (hinder limits entries a) start k + 1)
      span zero le unended = omega arith
      span (suc k) le unended = elim (mine (start + k)) [
        | inl isnt ↦
            let rest = span k (omega arith) (λ later d after before. unended later d after (omega arith)) in
            let here : cond {A = ℕ} (steps (start + k)) 1 0 ≡ 0 = rw isnt in
            let more = tally_grows (hinder limits entries a) start k (suc k) (omega arith) in
            let grown : worth * (tally (hinder limits entries a) start k + 1) ≤ worth * (tally (hinder limits entries a) start (suc k) + 1) = mul-le-mul_left
            (worth) (omega (arith, more)) in
            omega (arith, rest, here, grown)
        | inr is ↦ by_step k le unended is.0 is.1 is.2
      ]
        where
          by_step : (k : ℕ) → start + suc k ≤ top → ((later : ℕ) (d : Command) → start < later → later < start + suc k → slice_get entries later ≡ Some (Begin a d) → ⊥)
              → (e : Entry) → slice_get entries (start + k) ≡ Some e → is_step_of a e ≡ true → tally steps start (suc k) ≤ worth * (tally (hinder limits entries a) start (suc k) + 1)
          by_step zero le unended e at is = let same : start + 0 ≡ start = omega arith in absurd (begin_steps e (sym (rw same at at) ∙ begun) is)
            where
              begin_steps : (e : Entry) → Some e ≡ Some (Begin a c) → is_step_of a e ≡ true → ⊥
              begin_steps (Begin b d) same is = cc
              begin_steps (Step b s x r) same is = cc
          by_step (suc k) le unended (Begin b d) at is = absurd (cc)
          by_step (suc k) le unended (Step b s x r) at is =
              let same : b ≡ a = elim (eqb_tells b a) [ inl e ↦ e.1 | inr apart ↦ absurd (cc (is, apart.0)) ] in
              let entry : slice_get entries (start + suc k) ≡ Some (Step a s x r) = at ∙ ap (λ b. Some (Step b s x r)) same in
              let paid = pays op (start + suc k) (omega arith) begun
              (s, x, (r, record { begun = omega arith; entry = entry; not_ended = λ later d after before e. unended later d after (omega arith) e })) in
              let long : suc (start + suc k) - start ≡ suc (suc k) = omega arith in
              let counts : steps_from entries a start (start + suc k) ≡ tally steps start (suc (suc k)) = counted_range (is_step_of a) entries start
              (suc (start + suc k) - start) ∙ ap (tally steps start) long in
              let same_tally : tally (hinder limits entries a) start (suc (start + suc k) - start) ≡ tally (hinder limits entries a) start (suc (suc k)) = ap
              (tally (hinder limits entries a) start) long in
              rw (counts, same_tally) at paid

    -- the last begin before a place, or none
    abbrev MayBegin : ℕ → Type 0
    MayBegin n = LastBegin entries a n ⊎ ((k : ℕ) (c : Command) → k < n → slice_get entries k ≡ Some (Begin a c) → ⊥)

    begin_on : (n : ℕ) → ((c : Command) → slice_get entries n ≡ Some (Begin a c) → ⊥) → MayBegin n → MayBegin (suc n)
    begin_on n never (inl h) = inl (one_on entries a n never h)
    begin_on n never (inr none_yet) = inr (λ k c lt e. elim (eqb_tells k n) [ inl same ↦ never c (rw same.1 at e) | inr apart ↦ none_yet k c (let ne = apart.1 in omega arith) e ])

    any_begin : (n : ℕ) → MayBegin n
    any_begin zero = inr (λ k c lt e. absurd (omega arith))
    any_begin (suc n) = by_entry (any_begin n) (slice_get entries n) refl
      where
        by_entry : MayBegin n → (o : Option Entry) → slice_get entries n ≡ o → MayBegin (suc n)
        by_entry before None at = begin_on n (λ c e. cc (at, e)) before
        by_entry before (Some (Step b s x r)) at = begin_on n (λ c e. cc (at, e)) before
        by_entry before (Some (Begin b c)) at = elim (eqb_tells b a) [
          | inl same ↦ inl (begins_here entries a n c (at ∙ ap (λ b. Some (Begin b c)) same.1))
          | inr apart ↦ begin_on n (λ d e. apart.1 (let f : Some (Begin b c) ≡ Some (Begin a d) = sym at ∙ e in cc)) before
        ]

    -- an actor that has begun nothing takes no step
    no_steps : (n : ℕ) → ((k : ℕ) (c : Command) → k < n → slice_get entries k ≡ Some (Begin a c) → ⊥) → tally steps 0 n ≡ 0
    no_steps n never = tally_none steps 0 n (λ i lt. elim (mine (0 + i)) [ inl isnt ↦ isnt | inr is ↦ absurd (by_step (0 + i) (omega arith) is.0 is.1 is.2) ])
      where
        by_step : (k : ℕ) → k < n → (e : Entry) → slice_get entries k ≡ Some e → is_step_of a e ≡ true → ⊥
        by_step k lt (Begin b d) at is = cc
        by_step k lt (Step b s x r) at is =
            let same : b ≡ a = elim (eqb_tells b a) [ inl e ↦ e.1 | inr apart ↦ absurd (cc (is, apart.0)) ] in
            let h = last_begin entries a k (run.each k (Step a s x r) (at ∙ ap (λ b. Some (Step b s x r)) same)).0 in
            let low = h.low in
            never h.start h.command (omega arith) h.begins

    -- all steps of the actor so far, by the fuel that the place is
    steps_paid : (fuel n : ℕ) → n ≤ fuel → n ≤ top → tally steps 0 n ≤ worth * (tally begins 0 n + tally (hinder limits entries a) 0 n)
    steps_paid zero n le within = let none : n ≡ 0 = omega arith in rw none (omega arith)
    steps_paid (suc fuel) n le within = elim (any_begin n) [
      | inr never ↦ let zero = no_steps n never in omega (arith, zero)
      | inl h ↦
          let low : h.start < n = h.low in
          let early = steps_paid fuel h.start (omega arith) (omega arith) in
          let whole : h.start + (n - h.start) ≡ n = omega arith in
          let here = span h.start h.command h.begins (n - h.start) (omega arith) (λ later d after before e. h.unended later d after (omega arith) e) in
          added n h.start h.command low h.begins early here
    ]
      where
        added : (n start : ℕ) (c : Command) → start < n → slice_get entries start ≡ Some (Begin a c)
            → tally steps 0 start ≤ worth * (tally begins 0 start + tally (hinder limits entries a) 0 start)
            → tally steps start (n - start) ≤ worth * (tally (hinder limits entries a) start (n - start) + 1)
            → tally steps 0 n ≤ worth * (tally begins 0 n + tally (hinder limits entries a) 0 n)
        added n start c low begun early here =
            let whole : start + (n - start) ≡ n = omega arith in
            let zeroed : 0 + start ≡ start = omega arith in
            let split_steps : tally steps 0 n ≡ tally steps 0 start + tally steps start (n - start) = parts steps in
            let split_hinder : tally (hinder limits entries a) 0 n ≡ tally (hinder limits entries a) 0 start + tally (hinder limits entries a) start (n - start) = parts (hinder limits entries a) in
            let next : tally begins 0 (suc start) ≡ tally begins 0 start + 1 = ap (λ k. tally begins 0 start + cond {A = ℕ} (begins k) 1 0) zeroed ∙ ap
            (λ (b : Bool). tally begins 0 start + cond {A = ℕ} b 1 0) (ap (passes (begin_of a)) begun ∙ is_mine) in
            let more : tally begins 0 (suc start) ≤ tally begins 0 n = tally_grows begins 0 (suc start) n (omega arith) in
            let joined : worth * ((tally begins 0 start + tally (hinder limits entries a) 0 start) + (tally (hinder limits entries a) start (n - start) + 1))
            ≡ worth * (tally begins 0 start + tally (hinder limits entries a) 0 start) + worth * (tally (hinder limits entries a) start (n - start) + 1)
            = mul-add (worth) (tally begins 0 start + tally (hinder limits entries a) 0 start) (tally (hinder limits entries a) start (n - start) + 1) in
            let most : (tally begins 0 start + tally (hinder limits entries a) 0 start) +
            (tally (hinder limits entries a) start (n - start) + 1) ≤ tally begins 0 n + tally (hinder limits entries a) 0 n = omega
            (arith, split_hinder, next, more) in
            let grown : worth * ((tally begins 0 start + tally (hinder limits entries a) 0 start) + (tally (hinder limits entries a) start (n - start) + 1))
            ≤ worth * (tally begins 0 n + tally (hinder limits entries a) 0 n) = mul-le-mul_left (worth) most in
            omega (arith, early, here, split_steps, joined, grown)
          where
            is_mine : (a == a) ≡ true
            is_mine = itself a

            parts : (t : ℕ → Bool) → tally t 0 n ≡ tally t 0 start + tally t start (n - start)
            parts t =
                let whole : n ≡ start + (n - start) = omega arith in
                let zeroed : 0 + start ≡ start = omega arith in
                ap (tally t 0) whole ∙ tally_split t 0 start (n - start) ∙ ap (λ k. tally t 0 start + tally t k (n - start)) zeroed

  -- all changes so far
  changes_most : HasFewChanges limits entries → (n : ℕ) → tally (is_change limits entries) 0 n ≤ 8 * count_by is_begin (take n entries)
  changes_most few n =
      let list = listed (is_change limits entries) 0 n in
      let among : AreAmong limits entries 0 n ChangesTree list.places = record {
        increasing = list.increasing;
        each = λ i d in_list. let h = list.each i d in_list in (h.0, (let lt = h.1 in omega (arith, lt)), happens limits entries _ h.2);
      } in
      let most = few.few n list.places among in
      rw list.counts at most

  abbrev hindering : ℕ
  hindering = tally (is_change limits entries) 0 top + tally (passes_in takes_number entries) 0 top

  each_actor : (a : ℕ) → by_actor limits entries is_step_of top a ≤ worth * (by_actor limits entries begin_of top a + hindering)
  each_actor a =
      let paid = steps_paid a top top (omega arith) (omega arith) in
      let parts = hinder_parts limits entries a 0 top in
      let grown : worth * (tally (begins a) 0 top + tally (hinder limits entries a) 0 top) ≤ worth * (by_actor limits entries begin_of top a + hindering) = mul-le-mul_left
      (worth) (omega (arith, parts)) in
      omega (arith, paid, grown)

  pub all_few : HasFewChanges limits entries
      → count_by is_step (take top entries) ≤ worth * (count_by is_begin (take top entries) + limits.actors * (32 * count_by is_begin (take top entries) + limits.rows + limits.pids))
  all_few few =
      let changed = changes_most few top in
      let takes : count_by takes_number (take top entries) ≤ limits.rows + limits.pids + 24 * count_by is_begin (take top entries) = few.takes top in
      let taken : count_by takes_number (take top entries) ≡ tally (passes_in takes_number entries) 0 top = counted_taken takes_number entries top in
      let begun : count_by is_begin (take top entries) ≡ tally (passes_in is_begin entries) 0 top = counted_taken is_begin entries top in
      let stepped : count_by is_step (take top entries) ≡ tally (passes_in is_step entries) 0 top = counted_taken is_step entries top in
      let all_steps : sum (by_actor limits entries is_step_of top) limits.actors ≡ tally (passes_in is_step entries) 0 top = sum_actors limits entries
      is_step_of is_step (one_step limits entries run) top in
      let all_begins : sum (by_actor limits entries begin_of top) limits.actors ≡ tally (passes_in is_begin entries) 0 top = sum_actors limits entries begin_of
      is_begin (one_begin limits entries run) top in
      let less = sum_less (by_actor limits entries is_step_of top) (λ a. worth * (by_actor limits entries begin_of top a + hindering)) limits.actors each_actor in
      let each_worth : sum (λ a. worth * (by_actor limits entries begin_of top a + hindering)) limits.actors ≡ worth *
      (sum (by_actor limits entries begin_of top) limits.actors + limits.actors * hindering) = sum_worth
      worth hindering (by_actor limits entries begin_of top) limits.actors in
      let bound : limits.actors * hindering ≤ limits.actors * (32 * count_by is_begin (take top entries) + limits.rows + limits.pids) = mul-le-mul_left
      limits.actors (omega (arith, changed, takes, taken)) in
      let most : worth * (sum (by_actor limits entries begin_of top) limits.actors + limits.actors * hindering) ≤ worth *
      (count_by is_begin (take top entries) + limits.actors * (32 * count_by is_begin (take top entries) + limits.rows + limits.pids))
      = mul-le-mul_left (worth) (omega (arith, begun, all_begins, bound)) in
      omega (arith, stepped, all_steps, less, each_worth, most)

-- Each actor has one operation under way at most.
module _ (limits : Limits) (entries : List Entry) (run : IsRun limits entries) where
  one_open : (a n : ℕ) → tally (passes_in (begin_of a) entries) 0 n ≤ tally (passes_in (end_of a) entries) 0 n + under_way (command_of (take n entries) a)
  one_open a zero = omega arith
  one_open a (suc n) = by_entry (one_open a n) (slice_get entries n) refl
    where
      zeroed : 0 + n ≡ n
      zeroed = omega arith

      mark : (p : Entry → Bool) (o : Option Entry) → slice_get entries n ≡ o → cond {A = ℕ} (passes_in p entries (0 + n)) 1 0 ≡ cond (passes p o) 1 0
      mark p o at = rw (zeroed, at)

      by_entry : tally (passes_in (begin_of a) entries) 0 n ≤ tally (passes_in (end_of a) entries) 0 n + under_way (command_of (take n entries) a) → (o : Option Entry) → slice_get entries n ≡ o
          → tally (passes_in (begin_of a) entries) 0 n + cond (passes_in (begin_of a) entries (0 + n)) 1 0 ≤ tally (passes_in (end_of a) entries) 0 n + cond
          (passes_in (end_of a) entries (0 + n)) 1 0 + under_way (command_of (take (suc n) entries) a)
      by_entry before None at =
          let begins : cond {A = ℕ} (passes_in (begin_of a) entries (0 + n)) 1 0 ≡ 0 = mark (begin_of a) None at in
          let now : under_way (command_of (take (suc n) entries) a) ≡ under_way (command_of (take n entries) a) = rw (take_past entries n at) in
          omega (arith, before, begins, now)
      by_entry before (Some (Begin b c)) at = elim (eqb_tells a b) [
        | inl same ↦
            let begins : cond {A = ℕ} (passes_in (begin_of a) entries (0 + n)) 1 0 ≤ 1 = one_at_most (passes_in (begin_of a) entries (0 + n)) in
            let idle : under_way (command_of (take n entries) a) ≡ 0 = ap under_way (ap (command_of (take n entries)) same.1 ∙ (run.each n (Begin b c) at).1) in
            let after : commands_after (command_of (take n entries)) (Begin b c) a ≡ Some c = rw same.0 refl in
            let now : under_way (command_of (take (suc n) entries) a) ≡ 1 = ap under_way (command_next entries a n (Begin b c) at ∙ after) in
            omega (arith, before, begins, idle, now)
        | inr apart ↦
            let others : (b == a) ≡ false = elim (eqb_tells b a) [ inl e ↦ absurd (apart.1 (sym e.1)) | inr f ↦ f.0 ] in
            let begins : cond {A = ℕ} (passes_in (begin_of a) entries (0 + n)) 1 0 ≡ 0 = mark (begin_of a) (Some (Begin b c)) at ∙ ap (λ (t : Bool). cond {A = ℕ} t 1 0) others in
            let after : commands_after (command_of (take n entries)) (Begin b c) a ≡ command_of (take n entries) a = rw apart.0 refl in
            let now : under_way (command_of (take (suc n) entries) a) ≡ under_way (command_of (take n entries) a) = ap under_way (command_next entries a n (Begin b c) at ∙ after) in
            omega (arith, before, begins, now)
      ]
      by_entry before (Some (Step b s x None)) at =
          let begins : cond {A = ℕ} (passes_in (begin_of a) entries (0 + n)) 1 0 ≡ 0 = mark (begin_of a) (Some (Step b s x None)) at in
          let now : under_way (command_of (take (suc n) entries) a) ≡ under_way (command_of (take n entries) a) = ap under_way (command_next entries a n (Step b s x None) at) in
          omega (arith, before, begins, now)
      by_entry before (Some (Step b s x (Some r))) at = elim (eqb_tells a b) [
        | inl same ↦
            let begins : cond {A = ℕ} (passes_in (begin_of a) entries (0 + n)) 1 0 ≡ 0 = mark (begin_of a) (Some (Step b s x (Some r))) at in
            let own : (b == a) ≡ true = elim (eqb_tells b a) [ inl e ↦ e.0 | inr f ↦ absurd (f.1 (sym same.1)) ] in
            let ends : cond {A = ℕ} (passes_in (end_of a) entries (0 + n)) 1 0 ≡ 1 = mark (end_of a) (Some (Step b s x (Some r))) at ∙ ap (λ (t : Bool). cond {A = ℕ} t 1 0) own in
            let was : under_way (command_of (take n entries) a) ≤ 1 = at_most_one (command_of (take n entries) a) in
            omega (arith, before, begins, ends, was)
        | inr apart ↦
            let begins : cond {A = ℕ} (passes_in (begin_of a) entries (0 + n)) 1 0 ≡ 0 = mark (begin_of a) (Some (Step b s x (Some r))) at in
            let after : commands_after (command_of (take n entries)) (Step b s x (Some r)) a ≡ command_of (take n entries) a = rw apart.0 refl in
            let now : under_way (command_of (take (suc n) entries) a) ≡ under_way (command_of (take n entries) a) = ap under_way (command_next entries a n (Step b s x (Some r)) at ∙ after) in
            omega (arith, before, begins, now)
      ]

  one_end : (k : ℕ) (e : Entry) → slice_get entries k ≡ Some e → sum (λ a. cond (end_of a e) 1 0) limits.actors ≡ cond (is_end e) 1 0
  one_end k (Begin b c) at = sum_none (λ a. 0) limits.actors (λ i lt. refl)
  one_end k (Step b s x None) at = sum_none (λ a. 0) limits.actors (λ i lt. refl)
  one_end k (Step b s x (Some r)) at = sum_one b limits.actors (actor_below limits entries run k b s x (Some r) at)

  pub open_most : (n : ℕ) → count_by is_begin (take n entries) ≤ count_by is_end (take n entries) + limits.actors
  open_most n =
      let begun : count_by is_begin (take n entries) ≡ tally (passes_in is_begin entries) 0 n = counted_taken is_begin entries n in
      let ended : count_by is_end (take n entries) ≡ tally (passes_in is_end entries) 0 n = counted_taken is_end entries n in
      let all_begins : sum (λ a. tally (passes_in (begin_of a) entries) 0 n) limits.actors ≡ tally (passes_in is_begin entries) 0 n = sum_actors limits entries
      begin_of is_begin (one_begin limits entries run) n in
      let all_ends : sum (λ a. tally (passes_in (end_of a) entries) 0 n) limits.actors ≡ tally (passes_in is_end entries) 0 n = sum_actors limits entries end_of is_end one_end n in
      let less : sum (λ a. tally (passes_in (begin_of a) entries) 0 n) limits.actors ≤ sum (λ a. tally (passes_in (end_of a) entries) 0 n + 1) limits.actors =
      sum_less (λ a. tally (passes_in (begin_of a) entries) 0 n) (λ a. tally (passes_in (end_of a) entries) 0 n + 1) limits.actors
      (λ a. let one = one_open a n in let most = at_most_one (command_of (take n entries) a) in omega (arith, one, most)) in
      let both : sum (λ a. tally (passes_in (end_of a) entries) 0 n + 1) limits.actors ≡ sum (λ a. tally (passes_in (end_of a) entries) 0 n) limits.actors + sum (λ a. 1) limits.actors = sum_both
      (λ a. tally (passes_in (end_of a) entries) 0 n) (λ a. 1) limits.actors in
      let ones : sum (λ a. 1) limits.actors ≡ limits.actors = sum_ones limits.actors in
      omega (arith, begun, ended, all_begins, all_ends, less, both, ones)

-- no more for each that was begun than for each that has ended and each actor
pub by_ends : (limits : Limits) (worth steps begun ended : ℕ) → begun ≤ ended + limits.actors → steps ≤ worth * (begun + limits.actors * (32 * begun + limits.rows + limits.pids))
    → steps ≤ worth * (ended + limits.actors + limits.actors * (32 * (ended + limits.actors) + limits.rows + limits.pids))
by_ends limits worth steps begun ended most few =
    let inner : limits.actors * (32 * begun + limits.rows + limits.pids) ≤ limits.actors * (32 * (ended + limits.actors) + limits.rows + limits.pids) = mul-le-mul_left limits.actors (omega arith) in
    let outer : worth * (begun + limits.actors * (32 * begun + limits.rows + limits.pids)) ≤ worth *
    (ended + limits.actors + limits.actors * (32 * (ended + limits.actors) + limits.rows + limits.pids)) = mul-le-mul_left
    (worth) (omega (arith, inner)) in
    omega (arith, few, outer)

pub lock_free : (limits : Limits) (entries : List Entry) → IsRun limits entries → KeepsPhases limits entries → IsDirect limits entries
    → HasFewChanges limits entries → AreLockFreeUntilRemoval limits entries
lock_free limits entries run keeps direct changes = record {
  few = λ n none. all_few limits entries run (cause_worth limits) n (pays n none) changes;
  ended =
      λ n none. by_ends limits (cause_worth limits) (count_by is_step (take n entries)) (count_by is_begin (take n entries)) (count_by is_end (take n entries))
      (open_most limits entries run n) (all_few limits entries run (cause_worth limits) n (pays n none) changes);
}
  where
    pays : (top : ℕ) → PlacesNoRemoval (take top entries) → (op : Operation) (n : ℕ) → n ≤ top → IsOperation entries op → IsOwnStep entries op n
        → steps_from entries op.actor op.start n ≤ cause_worth limits * (tally (hinder limits entries op.actor) op.start (suc n - op.start) + 1)
    pays top none op n le begun own = paid_by_hinder limits entries run keeps direct op begun n (none_before entries n top le none) own
