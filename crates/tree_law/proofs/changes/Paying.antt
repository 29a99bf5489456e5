-- What is in store pays for the changes, along a trace.
use Rattle.tree_law.proofs.Words.{◌⊎◌, [], cond, refl, take, Option, suc, None, List, inl, length, ◌++◌, ◌≤◌, inr, ◌∷◌, ℕ, ◌≡◌, zero, ◌<◌, arith, Some, drop, cases_lt, ◌+◌, ◌*◌}
use Rattle.tree_law.proofs.Words.{append_assoc, append-nil, IsSome, All, count_by, IsStrictlyIncreasing, Limits, Entry, Begin, Step, Command, Reply, Answer, StepOf, Record, Base, empty_leaf}
use Rattle.tree_law.proofs.Words.{memory_of, memory_after, memory_of-push, command_of, knows, Knowledge, after_begin, after_reply, learn, IsAllowed, IsAnswer, IsUseful, IsDisciplinedFrom}
use Rattle.tree_law.proofs.Words.{shared_part, put, IsState, Opens, Happens, Happens-below, IsHalved, ChangesTree, takes_number, IsWorth, life, total}
use Rattle.std.specs.List.Sorted.{IsStrictlySortedBy}
use Rattle.linearization.specs.Changes.{HasFewChanges}
use Rattle.linearization.specs.Progress.{is_begin}
use Rattle.tree_law.specs.Changes.{AreUsed, AreUsefulFrom, IsPaidState, RunsHaveFewChanges, StepsPay, credit, most_in_store, store}
use Rattle.tree_law.specs.TraceLaws.{BeginsKeep}
use Rattle.tree_law.proofs.shape.Puts.{by_equal}
use Rattle.tree_law.proofs.trace.Beginning as beginning
use Rattle.tree_law.proofs.trace.Beginning.{begins_owners, knows-push, opens_owners}
use Rattle.tree_law.proofs.trace.Opening.{opening_owners}
use Rattle.tree_law.proofs.trace.Steps.{Onward, onwards}
use Rattle.tree_law.proofs.changes.Alive.{worth_bound, worth_of}
use Rattle.tree_law.proofs.changes.Credits.{begin_credits, credit_most, step_credits, update_credits}
use Rattle.tree_law.proofs.changes.Linked.{stored}
use Rattle.tree_law.proofs.changes.Listed.{AreChanges, all_before, begins_from, begins_push, few_push, most_before, none_later}
use Rattle.tree_law.proofs.changes.Lives.{life_most}
use Rattle.tree_law.proofs.changes.Numbers.{had_most, used_begin, used_step}
use Rattle.tree_law.proofs.changes.Outcome.{outcome}
use Rattle.tree_law.proofs.changes.Totals.{bounded}

-- so much is in store at most
store_bound : (limits : Limits) (entries : List Entry) (state : IsState limits entries) (worths : ℕ → ℕ)
    → ((page : ℕ) → IsWorth state.owners (shared_part (memory_of limits entries)) page (worths page))
    → store limits entries state worths ≤ 154 * limits.pids + 8 * limits.actors
store_bound limits entries state worths each =
    let lives = bounded (λ page. life (state.owners.page page) ((shared_part (memory_of limits entries)).slots page)) 40 limits.pids
    (λ page. life_most (state.owners.page page) ((shared_part (memory_of limits entries)).slots page)) in
    let chains = bounded worths 114 limits.pids (λ page. worth_bound state.owners (shared_part (memory_of limits entries)) state.fitted page (worths page) (each page)) in
    let credits = bounded (λ actor. credit (knows entries actor).asked) 8 limits.actors (λ actor. credit_most (knows entries actor).asked.command (knows entries actor).asked.linked) in
    omega (arith, lives, chains, credits)

-- what was paid before the last entry, which brings so much, and what may be in store behind it
paid_push : (limits : Limits) (entries : List Entry) (last : Entry) (stored more : ℕ) → stored ≤ 154 * limits.pids + 8 * limits.actors
    → ((m : ℕ) (changes : List ℕ) → m ≤ length entries → IsStrictlyIncreasing changes → AreChanges limits entries last m (entries ++ last ∷ []) changes
    → length changes + stored ≤ most_in_store limits m + 8 * count_by is_begin (drop m entries) + more)
    → ((m : ℕ) → m ≤ length entries → 8 * count_by is_begin (drop m entries) + more ≤ 8 * count_by is_begin (drop m (entries ++ last ∷ [])))
    → (m : ℕ) (changes : List ℕ) → IsStrictlyIncreasing changes → AreChanges limits entries last m (entries ++ last ∷ []) changes
    → length changes + stored ≤ most_in_store limits m + 8 * count_by is_begin (drop m (entries ++ last ∷ []))
paid_push limits entries last stored more small before brings m changes up all = elim (cases_lt (length entries) m) [
  | inl later ↦
      let none = none_later limits entries last m later changes all in
      let after : most_in_store limits m ≡ 154 * limits.pids + 8 * limits.actors = after_first m later in
      omega (arith, none, after, small)
  | inr within ↦
      let bound = before m changes within up all in
      let more_begins = brings m within in
      omega (arith, bound, more_begins)
]
  where
    after_first : (m : ℕ) → length entries < m → most_in_store limits m ≡ 154 * limits.pids + 8 * limits.actors
    after_first zero later = absurd (omega arith)
    after_first (suc m) later = refl

-- so many numbers are taken at most
taken_most : (limits : Limits) (entries : List Entry) (last : Entry) (state : IsState limits (entries ++ last ∷ [])) (used : AreUsed limits (entries ++ last ∷ []))
    → length used.changes ≤ 8 * count_by is_begin entries
    → count_by takes_number (entries ++ last ∷ []) ≤ limits.rows + limits.pids + 24 * count_by is_begin (entries ++ last ∷ [])
taken_most limits entries last state used few =
    let most = had_most limits (entries ++ last ∷ []) state in
    let taken = used.used in
    let more : count_by is_begin (entries ++ last ∷ []) ≡ count_by is_begin entries + cond (is_begin last) 1 0 = begins_push entries last in
    omega (arith, most, taken, more, few)

-- an actor whose operation is under way is one of the stated number
actor_there : (limits : Limits) (entries : List Entry) (a : ℕ) → IsState limits entries → IsSome (command_of entries a) → a < limits.actors
actor_there limits entries a state busy = go (command_of entries a) refl busy
  where
    go : (o : Option Command) → command_of entries a ≡ o → IsSome o → a < limits.actors
    go None e some = absurd (cc)
    go (Some asked) e some = (state.run.each (state.tells a asked e).start (Begin a asked) (state.tells a asked e).begins).0

module _ (limits : Limits) (entries : List Entry) (a : ℕ) (s : StepOf Record) (x : Answer Record) (r : Option Reply) (paid : IsPaidState limits entries)
    (busy : IsSome (command_of entries a)) (allowed : IsAllowed limits a (knows entries a) s r)
    (useful : IsUseful (knows entries a) s) (halved : IsHalved (knows entries a) s) (is : IsAnswer (memory_of limits entries) s x) where
  abbrev last : Entry
  last = Step a s x r

  abbrev longer : List Entry
  longer = entries ++ Step a s x r ∷ []

  on : Onward limits entries a s x r paid.state
  on = onwards limits entries a s x r paid.state busy allowed is

  worths' : ℕ → ℕ
  worths' page = (worth_of on.after.is_tree on.after.fitted page).0

  each' : (page : ℕ) → IsWorth on.after.owners (shared_part (memory_of limits longer)) page (worths' page)
  unfolding worths'
  each' page = (worth_of on.after.is_tree on.after.fitted page).1

  within : a < limits.actors
  within = actor_there limits entries a paid.state busy

  abbrev credits : (ℕ → Knowledge) → ℕ
  credits ks = total (λ actor. credit (ks actor).asked) limits.actors

  -- what is in store, by its parts
  store_before : store limits entries paid.state paid.worths ≡ stored limits.pids paid.state.owners (shared_part (memory_of limits entries)) paid.worths + credits (knows entries)
  store_before = omega arith

  store_after : store limits longer on.after worths' ≡ stored limits.pids on.after.owners (shared_part (memory_after a s (memory_of limits entries))) worths' + credits
      (put (knows entries) a (after_reply (learn (knows entries a) s x) r))
  store_after = rw (memory_of-push limits entries last, knows-push entries last) (omega arith)

  pays : (suc (store limits longer on.after worths') ≤ store limits entries paid.state paid.worths) ⊎
      ((store limits longer on.after worths' ≤ store limits entries paid.state paid.worths) × (ChangesTree (memory_of limits entries) last → ⊥))
  pays =
      let result = outcome (memory_of limits entries) paid.state.is_tree paid.state.fitted paid.state.named.in_slots a limits.pids paid.state.named.pid_below
      on.after.owners paid.worths worths' paid.each s x r allowed.may useful halved is on.phased on.same
      (λ page. rw (memory_of-push limits entries last) at (each' page)) in
      let less : credits (put (knows entries) a (after_reply (learn (knows entries a) s x) r)) ≤ credits (knows entries) = step_credits (knows entries) a limits.actors within s x r in
      elim result [
        | inl (inl cost) ↦ inl (omega (arith, store_before, store_after, less, cost))
        | inl (inr (grown, updates)) ↦
            let paid_for : credits (put (knows entries) a (after_reply (learn (knows entries a) s x) r)) + 8 ≤ credits (knows entries) =
            update_credits (knows entries) a limits.actors within s x r updates.command updates.going updates.unlinked updates.linked in
            inl (omega (arith, store_before, store_after, paid_for, grown))
        | inr (kept, never) ↦ inr (omega (arith, store_before, store_after, less, kept), never)
      ]

  paid_longer : (m : ℕ) (changes : List ℕ) → m ≤ length entries → IsStrictlyIncreasing changes → AreChanges limits entries last m longer changes
      → length changes + store limits longer on.after worths' ≤ most_in_store limits m + 8 * count_by is_begin (drop m entries)
  paid_longer m changes within up all = elim pays [
    | inl cost ↦
        let before = most_before limits entries last m changes up all in
        let old : length before.0 + store limits entries paid.state paid.worths ≤ most_in_store limits m + 8 * count_by is_begin (drop m entries) = paid.paid m before.0 before.1 before.2 in
        let more : length changes ≤ suc (length before.0) = before.3 in
        omega (arith, cost)
    | inr kept ↦
        let old : length changes + store limits entries paid.state paid.worths ≤ most_in_store limits m + 8 * count_by is_begin (drop m entries) =
        paid.paid m changes up (all_before limits entries last m kept.1 changes all) in
        let fewer = kept.0 in
        omega (arith, fewer)
  ]

  used : AreUsed limits longer
  used = used_step limits entries a within s x r paid.state paid.taken allowed.may is

  pub step_pays : IsPaidState limits longer
  step_pays = record {
    state = on.after;
    worths = worths';
    each = each';
    few = few_push limits entries last paid.few (λ m changes le up all. let bound = paid_longer m changes le up all in omega (arith, bound))
        (taken_most limits entries last on.after used
        (let bound = paid_longer 0 used.changes (omega arith) used.increasing
        (λ k d lt. (omega arith, used.each k d lt)) in
        omega (arith, bound)));
    taken = used;
    paid = paid_push limits entries last (store limits longer on.after worths') 0 (store_bound limits longer on.after worths' each')
        (λ m changes le up all. let bound = paid_longer m changes le up all in omega (arith, bound)) (λ m le. let same = begins_from limits entries last m le in omega (arith, same));
  }

pub steps_pay : StepsPay
steps_pay limits entries a s x r paid busy allowed useful halved is = step_pays limits entries a s x r paid busy allowed useful halved is

module _ (limits : Limits) (entries : List Entry) (a : ℕ) (c : Command) (paid : IsPaidState limits entries) (within : a < limits.actors) (idle : command_of entries a ≡ None) where
  abbrev begin : Entry
  begin = Begin a c

  abbrev begun_trace : List Entry
  begun_trace = entries ++ Begin a c ∷ []

  begun_state : IsState limits begun_trace
  begun_state = beginning.begins limits entries a c paid.state within idle

  same_owners : begun_state.owners ≡ paid.state.owners
  unfolding begun_state
  same_owners = begins_owners limits entries a c paid.state within idle

  no_change : ChangesTree (memory_of limits entries) begin → ⊥
  no_change h = let e = h.5.0.1 in cc

  begun_store : store limits begun_trace begun_state paid.worths ≤ store limits entries paid.state paid.worths + 8
  begun_store =
      let more : total (λ actor. credit (put (knows entries) a (after_begin (knows entries a) c) actor).asked) limits.actors ≤ total
      (λ actor. credit (knows entries actor).asked) limits.actors + 8 = begin_credits (knows entries) a limits.actors within c in
      rw (same_owners, memory_of-push limits entries begin, knows-push entries begin) (omega (arith, more))

  paid_begun : (m : ℕ) (changes : List ℕ) → m ≤ length entries → IsStrictlyIncreasing changes → AreChanges limits entries begin m begun_trace changes
      → length changes + store limits entries paid.state paid.worths ≤ most_in_store limits m + 8 * count_by is_begin (drop m entries)
  paid_begun m changes within up all = paid.paid m changes up (all_before limits entries begin m no_change changes all)

  begun_each : (page : ℕ) → IsWorth begun_state.owners (shared_part (memory_of limits begun_trace)) page (paid.worths page)
  begun_each page = rw (same_owners, memory_of-push limits entries begin) (paid.each page)

  used_begun : AreUsed limits begun_trace
  used_begun = used_begin limits entries a within c paid.taken

  pub begin_pays : IsPaidState limits begun_trace
  begin_pays = record {
    state = begun_state;
    worths = paid.worths;
    each = begun_each;
    few = few_push limits entries begin paid.few (λ m changes le up all. let bound = paid_begun m changes le up all in omega (arith, bound))
        (taken_most limits entries begin begun_state used_begun
        (let bound = paid_begun 0 used_begun.changes (omega arith) used_begun.increasing (λ k d lt. (omega arith, used_begun.each k d lt)) in
        omega (arith, bound)));
    taken = used_begun;
    paid = paid_push limits entries begin (store limits begun_trace begun_state paid.worths) 8 (store_bound limits begun_trace begun_state paid.worths begun_each)
        (λ m changes le up all. let bound = paid_begun m changes le up all in let grown = begun_store in omega (arith, bound, grown))
        (λ m le. let more = begins_from limits entries begin m le in omega (arith, more));
  }

pub begins_pay : BeginsKeep IsPaidState
begins_pay limits entries a c paid within idle = begin_pays limits entries a c paid within idle

nothing_in : (f : ℕ → ℕ) (n : ℕ) → ((i : ℕ) → f i ≡ 0) → total f n ≡ 0
nothing_in f zero each = refl
nothing_in f (suc n) each = let rest = nothing_in f n each in let here = each n in omega (arith, rest, here)

module _ (limits : Limits) where
  first_state : IsState limits []
  first_state = beginning.opens limits

  first_owners : first_state.owners ≡ opening_owners limits
  unfolding first_state
  first_owners = opens_owners limits

  first_each : (page : ℕ) → IsWorth first_state.owners (shared_part (memory_of limits [])) page 0
  unfolding IsStrictlySortedBy
  first_each page = rw first_owners (by_equal page 1
      (λ e t. rw e (record { row = 1; head = refl; linked = refl; chain = Base empty_leaf ∷ []; is_chain = (refl, refl); items = []; are = record { ascending = tt; contents = λ key. refl } }, refl))
      (λ ne t. rw t refl))

  first_lives : (page : ℕ) → life (first_state.owners.page page) ((shared_part (memory_of limits [])).slots page) ≡ 0
  first_lives page = rw first_owners (by_equal page 1 (λ e t. rw t refl) (λ ne t. rw t refl))

  first_store : store limits [] first_state (λ page. 0) ≡ 0
  first_store =
      let lives = nothing_in (λ page. life (first_state.owners.page page) ((shared_part (memory_of limits [])).slots page)) limits.pids first_lives in
      let chains = nothing_in (λ page. 0) limits.pids (λ page. refl) in
      let credits = nothing_in (λ actor. credit (knows [] actor).asked) limits.actors (λ actor. refl) in
      omega (arith, lives, chains, credits)

  no_changes : (m : ℕ) (changes : List ℕ) → All (λ place. (m ≤ place) × Happens limits [] place ChangesTree) changes → length changes ≡ 0
  no_changes m [] all = refl
  no_changes m (place ∷ changes) all = let below : place < 0 = Happens-below (all 0 0 (omega arith)).1 in absurd (omega arith)

  first_takes : (n : ℕ) → count_by takes_number (take n []) ≤ limits.rows + limits.pids + 24 * count_by is_begin (take n [])
  first_takes zero = omega arith
  first_takes (suc n) = omega arith

  pub first_pays : IsPaidState limits []
  first_pays = record {
    state = first_state;
    worths = λ page. 0;
    each = first_each;
    few = record {
      few = λ n changes among. let empty : length changes ≡ 0 = no_changes 0 changes (λ k d lt. let h = among.each k d lt in (h.0, h.2)) in omega arith;
      since = λ m n changes le among. let empty : length changes ≡ 0 = no_changes m changes (λ k d lt. let h = among.each k d lt in (h.0, h.2)) in omega arith;
      takes = first_takes;
    };
    taken = record { changes = []; increasing = λ j h. absurd (omega arith); each = λ j d h. absurd (omega arith); used = omega arith };
    paid = λ m changes up all. let empty = no_changes m changes all in let store = first_store in omega (arith, empty, store);
  }

pub opens_pay : Opens IsPaidState
opens_pay limits = first_pays limits

along : (limits : Limits) (before entries : List Entry) → IsPaidState limits before → IsDisciplinedFrom limits before entries → AreUsefulFrom before entries → HasFewChanges limits (before ++ entries)
along limits before [] paid h useful = rw (append-nil before) paid.few
along limits before (Begin actor command ∷ entries) paid h useful =
    rw (append_assoc before (Begin actor command ∷ []) entries) at (along limits (before ++ Begin actor command ∷ []) entries (begins_pay limits before actor command paid h.0.0 h.0.1) h.1 useful)
along limits before (Step actor step answer reply ∷ entries) paid h useful =
    rw (append_assoc before (Step actor step answer reply ∷ []) entries) at
    (along limits (before ++ Step actor step answer reply ∷ []) entries (steps_pay limits before actor step answer reply paid h.0.0 h.0.1 useful.0 useful.1 h.0.2) h.1 useful.2)

pub runs_have_few_changes : RunsHaveFewChanges
runs_have_few_changes limits entries h useful = along limits [] entries (opens_pay limits) h useful
