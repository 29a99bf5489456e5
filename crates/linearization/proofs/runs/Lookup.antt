-- An actor looks a key up in the opening tree, and finds none: a run with its point, answered, quiet and faithful.
use Rattle.traces.specs.discipline.Recalled.{cause_worth}
use Rattle.linearization.proofs.Words.{codes, Command, Get, StepOf, Answer, Record, Memory, opening, Entry, IsRun, map, turn_of, Happens, memory_at, TakesStep, IsStep, IsRun-from_steps}
use Rattle.linearization.proofs.Words.{EndAtLeaves, Finishes, IsOperation, IsOwnStep, Operation, RepliesAtLeave, Update, logged_value, reply_of, log_at, HasPoints, IsPoint, has_point}
use Rattle.linearization.proofs.Words.{IsAnswered, IsQuiet, HasMapOf, IsChainOf, level_in, IsChainOf-unique, slice_get_below, HasFewChanges, IsFaithful, KnowsRow, Phase, MovesAt}
use Rattle.linearization.proofs.Words.{MovesPhase, KeepsPhases, indexed, takes, splits, becomes_root, terms, under_root, holds, removes, merges, unterms, reuses, IsFreedByRule, UpdatesAtLinks}
use Rattle.std.proofs.Common.{◌≡◌, ◌<◌, ◌≤◌, ℕ, suc, List, [], ◌∷◌, ◌++◌, length, Bool, true, false, Some, None, refl, sym, subst, ap, arith, inl, inr, lit<, lit≤, ◌+◌, ◌*◌, ◌∙◌}
use Rattle.std.specs.Prelude.{drop, if◌then◌else◌, min, slice_get, slice_range, take, ◌-◌}
use Rattle.std.specs.List.{count_by}
use Rattle.std.proofs.lemmas.Bool.{cases_lt}
use Rattle.std.proofs.lemmas.List.{length-drop, length-take, take_all}
use Rattle.std.proofs.lemmas.List.Sums.{count_by-le-length}
use Rattle.bw_model.specs.Replies.{is_writer}
use Rattle.bw_model.specs.declared.command.Reply.{Reply}
use Rattle.bw_model.specs.declared.command.Reply.TheVariants as reply
use Rattle.bw_model.specs.declared.step.Step.TheVariants.{Slot, Row, Place, Exchange, TakePid, TakeRow, ReusePids, ReuseRows}
use Rattle.bw_model.specs.declared.step.Answer.TheVariants.{Number}
use Rattle.traces.specs.declared.trace.Entry.TheVariants.{Begin, Step}
use Rattle.linearization.specs.Direct.{IsDirect, is_step_of}
use Rattle.linearization.specs.Progress.{AreAmong, ChangesTree, is_begin as begins_one, is_end, is_step, steps_from, takes_number}
use Rattle.linearization.specs.Readers.{IsReading}
use Rattle.linearization.specs.Index.{IsExactIndex, IsPageOfLevel, IsRootLevel}
use Rattle.linearization.specs.Examples.{small, opening_leaf, lookup}
use Rattle.linearization.specs.Linearized.{IsLinearized, IsOrderly}
use Rattle.linearization.specs.ReadersEnd.{ReadersEnd, one_memory}
use Rattle.linearization.specs.UntilRemoval.{AreLockFreeUntilRemoval, EndAloneUntilRemoval, MakesProgressUntilRemoval, OperationsEndUntilRemoval}
use Rattle.linearization.specs.Whole.{AreLockFree, MakesProgress, hindrance_worth, most_worth}
use Rattle.linearization.proofs.Listed.{EachAt-get, UpTo-at, passes_at, same_operation, stands_at}
use Rattle.linearization.proofs.runs.Kinds.{is_begin, is_done, leaf_at, one_begin, one_reply, one_row, outside, reads_row}
use Rattle.linearization.proofs.MapLaws.{one_leaf}

-- the point is the read of the leaf's slot
abbrev points : List Bool
points = false ∷ false ∷ false ∷ false ∷ true ∷ false ∷ false ∷ []

is_run : IsRun small lookup
is_run = IsRun-from_steps small lookup (
  (lit< tt, refl),
  (
    (refl, tt, refl),
    (
      (refl, tt, refl),
      (
        (refl, tt, refl),
        (
          (refl, tt, refl),
          (
            (refl, tt, (opening_leaf, refl, refl)),
            ((refl, tt, refl), tt),
          ),
        ),
      ),
    ),
  ),
)

is_quiet : IsQuiet small lookup points
is_quiet = record {
  at_each = UpTo-at (λ k. HasMapOf (memory_at small lookup k) (log_at lookup points k)) 7
      (here _, (here _, (here _, (here _, (here _, (here _, (here _, here _)))))));
}
  where
    here : (announced : ℕ → ℕ) → HasMapOf (record (opening small) { announced = announced }) []
    here announced = one_leaf _ [] (opening_leaf ∷ []) (record { page = lit< tt; linked = lit< tt; records = (refl, refl) }) refl refl refl (λ key. refl)

abbrev the_operation : Operation
the_operation = record { start = 0; actor = 0; command = Get (codes "a") }

begins : (n actor : ℕ) (command : Command) → slice_get lookup n ≡ Some (Begin actor command) → (n ≡ 0) × (actor ≡ 0) × (command ≡ Get (codes "a"))
begins n actor command e =
    let first : n ≡ 0 = stands_at is_begin lookup n _ e refl in
    let one = one_begin (rw first at e) in (first, one.0, one.1)

only : (operation : Operation) → IsOperation lookup operation → operation ≡ the_operation
only operation h = let b = begins operation.start operation.actor operation.command h in same_operation operation the_operation b.0 b.1 b.2

-- no entry after the first begins an operation
none_later : (later : ℕ) (command : Command) → 0 < later → slice_get lookup later ≡ Some (Begin 0 command) → ⊥
none_later later command after e = let first : later ≡ 0 = (begins later 0 command e).0 in omega arith

own_point : IsOwnStep lookup the_operation 4
own_point = (Slot 1, Number 1, (None, record { begun = lit< tt; entry = refl; not_ended = λ later command after before e. none_later later command after e }))

only_point : (n : ℕ) → IsPoint points n → n ≡ 4
only_point n e = stands_at (λ mark. mark) points n true e refl

only_reply : (n actor : ℕ) (step : StepOf Record) (answer : Answer Record) (answered : Reply) → slice_get lookup n ≡ Some (Step actor step answer (Some answered)) → answered ≡ reply.None
only_reply n actor step answer answered e =
    let last : n ≡ 6 = stands_at is_done lookup n _ e refl in
    one_reply (rw last at e)

finished : (operation : Operation) (n : ℕ) (answered : Reply) → Finishes lookup operation n answered → answered ≡ reply.None
finished operation n answered h = only_reply n operation.actor h.0 h.1 answered h.2.entry

has_points : HasPoints lookup points
has_points = record {
  beside = refl;
  own = λ n e. (the_operation, first_begins, rw (only_point n e) own_point);
  one = λ operation m n is a b p q. only_point m p ∙ sym (only_point n q);
  pointed = λ operation n answered is ends asks. rw (only operation is) (4, own_point, refl);
  pointless = λ operation m n answered is ends asks own mark. let which : answered ≡ reply.None = finished operation n answered ends in
      let odd : has_point reply.None ≡ false = rw which at asks in cc;
}
  where
    first_begins : IsOperation lookup the_operation
    first_begins = refl

is_answered : IsAnswered small lookup points
is_answered = record { each = λ operation n answered is ends. rw (only operation is, finished operation n answered ends) (4, own_point, refl, inl right) }
  where
    right : reply_of the_operation.command (logged_value [] (codes "a")) ≡ Some reply.None
    right = refl

-- the steps of the run neither take nor free nor exchange anything
only_looks : StepOf Record → Bool
only_looks (Place row content) = false
only_looks (Exchange slot old new) = false
only_looks (TakePid pid) = false
only_looks (TakeRow row) = false
only_looks (ReusePids word bits) = false
only_looks (ReuseRows word bits) = false
only_looks _ = true

only_looks_at : Entry → Bool
only_looks_at (Begin actor command) = true
only_looks_at (Step actor step answer reply) = only_looks step

looks : (n : ℕ) (entry : Entry) → slice_get lookup n ≡ Some entry → (actor : ℕ) (step : StepOf Record) (answer : Answer Record) → IsStep entry actor step answer → only_looks step ≡ true
unfolding only_looks only_looks_at
looks n entry at actor step answer is = rw is.1 at (passes_at (λ k. only_looks_at) lookup refl n entry at)

updates_at_links : UpdatesAtLinks small lookup points
unfolding only_looks
updates_at_links n = (
  λ h. absurd (no_one h.1.0 (rw (only_point n h.0) at h.1.1)),
  λ h. absurd (odd (looks n h.entry h.at _ _ _ h.holds.5.0)),
)
  where
    odd : false ≡ true → ⊥
    odd e = cc

    no_one : (u : Update) → ◌≡◌ {A = List Update} [] (u ∷ []) → ⊥
    no_one u e = cc

moves_none : (n pid : ℕ) (from to : Phase) → MovesAt small lookup n pid from to → ⊥
unfolding only_looks
moves_none n pid from to moves = none_moves moves.entry (looks n moves.entry moves.at) moves.holds
  where
    odd : false ≡ true → ⊥
    odd e = cc

    none_moves : {memory : Memory} {pid : ℕ} {from to : Phase} (entry : Entry)
        → ((actor : ℕ) (step : StepOf Record) (answer : Answer Record) → IsStep entry actor step answer → only_looks step ≡ true)
        → MovesPhase memory entry pid from to → ⊥
    none_moves entry l (takes a is) = odd (l _ _ _ is)
    none_moves entry l (splits a b h e) = odd (l _ _ _ h.3.0)
    none_moves entry l (becomes_root h) = odd (l _ _ _ h.2.0)
    none_moves entry l (terms a b h e) = odd (l _ _ _ h.3.0)
    none_moves entry l (under_root a b c d h e f g) = odd (l _ _ _ h.2.0)
    none_moves entry l (holds a b h e) = odd (l _ _ _ h.3.0)
    none_moves entry l (removes a h) = odd (l _ _ _ h.3.0)
    none_moves entry l (merges a b c h i j) = odd (l _ _ _ h.3.0)
    none_moves entry l (unterms a b h e) = odd (l _ _ _ h.3.0)
    none_moves entry l (reuses a b c d is e) = odd (l _ _ _ is)

keeps_phases : KeepsPhases small lookup
unfolding only_looks
keeps_phases = record {
  in_order = λ n pid from to moves. absurd (moves_none n pid from to moves);
  emptied = λ n actor pid old wins. absurd (odd (looks n wins.entry wins.at _ _ _ wins.holds.0));
  unheld = λ n pid remove chain removes. absurd (odd (looks n removes.entry removes.at _ _ _ removes.holds.0.3.0));
}
  where
    odd : false ≡ true → ⊥
    odd e = cc

is_freed_by_rule : IsFreedByRule small lookup
unfolding only_looks
is_freed_by_rule = record {
  pids = λ n actor word bits pid answer is among. absurd (odd (looks n _ is.1 actor _ answer (is.0, refl)));
  rows = λ n actor word bits row answer is among. absurd (odd (looks n _ is.1 actor _ answer (is.0, refl)));
}
  where
    odd : false ≡ true → ⊥
    odd e = cc

is_faithful : IsFaithful small lookup
is_faithful = record {
  known = λ n actor row answer is. let which = read n actor row answer is in rw (which.0, which.1, which.2) known_row;
  outside = outside lookup refl;
}
  where
    read : (n actor row : ℕ) (answer : Answer Record) → TakesStep lookup n actor (Row row) answer → (n ≡ 5) × (actor ≡ 0) × (row ≡ 1)
    read n actor row answer is =
        let fifth : n ≡ 5 = stands_at reads_row lookup n _ is.1 refl in
        let one = one_row (rw fifth at is.1) in (fifth, one.0, one.1)

    known_row : KnowsRow lookup 5 0 1
    known_row = record {
      at = 4;
      before = lit< tt;
      shown = inl (1, lit< tt, (None, refl));
      inside = λ later epoch answer low high. absurd (omega arith);
      undisturbed = λ later other step answer low high. absurd (omega arith);
    }

at_most : {operation : Operation} (n : ℕ) → IsOwnStep lookup operation n → n ≤ 6
at_most n own = let lt : n < 7 = slice_get_below lookup n _ own.2.1.entry in omega arith

few_steps : (operation : Operation) (n : ℕ) → IsOperation lookup operation → n ≤ 6 → steps_from lookup operation.actor operation.start n ≤ cause_worth small
unfolding cause_worth
few_steps operation n is h = rw (only operation is) (UpTo-at (λ k. steps_from lookup 0 0 k ≤ cause_worth small) 6 (lit≤ tt, (lit≤ tt, (lit≤ tt, (lit≤ tt, (lit≤ tt, (lit≤ tt, lit≤ tt)))))) n h)

-- no more steps than there are entries
seven_since : (operation : Operation) (m n : ℕ) → steps_from lookup operation.actor m n ≤ 7
seven_since operation m n =
    let counted : steps_from lookup operation.actor m n ≤ length (slice_range lookup m (suc n)) = count_by-le-length (is_step_of operation.actor) (slice_range lookup m (suc n)) in
    let taken : length (slice_range lookup m (suc n)) ≡ min (suc n - m) (length (drop m lookup)) = length-take (suc n - m) (drop m lookup) in
    let rest : length (drop m lookup) ≡ length lookup - m = length-drop m lookup in
    let most : min (suc n - m) (length (drop m lookup)) ≤ length (drop m lookup) = min_right (suc n - m) (length (drop m lookup)) in
    omega (arith, counted, taken, rest, most)
  where
    min_right : (a b : ℕ) → min a b ≤ b
    min_right a b = omega arith

few_since : (operation : Operation) (m n : ℕ) → steps_from lookup operation.actor m n ≤ cause_worth small * (0 + 10)
unfolding cause_worth
few_since operation m n = let few = seven_since operation m n in omega (arith, few)

is_direct : IsDirect small lookup
unfolding only_looks
is_direct = record {
  few = λ operation n is own. ([], λ k h. absurd (omega arith), λ k d h. absurd (omega arith), once_is (few_steps operation n is (at_most n own)));
  since = λ operation m n is after le own. ([], λ k h. absurd (omega arith), λ k d h. absurd (omega arith), few_since operation m n);
  once = λ operation m n first second is a b. absurd (odd (looks m _ a.3.1.entry operation.actor _ _ (a.3.0, refl)));
  useful = λ operation n slot old new chain is own. absurd (odd (looks n _ own.1.entry operation.actor _ _ (own.0, refl)));
  reads = λ operation n step answer is reader own. EachAt-get (λ k. IsOfReader) lookup (tt, (tt, (tt, (tt, (tt, (tt, (tt, tt))))))) n _ own.1.entry;
  emptied = λ operation n pid is own. absurd (EachAt-get (λ k. FindsSome) lookup (tt, (tt, (tt, (some, (some, (tt, (tt, tt))))))) n _ own.1.entry refl);
  settled = λ operation n pid row is own above held.
      let one : pid ≡ 1 = EachAt-get (λ k. IsFirstPage) lookup (tt, (tt, (tt, ((λ lt. absurd (omega arith)), ((λ lt. refl), (tt, (tt, tt))))))) n _ own.1.entry above in
      rw one (indexed, inr ((λ k from to low high moves. moves_none k 1 from to moves), refl), (λ e. cc e), (λ e. cc e), lit< tt);
  links = λ operation n slot old new is own. absurd (odd (looks n _ own.1.entry operation.actor _ _ (own.0, refl)));
}
  where
    odd : false ≡ true → ⊥
    odd e = cc

    once_is : {m n : ℕ} → m ≤ n → m ≤ n * (0 + 1)
    once_is h = omega arith

    IsOfReader : Entry → Type 0
    IsOfReader (Begin actor command) = Unit {0}
    IsOfReader (Step actor step answer reply) = IsReading step

    IsFirstPage : Entry → Type 0
    IsFirstPage (Begin actor command) = Unit {0}
    IsFirstPage (Step actor (Slot slot) answer reply) = 0 < slot → slot ≡ 1
    IsFirstPage (Step actor step answer reply) = Unit {0}

    FindsSome : Entry → Type 0
    FindsSome (Begin actor command) = Unit {0}
    FindsSome (Step actor (Slot slot) answer reply) = answer ≡ Number 0 → ⊥
    FindsSome (Step actor step answer reply) = Unit {0}

    some : ◌≡◌ {A = Answer Record} (Number 1) (Number 0) → ⊥
    some none = cc

-- a lookup changes nothing
has_few_changes : HasFewChanges small lookup
unfolding only_looks
has_few_changes = record {
  few = λ n changes among. let none = no_changes 0 n changes among in omega (arith, none);
  since = λ m n changes le among. let none = no_changes m n changes among in omega (arith, none);
  takes = λ n. let none = takes_none n in omega (arith, none);
}
  where
    odd : false ≡ true → ⊥
    odd e = cc

    takes_none : (n : ℕ) → count_by takes_number (take n lookup) ≡ 0
    takes_none n = elim (cases_lt 7 n) [
      | inl lt ↦ ap (count_by takes_number) (take_all n lookup (omega arith))
      | inr le ↦ UpTo-at (λ k. count_by takes_number (take k lookup) ≡ 0) 7 (refl, (refl, (refl, (refl, (refl, (refl, (refl, refl))))))) n le
    ]

    never : (place : ℕ) → Happens small lookup place ChangesTree → ⊥
    never place h = odd (looks place _ h.at _ _ _ h.holds.5.0)

    no_changes : (m n : ℕ) (changes : List ℕ) → AreAmong small lookup m n ChangesTree changes → length changes ≡ 0
    no_changes m n [] among = refl
    no_changes m n (place ∷ changes) among = absurd (never place (among.each 0 0 (omega arith)).2)

is_exact_index : IsExactIndex small lookup
is_exact_index = record {
  rooted =
      λ n h. (
        0,
        UpTo-at (λ k. IsRootLevel (memory_at small lookup k) 0) 7
            (leafy 0 refl refl, (leafy 1 refl refl, (leafy 2 refl refl, (leafy 3 refl refl, (leafy 4 refl refl, (leafy 5 refl refl, (leafy 6 refl refl, leafy 7 refl refl)))))))
            n h,
      );
  each = λ n level top h root below. absurd (too_low n top h root below);
}
  where
    leafy : (k : ℕ) → (memory_at small lookup k).slots 1 ≡ 1 → (memory_at small lookup k).rows 1 ≡ Some opening_leaf → IsPageOfLevel (memory_at small lookup k) 0 1
    leafy k slot row = (opening_leaf ∷ [], leaf_at lookup k slot row, refl)

    leaf : (k : ℕ) → (memory_at small lookup k).slots 0 ≡ 1 → (memory_at small lookup k).slots 1 ≡ 1 → (memory_at small lookup k).rows 1 ≡ Some opening_leaf
        → (top : ℕ) → IsRootLevel (memory_at small lookup k) top → top ≡ 0
    leaf k root slot row top (chain, other, level) = let other_1 : IsChainOf (memory_at small lookup k) 1 chain = rw root at other in
        let same : chain ≡ opening_leaf ∷ [] = IsChainOf-unique (memory_at small lookup k) 1 chain (opening_leaf ∷ []) other_1 (leaf_at lookup k slot row) in sym level ∙ ap level_in same

    too_low : {level : ℕ} (n top : ℕ) → n ≤ 7 → IsRootLevel (memory_at small lookup n) top → level < top → ⊥
    too_low n top h root below = let zero_top : top ≡ 0 = UpTo-at (λ k. (t : ℕ) → IsRootLevel (memory_at small lookup k) t → t ≡ 0) 7 (
      leaf 0 refl refl refl,
      (leaf 1 refl refl refl, (leaf 2 refl refl refl, (leaf 3 refl refl refl, (leaf 4 refl refl refl, (leaf 5 refl refl refl, (leaf 6 refl refl refl, leaf 7 refl refl refl)))))),
    )
        n h top root in omega arith

ends_at_leaves : EndAtLeaves lookup
ends_at_leaves = record { each = EachAt-get (λ n entry. RepliesAtLeave entry) lookup (tt, (refl, (refl, (refl, (refl, (refl, (refl, tt))))))) }

pub is_linearized : IsLinearized small (map turn_of lookup) lookup
is_linearized = record {
  run = record { in_turn = refl; run = is_run };
  ends = ends_at_leaves;
  points = points;
  pointed = has_points;
  answered = is_answered;
  updates = updates_at_links;
  quiet = is_quiet;
  faithful = is_faithful;
}

ends_until_removal : OperationsEndUntilRemoval small lookup
ends_until_removal = record {
  few = λ operation n is own none. ([], record { increasing = λ k h. absurd (omega arith); each = λ k d h. absurd (omega arith) }, once_more (few_steps operation n is (at_most n own)));
  since =
      λ operation m n is after le own none. ([], record { increasing = λ k h. absurd (omega arith); each = λ k d h. absurd (omega arith) }, tenfold_more (cause_worth small) (few_since operation m n));
}
  where
    once_more : {m n : ℕ} → m ≤ n → m ≤ n * (0 + 1)
    once_more h = omega arith

    tenfold_more : {m : ℕ} (worth : ℕ) → m ≤ worth * (0 + 10) → m ≤ worth * (0 + 64 + 11)
    tenfold_more worth h = omega arith

readers_end : ReadersEnd small lookup
readers_end = record {
  few = λ operation n is reader own. ([], record { increasing = λ k h. absurd (omega arith); each = λ k d h. absurd (omega arith) }, enough (seven_since operation operation.start n));
  since = λ operation m n is reader after le own. ([], record { increasing = λ k h. absurd (omega arith); each = λ k d h. absurd (omega arith) }, enough (seven_since operation m n));
  alone = λ operation m n is reader after le own alone. as_many (seven_since operation m n);
}
  where
    most : 7 ≤ one_memory small
    most = lit≤ tt

    enough : {m : ℕ} → m ≤ 7 → m ≤ one_memory small * (0 + 1) + 3
    enough h = let some = most in omega (arith, h, some)

    as_many : {m : ℕ} → m ≤ 7 → m ≤ one_memory small + 3
    as_many h = let some = most in omega (arith, h, some)

alone_until_removal : EndAloneUntilRemoval small lookup
alone_until_removal = record {
  few = λ operation m n is after own alone none.
      ([], record { increasing = λ k h. absurd (omega arith); each = λ k d h. absurd (omega arith) }, enough (cause_worth small) (few_steps operation n is (at_most n own)));
  whole = λ operation n is own alone none. enough (cause_worth small) (few_steps operation n is (at_most n own));
  since = λ operation m n is after le own alone none. more_than (cause_worth small) (few_since operation m n);
}
  where
    enough : {m : ℕ} (worth : ℕ) → m ≤ worth → m ≤ worth * (154 * 64 + 8 * 2 + 1)
    enough worth h = omega arith

    more_than : {m : ℕ} (worth : ℕ) → m ≤ worth * (0 + 10) → m ≤ worth * (155 * 64 + 8 * 2 + 11)
    more_than worth h = omega arith

lock_free_until_removal : AreLockFreeUntilRemoval small lookup
unfolding cause_worth
lock_free_until_removal = record {
  few = λ n none. elim (cases_lt 7 n) [
    | inl lt ↦ let whole : take n lookup ≡ lookup = take_all n lookup (omega arith) in rw whole (lit≤ tt)
    | inr le ↦ UpTo-at (λ k. count_by is_step (take k lookup) ≤ cause_worth small * (count_by begins_one (take k lookup) + 2 * (32 * count_by begins_one (take k lookup) + 64 + 64))) 7
        (lit≤ tt, (lit≤ tt, (lit≤ tt, (lit≤ tt, (lit≤ tt, (lit≤ tt, (lit≤ tt, lit≤ tt))))))) n le
  ];
  ended = λ n none. elim (cases_lt 7 n) [
    | inl lt ↦ let whole : take n lookup ≡ lookup = take_all n lookup (omega arith) in rw whole (lit≤ tt)
    | inr le ↦ UpTo-at (λ k. count_by is_step (take k lookup) ≤ cause_worth small * (count_by is_end (take k lookup) + 2 + 2 * (32 * (count_by is_end (take k lookup) + 2) + 64 + 64))) 7
        (lit≤ tt, (lit≤ tt, (lit≤ tt, (lit≤ tt, (lit≤ tt, (lit≤ tt, (lit≤ tt, lit≤ tt))))))) n le
  ];
}

until_removal : MakesProgressUntilRemoval small lookup
until_removal = record {
  readers = record { few = λ operation n is reader own none. few_steps operation n is (at_most n own) };
  ends = ends_until_removal;
  alone = alone_until_removal;
  together = lock_free_until_removal;
}

all_lock_free : AreLockFree small lookup
unfolding cause_worth
all_lock_free = record {
  few = λ n. elim (cases_lt 7 n) [
    | inl lt ↦ let whole : take n lookup ≡ lookup = take_all n lookup (omega arith) in rw whole (lit≤ tt)
    | inr le ↦ UpTo-at (λ k. count_by is_step (take k lookup) ≤ most_worth small * (count_by begins_one (take k lookup) + 2 * (32 * count_by begins_one (take k lookup) + 64 + 64))) 7
        (lit≤ tt, (lit≤ tt, (lit≤ tt, (lit≤ tt, (lit≤ tt, (lit≤ tt, (lit≤ tt, lit≤ tt))))))) n le
  ];
  ended = λ n. elim (cases_lt 7 n) [
    | inl lt ↦ let whole : take n lookup ≡ lookup = take_all n lookup (omega arith) in rw whole (lit≤ tt)
    | inr le ↦ UpTo-at (λ k. count_by is_step (take k lookup) ≤ most_worth small * (count_by is_end (take k lookup) + 2 + 2 * (32 * (count_by is_end (take k lookup) + 2) + 64 + 64))) 7
        (lit≤ tt, (lit≤ tt, (lit≤ tt, (lit≤ tt, (lit≤ tt, (lit≤ tt, (lit≤ tt, lit≤ tt))))))) n le
  ];
}

-- whether an operation writes or reads
some_worth : (writer : Bool) → 7 ≤ (if writer then cause_worth small * (22 + 1) else one_memory small + 3)
unfolding cause_worth
some_worth true = lit≤ tt
some_worth false = lit≤ tt

makes_progress : MakesProgress small lookup
makes_progress = record {
  ends = record {
    few = λ operation n is own.
        let paid = once (hindrance_worth small operation.command) (some_worth (is_writer operation.command)) (seven_since operation operation.start n) in
        ([], record { increasing = λ k h. absurd (omega arith); each = λ k d h. absurd (omega arith) }, paid);
    since = λ operation m n is after le own.
        let paid = twice (hindrance_worth small operation.command) (some_worth (is_writer operation.command)) (seven_since operation m n) in
        ([], record { increasing = λ k h. absurd (omega arith); each = λ k d h. absurd (omega arith) }, paid);
  };
  alone = record {
    few = λ operation m n is after own alone.
        let paid = with_store (hindrance_worth small operation.command) (some_worth (is_writer operation.command)) (seven_since operation operation.start n) in
        ([], record { increasing = λ k h. absurd (omega arith); each = λ k d h. absurd (omega arith) }, paid);
    since = λ operation m n is after le own alone. within_store (hindrance_worth small operation.command) (some_worth (is_writer operation.command)) (seven_since operation m n);
  };
  together = all_lock_free;
}
  where
    once : {m : ℕ} (worth : ℕ) → 7 ≤ worth → m ≤ 7 → m ≤ worth * (0 + 1)
    once worth least h = omega (arith, least, h)

    twice : {m : ℕ} (worth : ℕ) → 7 ≤ worth → m ≤ 7 → m ≤ worth * (0 + 2)
    twice worth least h = omega (arith, least, h)

    with_store : {m : ℕ} (worth : ℕ) → 7 ≤ worth → m ≤ 7 → m ≤ worth * (0 + 154 * 64 + 8 * 2 + 1)
    with_store worth least h = omega (arith, least, h)

    within_store : {m : ℕ} (worth : ℕ) → 7 ≤ worth → m ≤ 7 → m ≤ worth * (154 * 64 + 8 * 2 + 2)
    within_store worth least h = omega (arith, least, h)

pub is_orderly : IsOrderly small lookup
is_orderly = record {
  phases = keeps_phases;
  index = is_exact_index;
  direct = is_direct;
  few_changes = has_few_changes;
  progress = makes_progress;
  readers = readers_end;
  until_removal = until_removal;
  freed = is_freed_by_rule;
}
