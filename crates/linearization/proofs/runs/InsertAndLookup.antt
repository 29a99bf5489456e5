-- An actor inserts a key into the opening tree and looks it up: a run with its points, answered and quiet.
use Rattle.linearization.proofs.Words.{codes, ◌≡◌, ◌<◌, ◌⊎◌, ℕ, suc, List, [], ◌∷◌, Bool, true, false, Some, None, Option, ◌++◌, refl, sym, ap, subst, arith, inl, inr, lit<, ◌∙◌, bit_at}
use Rattle.linearization.proofs.Words.{eqb-true, Command, Get, Insert, StepOf, Answer, Record, opening, ShowsRow, IsRun, memory_at, TakesStep, Happens, IsRun-from_steps, EndAtLeaves, Finishes}
use Rattle.linearization.proofs.Words.{IsOperation, IsOwnStep, Operation, RepliesAtLeave, option_map, is_eq, Value, log_at, HasPoints, IsPoint, has_point, IsAnswered, IsQuiet, HasMapOf, map}
use Rattle.linearization.proofs.Words.{turn_of, IsFaithful, KnowsRow, IsLinearized}
use Rattle.std.specs.Prelude.{slice_get, take, if◌then◌else◌, ◌*◌, ◌+◌, ◌-◌, ◌^◌, ◌==◌}
use Rattle.bw_model.specs.declared.command.Reply.{Reply}
use Rattle.bw_model.specs.declared.command.Reply.TheVariants as reply
use Rattle.bw_model.specs.declared.step.Step.TheVariants.{Slot, Row, Exchange}
use Rattle.bw_model.specs.declared.step.Answer.TheVariants.{Number, Whether}
use Rattle.traces.specs.declared.trace.Entry.TheVariants.{Begin, Step}
use Rattle.traces.specs.trace.Steps.{IsWordOf}
use Rattle.bw_model.specs.Bytes.{key_cmp}
use Rattle.bw_model.specs.declared.step.Link.TheVariants as link
use Rattle.bw_model.specs.Log.{Update, set}
use Rattle.linearization.specs.Examples.{small, opening_leaf, put_a, insert_and_lookup}
use Rattle.linearization.specs.Updates.{LinksUpdate, IsUpdating, UpdatesAtLinks}
use Rattle.linearization.proofs.Listed.{EachAt-get, UpTo, UpTo-at, UpTo-parts, all_below-at, behind, same_operation, stands_at}
use Rattle.linearization.proofs.runs.Kinds.{is_begin, is_done, leaf_at, may_place, one_begin, one_reply, one_row, outside, reads_row, wins}
use Rattle.linearization.proofs.MapLaws.{one_leaf}

-- the points are the exchange of the insert and the read of the leaf's slot
abbrev points : List Bool
points = false ∷ false ∷ false ∷ false ∷ false ∷ false ∷ false ∷ false ∷ false ∷ true ∷ false ∷ false ∷ false ∷ false ∷ false ∷ true ∷ false ∷ false ∷ false ∷ []

-- bits 0 and 1 of the first word of row bits are clear
word : IsWordOf (opening small).free_rows 0 (2 ^ 64 - 4)
word = record { fits = lit< tt; says = λ i h. eqb-true _ _ (all_below-at (λ k. bit_at (2 ^ 64 - 4) k == (if (opening small).free_rows (64 * 0 + k) then 1 else 0)) 64 refl i h) }

is_run : IsRun small insert_and_lookup
is_run = IsRun-from_steps small insert_and_lookup (
  (lit< tt, refl),
  (
    (refl, tt, refl),
    (
      (refl, tt, refl),
      (
        (refl, tt, refl),
        (
          (refl, tt, refl),
          (
            (refl, tt, (opening_leaf, refl, refl)),
            (
              (refl, tt, (2 ^ 64 - 4, word, refl)),
              (
                (refl, tt, refl),
                (
                  (refl, may_place (take 8 insert_and_lookup) 2 refl refl refl, refl),
                  (
                    (refl, tt, refl),
                    (
                      (refl, tt, refl),
                      (
                        (lit< tt, refl),
                        (
                          (refl, tt, refl),
                          (
                            (refl, tt, refl),
                            (
                              (refl, tt, refl),
                              (
                                (refl, tt, refl),
                                (
                                  (refl, tt, (put_a, refl, refl)),
                                  (
                                    (refl, tt, (opening_leaf, refl, refl)),
                                    ((refl, tt, refl), tt),
                                  ),
                                ),
                              ),
                            ),
                          ),
                        ),
                      ),
                    ),
                  ),
                ),
              ),
            ),
          ),
        ),
      ),
    ),
  ),
)

-- before the exchange, and from it on
before : (n : ℕ) → (memory_at small insert_and_lookup n).slots 1 ≡ 1 → (memory_at small insert_and_lookup n).rows 1 ≡ Some opening_leaf → HasMapOf (memory_at small insert_and_lookup n) []
before n slot row = one_leaf (memory_at small insert_and_lookup n) [] (opening_leaf ∷ []) (leaf_at insert_and_lookup n slot row) refl refl refl (λ key. refl)

after : (n : ℕ) → (memory_at small insert_and_lookup n).slots 1 ≡ 2 → (memory_at small insert_and_lookup n).rows 2 ≡ Some put_a → (memory_at small insert_and_lookup n).rows 1 ≡ Some opening_leaf
    → HasMapOf (memory_at small insert_and_lookup n) (set 0 (codes "a") (codes "1") ∷ [])
after n slot put leaf =
    one_leaf (memory_at small insert_and_lookup n) _ (put_a ∷ opening_leaf ∷ [])
    (record { page = lit< tt; linked = rw slot (lit< tt); records = rw slot (put, (leaf, refl)) }) refl refl refl (λ key. by_cases (is_eq (key_cmp key (codes "a"))))
  where
    by_cases : (b : Bool) → (if b then Some (Value (codes "1")) else None) ≡ option_map Value (if b then Some (codes "1") else None)
    by_cases true = refl
    by_cases false = refl

is_quiet : IsQuiet small insert_and_lookup points
is_quiet = record { at_each = UpTo-at Has 19 (UpTo-parts Has 9 9 empty full) }
  where
    Has : ℕ → Type 0
    Has k = HasMapOf (memory_at small insert_and_lookup k) (log_at insert_and_lookup points k)

    empty : UpTo Has 9
    empty = (
      before 0 refl refl,
      (
        before 1 refl refl,
        (before 2 refl refl, (before 3 refl refl, (before 4 refl refl, (before 5 refl refl, (before 6 refl refl, (before 7 refl refl, (before 8 refl refl, before 9 refl refl))))))),
      ),
    )

    full : UpTo (behind 9 Has) 9
    full = (
      after 10 refl refl refl,
      (
        after 11 refl refl refl,
        (
          after 12 refl refl refl,
          (after 13 refl refl refl, (after 14 refl refl refl, (after 15 refl refl refl, (after 16 refl refl refl, (after 17 refl refl refl, (after 18 refl refl refl, after 19 refl refl refl)))))),
        ),
      ),
    )

abbrev the_insert : Operation
the_insert = record { start = 0; actor = 0; command = Insert (codes "a") (codes "1") }

abbrev the_get : Operation
the_get = record { start = 11; actor = 0; command = Get (codes "a") }

begins : (n actor : ℕ) (command : Command) → slice_get insert_and_lookup n ≡ Some (Begin actor command)
    → ((n ≡ 0) × (actor ≡ 0) × (command ≡ Insert (codes "a") (codes "1"))) ⊎ ((n ≡ 11) × (actor ≡ 0) × (command ≡ Get (codes "a")))
begins n actor command e = by_place (stands_at is_begin insert_and_lookup n _ e refl)
  where
    at : (k : ℕ) → n ≡ k → slice_get insert_and_lookup k ≡ Some (Begin actor command)
    at k is = rw is at e

    by_place : (n ≡ 0) ⊎ (n ≡ 11) → ((n ≡ 0) × (actor ≡ 0) × (command ≡ Insert (codes "a") (codes "1"))) ⊎ ((n ≡ 11) × (actor ≡ 0) × (command ≡ Get (codes "a")))
    by_place (inl is) = let one = one_begin {a = 0} {c = Insert (codes "a") (codes "1")} (at 0 is) in inl (is, one.0, one.1)
    by_place (inr is) = let one = one_begin {a = 0} {c = Get (codes "a")} (at 11 is) in inr (is, one.0, one.1)

both : (operation : Operation) → IsOperation insert_and_lookup operation → (operation ≡ the_insert) ⊎ (operation ≡ the_get)
both operation h = elim (begins operation.start operation.actor operation.command h) [
  | inl b ↦ inl (same_operation operation the_insert b.0 b.1 b.2)
  | inr b ↦ inr (same_operation operation the_get b.0 b.1 b.2)
]

none_between : (later : ℕ) (command : Command) → 0 < later → later < 9 → slice_get insert_and_lookup later ≡ Some (Begin 0 command) → ⊥
none_between later command after under e = elim (begins later 0 command e) [ inl b ↦ let is : later ≡ 0 = b.0 in omega arith | inr b ↦ let is : later ≡ 11 = b.0 in omega arith ]

none_later : (later : ℕ) (command : Command) → 11 < later → slice_get insert_and_lookup later ≡ Some (Begin 0 command) → ⊥
none_later later command after e = elim (begins later 0 command e) [ inl b ↦ let is : later ≡ 0 = b.0 in omega arith | inr b ↦ let is : later ≡ 11 = b.0 in omega arith ]

insert_point : IsOwnStep insert_and_lookup the_insert 9
insert_point = (Exchange 1 1 2, Whether true, (None, record { begun = lit< tt; entry = refl; not_ended = none_between }))

get_point : IsOwnStep insert_and_lookup the_get 15
get_point = (Slot 1, Number 2, (None, record { begun = lit< tt; entry = refl; not_ended = λ later command after under e. none_later later command after e }))

marked : (n : ℕ) → IsPoint points n → (n ≡ 9) ⊎ (n ≡ 15)
marked n e = stands_at (λ mark. mark) points n true e refl

-- an operation doesn't have both points
apart : (operation : Operation) → IsOperation insert_and_lookup operation → IsOwnStep insert_and_lookup operation 9 → IsOwnStep insert_and_lookup operation 15 → ⊥
apart operation is first second = elim (both operation is) [
  | inl same ↦ let own : IsOwnStep insert_and_lookup the_insert 15 = rw same at second in own.2.1.not_ended 11 (Get (codes "a")) (lit< tt) (lit< tt) refl
  | inr same ↦ let own : IsOwnStep insert_and_lookup the_get 9 = rw same at first in let late : 11 < 9 = own.2.1.begun in omega arith
]

ends : (n actor : ℕ) (step : StepOf Record) (answer : Answer Record) (answered : Reply)
    → slice_get insert_and_lookup n ≡ Some (Step actor step answer (Some answered))
    → ((n ≡ 10) × (answered ≡ reply.Inserted)) ⊎ ((n ≡ 18) × (answered ≡ reply.Value (codes "1")))
ends n actor step answer answered e = elim (stands_at is_done insert_and_lookup n _ e refl) [
  | inl is ↦ inl (is, one_reply (rw is at e))
  | inr is ↦ inr (is, one_reply (rw is at e))
]

-- each operation ends with its own reply
replies : (operation : Operation) (n : ℕ) (answered : Reply) → IsOperation insert_and_lookup operation → Finishes insert_and_lookup operation n answered
    → ((operation ≡ the_insert) × (answered ≡ reply.Inserted)) ⊎ ((operation ≡ the_get) × (answered ≡ reply.Value (codes "1")))
replies operation n answered is done = elim (both operation is) [
  | inl same ↦ elim (ends n operation.actor done.0 done.1 answered done.2.entry) [
    | inl at ↦ inl (same, at.1)
    | inr at ↦ let own : Finishes insert_and_lookup the_insert n answered = rw same at done in
        let past : 11 < n = rw (at.0) (lit< tt) in absurd (own.2.not_ended 11 (Get (codes "a")) (lit< tt) past refl)
  ]
  | inr same ↦ elim (ends n operation.actor done.0 done.1 answered done.2.entry) [
    | inl at ↦ let own : Finishes insert_and_lookup the_get n answered = rw same at done in
        let late : 11 < n = own.2.begun in let is_ten : n ≡ 10 = at.0 in absurd (omega arith)
    | inr at ↦ inr (same, at.1)
  ]
]

has_points : HasPoints insert_and_lookup points
has_points = record {
  beside = refl;
  own = λ n e. elim (marked n e) [ inl at ↦ (the_insert, insert_begins, rw at insert_point) | inr at ↦ (the_get, get_begins, rw at get_point) ];
  one = λ operation m n is a b p q. elim (marked m p) [
    | inl at ↦ elim (marked n q) [
      | inl too ↦ at ∙ sym too
      | inr too ↦ absurd (apart operation is (subst (IsOwnStep insert_and_lookup operation) at a) (subst (IsOwnStep insert_and_lookup operation) too b))
    ]
    | inr at ↦ elim (marked n q) [
      | inl too ↦ absurd (apart operation is (subst (IsOwnStep insert_and_lookup operation) too b) (subst (IsOwnStep insert_and_lookup operation) at a))
      | inr too ↦ at ∙ sym too
    ]
  ];
  pointed = λ operation n answered is done asks. elim (both operation is) [
    | inl same ↦ rw same (9, insert_point, refl)
    | inr same ↦ rw same (15, get_point, refl)
  ];
  pointless = λ operation m n answered is done asks own mark. elim (replies operation n answered is done) [
    | inl which ↦ let odd : has_point reply.Inserted ≡ false = rw which.1 at asks in cc
    | inr which ↦ let odd : has_point (reply.Value (codes "1")) ≡ false = rw which.1 at asks in cc
  ];
}
  where
    insert_begins : IsOperation insert_and_lookup the_insert
    insert_begins = refl

    get_begins : IsOperation insert_and_lookup the_get
    get_begins = refl

is_answered : IsAnswered small insert_and_lookup points
is_answered = record {
  each = λ operation n answered is done. elim (replies operation n answered is done) [
    | inl which ↦ rw (which.0, which.1) (9, insert_point, refl, inl refl)
    | inr which ↦ rw (which.0, which.1) (15, get_point, refl, inl refl)
  ];
}

updates_at_links : UpdatesAtLinks small insert_and_lookup points
updates_at_links n = (to, from)
  where
    linked : Happens small insert_and_lookup 9 LinksUpdate
    linked = record { entry = Step 0 (Exchange 1 1 2) (Whether true) None; at = refl; holds = (0, 1, 1, 2, link.Put, ((None, refl), refl), inl refl) }

    no_more : (u v : Update) → ◌≡◌ {A = List Update} (v ∷ []) (v ∷ u ∷ []) → ⊥
    no_more u v e = cc

    to : IsUpdating insert_and_lookup points n → Happens small insert_and_lookup n LinksUpdate
    to h = elim (marked n h.0) [
      | inl at ↦ rw at linked
      | inr here ↦ absurd (no_more h.1.0 _ (rw here at h.1.1))
    ]

    exchanged : (actor slot old new : ℕ) (reply : Option Reply) → slice_get insert_and_lookup n ≡ Some (Step actor (Exchange slot old new) (Whether true) reply) → n ≡ 9
    exchanged actor slot old new reply e = stands_at wins insert_and_lookup n _ e refl

    from : Happens small insert_and_lookup n LinksUpdate → IsUpdating insert_and_lookup points n
    from h = rw (exchanged h.holds.0 h.holds.1 h.holds.2 h.holds.3 h.holds.5.0.0 (h.at ∙ ap Some h.holds.5.0.1)) (refl, (set 0 (codes "a") (codes "1"), refl))

-- the reads of records, each with the row's name learnt directly before
is_faithful : IsFaithful small insert_and_lookup
is_faithful = record {
  known = λ n actor row answer is. elim (read n actor row answer is) [
    | inl which ↦ rw (which.0, which.1, which.2) (directly 4 1 (inl (1, lit< tt, (None, refl))))
    | inr (inl which) ↦ rw (which.0, which.1, which.2) (directly 15 2 (inl (1, lit< tt, (None, refl))))
    | inr (inr which) ↦ rw (which.0, which.1, which.2) (directly 16 1 (inr (2, put_a, (None, refl), refl)))
  ];
  outside = outside insert_and_lookup refl;
}
  where
    read : (n actor row : ℕ) (answer : Answer Record) → TakesStep insert_and_lookup n actor (Row row) answer
        → ((n ≡ 5) × (actor ≡ 0) × (row ≡ 1)) ⊎ (((n ≡ 16) × (actor ≡ 0) × (row ≡ 2)) ⊎ ((n ≡ 17) × (actor ≡ 0) × (row ≡ 1)))
    read n actor row answer is = elim (stands_at reads_row insert_and_lookup n _ is.1 refl) [
      | inl which ↦ let one = one_row (rw which at is.1) in inl (which, one.0, one.1)
      | inr (inl which) ↦ inr (let one = one_row (rw which at is.1) in inl (which, one.0, one.1))
      | inr (inr which) ↦ let one = one_row (rw which at is.1) in inr (inr (which, one.0, one.1))
    ]

    directly : (at row : ℕ) → ShowsRow insert_and_lookup at 0 row → KnowsRow insert_and_lookup (suc at) 0 row
    directly at row shown = record {
      at = at;
      before = omega arith;
      shown = shown;
      inside = λ later epoch answer low high. absurd (omega arith);
      undisturbed = λ later other step answer low high. absurd (omega arith);
    }

ends_at_leaves : EndAtLeaves insert_and_lookup
ends_at_leaves = record {
  each = EachAt-get (λ n entry. RepliesAtLeave entry) insert_and_lookup
      (tt, (refl, (refl, (refl, (refl, (refl, (refl, (refl, (refl, (refl, (refl, (tt, (refl, (refl, (refl, (refl, (refl, (refl, (refl, tt)))))))))))))))))));
}

pub is_linearized : IsLinearized small (map turn_of insert_and_lookup) insert_and_lookup
is_linearized = record {
  run = record { in_turn = refl; run = is_run };
  ends = ends_at_leaves;
  points = points;
  pointed = has_points;
  answered = is_answered;
  updates = updates_at_links;
  quiet = is_quiet;
  faithful = is_faithful;
}
