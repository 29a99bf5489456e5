-- What an actor recalls of its reads since it last read slot 0, its last operation has read since then.
use Rattle.tree_law.proofs.Words.{false, ap, refl, Option, suc, List, true, inl, ◌≢◌, length, ◌++◌, inr, ◌∷◌, subst, sym, ℕ, ◌≡◌, Bool, zero, ◌∙◌, ◌<◌, arith, Some, ◌||◌, Reply, Limits, Answer}
use Rattle.tree_law.proofs.Words.{Content, Number, StepOf, Leave, Row, Slot, Memory, replaced_at, Record, Knowledge, learn, recall, Recalled, is_removal}
use Rattle.tree_law.proofs.Words.{IsAnswer, Entry}
use Rattle.tree_law.proofs.Words.{Step, TakesNone, IsTheStep, Operation, TakesOwnStep, IsLast, Walks, [], ◌&&◌, not, if◌then◌else◌, ltb-true}
use Rattle.std.specs.Prelude.{◌≤◌, ltb}
use Rattle.std.proofs.lemmas.Bool.{ltb-false, or_parts}
use Rattle.traces.specs.discipline.Recalled.{Walk, is_lower, note, removal_level, visit}
use Rattle.tree_law.proofs.links.Exchanged.{exchanged_alike}
use Rattle.tree_law.proofs.trace.Owned.{pushed_length}
use Rattle.tree_law.proofs.shape.Puts.{by_equal}
use Rattle.tree_law.proofs.trace.Searches.{takes_kept}
use Rattle.tree_law.proofs.direct.Appended.{takes_below, takes_cases, takes_last}
use Rattle.tree_law.proofs.links.Learning.{learning, at_row, wins, leaves}
use Rattle.std.proofs.lemmas.Bool.{or_left, or_right}

-- what was read stays known but for a read of a row, and a leave
abbrev KeepsSeen : StepOf Record → Type 0
KeepsSeen (Row row) = ⊥
KeepsSeen Leave = ⊥
KeepsSeen step = Unit {0}

seen_kept : (k : Knowledge) (s : StepOf Record) (x : Answer Record) → KeepsSeen s → (learn k s x).read.seen ≡ k.read.seen
seen_kept k s x h = (elim (learning k s x) as (λ s x k' v. KeepsSeen s → k'.read.seen ≡ k.read.seen) [
  | at_row r w ↦ λ h. absurd h
  | leaves y ↦ λ h. absurd h
  | wins p y z ↦ λ h. ap (λ read. read.seen) (exchanged_alike p y z k).read
  | v ↦ λ h. refl
]) h

-- what was read since slot 0 was read stays but for reads, and a leave
abbrev IsStill : StepOf Record → Type 0
IsStill (Slot page) = ⊥
IsStill (Row row) = ⊥
IsStill Leave = ⊥
IsStill step = Unit {0}

still_seen : (s : StepOf Record) → IsStill s → KeepsSeen s
still_seen (Slot page) h = absurd h
still_seen (Row row) h = absurd h
still_seen Leave h = absurd h
still_seen s h = tt

walk_kept : (r : Recalled) (s : StepOf Record) (x : Answer Record) → IsStill s → (recall r s x).walk ≡ r.walk
walk_kept r (Slot page) x h = absurd h
walk_kept r (Row row) x h = absurd h
walk_kept r Leave x h = absurd h
walk_kept r s (Number n) h = refl
walk_kept r s x h = refl

-- the level of the last cause is at or below that of the record, and of those before it

lowest_here : (w : Record) (walk : Walk) → is_removal w ≡ true → (note w walk).level ≤ removal_level w
lowest_here w walk e = by_test (is_lower w walk) refl
  where
    by_test : (b : Bool) → is_lower w walk ≡ b → (if b then removal_level w else walk.level) ≤ removal_level w
    by_test true is = omega arith
    by_test false is =
        let both : (not walk.removed || ltb (removal_level w) walk.level) ≡ false = rw e at is in
        let none : ltb (removal_level w) walk.level ≡ false = (or_parts (not walk.removed) (ltb (removal_level w) walk.level) both).1 in
        ltb-false (removal_level w) walk.level none

lowest_before : (w : Record) (walk : Walk) (level : ℕ) → walk.removed ≡ true → walk.level ≤ level → (note w walk).level ≤ level
lowest_before w walk level gone most = by_test (is_lower w walk) refl
  where
    lower : (b : Bool) → is_removal w ≡ b → (b && (not walk.removed || ltb (removal_level w) walk.level)) ≡ true → ltb (removal_level w) walk.level ≡ true
    lower true e is = rw gone at is
    lower false e is = absurd cc

    by_test : (b : Bool) → is_lower w walk ≡ b → (if b then removal_level w else walk.level) ≤ level
    by_test true is = let less = ltb-true (removal_level w) walk.level (lower (is_removal w) refl is) in omega (arith, less, most)
    by_test false is = most

module _ (limits : Limits) (entries : List Entry) (last : Entry) (op : Operation) where
  abbrev longer : List Entry
  longer = entries ++ last ∷ []

  -- none was taken before, and the last entry is none
  none_longer : (at : ℕ) (Kind : StepOf Record → Type 0)
      → ((step : StepOf Record) (answer : Answer Record) (reply : Option Reply) → last ≡ Step op.actor step answer reply → Kind step → ⊥)
      → TakesNone limits entries op at (length entries) Kind
      → TakesNone limits longer op at (length longer) Kind
  none_longer at Kind never none between step answer low high own kind = elim (takes_cases entries last op between step answer own) [
    | inl before ↦ none between step answer low (takes_below entries last op between step answer before) before kind
    | inr now ↦ never step answer now.1.0 now.1.1 kind
  ]

  -- The walk goes on with an entry that reads nothing.
  pub walks_kept : (seen : ℕ → Option Record) (walk : Walk)
      → ((step : StepOf Record) (answer : Answer Record) (reply : Option Reply) → last ≡ Step op.actor step answer reply → ((page : ℕ) → step ≢ Slot page) × ((row : ℕ) → step ≢ Row row))
      → Walks limits entries op seen walk → Walks limits longer op seen walk
  walks_kept seen walk reads h = record {
    at = h.at;
    root = h.root;
    begins = takes_kept entries last op h.at _ _ h.begins;
    last = none_longer h.at (IsTheStep limits entries op (Slot 0)) (λ step answer reply is kind. (reads step answer reply is).0 0 kind) h.last;
    slots = λ page fresh new. none_longer h.at (IsTheStep limits entries op (Slot page)) (λ step answer reply is kind. (reads step answer reply is).0 page kind) (h.slots page fresh new);
    rows = λ n row answer low own. elim (takes_cases entries last op n (Row row) answer own) [
      | inl before ↦ h.rows n row answer low before
      | inr now ↦ absurd ((reads (Row row) answer now.1.0 now.1.1).1 row refl)
    ];
    named = λ page names. let f = h.named page names in (f.0, f.1, f.2, f.3, takes_kept entries last op f.0 _ _ f.4, f.5);
  }

  module _ (s : StepOf Record) (x : Answer Record) (reply : Option Reply) (latest : IsLast entries op) (is : last ≡ Step op.actor s x reply) where
    -- the last entry is this step
    is_step : (step : StepOf Record) (answer : Answer Record) (other : Option Reply) → last ≡ Step op.actor step answer other → (step ≡ s) × (answer ≡ x)
    is_step step answer other own = let same : Step op.actor step answer other ≡ Step op.actor s x reply = sym own ∙ is in (cc, cc)

    -- with slot 0 the walk begins
    begun : (n : ℕ) (seen : ℕ → Option Record) (walk : Walk) → s ≡ Slot 0 → x ≡ Number n → Walks limits longer op seen (visit 0 walk)
    begun n seen walk i j =
        let long : length longer ≡ suc (length entries) = pushed_length entries last in
        record {
          at = length entries;
          root = n;
          begins = takes_last entries last op (Slot 0) (Number n) reply latest (is ∙ λ d. Step op.actor (i d) (j d) reply);
          last = λ between step answer low high own kind. omega arith;
          slots = λ page fresh new between step answer low high own kind. omega arith;
          rows = λ m row answer low own. let high : m < length longer = takes_below longer last op m (Row row) answer own in absurd (omega arith);
          named = λ page names. absurd names;
        }

    -- the slot of a page is read
    visited : (p n : ℕ) (seen : ℕ → Option Record) (walk : Walk) → s ≡ Slot (suc p) → x ≡ Number n → Walks limits entries op seen walk → Walks limits longer op seen (visit (suc p) walk)
    visited p n seen walk i j h = record {
      at = h.at;
      root = h.root;
      begins = takes_kept entries last op h.at _ _ h.begins;
      last = none_longer h.at (IsTheStep limits entries op (Slot 0)) (λ step answer other own kind. let e : Slot 0 ≡ Slot (suc p) = sym kind ∙ (is_step step answer other own).0 ∙ i in cc) h.last;
      slots =
          λ page fresh new. none_longer h.at (IsTheStep limits entries op (Slot page))
          (λ step answer other own kind. new.0 (let e : Slot page ≡ Slot (suc p) = sym kind ∙ (is_step step answer other own).0 ∙ i in cc))
          (h.slots page fresh (rw fresh at new.1));
      rows = λ m row answer low own. elim (takes_cases entries last op m (Row row) answer own) [
        | inl before ↦ h.rows m row answer low before
        | inr now ↦ absurd (cc (is_step (Row row) answer now.1.0 now.1.1).0)
      ];
      named = λ page names. let f = h.named page names in (f.0, f.1, f.2, f.3, takes_kept entries last op f.0 _ _ f.4, f.5);
    }

    -- a record is read
    noted : (q : ℕ) (w : Record) (seen : ℕ → Option Record) (walk : Walk) → s ≡ Row q → x ≡ Content w → Walks limits entries op seen walk
        → Walks limits longer op (replaced_at q (Some w) seen) (note w walk)
    noted q w seen walk i j h =
        let took : TakesOwnStep longer op (length entries) (Row q) (Content w) = takes_last entries last op (Row q) (Content w) reply latest (is ∙ λ d. Step op.actor (i d) (j d) reply) in
        let low : h.at < length entries = takes_below entries last op h.at _ _ h.begins in
        record {
          at = h.at;
          root = h.root;
          begins = takes_kept entries last op h.at _ _ h.begins;
          last = none_longer h.at (IsTheStep limits entries op (Slot 0)) (λ step answer other own kind. let e : Slot 0 ≡ Row q = sym kind ∙ (is_step step answer other own).0 ∙ i in cc) h.last;
          slots =
              λ page fresh new. none_longer h.at (IsTheStep limits entries op (Slot page))
              (λ step answer other own kind. let e : Slot page ≡ Row q = sym kind ∙ (is_step step answer other own).0 ∙ i in cc)
              (h.slots page (or_parts (is_removal w) walk.removed fresh).1 new);
          rows = λ m row answer after own. by_equal row q
              (λ same t. rw t (w, refl, λ e. (or_left (is_removal w) walk.removed e, lowest_here w walk e)))
              (λ ne t. rw t (elim (takes_cases entries last op m (Row row) answer own) [
                | inl before ↦ let f = h.rows m row answer after before in
                    (f.0, f.1, λ e. let was = f.2 e in (or_right (is_removal w) walk.removed was.0, lowest_before w walk (removal_level f.0) was.0 was.1))
                | inr now ↦ absurd (ne (let e : Row row ≡ Row q = (is_step (Row row) answer now.1.0 now.1.1).0 ∙ i in cc))
              ]));
          named = λ page names. elim names [
            | inl here ↦ (length entries, q, w, low, took, here)
            | inr old ↦ let f = h.named page old in (f.0, f.1, f.2, f.3, takes_kept entries last op f.0 _ _ f.4, f.5)
          ];
        }

    -- neither is read
    still : (k : Knowledge) (r : Recalled) → IsStill s → (r.walk.rooted ≡ true → Walks limits entries op k.read.seen r.walk) → (recall r s x).walk.rooted ≡ true
        → Walks limits longer op (learn k s x).read.seen (recall r s x).walk
    still k r rests h rooted =
        let same : (recall r s x).walk ≡ r.walk = walk_kept r s x rests in
        let kept : Walks limits longer op k.read.seen r.walk = walks_kept k.read.seen r.walk
        (λ step answer other own. (λ page e. subst IsStill (sym (is_step step answer other own).0 ∙ e) rests, λ row e. subst IsStill (sym (is_step step answer other own).0 ∙ e) rests))
        (h (ap (λ (walk : Walk). walk.rooted) (sym same) ∙ rooted)) in
        rw (seen_kept k s x (still_seen s rests)) (rw same kept)

  pub walks_own : (s : StepOf Record) (x : Answer Record) (reply : Option Reply) (latest : IsLast entries op) (is : last ≡ Step op.actor s x reply) (k : Knowledge) (r : Recalled) (memory : Memory)
      → IsAnswer memory s x
      → (r.walk.rooted ≡ true → Walks limits entries op k.read.seen r.walk) → (recall r s x).walk.rooted ≡ true → Walks limits longer op (learn k s x).read.seen (recall r s x).walk
  walks_own (Slot zero) x reply latest is k r memory says h rooted = rw says (begun (Slot zero) x reply latest is (memory.slots 0) k.read.seen r.walk refl says)
  walks_own (Slot (suc p)) x reply latest is k r memory says h rooted =
      let was : r.walk.rooted ≡ true = rw says at rooted in
      rw says (rw (seen_kept k (Slot (suc p)) (Number (memory.slots (suc p))) tt) (visited (Slot (suc p)) x reply latest is p (memory.slots (suc p)) k.read.seen r.walk refl says (h was)))
  walks_own (Row q) x reply latest is k r memory says h rooted =
      let was : r.walk.rooted ≡ true = rw says.2 at rooted in
      rw says.2 (noted (Row q) x reply latest is q says.0 k.read.seen r.walk refl says.2 (h was))
  walks_own Leave x reply latest is k r memory says h rooted = absurd (cc)
  walks_own s x reply latest is k r memory says h rooted = still s x reply latest is k r tt h rooted
