-- After a reuse: what numbers there are, and which slots hold rows.
use Rattle.tree_law.proofs.Words.{false, ◌⊎◌, Option, List, true, inl, inr, ℕ, ◌≡◌, ◌∙◌, ◌<◌, Some, ⊎_elim, Update, is_among, Reply, Limits, Answer, ReuseRows}
use Rattle.tree_law.proofs.Words.{ReusePids, Memory, Record, IsOwn, IsOwnBase, IsPassed, Knowledge, after_reply, learn, Foreign, Taken, Written, OwnRow, IsAnswer, memory_after, Entry}
use Rattle.tree_law.proofs.Words.{Owners, Spare, OwnFits, put, shared_part, slot_in, IsReadyPage, IsInTree, IsNamed, Times, Timed, IsTree}
use Rattle.tree_law.proofs.epochs.Freeing.{row_free_after, freed, freed_page, held, in_tree, not_among, stays, same_page, o1, page2, o2}
use Rattle.tree_law.proofs.trace.Names.{Numbers}
use Rattle.tree_law.proofs.shape.Puts.{by_equal, decided}
use Rattle.std.proofs.lemmas.Bool.{or_cases}

module _ {limits : Limits} {entries : List Entry} {o : Owners} {m : Memory} {knows : ℕ → Knowledge} {log : List Update} {point : ℕ → Option (List Update)}
    {logs : ℕ → List (List Update)} {now : ℕ} {t : Times}
    (g : IsTree (shared_part m) log o knows point logs) (T : Timed limits m o knows now t) (old : IsNamed limits entries o m knows) (a : ℕ)
    (outside : (knows a).inside ≡ false) (word bits : ℕ) (x : Answer Record) (r : Option Reply) where
  module _ (may : (q : ℕ) → is_among word bits q ≡ true → IsPassed limits a ((knows a).limbo.rows q)) (is : IsAnswer m (ReuseRows word bits) x) where
    abbrev pub rows_owners : Owners
    rows_owners = o1 g T a outside word bits may r x

    -- a row that is freed was a row
    freed_below : (q : ℕ) → is_among word bits q ≡ true → q < limits.rows
    freed_below q e =
        let f = freed g T a outside word bits may r x q e in
        elim (old.row_below q) [
          | inl u ↦ absurd (elim (T.rows q f.outing f.is).0 [ inl l ↦ (let z = u in cc) | inr l ↦ (let z = u in cc) ])
          | inr lt ↦ lt
        ]

    pub rows_numbers : Numbers g old a (ReuseRows word bits) x r outside is rows_owners
    rows_numbers = record {
      undisturbed = λ b q e d. let z = not_among g T a outside word bits may r x q (held g T a outside word bits may r x b q e) in absurd (cc);
      zero_free = row_free_after _ (is_among word bits 0) (o.row 0) (t.row_out 0) old.zero_free;
      zero_taken = elim (decided (is_among word bits 0)) [
        | inl e ↦ absurd (let f = freed g T a outside word bits may r x 0 e in let u = old.zero_free in elim (T.rows 0 f.outing f.is).0 [ inl l ↦ (let z = u in cc) | inr l ↦ (let z = u in cc) ])
        | inr e ↦ rw (old.zero_taken, e)
      ];
      free_row_below = λ q e. ⊎_elim (λ (u : m.free_rows q ≡ true). old.free_row_below q u) (freed_below q) (or_cases (m.free_rows q) (is_among word bits q) e);
      row_below = λ q. elim (old.row_below q) [ inl u ↦ inl (row_free_after _ (is_among word bits q) (o.row q) (t.row_out q) u) | inr lt ↦ inr lt ];
      free_pid_below = old.free_pid_below;
    }

    own_of : (b q : ℕ) (v : OwnRow) → OwnFits b (o.row q) (m.rows q) v → IsOwnBase v → (IsOwn v) × (o.row q ≡ Spare b)
    own_of b q Foreign h i = absurd i
    own_of b q Taken h i = (tt, h)
    own_of b q (Written w) h i = (tt, h.0)

    -- slots hold what they held
    pub rows_held : (p q : ℕ) → slot_in m.slots p ≡ Some q
        → IsInTree (o.page p) ⊎ IsReadyPage rows_owners (memory_after a (ReuseRows word bits) m) (put knows a (after_reply (learn (knows a) (ReuseRows word bits) x) r)) p q
    rows_held p q e = elim (old.in_slots p q e) [
      | inl h ↦ inl h
      | inr h ↦ inr (
          let own = own_of h.actor q ((knows h.actor).own.rows q) (g.owns h.actor q) (T.ready h.actor p q h.ready) in
          record {
            actor = h.actor;
            ready = by_equal h.actor a (λ i t. rw t (rw i at h.ready)) (λ ne t. rw t h.ready);
            owned = inr (stays g T a outside word bits may r x q (in_tree g T a outside word bits may r x q (T.own_rows h.actor q own.0)) ∙ own.1);
            base = h.base;
            stands = h.stands;
          })
    ]

  module _ (may : (q : ℕ) → is_among word bits q ≡ true → IsPassed limits a ((knows a).limbo.pids q)) (is : IsAnswer m (ReusePids word bits) x) where
    abbrev pub pages_owners : Owners
    pages_owners = o2 g T a outside word bits may r x

    pub pages_numbers : Numbers g old a (ReusePids word bits) x r outside is pages_owners
    pages_numbers = record {
      undisturbed = λ b q e d. d;
      zero_free = old.zero_free;
      zero_taken = old.zero_taken;
      free_row_below = old.free_row_below;
      row_below = old.row_below;
      free_pid_below = λ q e. elim (or_cases (m.free_pids q) (is_among word bits q) e) [
        | inl u ↦ old.free_pid_below q u
        | inr u ↦ let f = freed_page g T a outside word bits may r x q u in let v = (T.pages q f.outing f.is).0 in
            elim (old.pid_below q) [ inl z ↦ absurd (cc v.2) | inr z ↦ z ]
      ];
    }

    pub pages_held : (p q : ℕ) → slot_in m.slots p ≡ Some q
        → IsInTree (page2 g T a outside word bits may r x p) ⊎ IsReadyPage pages_owners (memory_after a (ReusePids word bits) m)
        (put knows a (after_reply (learn (knows a) (ReusePids word bits) x) r)) p q
    pages_held p q e = elim (old.in_slots p q e) [
      | inl h ↦ inl (rw (same_page g T a outside word bits may r x p (λ i. let f = freed_page g T a outside word bits may r x p i in absurd (cc (T.pages p f.outing f.is).1))) h)
      | inr h ↦ inr (record {
        actor = h.actor;
        ready = by_equal h.actor a (λ i t. rw t (rw i at h.ready)) (λ ne t. rw t h.ready);
        owned = h.owned;
        base = h.base;
        stands = h.stands;
      })
    ]
