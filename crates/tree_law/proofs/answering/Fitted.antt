-- What a state's memory answers fits what each actor knows.
use Rattle.tree_law.proofs.Words.{false, ◌⊎◌, ap, refl, Option, suc, None, List, true, inl, ◌≤◌, inr, ◌∷◌, subst, sym, ℕ, ◌≡◌, Bool, zero, ◌∙◌, ◌<◌, arith, Some, ◌+◌, ◌==◌, ◌*◌, eqb-true}
use Rattle.tree_law.proofs.Words.{same_Some, bit_at, IfSome, if◌then◌else◌, Limits, Answer, Whether, Number, StepOf, TakePid, Row, TakeRow, Slot, Epoch, PidBits, Exchange, RowBits, Announce, Memory}
use Rattle.tree_law.proofs.Words.{next_row, IsSpellable, Record, low_in, level_in, May, MayExchange, Fits, knows, Knowledge, Foreign, Empty, OwnPage, Taken, Other, Gone, Written, OwnRow, LimboMark}
use Rattle.tree_law.proofs.Words.{Absent, IsAnswer, IsWordOf, memory_of, Entry, Key, Free, Linked, Reached, OwnFits, PageFits, Nobody, Placed, Indexed, PageOwner, Keeps}
use Rattle.tree_law.proofs.Words.{Fresh, shared_part, slot_in, row_in, IsState, phase_of, IsInTree, LimboFits, Outing, []}
use Rattle.tree_law.proofs.links.Merging.{frozen_as}
use Rattle.traces.specs.discipline.Fitting.{FitsWord, ReadsRemoved}
use Rattle.traces.specs.discipline.Fitting.{FitsRow, FitsTaken, FitsTakenPid, AreOutOfLimbo, FitsExchange}
use Rattle.traces.proofs.FittedLaws.{first_spellable}
use Rattle.linearization.specs.Phases as phase
use Rattle.tree_law.proofs.epochs.Exchanging.{on_walk, slot_linked}
use Rattle.tree_law.proofs.links.Keeping.{slot_of, met_placed}
use Rattle.tree_law.proofs.shape.{is_indexed, below_top, placed_reached, slot_some, by_equal, next_linked, none_if, false_if}
use Rattle.tree_law.proofs.trace.Names.{slot_none}
use Rattle.tree_law.proofs.links.Relinking.{not_own, found, place_of}
use Rattle.tree_law.proofs.trace.Slots.{reached_in_tree}
use Rattle.tree_law.proofs.answering.Whole.{reached_one, read_reached, short_front, whole_chain}

in_tree_phase : (w : PageOwner) → IsInTree w → phase_of w ≡ phase.free → ⊥
in_tree_phase Nobody h e = absurd h
in_tree_phase (Keeps a) h e = absurd h
in_tree_phase (Placed Fresh l s) h e = cc
in_tree_phase w h e = cc

above : (n : ℕ) → (n ≡ 0 → ⊥) → 0 < n
above zero never = absurd (never refl)
above (suc n) never = omega arith

module _ (limits : Limits) (entries : List Entry) (state : IsState limits entries) (a : ℕ) where
  abbrev m : Memory
  m = memory_of limits entries

  abbrev k : Knowledge
  k = knows entries a

  stands : (r : ℕ) (w : Record) → k.read.seen r ≡ Some w → m.rows r ≡ Some w
  stands r w e = (rw e at ((state.is_tree.sound a).seen_fits r)).1

  -- a linked row is a row
  linked_some : (r : ℕ) → state.owners.row r ≡ Linked → (0 < r) × (r < limits.rows)
  linked_some r l = (
    above r (λ z. let f : state.owners.row r ≡ Free = ap state.owners.row z ∙ state.named.zero_free in absurd (cc)),
    elim (state.named.row_below r) [ inl f ↦ absurd (cc) | inr lt ↦ lt ],
  )

  free_some : (r : ℕ) → m.free_rows r ≡ true → (0 < r) × (r < limits.rows)
  free_some r e = (above r (λ z. let f : m.free_rows r ≡ false = ap m.free_rows z ∙ state.named.zero_taken in absurd (cc)), state.named.free_row_below r e)

  next_some : (w : Record) → IfSome (next_row w) (λ n. state.owners.row n ≡ Linked) → IfSome (next_row w) (λ n. (0 < n) × (n < limits.rows))
  next_some w h = elim (next_row w) as (λ o. IfSome o (λ n. state.owners.row n ≡ Linked) → IfSome o (λ n. (0 < n) × (n < limits.rows))) [ None ↦ λ h. tt | Some n ↦ λ h. linked_some n h ] h

  -- a page of the tree is below the limit
  placed_below : (r p l : ℕ) (s : Key) → Reached r l s (state.owners.page p) → (0 < p) × (p < limits.pids)
  placed_below r p l s h = elim (state.named.pid_below p) [ inl f ↦ absurd (in_tree_phase (state.owners.page p) (reached_in_tree r l s (state.owners.page p) h) f) | inr below ↦ below ]

  -- a record in a linked row is one that a row can spell
  is_spellable : (q : ℕ) (w : Record) → state.owners.row q ≡ Linked → m.rows q ≡ Some w → IsSpellable w
  is_spellable q w linked e =
      let l = state.is_tree.closed q linked in
      rw (same_Some l.content w (sym l.stands ∙ e)) at (first_spellable l.content l.rest ((state.fitted q linked (l.content ∷ l.rest) (l.stands, l.is_rest)).fitted))

  fits_row : (q : ℕ) (w : Record) → k.read.learnt q ≡ true → m.rows q ≡ Some w → FitsRow limits k q w
  fits_row q w learnt e = record {
    same = λ before seen. same_Some w before (sym e ∙ stands q before seen);
    spellable = is_spellable q w ((state.is_tree.sound a).learnt_fits q learnt) e;
    next = next_some w (next_linked state.owners (shared_part m) state.is_tree.closed q w ((state.is_tree.sound a).learnt_fits q learnt) e);
    short = λ page head front at part. short_front state.is_tree state.fitted a q w e page head front at part;
    whole = λ page head front at part last. whole_chain state.is_tree state.fitted a q w e page head front at part limits placed_below last;
  }

  fits_word : (free : ℕ → Bool) (limit word bits : ℕ) → ((n : ℕ) → free n ≡ true → (0 < n) × (n < limit)) → IsWordOf free word bits → FitsWord limit word bits
  fits_word free limit word bits below is = record {
    fits = is.fits;
    below = λ i lt e. below (64 * word + i) (set_bit (free (64 * word + i)) (bit_at bits i) e (is.says i lt));
  }
    where
      set_bit : (t : Bool) (n : ℕ) → n ≡ 1 → n ≡ (if t then 1 else 0) → t ≡ true
      set_bit true n e f = refl
      set_bit false n e f = absurd (omega arith)

  -- what is not out is in no limbo
  not_in_limbo : (out : Option Outing) → out ≡ None → (l : LimboMark) → LimboFits a (λ c. (knows entries c).inside) state.times.entered out l → l ≡ Absent
  not_in_limbo out e Absent h = refl
  not_in_limbo out e l h = absurd (cc h.1)

  fits_taken : (q : ℕ) → m.free_rows q ≡ true → FitsTaken limits k q
  fits_taken q e =
      let row_in : state.times.row_out q ≡ None = none_if (state.times.row_out q) (λ w i. elim (state.timed.rows q w i).0 [ inl l ↦ (let f = was in cc) | inr l ↦ (let f = was in cc) ]) in
      record {
        some = (free_some q e).0;
        below = (free_some q e).1;
        foreign = is_foreign (k.own.rows q) (state.is_tree.owns a q);
        unlearnt = false_if (k.read.learnt q) (λ i. let f = was in let g : state.owners.row q ≡ Linked = (state.is_tree.sound a).learnt_fits q i in cc);
        unseen = none_if (k.read.seen q) (λ w i. let f = was in let g = (rw i at ((state.is_tree.sound a).seen_fits q)).0 in cc);
        freed = not_in_limbo (state.times.row_out q) row_in (k.limbo.rows q) (state.timed.limbo_rows a q);
      }
    where
      was : state.owners.row q ≡ Free
      was = state.is_tree.frees.row q e

      is_foreign : (o : OwnRow) → OwnFits a (state.owners.row q) (m.rows q) o → o ≡ Foreign
      is_foreign Foreign h = refl
      is_foreign Taken h = let f = was in absurd (cc)
      is_foreign (Written w) h = let f = was in let g = h.0 in absurd (cc)

  fits_taken_pid : (q : ℕ) → m.free_pids q ≡ true → FitsTakenPid limits k q
  fits_taken_pid q e = record {
    some = (state.named.free_pid_below q e).0;
    below = (state.named.free_pid_below q e).1;
    other = is_other (k.own.pages q) (state.is_tree.owns_pages a q);
    unread = none_if (k.read.heads q) (λ x i. let h = rw i at ((state.is_tree.sound a).heads_fit q) in rw was at h.3);
    freed = not_in_limbo (state.times.page_out q) (none_if (state.times.page_out q) (λ w i. let v = (state.timed.pages q w i).0.2 in let f = was in cc)) (k.limbo.pids q) (state.timed.limbo_pids a q);
  }
    where
      was : state.owners.page q ≡ Nobody
      was = (state.is_tree.frees.page q e).0

      is_other : (o : OwnPage) → PageFits a (state.owners.page q) (slot_in m.slots q) o → o ≡ Other
      is_other Other h = refl
      is_other Gone h = let f = was in let g = h.2 in absurd (cc)
      is_other o h = let f = was in let g = h.0 in absurd (cc)

  -- a page that was the root is in its place
  root_linked : (p : ℕ) → k.read.roots p ≡ true → 0 < m.slots p
  root_linked p root =
      let first = state.rooted a p root in
      let index = is_indexed m state.is_tree in
      let le = below_top m state.is_tree p first.0 [] first.1.0 first.1.1 in
      rw (index.only p first.0 first.1.0 le first.1.1 first.1.2) ((index.begins first.0 le).1.linked)

  -- a page that was read removed is as it was, or its slot is empty
  stays : (p head : ℕ) → ReadsRemoved k (suc p) head → (m.slots (suc p) ≡ head) ⊎ (m.slots (suc p) ≡ 0)
  stays p head h = elim (frozen_as state.is_tree a (suc p) head h.head h.chain h.read h.gone) [
    | inl u ↦ inl (slot_some m.slots (suc p) head u).1
    | inr u ↦ inr (slot_none m.slots (suc p) (omega arith) u.0)
  ]

  -- a page in the tree is none that an actor took and has not set
  unowned : (p l : ℕ) (s : Key) → Reached 0 l s (state.owners.page (suc p)) → k.own.pages (suc p) ≡ Empty → ⊥
  unowned p l s here e = rw (rw e at (state.is_tree.owns_pages a (suc p))).0 at here

  fits_slot : (p : ℕ) → May a k (Slot p) → Fits limits k (Slot p) (Number (m.slots p))
  fits_slot zero may = elim (state.named.pid_below (m.slots 0)) [
    | inl f ↦ absurd (cc state.is_tree.tree.exact.is_root)
    | inr below ↦ (
      below.0,
      below.1,
      λ head chain e h.
          (reached_one 0 0 state.is_tree.tree.top (level_in chain) [] (low_in chain) (state.owners.page (m.slots 0))
          (placed_reached state.is_tree.tree.top [] Indexed (state.owners.page (m.slots 0)) state.is_tree.tree.exact.is_root)
          (read_reached state.is_tree state.fitted a (m.slots 0) head chain e h)).1,
    )
  ]
  fits_slot (suc p) may = let here = met_placed state.is_tree a (suc p) may.1 in elim (slot_of state.is_tree a (suc p) here.0 here.1 here.2) [
    | inl none ↦ let z : m.slots (suc p) ≡ 0 = slot_none m.slots (suc p) (omega arith) none.0 in let some : 64 ≤ limits.rows = limits.allowed.some_rows in
        (omega arith, λ root. root_linked (suc p) root, λ head h. inr z, unowned p here.0 here.1 here.2)
    | inr found ↦ let at : m.slots (suc p) ≡ found.0 = (slot_some m.slots (suc p) found.0 found.1).1 in let some = linked_some found.0 found.2.linked in
        (rw at some.1, λ root. rw at some.0, λ head h. stays p head h, unowned p here.0 here.1 here.2)
  ]

  fits_take : (q : ℕ) (t : Bool) → m.free_rows q ≡ t → Fits limits k (TakeRow q) (Whether t)
  fits_take q true e = fits_taken q e
  fits_take q false e = tt

  fits_take_pid : (q : ℕ) (t : Bool) → m.free_pids q ≡ t → Fits limits k (TakePid q) (Whether t)
  fits_take_pid q true e = fits_taken_pid q e
  fits_take_pid q false e = tt

  -- the rows from that in the slot of a page of the tree on are in it, and none is in limbo
  walk_out_of_limbo : (p x l : ℕ) (s : Key) → Reached 0 l s (state.owners.page p) → slot_in m.slots p ≡ Some x → AreOutOfLimbo limits k x
  walk_out_of_limbo p x l s reached held = λ row walk.
      let first = state.timed.slots p x l s reached held in
      let on = on_walk state.is_tree state.timed a p 13 (Some x) row (slot_linked state.is_tree state.timed a p x l s reached held, first.0, first.1) walk in
      let some = linked_some row on.0 in
      (some.0, some.1, not_in_limbo (state.times.row_out row) on.2 (k.limbo.rows row) (state.timed.limbo_rows a row))

  -- a page whose term the actor took out is in no limbo, nor is its chain
  gone_out_of_limbo : (p x : ℕ) → k.own.pages p ≡ Gone → slot_in m.slots p ≡ Some x → (k.limbo.pids p ≡ Absent) × AreOutOfLimbo limits k x
  gone_out_of_limbo p x gone held =
      let was = rw gone at (state.is_tree.owns_pages a p) in
      let reached = subst (λ (v : PageOwner). Reached 0 was.0 was.1 v) (sym was.2) (refl, refl) in (
        not_in_limbo (state.times.page_out p) (state.timed.gone_pages a p gone) (k.limbo.pids p) (state.timed.limbo_pids a p),
        walk_out_of_limbo p x was.0 was.1 reached held,
      )

  fits_exchange : (p x y : ℕ) (t : Bool) → MayExchange a k p x y → (m.slots p == x) ≡ t → FitsExchange limits k p x y t
  fits_exchange zero x y t may e = tt
  fits_exchange (suc p) zero zero t may e = absurd may
  fits_exchange (suc p) zero (suc y) t may e =
      let own = rw may.0 at (state.is_tree.owns_pages a (suc p)) in
      sym e ∙ rw (slot_none m.slots (suc p) (omega arith) own.1) refl
  fits_exchange (suc p) (suc x) zero t may e =
      let wins : m.slots (suc p) ≡ suc x → t ≡ true = λ at. sym e ∙ rw at (by_equal (suc x) (suc x) (λ i t. rw t) (λ ne t. rw t (absurd (ne refl)))) in (
        λ ready.
            wins (slot_some m.slots (suc p) (suc x) (rw ready at (state.is_tree.owns_pages a (suc p))).1).1,
        λ gone h.
            let own = rw gone at (state.is_tree.owns_pages a (suc p)) in
            elim (frozen_as state.is_tree a (suc p) (suc x) h.head h.chain h.read h.gone) [
              | inl u ↦ wins (slot_some m.slots (suc p) (suc x) u).1
              | inr u ↦ absurd (cc (u.0, own.3))
            ],
        λ won gone. gone_out_of_limbo (suc p) (suc x) gone (ap row_in (eqb-true (m.slots (suc p)) (suc x) (e ∙ won))),
      )
  fits_exchange (suc p) (suc x) (suc y) t may e = λ won.
      let at : m.slots (suc p) ≡ suc x = eqb-true (m.slots (suc p)) (suc x) (e ∙ won) in
      let read = may.basis in
      let place = place_of state.is_tree a (suc p) (suc x) read.chain (found state.is_tree a (suc p) (suc x) read) read.alive (ap row_in at) in
      let reached = placed_reached (level_in read.chain) (low_in read.chain) place.stage (state.owners.page (suc p)) place.placed in (
        not_own state.is_tree a (suc p) (level_in read.chain) (low_in read.chain) place.stage place.placed (k.own.pages (suc p)) (state.is_tree.owns_pages a (suc p)),
        walk_out_of_limbo (suc p) (suc x) (level_in read.chain) (low_in read.chain) reached (ap row_in at),
      )

  pub fits : (step : StepOf Record) (answer : Answer Record) → May a k step → IsAnswer m step answer → Fits limits k step answer
  fits (Slot p) answer may is = rw is (fits_slot p may)
  fits (Row q) answer may is = rw is.2 (fits_row q is.0 may.1 is.1)
  fits Epoch answer may is = subst (Fits limits k Epoch) (sym is) (state.named.epoch.0, state.named.epoch.1, not_before k.limbo.epoch refl)
    where
      not_before : (o : Option ℕ) → k.limbo.epoch ≡ o → IfSome o (λ before. before ≤ m.epoch)
      not_before None e = tt
      not_before (Some before) e = state.timed.epochs a before e
  fits (PidBits word) answer may is = rw is.2 (fits_word m.free_pids limits.pids word is.0 state.named.free_pid_below is.1)
  fits (RowBits word) answer may is = rw is.2 (fits_word m.free_rows limits.rows word is.0 free_some is.1)
  fits (Exchange p x y) answer may is = rw is (fits_exchange p x y (m.slots p == x) may.1 refl)
  fits (TakeRow q) answer may is = rw is (fits_take q (m.free_rows q) refl)
  fits (TakePid q) answer may is = rw is (fits_take_pid q (m.free_pids q) refl)
  fits (Announce b) answer may is = rw is (at_most (state.named.posted b) state.named.epoch.1)
    where
      at_most : {x y z : ℕ} → x ≤ y → y ≤ z → x ≤ z
      at_most i j = omega arith
  fits step answer may is = rw is tt

  -- a row that the actor may read has a record
  pub row_stands : (q : ℕ) → May a k (Row q) → (content : Record) × (m.rows q ≡ Some content)
  row_stands q may = let l = state.is_tree.closed q ((state.is_tree.sound a).learnt_fits q may.1) in (l.content, l.stands)
