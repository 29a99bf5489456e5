-- One more step: what the limbos show of it, and that what it frees is freed by the rule.
use Rattle.tree_law.proofs.Words.{false, ◌⊎◌, ap, refl, Option, suc, None, List, true, inl, length, ◌++◌, inr, ◌∷◌, sym, ℕ, ◌≡◌, zero, ◌∙◌, ◌<◌, arith, Some, take, eqb, eqb-true, same_Some}
use Rattle.tree_law.proofs.Words.{Contains, IfSome, MatchOption, unwrap_or, slice_index_or, Update, is_among, Reply, Limits, Answer, StepOf, ReuseRows, ReusePids, TakePid, TakeRow, Exchange, Memory}
use Rattle.tree_law.proofs.Words.{next_row, Record, slice_get_below, slice_get-push, take-push_whole, TakesStep-push_cases, memory_of-push, IsChainOf, IsOnChain, chain_rows, IsChainFrom, low_in}
use Rattle.tree_law.proofs.Words.{level_in, MayExchange, IsAllowed, IsPassed, MayFree, knows, Knowledge, after_reply, learn, Other, Unstamped, LimboMark, Absent, Stamped, passed_by}
use Rattle.tree_law.proofs.Words.{with_stamp, IsAnswer, memory_after, memory_at, memory_of, IsStep, Entry, Step, UnlinksPid, UnlinksRow, HandsPid, HandsRow}
use Rattle.tree_law.proofs.Words.{Key, IsInLimbo, Free, Linked, Owners, Reached}
use Rattle.tree_law.proofs.Words.{Nobody, put, shared_part, slot_in, IsReadyPage, IsState, IsInTree, Times, Timed, LimboFits, Outing, IsTree, []}
use Rattle.traces.specs.trace.Trace.{TakesStep}
use Rattle.linearization.specs.Reuse.{IsFreedByRule}
use Rattle.tree_law.proofs.links.Keeping.{slot_of}
use Rattle.tree_law.proofs.epochs.Limbed.{LimboCase, as_it_was, is_stamped, is_passed, is_out, is_freed, RowOut, PageOut, FreesRows, FreesPids, limbo_case, walk_contained}
use Rattle.tree_law.proofs.epochs.Limbos.{limbo_push, stamped_now, passed_now, freed_push, freed_now, pid_longer, row_longer}
use Rattle.tree_law.proofs.shape.{slot_some, by_equal, put_same, next_linked, own_base}
use Rattle.tree_law.proofs.trace.Names.{placed_at, slot_none, whether_same, base_alone, on_chain}
use Rattle.tree_law.proofs.trace.Owned.{pushed_length}

-- what is in a limbo is there still when it was stamped, and when an actor was passed
unstamped : (e : ℕ) (l : LimboMark) → with_stamp e l ≡ Absent → l ≡ Absent
unstamped e Absent h = refl
unstamped e l h = absurd (cc)

unpassed : (c value : ℕ) (l : LimboMark) → passed_by c value l ≡ Absent → l ≡ Absent
unpassed c value Absent h = refl
unpassed c value l h = absurd (cc)

-- a row that is out is on no chain
module _ {limits : Limits} {m : Memory} {log : List Update} {o : Owners} {knows : ℕ → Knowledge} {point : ℕ → Option (List Update)}
    {logs : ℕ → List (List Update)} {now : ℕ} {t : Times} (g : IsTree (shared_part m) log o knows point logs) (T : Timed limits m o knows now t)
    (held : (p q : ℕ) → slot_in m.slots p ≡ Some q → IsInTree (o.page p) ⊎ IsReadyPage o m knows p q) where
  in_chain : (x : ℕ) (c : List Record) → o.row x ≡ Linked → t.row_out x ≡ None → IsChainFrom m.rows x c → (row : ℕ) → Contains (chain_rows x c) row → t.row_out row ≡ None
  in_chain x [] l e h row among = absurd h
  in_chain x (w ∷ c) l e h row (zero, lt, i) = ap t.row_out (sym i) ∙ e
  in_chain x (w ∷ c) l e h row (suc k, lt, i) = under (next_row w) refl (next_linked o (shared_part m) g.closed x w l h.0) h.1 (omega arith) i (λ n. in_chain n c)
    where
      under : (v : Option ℕ) → next_row w ≡ v → IfSome v (λ n. o.row n ≡ Linked) → MatchOption v (c ≡ []) (λ n. IsChainFrom m.rows n c)
          → k < length (chain_rows (unwrap_or v 0) c) → slice_index_or (chain_rows (unwrap_or v 0) c) k row ≡ row
          → ((n : ℕ) → o.row n ≡ Linked → t.row_out n ≡ None → IsChainFrom m.rows n c → (row : ℕ) → Contains (chain_rows n c) row → t.row_out row ≡ None) → t.row_out row ≡ None
      under None j i0 empty within at deeper = absurd (let none_there : length (chain_rows 0 c) ≡ 0 = rw empty in omega arith)
      under (Some n) j i0 below within at deeper = deeper n i0 ((T.together x n w l h.0 j).1 ∙ e) below row (k, within, at)

  pub off_chain : (row : ℕ) (w : Outing) → t.row_out row ≡ Some w → IsOnChain m row → ⊥
  off_chain row w out on =
      let c = on_chain m row on in
      elim (held c.page c.first c.held) [
        | inl tree ↦
            let here = placed_at (o.page c.page) tree in
            elim (slot_of g 0 c.page here.0 here.1 here.2) [
              | inl none ↦ (let f = sym none.0 ∙ c.held in cc)
              | inr v ↦
                  let l : o.row c.first ≡ Linked = rw (same_Some v.0 c.first (sym v.1 ∙ c.held)) at v.2.linked in
                  (let f = sym (in_chain c.first c.chain l (T.slots c.page c.first here.0 here.1 here.2 c.held).1 c.records row c.among) ∙ out in cc)
            ]
        | inr ready ↦
            let here = base_alone m c.first row ready.base c.chain c.records c.among ready.stands in
            let own = T.own_rows ready.actor c.first (own_base ((knows ready.actor).own.rows c.first) (T.ready ready.actor c.page c.first ready.ready)) in
            (let f = sym own ∙ ap t.row_out here ∙ out in cc)
      ]

module _ (limits : Limits) (entries : List Entry) (a : ℕ) (step : StepOf Record) (answer : Answer Record) (r : Option Reply) (state : IsState limits entries)
    (allowed : IsAllowed limits a (knows entries a) step r) (is : IsAnswer (memory_of limits entries) step answer) where
  abbrev last : Entry
  last = Step a step answer r

  abbrev longer : List Entry
  longer = entries ++ last ∷ []

  abbrev m : Memory
  m = memory_of limits entries

  abbrev k : Knowledge
  k = knows entries a

  -- what is in a limbo is out, by its actor
  limbo_out : (b : ℕ) (out : Option Outing) (l : LimboMark) → LimboFits b (λ c. (knows entries c).inside) state.times.entered out l → (l ≡ Absent → ⊥) → (w : Outing) × (out ≡ Some w) × (w.who ≡ b)
  limbo_out b out Absent h f = absurd (f refl)
  limbo_out b out Unstamped h f = h
  limbo_out b out (Stamped e p) h f = (h.0, h.1, h.2)

  freed_who : (b : ℕ) (out : Option Outing) (w : Outing) → out ≡ Some w → w.who ≡ b → (l : LimboMark)
      → LimboFits a (λ c. (knows entries c).inside) state.times.entered out l → IsPassed limits a l → b ≡ a
  freed_who b out w e who l h p =
      let f = rw p.stamped at h in
      sym who ∙ ap (λ v. v.who) (same_Some w f.0 (sym e ∙ f.1)) ∙ f.2

  -- no step but its actor's own reuse hands on what is in a limbo
  hands_row : (b q : ℕ) → ((knows entries b).limbo.rows q ≡ Absent → ⊥) → HandsRow q step answer → (b ≡ a) × ((word bits : ℕ) × (step ≡ ReuseRows word bits) × (is_among word bits q ≡ true))
  hands_row b q some h = go step answer refl is allowed.frees h
    where
      out : (w : Outing) × (state.times.row_out q ≡ Some w) × (w.who ≡ b)
      out = limbo_out b (state.times.row_out q) ((knows entries b).limbo.rows q) (state.timed.limbo_rows b q) some

      go : (s : StepOf Record) (y : Answer Record) → step ≡ s → IsAnswer m s y → MayFree limits a k s → HandsRow q s y
          → (b ≡ a) × ((word bits : ℕ) × (step ≡ ReuseRows word bits) × (is_among word bits q ≡ true))
      go (TakeRow taken) y i j f hands =
          let free : state.owners.row q ≡ Free = rw hands.1 at (state.is_tree.frees.row taken (whether_same (m.free_rows taken) true y j hands.0)) in
          absurd (elim (state.timed.rows q out.0 out.1).0 [ inl l ↦ (let z = free in cc) | inr l ↦ (let z = free in cc) ])
      go (ReuseRows word bits) y i j f hands = (freed_who b (state.times.row_out q) out.0 out.1 out.2 (k.limbo.rows q) (state.timed.limbo_rows a q) (f q hands), (word, bits, i, hands))
      go s y i j f hands = absurd hands

  hands_pid : (b q : ℕ) → ((knows entries b).limbo.pids q ≡ Absent → ⊥) → HandsPid q step answer → (b ≡ a) × ((word bits : ℕ) × (step ≡ ReusePids word bits) × (is_among word bits q ≡ true))
  hands_pid b q some h = go step answer refl is allowed.frees h
    where
      out : (w : Outing) × (state.times.page_out q ≡ Some w) × (w.who ≡ b)
      out = limbo_out b (state.times.page_out q) ((knows entries b).limbo.pids q) (state.timed.limbo_pids b q) some

      go : (s : StepOf Record) (y : Answer Record) → step ≡ s → IsAnswer m s y → MayFree limits a k s → HandsPid q s y
          → (b ≡ a) × ((word bits : ℕ) × (step ≡ ReusePids word bits) × (is_among word bits q ≡ true))
      go (TakePid taken) y i j f hands =
          let free : state.owners.page q ≡ Nobody = rw hands.1 at (state.is_tree.frees.page taken (whether_same (m.free_pids taken) true y j hands.0)).0 in
          absurd (let v = (state.timed.pages q out.0 out.1).0.2 in let z = sym free ∙ v in cc)
      go (ReusePids word bits) y i j f hands = (freed_who b (state.times.page_out q) out.0 out.1 out.2 (k.limbo.pids q) (state.timed.limbo_pids a q) (f q hands), (word, bits, i, hands))
      go s y i j f hands = absurd hands

  is_last : (other : ℕ) (s : StepOf Record) (x : Answer Record) → IsStep last other s x → (step ≡ s) × (answer ≡ x)
  is_last other s x h = let e = h.1 in ((cc), (cc))

  -- no step hands on what is in a limbo, where nothing is left there of what the step's actor reuses
  calm : (H : StepOf Record → Answer Record → Type 0) (Reused : Type 0) (l : LimboMark) → ((l ≡ Absent → ⊥) → H step answer → Reused) → (Reused → l ≡ Absent)
      → (l ≡ Absent → ⊥) → (other : ℕ) (s : StepOf Record) (x : Answer Record) → IsStep last other s x → H s x → ⊥
  calm H Reused l hands own some other s x at handed =
      let e = is_last other s x at in
      some (own (hands some (rw e.1 (rw e.0 handed))))

  calm_row : (b q : ℕ) → ((b ≡ a) → (word bits : ℕ) → step ≡ ReuseRows word bits → is_among word bits q ≡ true → (knows entries b).limbo.rows q ≡ Absent)
      → ((knows entries b).limbo.rows q ≡ Absent → ⊥) → (other : ℕ) (s : StepOf Record) (x : Answer Record) → IsStep last other s x → HandsRow q s x → ⊥
  calm_row b q own = calm (HandsRow q) _ ((knows entries b).limbo.rows q) (hands_row b q) (λ h. own h.0 h.1.0 h.1.1 h.1.2 h.1.3)

  calm_pid : (b q : ℕ) → ((b ≡ a) → (word bits : ℕ) → step ≡ ReusePids word bits → is_among word bits q ≡ true → (knows entries b).limbo.pids q ≡ Absent)
      → ((knows entries b).limbo.pids q ≡ Absent → ⊥) → (other : ℕ) (s : StepOf Record) (x : Answer Record) → IsStep last other s x → HandsPid q s x → ⊥
  calm_pid b q own = calm (HandsPid q) _ ((knows entries b).limbo.pids q) (hands_pid b q) (λ h. own h.0 h.1.0 h.1.1 h.1.2 h.1.3)

  whole_before : memory_at limits longer (length entries) ≡ m
  whole_before = ap (memory_of limits) (take-push_whole entries (last ∷ []))

  -- the reuse of a row that is among the freed ones takes it out of the limbo
  freed_row : (word bits q : ℕ) → step ≡ ReuseRows word bits → is_among word bits q ≡ true → (learn k step answer).limbo.rows q ≡ Absent
  freed_row word bits q i e = rw i (rw e)

  freed_pid : (word bits q : ℕ) → step ≡ ReusePids word bits → is_among word bits q ≡ true → (learn k step answer).limbo.pids q ≡ Absent
  freed_pid word bits q i e = rw i (rw e)

  -- no step comes after the last one
  none_after : (between other : ℕ) (s : StepOf Record) (x : Answer Record) → length entries < between → TakesStep longer between other s x → ⊥
  none_after between other s x lt h = let b = slice_get_below longer between _ h.1 in let e = pushed_length entries last in omega arith

  -- of a row or a page: what its limbo shows afterwards
  module _ (U U' : ℕ → Type 0) (H : StepOf Record → Answer Record → Type 0) (lasting : (n : ℕ) → n < length entries → U n → U' n) (old new : LimboMark) (Out Freed : Type 0)
      (calm : (new ≡ Absent → old ≡ Absent) → (old ≡ Absent → ⊥) → (other : ℕ) (s : StepOf Record) (x : Answer Record) → IsStep last other s x → H s x → ⊥)
      (unlinks : new ≡ Unstamped → Out → U' (length entries)) (was : IsInLimbo entries a U H old) where
    abbrev Shows : LimboMark → Type 0
    Shows l = IsInLimbo longer a U' H l

    in_limbo : LimboCase step answer old new Out Freed → Shows new
    in_limbo (as_it_was is) = rw is (limbo_push entries last U U' H lasting a old (calm (λ gone. sym is ∙ gone)) was)
    in_limbo (is_stamped e i j is) = rw is (stamped_now entries last U U' H lasting a e r (λ d. Step a (i d) (j d) r) old (calm (λ gone. unstamped e old (sym is ∙ gone))) was)
    in_limbo (is_passed c v i j is) = rw is (passed_now entries last U U' H lasting a c v r (λ d. Step a (i d) (j d) r) old (calm (λ gone. unpassed c v old (sym is ∙ gone))) was)
    in_limbo (is_out is h) =
        rw is (record {
          at = length entries;
          below = (let e = pushed_length entries last in omega arith);
          unlinked = unlinks is h;
          kept = λ between other s x lt
              took hands. none_after between other s x lt took;
        })
    in_limbo (is_freed is f) = rw is tt

  module _ {log' : List Update} {o' : Owners} {point' : ℕ → Option (List Update)} {logs' : ℕ → List (List Update)} {t' : Times}
      (g' : IsTree (shared_part (memory_after a step m)) log' o' (put (knows entries) a (after_reply (learn k step answer) r)) point' logs')
      (T' : Timed limits (memory_after a step m) o' (put (knows entries) a (after_reply (learn k step answer) r)) (suc (length entries)) t')
      (held' : (p q : ℕ) → slot_in (memory_after a step m).slots p ≡ Some q → IsInTree (o'.page p) ⊎ IsReadyPage o' (memory_after a step m)
      (put (knows entries) a (after_reply (learn k step answer) r)) p q) where
    -- an exchange that took a row out
    unlinks_row : (q : ℕ) → (learn k step answer).limbo.rows q ≡ Unstamped → RowOut k step answer q → UnlinksRow limits longer a q (length entries)
    unlinks_row q new h =
        let stand : (r : ℕ) (w : Record) → k.read.seen r ≡ Some w → m.rows r ≡ Some w =
        λ r w e. (rw e at ((state.is_tree.sound a).seen_fits r)).1 in
        let at : m.slots (suc h.page) ≡ h.old = eqb-true (m.slots (suc h.page)) h.old (whether_same (eqb (m.slots (suc h.page)) h.old) true answer (rw h.step at is) h.won) in
        let found : (c : List Record) × IsChainOf m (suc h.page) c = elim (slot_of state.is_tree a (suc h.page) reached.0 reached.1 reached.2) [
          | inl none ↦ absurd (let z : m.slots (suc h.page) ≡ 0 = slot_none m.slots (suc h.page) (omega arith) none.0 in let s = some_old in let e = at in omega arith)
          | inr v ↦ (let z = slot_some m.slots (suc h.page) v.0 v.1 in (v.2.chain, record { page = omega arith; linked = rw z.1 z.2; records = rw z.1 v.2.is_chain }))
        ] in (
          suc h.page,
          h.old,
          h.new,
          found.0,
          (r, slice_get-push entries last ∙ (λ d. Some (Step a (h.step d) (h.won d) r))),
          rw whole_before found.1,
          walk_contained 13 k.read.seen m.rows stand h.old found.0 q (rw at at found.1.records) h.walk,
          λ on. off_chain g' T' held' q out.0 out.1 (rw after at on),
        )
      where
        may : MayExchange a k (suc h.page) h.old h.new
        may = (rw h.step at allowed.may).1

        reached : (l : ℕ) × (s : Key) × Reached 0 l s (state.owners.page (suc h.page))
        reached = elim h.whose [
          | inl u ↦ let w = rw u.0 at (state.is_tree.owns_pages a (suc h.page)) in (w.0, w.1, rw w.2 (refl, refl))
          | inr u ↦ by_link h.old u.1.0 u.0 (rw u.1.1 at may)
        ]
          where
            by_link : (x y : ℕ) → k.own.pages (suc h.page) ≡ Other → MayExchange a k (suc h.page) x (suc y) → (l : ℕ) × (s : Key) × Reached 0 l s (state.owners.page (suc h.page))
            by_link zero y other v = absurd (cc v.0)
            by_link (suc x) y other v =
                let f = rw v.basis.head at ((state.is_tree.sound a).heads_fit (suc h.page)) in
                (level_in f.2.chain, low_in f.2.chain, f.3)

        some_old : 0 < h.old
        some_old = elim h.whose [
          | inl u ↦ by_zero h.old (rw u.1 at may)
          | inr u ↦ by_some h.old u.1.0 u.0 (rw u.1.1 at may)
        ]
          where
            by_zero : (x : ℕ) → MayExchange a k (suc h.page) x 0 → 0 < x
            by_zero zero v = absurd v
            by_zero (suc x) v = omega arith

            by_some : (x y : ℕ) → k.own.pages (suc h.page) ≡ Other → MayExchange a k (suc h.page) x (suc y) → 0 < x
            by_some zero y other v = absurd (cc v.0)
            by_some (suc x) y other v = omega arith

        out : (w : Outing) × (t'.row_out q ≡ Some w) × (w.who ≡ a)
        out = rw new at (rw (put_same (knows entries) a (after_reply (learn k step answer) r)) at (T'.limbo_rows a q))

        after : memory_at limits longer (suc (length entries)) ≡ memory_after a step m
        after = ap (memory_of limits) (whole_take longer (suc (length entries)) (pushed_length entries last)) ∙ memory_of-push limits entries last
          where
            whole_take : (es : List Entry) (n : ℕ) → length es ≡ n → take n es ≡ es
            whole_take [] zero e = refl
            whole_take (x ∷ es) (suc n) e = rw (whole_take es n (omega arith))
            whole_take es n e = absurd (omega arith)

    -- what the rows in limbos show afterwards
    pub rows_in_limbo : (b q : ℕ) → IsInLimbo longer b (UnlinksRow limits longer b q) (HandsRow q) ((put (knows entries) a (after_reply (learn k step answer) r) b).limbo.rows q)
    rows_in_limbo b q = by_equal b a
        (λ i t. rw (t, i) own)
        (λ ne t. rw t (limbo_push entries last (UnlinksRow limits entries b q) (UnlinksRow limits longer b q) (HandsRow q) (row_longer entries last limits b q)
        b ((knows entries b).limbo.rows q) (calm_row b q (λ i. absurd (ne i))) (state.limbo_rows b q)))
      where
        own : IsInLimbo longer a (UnlinksRow limits longer a q) (HandsRow q) ((learn k step answer).limbo.rows q)
        own =
            in_limbo (UnlinksRow limits entries a q) (UnlinksRow limits longer a q) (HandsRow q) (row_longer entries last limits a q) (k.limbo.rows q)
            ((learn k step answer).limbo.rows q) (RowOut k step answer q) (FreesRows step)
            (λ back. calm_row a q (λ i word bits s among. back (freed_row word bits q s among))) (unlinks_row q) (state.limbo_rows a q) (limbo_case k false step answer q)

    -- an exchange that took a page out
    unlinks_pid : (q : ℕ) → PageOut k step answer q → UnlinksPid limits longer a q (length entries)
    unlinks_pid q h =
        let named : step ≡ Exchange q h.old 0 = h.step ∙ ap (λ n. Exchange n h.old 0) (sym h.is) in
        (h.old, by_zero h.old (rw h.step at allowed.may).1, (r, slice_get-push entries last ∙ (λ d. Some (Step a (named d) (h.won d) r))))
      where
        by_zero : (x : ℕ) → MayExchange a k (suc h.at) x 0 → 0 < x
        by_zero zero v = absurd v
        by_zero (suc x) v = omega arith

    pub pids_in_limbo : (b q : ℕ) → IsInLimbo longer b (UnlinksPid limits longer b q) (HandsPid q) ((put (knows entries) a (after_reply (learn k step answer) r) b).limbo.pids q)
    pids_in_limbo b q = by_equal b a
        (λ i t. rw (t, i) own)
        (λ ne t. rw t (limbo_push entries last (UnlinksPid limits entries b q) (UnlinksPid limits longer b q) (HandsPid q) (pid_longer entries last limits b q)
        b ((knows entries b).limbo.pids q) (calm_pid b q (λ i. absurd (ne i))) (state.limbo_pids b q)))
      where
        own : IsInLimbo longer a (UnlinksPid limits longer a q) (HandsPid q) ((learn k step answer).limbo.pids q)
        own =
            in_limbo (UnlinksPid limits entries a q) (UnlinksPid limits longer a q) (HandsPid q) (pid_longer entries last limits a q) (k.limbo.pids q)
            ((learn k step answer).limbo.pids q) (PageOut k step answer q) (FreesPids step)
            (λ back. calm_pid a q (λ i word bits s among. back (freed_pid word bits q s among))) (λ new. unlinks_pid q) (state.limbo_pids a q) (limbo_case k true step answer q)

  is_own : (other : ℕ) (s : StepOf Record) (x : Answer Record) → IsStep last other s x → a ≡ other
  is_own other s x h = let e = h.1 in cc

  -- what was freed, and what this step frees, is freed by the rule
  pub freed_after : IsFreedByRule limits longer
  freed_after = record {
    pids = λ n actor word bits pid y takes among. elim (TakesStep-push_cases entries last n actor (ReusePids word bits) y takes) [
      | inl before ↦ freed_push entries last (UnlinksPid limits entries actor pid) (UnlinksPid limits longer actor pid) (HandsPid pid)
          (pid_longer entries last limits actor pid) limits actor n (slice_get_below entries n _ before.1)
          (state.freed.pids n actor word bits pid y before among)
      | inr at ↦
          let e = is_last actor (ReusePids word bits) y at.1 in
          rw (at.0, sym (is_own actor (ReusePids word bits) y at.1)) (freed_now entries last (UnlinksPid limits entries a pid) (UnlinksPid limits longer a pid)
          (HandsPid pid) (pid_longer entries last limits a pid) limits a (k.limbo.pids pid) ((rw e.0 at allowed.frees) pid among) (state.limbo_pids a pid))
    ];
    rows = λ n actor word bits row y takes among. elim (TakesStep-push_cases entries last n actor (ReuseRows word bits) y takes) [
      | inl before ↦ freed_push entries last (UnlinksRow limits entries actor row) (UnlinksRow limits longer actor row) (HandsRow row)
          (row_longer entries last limits actor row) limits actor n (slice_get_below entries n _ before.1)
          (state.freed.rows n actor word bits row y before among)
      | inr at ↦
          let e = is_last actor (ReuseRows word bits) y at.1 in
          rw (at.0, sym (is_own actor (ReuseRows word bits) y at.1)) (freed_now entries last (UnlinksRow limits entries a row) (UnlinksRow limits longer a row)
          (HandsRow row) (row_longer entries last limits a row) limits a (k.limbo.rows row) ((rw e.0 at allowed.frees) row among) (state.limbo_rows a row))
    ];
  }
