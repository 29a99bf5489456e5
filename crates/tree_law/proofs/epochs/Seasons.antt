-- An actor enters and leaves, reads the epoch and announced epochs, takes and places: what actors hold stays so.
use Rattle.tree_law.proofs.Words.{false, ◌⊎◌, ap, refl, cond, ltb, Option, suc, None, List, true, inl, ◌≤◌, inr, ℕ, ◌≡◌, Bool, ◌∙◌, ◌<◌, arith, Some, eqb, ltb-true, cases_lt}
use Rattle.tree_law.proofs.Words.{eqb-true, same_Some, ◌||◌, Update, Reply, Limits, Answer, Leave, TakePid, Place, TakeRow, Enter, Epoch, Announce, Memory, Record, IsOwn, IsUnset}
use Rattle.tree_law.proofs.Words.{Knowledge, after_reply, Ready, learn, Empty, Taken, Written, forgotten, Unstamped, LimboMark, Absent, Stamped, passed_by, with_stamp, memory_after, Free}
use Rattle.tree_law.proofs.Words.{Owners, put, shared_part, Times, Timed, LimboFits, Outing, Holds, IsTree, HoldsBy}
use Rattle.bw_model.specs.declared.step.Answer.TheVariants as answer
use Rattle.tree_law.proofs.shape.{by_equal, put_same, put_other, put_was, own_spare, own_base, none_if}
use Rattle.tree_law.proofs.epochs.Timing.{Turn, limbo_row, limbo_pid, put_timed, held_later}
use Rattle.tree_law.proofs.epochs.Timely.{linked, Calm, calm_turn, idle_timed}

-- what has no stamp gets the epoch that is read
stamped_fits : (a epoch : ℕ) (inside : ℕ → Bool) (entered : ℕ → ℕ) (out : Option Outing) (l : LimboMark) → ((w : Outing) → out ≡ Some w → w.epoch ≤ epoch)
    → LimboFits a inside entered out l → LimboFits a inside entered out (with_stamp epoch l)
stamped_fits a epoch inside entered out Absent old h = tt
stamped_fits a epoch inside entered out Unstamped old h = (h.0, h.1, h.2, old h.0 h.1, λ b e. absurd (cc))
stamped_fits a epoch inside entered out (Stamped e p) old h = h

-- an actor whose announced epoch was read as 0, or as a later one, cannot hold it
passed_fits : (a b announced : ℕ) (inside : ℕ → Bool) (entered : ℕ → ℕ) (out : Option Outing) (l : LimboMark)
    → ((w : Outing) → out ≡ Some w → inside b ≡ true → (0 < announced) × (entered b ≤ w.at → announced ≤ w.epoch)) → LimboFits a inside entered out l
    → LimboFits a inside entered out (passed_by b announced l)
passed_fits a b announced inside entered out Absent f h = tt
passed_fits a b announced inside entered out Unstamped f h = h
passed_fits a b announced inside entered out (Stamped e p) f h = (h.0, h.1, h.2, h.3, pass (eqb announced 0) (ltb e announced) refl refl)
  where
    late : inside b ≡ true → (announced ≡ 0) ⊎ (e < announced) → h.0.at < entered b
    late i past =
        let v = f h.0 h.1 i in
        elim (cases_lt h.0.at (entered b)) [
          | inl u ↦ u
          | inr u ↦ absurd (let x = v.1 u in let y = h.3 in let z = v.0 in elim past [ inl n ↦ omega arith | inr n ↦ omega arith ])
        ]

    on : ((announced ≡ 0) ⊎ (e < announced)) → (c : ℕ) → put p b true c ≡ true → inside c ≡ true → h.0.at < entered c
    on past c = by_equal c b (λ j t. rw t λ i v. rw j (late (rw j at v) past)) (λ ne t. rw t (h.4 c))

    pass : (y z : Bool) → eqb announced 0 ≡ y → ltb e announced ≡ z → (c : ℕ) → cond (y || z) (put p b true) p c ≡ true → inside c ≡ true → h.0.at < entered c
    pass true z i j = on (inl (eqb-true announced 0 i))
    pass false true i j = on (inr (ltb-true e announced j))
    pass false false i j = h.4

module _ {limits : Limits} {m : Memory} {log : List Update} {o : Owners} {knows : ℕ → Knowledge} {point : ℕ → Option (List Update)}
    {logs : ℕ → List (List Update)} {now : ℕ} {t : Times} (g : IsTree (shared_part m) log o knows point logs) (T : Timed limits m o knows now t) (a : ℕ) where
  -- an actor that is outside has learnt nothing
  module _ (outside : (knows a).inside ≡ false) where
    blind : (knows a).inside ≡ true → ⊥
    blind i = let e = outside in cc

    pub blank_holds : (e : ℕ) → Holds m.rows t.row_out t.page_out e true (knows a).read.seen (λ r. false) (knows a).read.roots (knows a).read.heads (knows a).read.before (knows a).asked.linked
    blank_holds e =
        let h : HoldsBy m.rows t.row_out t.page_out (t.entered a) (knows a) = T.holds a in
        record {
          learnt_inside = λ r i. refl;
          learnt_since = λ r i. absurd (cc);
          seen_learnt = λ r w i. absurd (blind (h.learnt_inside r (h.seen_learnt r w i)));
          roots_inside = λ p i. refl;
          roots_since = λ p i. absurd (blind (h.roots_inside p i));
          heads_since = λ p x i. absurd (blind (h.learnt_inside x (h.heads_since p x i).learnt_row));
          before_since = λ p f x i. absurd (blind (h.learnt_inside x (h.before_since p f x i).learnt_row));
          beside_since = λ p f y x i j. absurd (blind (h.learnt_inside x (h.before_since p f x j).learnt_row));
          linked_learnt = λ x i. absurd (blind (h.learnt_inside x (h.linked_learnt x i)));
        }

  pub enter_timed : (e : ℕ) (x : Answer Record) (r : Option Reply) (o' : Owners) → Calm g T a (memory_after a (Enter e) m) o' → (knows a).inside ≡ false → 0 < e
      → (knows a).limbo.epoch ≡ Some e → a < limits.actors
      → Timed limits (memory_after a (Enter e) m) o' (put knows a (after_reply (learn (knows a) (Enter e) x) r)) (suc now) (record t { entered = put t.entered a now })
  enter_timed e x r o' c outside some read actor =
      let k' : Knowledge = after_reply (learn (knows a) (Enter e) x) r in
      let t' : Times = record t { entered = put t.entered a now } in
      let turn : Turn T (linked g T a) a (memory_after a (Enter e) m) o' k' t' = record {
        rows_later = λ q. inl refl;
        pages_later = λ p. inl refl;
        chains = λ q d l h. h;
        epoch = omega arith;
        announced = λ b ne. put_other m.announced a e b ne;
        entered = λ b ne. put_other t.entered a now b ne;
        passes = λ u lt f i. rw (put_same t.entered a now) lt;
        slots = λ p z l s h e. T.slots p z l s (c.reached p l s h) e;
        together = λ q n w l e. T.together q n w (c.back q l) e;
        rows = λ q w i. elim (T.rows q w i).0 [ inl u ↦ inl (c.stay q u) | inr u ↦ inr (c.spare q w.who u) ];
        pages = λ p w i. let v = T.pages p w i in ((v.0.0, v.0.1, c.cleared p w.who v.0.0 v.0.1 v.0.2), v.1);
        own_rows = λ b q ne. T.own_rows b q;
        gone_pages = λ b p ne. T.gone_pages b p;
      } in
      put_timed turn (record {
        within = λ i. actor;
        holds = blank_holds outside (t'.entered a);
        announced = λ i. record {
          some = rw (put_same m.announced a e) some;
          old = rw (put_same m.announced a e) (T.epochs a e read);
          past = rw (put_same t.entered a now) (omega arith);
          rows = λ q w i j. absurd (let l = (T.rows q w i).1 in let f : now ≤ w.at = rw (put_same t.entered a now) at j in omega arith);
          pages = λ q w i j. absurd (let l = (T.pages q w i).2 in let f : now ≤ w.at = rw (put_same t.entered a now) at j in omega arith);
        };
        epochs = T.epochs a;
        own_rows = T.own_rows a;
        gone_pages = T.gone_pages a;
        limbo_rows = limbo_row turn a;
        limbo_pids = limbo_pid turn a;
        ready = T.ready a;
        apart = T.apart a;
      })

  forgotten_none : (l : Option (Option ℕ)) (x : ℕ) → forgotten l ≡ Some (Some x) → ⊥
  forgotten_none None x e = cc
  forgotten_none (Some v) x e = cc

  pub leave_timed : (r : Option Reply) (o' : Owners) → Calm g T a (memory_after a Leave m) o'
      → Timed limits (memory_after a Leave m) o' (put knows a (after_reply (learn (knows a) Leave answer.Done) r)) (suc now) t
  leave_timed r o' c =
      let k' : Knowledge = after_reply (learn (knows a) Leave answer.Done) r in
      let turn : Turn T (linked g T a) a (memory_after a Leave m) o' k' t = calm_turn k' c (λ i. absurd (cc)) in
      put_timed turn (record {
        within = λ i. absurd (cc);
        holds = record {
          learnt_inside = λ q i. absurd (cc);
          learnt_since = λ q i. absurd (cc);
          seen_learnt = λ q w i. absurd (cc);
          roots_inside = λ p i. absurd
              (cc);
          roots_since = λ p i. absurd (cc);
          heads_since = λ p x i. absurd (cc);
          before_since = λ p f x i. absurd (cc);
          beside_since = λ p f y x i.
              absurd (cc);
          linked_learnt = λ x i. absurd (forgotten_none (knows a).asked.linked x i);
        };
        announced = λ i. absurd (cc);
        epochs = T.epochs a;
        own_rows = T.own_rows a;
        gone_pages = T.gone_pages a;
        limbo_rows = limbo_row turn a;
        limbo_pids = limbo_pid turn a;
        ready = T.ready a;
        apart = T.apart a;
      })

  -- the epoch is read
  pub epoch_timed : (r : Option Reply) (o' : Owners) → Calm g T a m o' → Timed limits m o' (put knows a (after_reply (learn (knows a) Epoch (answer.Number m.epoch)) r)) (suc now) t
  epoch_timed r o' c =
      let k' : Knowledge = after_reply (learn (knows a) Epoch (answer.Number m.epoch)) r in
      idle_timed k' c refl refl (λ n. held_later n a)
      (λ e i. let f = same_Some m.epoch e i in omega arith)
      (T.own_rows a) (T.gone_pages a)
      (λ n q. stamped_fits a m.epoch (λ b. (put knows a k' b).inside) t.entered (t.row_out q) ((knows a).limbo.rows q) (λ w e. (T.rows q w e).2) (limbo_row n a q))
      (λ n p. stamped_fits a m.epoch (λ b. (put knows a k' b).inside) t.entered (t.page_out p) ((knows a).limbo.pids p) (λ w e. (T.pages p w e).3) (limbo_pid n a p))
      (T.ready a) (T.apart a)

  -- an announced epoch is read
  pub announce_timed : (b : ℕ) (r : Option Reply) (o' : Owners) → Calm g T a m o'
      → Timed limits m o' (put knows a (after_reply (learn (knows a) (Announce b) (answer.Number (m.announced b))) r)) (suc now) t
  announce_timed b r o' c =
      let k' : Knowledge = after_reply (learn (knows a) (Announce b) (answer.Number (m.announced b))) r in
      let was_inside : (put knows a k' b).inside ≡ true → (knows b).inside ≡ true =
      by_equal b a (λ e t. rw (t, e) λ i. i) (λ ne t. rw t λ i. i) in
      idle_timed k' c refl refl (λ n. held_later n a)
      (T.epochs a)
      (T.own_rows a) (T.gone_pages a)
      (λ n q. passed_fits a b (m.announced b) (λ c. (put knows a k' c).inside) t.entered (t.row_out q) ((knows a).limbo.rows q)
      (λ w e i. let h = T.announced b (was_inside i) in (h.some, h.rows q w e)) (limbo_row n a q))
      (λ n p. passed_fits a b (m.announced b) (λ c. (put knows a k' c).inside) t.entered (t.page_out p) ((knows a).limbo.pids p)
      (λ w e i. let h = T.announced b (was_inside i) in (h.some, h.pages p w e)) (limbo_pid n a p))
      (T.ready a) (T.apart a)

  -- a record is placed in an own row that stands in no slot
  pub place_timed : (q : ℕ) (w : Record) (r : Option Reply) (o' : Owners) → Calm g T a (memory_after a (Place q w) m) o' → IsOwn ((knows a).own.rows q) → IsUnset (knows a) q
      → Timed limits (memory_after a (Place q w) m) o' (put knows a (after_reply (learn (knows a) (Place q w) answer.Done) r)) (suc now) t
  place_timed q w r o' c own unset =
      let m' : Memory = memory_after a (Place q w) m in
      let k' : Knowledge = after_reply (learn (knows a) (Place q w) answer.Done) r in
      idle_timed k' c refl refl (λ n. held_later n a)
      (T.epochs a)
      (λ j. by_equal j q (λ e is. rw is λ i. ap t.row_out e ∙ T.own_rows a q own) (λ ne is. rw is (T.own_rows a j)))
      (T.gone_pages a)
      (λ n. limbo_row n a)
      (λ n. limbo_pid n a)
      (λ p j i. rw (put_other (knows a).own.rows q (Written w) j (λ e. unset p (rw e at i))) (T.ready a p j i))
      (T.apart a)

  -- a row that was free is taken
  pub take_row_timed : (q : ℕ) (r : Option Reply) → m.free_rows q ≡ true → (o' : Owners) → Calm g T a (memory_after a (TakeRow q) m) o'
      → Timed limits (memory_after a (TakeRow q) m) o' (put knows a (after_reply (learn (knows a) (TakeRow q) (answer.Whether true)) r)) (suc now) t
  take_row_timed q r f o' c =
      let was : o.row q ≡ Free = g.frees.row q f in
      let m' : Memory = memory_after a (TakeRow q) m in
      let k' : Knowledge = after_reply (learn (knows a) (TakeRow q) (answer.Whether true)) r in
      idle_timed k' c refl refl (λ n. held_later n a)
      (T.epochs a)
      (λ j. by_equal j q
      (λ e is. rw is λ i. ap t.row_out e ∙ none_if (t.row_out q) (λ w d. elim (T.rows q w d).0 [ inl u ↦ let v = was in cc | inr u ↦ let v = was in cc ]))
      (λ ne is. rw is (T.own_rows a j)))
      (T.gone_pages a)
      (λ n. limbo_row n a)
      (λ n. limbo_pid n a)
      (λ p j i. rw
      (put_other (knows a).own.rows q Taken j (λ e. absurd (cc (own_spare (m.rows j) ((knows a).own.rows j) (g.owns a j) (own_base ((knows a).own.rows j) (T.ready a p j i))))))
      (T.ready a p j i))
      (T.apart a)

  -- a PID that was free is taken
  pub take_pid_timed : (q : ℕ) (r : Option Reply) (o' : Owners) → Calm g T a (memory_after a (TakePid q) m) o'
      → Timed limits (memory_after a (TakePid q) m) o' (put knows a (after_reply (learn (knows a) (TakePid q) (answer.Whether true)) r)) (suc now) t
  take_pid_timed q r o' c =
      let was : (p j : ℕ) → put (knows a).own.pages q Empty p ≡ Ready j → (knows a).own.pages p ≡ Ready j =
      λ p j. put_was (knows a).own.pages q Empty p (λ e. cc) in
      let m' : Memory = memory_after a (TakePid q) m in
      let k' : Knowledge = after_reply (learn (knows a) (TakePid q) (answer.Whether true)) r in
      idle_timed k' c refl refl (λ n. held_later n a)
      (T.epochs a) (T.own_rows a)
      (λ p i. T.gone_pages a p (put_was (knows a).own.pages q Empty p (λ e. cc) i))
      (λ n. limbo_row n a)
      (λ n. limbo_pid n a)
      (λ p j i. T.ready a p j (was p j i))
      (λ p s j e i. T.apart a p s j (was p j e) (was s j i))
