-- An exchange of a page's slot to 0, and one of slot 0: what they take out of the tree, and what actors hold afterwards.
use Rattle.tree_law.proofs.Words.{false, ◌⊎◌, ap, refl, cond, Option, suc, None, List, true, inl, inr, sym, ℕ, ◌≡◌, Bool, ◌∙◌, arith, Some, eqb, and-false, same_Some, ◌&&◌, Update, Reply}
use Rattle.tree_law.proofs.Words.{Limits, Exchange, Memory, replaced_at, next_row, Record, Base, IsOwn, Knowledge, after_reply, Ready, Foreign, Empty, Other, Gone, Unstamped, handed_page}
use Rattle.tree_law.proofs.Words.{is_on_walk, set_page, Key, IsHomed, Linked, Owners, Reached, Spare, PageFits, PageOwner, Cleared, Keeps, put, shared_part, slot_in, Times, Timed, times_after}
use Rattle.tree_law.proofs.Words.{LimboFits, Outing, is_linked, is_cleared, IsTree, after_clear}
use Rattle.bw_model.specs.declared.step.Answer.TheVariants as answer
use Rattle.tree_law.proofs.shape.{by_equal, eqb_same, eqb_true, eqb_apart, put_other, put_was, put_all, next_linked, own_base}
use Rattle.tree_law.proofs.links.Stepping.{slot_put, root_apart}
use Rattle.tree_law.proofs.epochs.Timing.{Turn, limbo_row, limbo_pid, held_later, announced_still, put_timed}
use Rattle.tree_law.proofs.epochs.Timely.{linked}
use Rattle.tree_law.proofs.epochs.Exchanging.{tested_linked, tested_cleared, out_now, later_out, out_cases, spare_of, slot_linked, on_walk}
use Rattle.std.proofs.lemmas.Bool.{and_parts}

module _ {limits : Limits} {m : Memory} {log : List Update} {o : Owners} {knows : ℕ → Knowledge} {point : ℕ → Option (List Update)}
    {logs : ℕ → List (List Update)} {now : ℕ} {t : Times} (g : IsTree (shared_part m) log o knows point logs) (T : Timed limits m o knows now t) (a : ℕ) where
  module _ (p x : ℕ) where
    abbrev pub m2 : Memory
    m2 = record m { slots = replaced_at (suc p) 0 m.slots }

    abbrev pub t2 : Times
    t2 = times_after a m o now (Exchange (suc p) x 0) (answer.Whether true) t

    -- the slot held a row, and the page is the actor's own, or was cleared by it
    pub record Emptying (o' : Owners) : Type 0 where
      pub held : slot_in m.slots (suc p) ≡ Some x
      pub whose : (b l : ℕ) (s : Key) → o.page (suc p) ≡ Cleared b l s → b ≡ a
      pub pages : o'.page ≡ o.page
      pub back : (r : ℕ) → o'.row r ≡ Linked → o.row r ≡ Linked
      pub stay : (r : ℕ) → o.row r ≡ Linked → o'.row r ≡ Linked
      pub spare : (r b : ℕ) → o.row r ≡ Spare b → o'.row r ≡ Spare b

    pub own_in : (b r : ℕ) → IsOwn ((knows b).own.rows r) → t2.row_out r ≡ None
    own_in b r i = rw (T.own_rows b r i, spare_of g T a b r i)

    module _ (o' : Owners) (k' : Knowledge) (inside : k'.inside ≡ (knows a).inside) (f : Emptying o') where
      page_cases : (q : ℕ) (w : Outing) → t2.page_out q ≡ Some w → ((l : ℕ) × (s : Key) × (o'.page q ≡ Cleared w.who l s))
      page_cases q w e = elim (out_cases g T a (t.page_out q) (eqb q (suc p) && is_cleared (o.page q)) w e) [
        | inl u ↦ let v = (T.pages q w u).0 in (v.0, v.1, ap (λ (h : ℕ → PageOwner). h q) f.pages ∙ v.2)
        | inr u ↦ let b = and_parts (eqb q (suc p)) (is_cleared (o.page q)) u.1 in
            let c = tested_cleared (o.page q) b.1 in
            (c.1, c.2, ap (λ (h : ℕ → PageOwner). h q) f.pages ∙ c.3 ∙ ap (λ n. Cleared n c.1 c.2) ((f.whose c.0 c.1 c.2 (ap o.page (sym (eqb_true q (suc p) b.0)) ∙ c.3)) ∙ sym (ap (λ v. v.who) u.2)))
      ]

      slot_out : (q : ℕ) (w : Outing) → t2.page_out q ≡ Some w → put (slot_in m.slots) (suc p) None q ≡ None
      slot_out q w = by_equal q (suc p)
          (λ i is. rw is λ e. refl)
          (λ ne is. rw is λ e. elim (out_cases g T a (t.page_out q) false w e) [ inl u ↦ (T.pages q w u).1 | inr u ↦ absurd (cc u.1) ])

      slots_after : (q z l : ℕ) (s : Key) → Reached 0 l s (o'.page q) → put (slot_in m.slots) (suc p) None q ≡ Some z → (t2.home z ≡ q) × (t2.row_out z ≡ None)
      slots_after q z l s r = by_equal q (suc p)
          (λ i is. rw is λ e. absurd (cc))
          (λ ne is. rw is λ e. let old : Reached 0 l s (o.page q) = rw f.pages at r in
          let b = T.slots q z l s old e in
          (b.0, rw (b.1, eqb_apart (t.home z) (suc p) (λ i. ne (sym b.0 ∙ i)), and-false (is_linked (o.row z))) refl))

      together_after : (r n : ℕ) (w : Record) → o'.row r ≡ Linked → m.rows r ≡ Some w → next_row w ≡ Some n → (t2.home n ≡ t2.home r) × (t2.row_out n ≡ t2.row_out r)
      together_after r n w l e i =
          let was = f.back r l in
          let c = T.together r n w was e i in
          (c.0, rw ((rw i at (next_linked o (shared_part m) g.closed r w was e)), was, c.0, c.1) refl)

      pub emptying_turn : Turn T (linked g T a) a m2 o' k' t2
      emptying_turn = record {
        rows_later = λ r. later_out g T a (t.row_out r) (is_linked (o.row r) && eqb (t.home r) (suc p));
        pages_later = λ q. later_out g T a (t.page_out q) (eqb q (suc p) && is_cleared (o.page q));
        chains = λ r d l h. h;
        epoch = omega arith;
        announced = λ b ne. refl;
        entered = λ b ne. refl;
        passes = λ u lt h i. h (sym inside ∙ i);
        slots = λ q z l s r e. slots_after q z l s r (sym (ap (λ v. v q) (slot_put m.slots p 0)) ∙ e);
        together = together_after;
        rows = λ r w e. elim (out_cases g T a (t.row_out r) (is_linked (o.row r) && eqb (t.home r) (suc p)) w e) [
          | inl u ↦ elim (T.rows r w u).0 [ inl v ↦ inl (f.stay r v) | inr v ↦ inr (f.spare r w.who v) ]
          | inr u ↦ inl (f.stay r (tested_linked (o.row r) (and_parts (is_linked (o.row r)) (eqb (t.home r) (suc p)) u.1).0))
        ];
        pages = λ q w e. (page_cases q w e, ap (λ v. v q) (slot_put m.slots p 0) ∙ slot_out q w e);
        own_rows = λ b r ne i. own_in b r i;
        gone_pages = λ b q ne i. by_equal q (suc p)
            (λ e t. rw t (let own : PageFits b (o.page q) (slot_in m.slots q) Gone = rw i at (g.owns_pages b q) in absurd (ne (f.whose b own.0 own.1 (ap o.page (sym e) ∙ own.2)))))
            (λ nq t. rw t (rw (T.gone_pages b q i)));
      }

    -- the exchange leaves the actor this knowledge
    pub emptied_timed : (o' : Owners) (f : Emptying o') (k' : Knowledge) → k'.inside ≡ (knows a).inside → k'.read ≡ (knows a).read
        → k'.asked.linked ≡ (knows a).asked.linked → k'.limbo.epoch ≡ (knows a).limbo.epoch → k'.own.rows ≡ (knows a).own.rows
        → ((q : ℕ) → k'.own.pages q ≡ Gone → t2.page_out q ≡ None)
        → ((n : Turn T (linked g T a) a m2 o' k' t2) (r : ℕ) → LimboFits a (λ c. (put knows a k' c).inside) t.entered (t2.row_out r) (k'.limbo.rows r))
        → ((n : Turn T (linked g T a) a m2 o' k' t2) (q : ℕ) → LimboFits a (λ c. (put knows a k' c).inside) t.entered (t2.page_out q) (k'.limbo.pids q))
        → ((q r : ℕ) → k'.own.pages q ≡ Ready r → (knows a).own.pages q ≡ Ready r)
        → Timed limits m2 o' (put knows a k') (suc now) t2
    emptied_timed o' f k' inside read over epoch own gone rows pids was =
        let n = emptying_turn o' k' inside f in
        put_timed n (record {
          within = λ i. T.within a (sym inside ∙ i);
          holds = rw (inside, read, over) (held_later n a);
          announced = λ i. announced_still n a refl (sym inside ∙ i);
          epochs = λ e i. T.epochs a e (sym epoch ∙ i);
          own_rows = rw own (own_in a);
          gone_pages = gone;
          limbo_rows = rows n;
          limbo_pids = pids n;
          ready = rw own λ q r i. T.ready a q r (was q r i);
          apart = λ q s r i j. T.apart a q s r (was q r i) (was s r j);
        })

    -- an own page that was ready is empty again
    pub undone_timed : (o' : Owners) (f : Emptying o') → (l : o.page (suc p) ≡ Keeps a) (r : Option Reply)
        → Timed limits m2 o' (put knows a (after_reply (set_page (suc p) Empty (knows a)) r)) (suc now) t2
    undone_timed o' f own r =
        let k' : Knowledge = after_reply (set_page (suc p) Empty (knows a)) r in
        emptied_timed o' f k' refl refl refl refl refl
        (λ q. by_equal q (suc p) (λ e t. rw t λ i. absurd (cc)) (λ ne t. rw t λ i. rw (T.gone_pages a q i)))
        (λ n. limbo_row n a)
        (λ n. limbo_pid n a)
        (λ q j. put_was (knows a).own.pages (suc p) Empty q (λ e. cc))

    -- a page whose term the actor took out is out of the tree, with its chain
    pub cleared_timed : (o' : Owners) (f : Emptying o') → (own : (knows a).own.pages (suc p) ≡ Gone) (r : Option Reply)
        → Timed limits m2 o' (put knows a (after_reply (after_clear (suc p) x (knows a)) r)) (suc now) t2
    cleared_timed o' f own r = emptied_timed o' f k' refl refl refl refl refl
        (λ q. by_equal q (suc p) (λ e t. rw t λ i. absurd (cc)) (λ ne t. rw t λ i. rw (T.gone_pages a q i)))
        (λ n j. rows n j (is_on_walk 13 (knows a).read.seen (Some x) j) refl)
        (λ n q. pids n q)
        (λ q j. put_was (knows a).own.pages (suc p) Other q (λ e. cc))
      where
        k' : Knowledge
        k' = after_reply (after_clear (suc p) x (knows a)) r

        was : PageFits a (o.page (suc p)) (slot_in m.slots (suc p)) Gone
        was = rw own at (g.owns_pages a (suc p))

        reached : Reached 0 was.0 was.1 (o.page (suc p))
        reached = rw was.2 (refl, refl)

        old : (o.row x ≡ Linked) × (t.home x ≡ suc p) × (t.row_out x ≡ None)
        old = let b = T.slots (suc p) x was.0 was.1 reached f.held in (slot_linked g T a (suc p) x was.0 was.1 reached f.held, b.0, b.1)

        rows : (n : Turn T (linked g T a) a m2 o' k' t2) (j : ℕ) (z : Bool) → is_on_walk 13 (knows a).read.seen (Some x) j ≡ z
            → LimboFits a (λ c. (put knows a k' c).inside) t.entered (t2.row_out j) (cond z Unstamped ((knows a).limbo.rows j))
        rows n j true e = let w = on_walk g T a (suc p) 13 (Some x) j old e in (out_now g T a, rw (w.2, w.0, w.1, eqb_same (suc p)) refl, refl)
        rows n j false e = limbo_row n a j

        pids : (n : Turn T (linked g T a) a m2 o' k' t2) (q : ℕ) → LimboFits a (λ c. (put knows a k' c).inside) t.entered (t2.page_out q) (put (knows a).limbo.pids (suc p) Unstamped q)
        pids n = put_all (λ q l. LimboFits a (λ c. (put knows a k' c).inside) t.entered (t2.page_out q) l) (knows a).limbo.pids (suc p) Unstamped
            (out_now g T a, rw (T.gone_pages a (suc p) own, eqb_same (suc p), was.2) refl, refl)
            (λ q ne. limbo_pid n a q)

  -- Slot 0 goes from x to y.
  module _ (x y : ℕ) where
    abbrev pub m3 : Memory
    m3 = record m { slots = replaced_at 0 y m.slots }

    abbrev pub t3 : Times
    t3 = times_after a m o now (Exchange 0 x y) (answer.Whether true) t

    pub record Rooting (o' : Owners) : Type 0 where
      pub base : ℕ
      pub ready : (knows a).own.pages y ≡ Ready base
      pub reached : (q l : ℕ) (s : Key) → Reached 0 l s (o'.page q) → Reached 0 l s (o.page q) ⊎ (q ≡ y)
      pub homed : (r : ℕ) → o'.row r ≡ Linked → (o.row r ≡ Linked) ⊎ IsHomed (shared_part m) (Exchange 0 x y) (answer.Whether true) r
      pub stay : (r : ℕ) → o.row r ≡ Linked → o'.row r ≡ Linked
      pub spare : (r b : ℕ) → o.row r ≡ Spare b → (o'.row r ≡ Spare b) ⊎ (o'.row r ≡ Linked)
      pub cleared : (q b l : ℕ) (s : Key) → o.page q ≡ Cleared b l s → o'.page q ≡ Cleared b l s

    module _ (o' : Owners) (f : Rooting o') (r : Option Reply) where
      own : IsOwn ((knows a).own.rows f.base)
      own = own_base ((knows a).own.rows f.base) (T.ready a y f.base f.ready)

      held : slot_in m.slots y ≡ Some f.base
      held = (rw f.ready at (g.owns_pages a y)).1

      k3 : Knowledge
      k3 = after_reply (handed_page y Other f.base (knows a)) r

      slots_rooted : (q z l : ℕ) (s : Key) → Reached 0 l s (o'.page q) → slot_in m.slots q ≡ Some z → (t3.home z ≡ q) × (t3.row_out z ≡ None)
      slots_rooted q z l s h e = elim (f.reached q l s h) [
        | inl old ↦ let b = T.slots q z l s old e in (rw (slot_linked g T a q z l s old e) b.0, b.1)
        | inr i ↦ let same : f.base ≡ z = same_Some f.base z (sym held ∙ ap (slot_in m.slots) (sym i) ∙ e) in
            rw (← same) (rw (spare_of g T a a f.base own) (sym i), T.own_rows a f.base own)
      ]

      together_rooted : (j n : ℕ) (w : Record) → o'.row j ≡ Linked → m.rows j ≡ Some w → next_row w ≡ Some n → (t3.home n ≡ t3.home j) × (t3.row_out n ≡ t3.row_out j)
      together_rooted j n w l e i = elim (f.homed j l) [
        | inl was ↦ let ln : o.row n ≡ Linked = rw i at (next_linked o (shared_part m) g.closed j w was e) in let c = T.together j n w was e i in (rw (ln, was) c.0, c.1)
        | inr h ↦ absurd (let v = same_Some (Base h.0) w (sym h.2 ∙ e) in let z : next_row (Base h.0) ≡ Some n = ap next_row v ∙ i in cc)
      ]

      turn3 : Turn T (linked g T a) a m3 o' k3 t3
      unfolding k3
      turn3 = record {
        rows_later = λ j. inl refl;
        pages_later = λ q. inl refl;
        chains = λ j d l h. h;
        epoch = omega arith;
        announced = λ b ne. refl;
        entered = λ b ne. refl;
        passes = λ u lt h i. h i;
        slots = λ q z l s h e. slots_rooted q z l s h (sym (ap (λ v. v q) (root_apart m.slots y)) ∙ e);
        together = together_rooted;
        rows = λ j w e. elim (T.rows j w e).0 [ inl v ↦ inl (f.stay j v) | inr v ↦ elim (f.spare j w.who v) [ inl z ↦ inr z | inr z ↦ inl z ] ];
        pages = λ q w e. let v = T.pages q w e in ((v.0.0, v.0.1, f.cleared q w.who v.0.0 v.0.1 v.0.2), ap (λ v. v q) (root_apart m.slots y) ∙ v.1);
        own_rows = λ b j ne. T.own_rows b j;
        gone_pages = λ b q ne. T.gone_pages b q;
      }

      pub rooted_timed : Timed limits m3 o' (put knows a (after_reply (handed_page y Other f.base (knows a)) r)) (suc now) t3
      unfolding k3
      rooted_timed = put_timed turn3 (record {
        within = T.within a;
        holds = held_later turn3 a;
        announced = announced_still turn3 a refl;
        epochs = T.epochs a;
        own_rows = λ j. by_equal j f.base (λ e t. rw t λ i. absurd i) (λ ne t. rw t (T.own_rows a j));
        gone_pages = λ q i. T.gone_pages a q (put_was (knows a).own.pages y Other q (λ e. cc) i);
        limbo_rows = limbo_row turn3 a;
        limbo_pids = limbo_pid turn3 a;
        ready =
            λ q j. by_equal q y (λ e t. rw t λ i. absurd (cc))
            (λ ne t. rw t λ e. rw (put_other (knows a).own.rows f.base Foreign j (λ i. ne (T.apart a q y j e (f.ready ∙ ap Ready (sym i))))) (T.ready a q j e));
        apart = λ q s j e i. T.apart a q s j (was q j e) (was s j i);
      })
        where
          was : (q j : ℕ) → put (knows a).own.pages y Other q ≡ Ready j → (knows a).own.pages q ≡ Ready j
          was q j = put_was (knows a).own.pages y Other q (λ e. cc)
