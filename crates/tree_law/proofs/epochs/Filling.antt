-- After its exchange of a page's slot to a row won: what the actor itself holds.
use Rattle.tree_law.proofs.Words.{ap, refl, Option, suc, None, List, true, subst, sym, ℕ, ◌≡◌, ◌∙◌, Some, same_Some, Update, Reply, Limits, Memory, Record, Base, Split, Put, Delete, Unterm}
use Rattle.tree_law.proofs.Words.{SplitOf, UntermOf, IsOwn, IsOwnBase, IsUnset, Knowledge, after_reply, Ready, Foreign, Empty, Other, Gone, Written, OwnRow, linked_over, handed_page}
use Rattle.tree_law.proofs.Words.{handed_over, set_page, rebuilt, Linked, Owners, put, shared_part, Times, Timed, LimboFits, is_base, IsTree}
use Rattle.tree_law.proofs.shape.Puts.{by_equal, put_other, put_was}
use Rattle.tree_law.proofs.epochs.Timing.{Turn, limbo_row, limbo_pid, held_later, announced_still, put_timed}
use Rattle.tree_law.proofs.epochs.Timely.{linked}
use Rattle.tree_law.proofs.epochs.Exchanging.{m1, t1, Filling, in_own, filling_turn, base_limbo}

module _ {limits : Limits} {m : Memory} {log : List Update} {o : Owners} {knows : ℕ → Knowledge} {point : ℕ → Option (List Update)}
    {logs : ℕ → List (List Update)} {now : ℕ} {t : Times} (g : IsTree (shared_part m) log o knows point logs) (T : Timed limits m o knows now t) (a : ℕ) (p x y : ℕ)
    (o' : Owners) (f : Filling g T a p x y o') where
  -- the exchange leaves the actor this knowledge
  pub filled_timed : (k' : Knowledge) → k'.inside ≡ (knows a).inside → k'.read ≡ (knows a).read → k'.limbo.epoch ≡ (knows a).limbo.epoch → k'.limbo.pids ≡ (knows a).limbo.pids
      → ((q : ℕ) → k'.asked.linked ≡ Some (Some q) → (knows a).read.learnt q ≡ true)
      → ((r : ℕ) → IsOwn (k'.own.rows r) → IsOwn ((knows a).own.rows r)) → ((q : ℕ) → k'.own.pages q ≡ Gone → t.page_out q ≡ None)
      → ((n : Turn T (linked g T a) a (m1 g T a p x y) o' k' (t1 g T a p x y)) (r : ℕ) → LimboFits a (λ c. (put knows a k' c).inside) t.entered ((t1 g T a p x y).row_out r) (k'.limbo.rows r))
      → ((q r : ℕ) → k'.own.pages q ≡ Ready r → IsOwnBase (k'.own.rows r)) → ((q s r : ℕ) → k'.own.pages q ≡ Ready r → k'.own.pages s ≡ Ready r → q ≡ s)
      → Timed limits (m1 g T a p x y) o' (put knows a k') (suc now) (t1 g T a p x y)
  filled_timed k' inside read epoch pids learnt own gone limbo ready apart =
      let n = filling_turn g T a p x y o' k' inside f in
      let h = held_later n a in
      put_timed n (record {
        within = λ i. T.within a (sym inside ∙ i);
        holds = rw (inside, read) (assumption (h, learnt));
        announced = λ i. announced_still n a refl (sym inside ∙ i);
        epochs = λ e i. T.epochs a e (sym epoch ∙ i);
        own_rows = λ r i. in_own g T a p x y a r (own r i);
        gone_pages = gone;
        limbo_rows = limbo n;
        limbo_pids = λ q. rw (← pids) at (limbo_pid n a q);
        ready = ready;
        apart = apart;
      })

  own_less : (f : ℕ → OwnRow) (q r : ℕ) → IsOwn (put f q Foreign r) → IsOwn (f r)
  own_less f q r = by_equal r q (λ e t. rw t λ i. absurd i) (λ ne t. rw t λ i. i)

  same_limbo : (k' : Knowledge) → k'.limbo.rows ≡ (knows a).limbo.rows → (n : Turn T (linked g T a) a (m1 g T a p x y) o' k' (t1 g T a p x y)) (r : ℕ)
      → LimboFits a (λ c. (put knows a k' c).inside) t.entered ((t1 g T a p x y).row_out r) (k'.limbo.rows r)
  same_limbo k' e n r = rw (← e) at (limbo_row n a r)

  -- a row is linked over another
  module _ (unset : IsUnset (knows a) (suc y)) (learnt_old : (knows a).read.learnt x ≡ true) (old_in : (o.row x ≡ Linked) × (t.home x ≡ suc p) × (t.row_out x ≡ None)) (r : Option Reply) where
    still_ready : (q j : ℕ) → (knows a).own.pages q ≡ Ready j → IsOwnBase (put (knows a).own.rows (suc y) Foreign j)
    still_ready q j e = rw (put_other (knows a).own.rows (suc y) Foreign j (λ i. unset q (e ∙ ap Ready i))) (T.ready a q j e)

    -- the row is handed over, and nothing else
    handed : (l : Option (Option ℕ)) → ((q : ℕ) → l ≡ Some (Some q) → (knows a).read.learnt q ≡ true)
        → Timed limits (m1 g T a p x y) o'
        (put knows a (after_reply (record (knows a) { own = record (knows a).own { rows = put (knows a).own.rows (suc y) Foreign }; asked = record (knows a).asked { linked = l } }) r))
        (suc now) (t1 g T a p x y)
    handed l learnt =
        filled_timed (after_reply (record (knows a) {
          own = record (knows a).own { rows = put (knows a).own.rows (suc y) Foreign };
          asked = record (knows a).asked { linked = l };
        }) r) refl refl refl refl
        learnt (own_less (knows a).own.rows (suc y)) (T.gone_pages a)
        (same_limbo (after_reply (record (knows a) { own = record (knows a).own { rows = put (knows a).own.rows (suc y) Foreign }; asked = record (knows a).asked { linked = l } }) r) refl)
        still_ready (T.apart a)

    linked_before : (q : ℕ) → (knows a).asked.linked ≡ Some (Some q) → (knows a).read.learnt q ≡ true
    linked_before = (T.holds a).linked_learnt

    linked_old : (q : ℕ) → Some (Some x) ≡ Some (Some q) → (knows a).read.learnt q ≡ true
    linked_old q e = rw (same_Some x q (same_Some (Some x) (Some q) e)) at learnt_old

    pub linked_timed : (w : Record) → m.rows (suc y) ≡ Some w → ((unterm : UntermOf) → w ≡ Unterm unterm → t.page_out unterm.child ≡ None)
        → ((split : SplitOf) → w ≡ Split split → (base : ℕ) × ((knows a).own.pages split.page ≡ Ready base))
        → Timed limits (m1 g T a p x y) o' (put knows a (after_reply (linked_over (Written w) x (suc y) (knows a)) r)) (suc now) (t1 g T a p x y)
    linked_timed (Put w) is child ready = handed (Some (Some x)) linked_old
    linked_timed (Delete w) is child ready = handed (Some (Some x)) linked_old
    linked_timed (Base w) is child ready = filled_timed (after_reply (rebuilt x (suc y) (knows a)) r) refl refl refl refl
        linked_before (own_less (knows a).own.rows (suc y)) (T.gone_pages a)
        (λ n. base_limbo g T a p x y o' (after_reply (rebuilt x (suc y) (knows a)) r) refl f (ap is_base is) old_in)
        still_ready (T.apart a)
    linked_timed (Unterm w) is child ready = filled_timed (after_reply (handed_page w.child Gone (suc y) (knows a)) r) refl refl refl refl
        linked_before (own_less (knows a).own.rows (suc y))
        (λ q. by_equal q w.child (λ e is. rw is λ i. ap t.page_out e ∙ child w refl) (λ ne is. rw is (T.gone_pages a q)))
        (same_limbo (after_reply (handed_page w.child Gone (suc y) (knows a)) r) refl)
        (λ q j e. still_ready q j (was q j e))
        (λ q s j e i. T.apart a q s j (was q j e) (was s j i))
      where
        was : (q j : ℕ) → put (knows a).own.pages w.child Gone q ≡ Ready j → (knows a).own.pages q ≡ Ready j
        was q j = put_was (knows a).own.pages w.child Gone q (λ e. cc)
    linked_timed (Split w) is child ready =
        let was : (q j : ℕ) → put (knows a).own.pages w.page Other q ≡ Ready j → (knows a).own.pages q ≡ Ready j =
        λ q j. put_was (knows a).own.pages w.page Other q (λ e. cc) in
        let b : (base : ℕ) × ((knows a).own.pages w.page ≡ Ready base) = ready w refl in
        let k' : Knowledge = after_reply (handed_page w.page Other (suc y) (handed_over b.0 (knows a))) r in
        subst (λ (k : Knowledge). Timed limits (m1 g T a p x y) o' (put knows a (after_reply k r)) (suc now) (t1 g T a p x y)) (sym (rw b.1))
        (filled_timed k' refl refl refl refl
        linked_before (λ j i. own_less (knows a).own.rows b.0 j (own_less (put (knows a).own.rows b.0 Foreign) (suc y) j i))
        (λ q i. T.gone_pages a q (put_was (knows a).own.pages w.page Other q (λ e. cc) i))
        (same_limbo k' refl)
        (λ q j. by_equal q w.page (λ e t. rw t λ i. absurd (cc))
        (λ ne t. rw t λ e. rw (put_other (put (knows a).own.rows b.0 Foreign) (suc y) Foreign j (λ i. unset q (e ∙ ap Ready i)) ∙ put_other (knows a).own.rows
        b.0 Foreign j (λ i. ne (T.apart a q w.page j e (b.1 ∙ ap Ready (sym i))))) (T.ready a q j e)))
        (λ q s j e i. T.apart a q s j (was q j e) (was s j i)))
    linked_timed w is child ready = handed (knows a).asked.linked linked_before

  -- an own page is ready with an own base
  pub ready_timed : (knows a).own.pages (suc p) ≡ Empty → IsOwnBase ((knows a).own.rows (suc y)) → IsUnset (knows a) (suc y) → (r : Option Reply)
      → Timed limits (m1 g T a p x y) o' (put knows a (after_reply (set_page (suc p) (Ready (suc y)) (knows a)) r)) (suc now) (t1 g T a p x y)
  ready_timed empty base unset r =
      let same_row : (i j : ℕ) → Ready i ≡ Ready j → i ≡ j = λ i j e. let f : i ≡ j = cc in f in
      filled_timed (after_reply (set_page (suc p) (Ready (suc y)) (knows a)) r) refl refl refl refl
      (T.holds a).linked_learnt (λ j i. i)
      (λ q i. T.gone_pages a q (put_was (knows a).own.pages (suc p) (Ready (suc y)) q (λ e. cc) i))
      (same_limbo (after_reply (set_page (suc p) (Ready (suc y)) (knows a)) r) refl)
      (λ q j. by_equal q (suc p) (λ e t. rw t λ i. rw (same_row (suc y) j i) at base) (λ ne t. rw t (T.ready a q j)))
      (λ q s j. by_equal q (suc p)
      (λ e t. rw t λ i. by_equal s (suc p) (λ d t. rw t λ v. e ∙ sym d) (λ ne t. rw t λ v. absurd (unset s (v ∙ ap Ready (sym (same_row (suc y) j i))))))
      (λ ne t. rw t λ i. by_equal s (suc p) (λ d t. rw t λ v. absurd (unset q (i ∙ ap Ready (sym (same_row (suc y) j v))))) (λ nd t. rw t λ v. T.apart a q s j i v)))
