-- Each allowed step but a reuse keeps what actors hold, with the times after it.
use Rattle.tree_law.proofs.Words.{false, ◌⊎◌, ap, refl, Option, suc, None, List, true, inl, ◌≢◌, ◌≤◌, inr, subst, sym, ℕ, ◌≡◌, Bool, zero, ◌∙◌, ◌<◌, arith, Some, eqb, same_Some}
use Rattle.tree_law.proofs.Words.{Update, set, unset, Reply, Limits, Answer, StepOf, ReuseRows, ReusePids, Leave, TakePid, Row, Place, TakeRow, Slot, Enter, Epoch, Exchange, Announce, Retire, Memory}
use Rattle.tree_law.proofs.Words.{replaced_at, next_row, Record, Remove, Base, Hold, Split, Put, Delete, Merge, Term, Unterm, SplitOf, low_in, level_in, May, IsOwn, MayExchange, IsOwnBase, MayLink}
use Rattle.tree_law.proofs.Words.{MayRoot, MayAdd, base_from, HasRead, update_record, Knowledge, after_reply, Ready, learn, Other, Written, OwnRow, IsAnswer}
use Rattle.tree_law.proofs.Words.{memory_after, Key, IsReuse, IsMoved, Next, IsHomed, Linked, Owners, Reached, Spare, Owner, OwnFits, Placed, Indexed, PageOwner, Cleared, Keeps, Fresh}
use Rattle.tree_law.proofs.Words.{Removed, Held, Merged, Stage, LinkMoves, Exchanged, put, shared_part, slot_in, row_in, Times, Timed, times_after, Holds, split_page, IsTree, []}
use Rattle.bw_model.specs.declared.step.Answer.TheVariants as answer
use Rattle.tree_law.proofs.links.Keeping.{slot_of, met_placed}
use Rattle.tree_law.proofs.shape.{placed_reached, by_equal, put_other, own_base, none_if}
use Rattle.tree_law.proofs.links.Relinking.{not_own, found, place_of}
use Rattle.tree_law.proofs.epochs.Timely.{Calm, still_timed, read_timed, not_out, placed_in, root_holds, head_holds, row_holds}
use Rattle.tree_law.proofs.epochs.Seasons.{enter_timed, leave_timed, epoch_timed, announce_timed, place_timed, take_row_timed, take_pid_timed}
use Rattle.tree_law.proofs.epochs.Filling.{linked_timed, ready_timed}
use Rattle.tree_law.proofs.epochs.Emptying.{Emptying, undone_timed, cleared_timed, rooted_timed}

-- what is linked on a page of the tree
record IsLink (k : Knowledge) (page old new : ℕ) : Type 0 where
  basis : HasRead k page old
  content : Record
  placed : k.own.rows new ≡ Written content
  over : (n : ℕ) → next_row content ≡ Some n → n ≡ old
  split : (s : SplitOf) → content ≡ Split s → (base : ℕ) × (k.own.pages s.page ≡ Ready base) × IsOwn (k.own.rows base) × (base ≢ new)

update_over : (u : Update) (x n : ℕ) → next_row (update_record u x) ≡ Some n → n ≡ x
update_over (set b k v) x n e = sym (same_Some x n e)
update_over (unset b k) x n e = sym (same_Some x n e)

update_split : (u : Update) (x : ℕ) (s : SplitOf) → update_record u x ≡ Split s → ⊥
update_split (set b k v) x s e = cc
update_split (unset b k) x s e = cc

link_of : (a : ℕ) (k : Knowledge) (page old new : ℕ) → MayAdd a k page old new → IsLink k page old new
link_of a k page old new add = by_kind add.content add.placed add.due
  where
    over : (content : Record) → k.own.rows new ≡ Written content → (w : Record) → content ≡ w → ((n : ℕ) → next_row w ≡ Some n → n ≡ old) → ((s : SplitOf) → w ≡ Split s → ⊥) → IsLink k page old new
    over content placed w is next apart = record { basis = add.basis; content = w; placed = placed ∙ ap Written is; over = next; split = λ s e. absurd (apart s e) }

    by_kind : (content : Record) → k.own.rows new ≡ Written content → MayLink a k page old add.basis.chain content → IsLink k page old new
    by_kind (Base base) e h = over (Base base) e _ h.is (λ n f. absurd (cc)) (λ s f. absurd (cc))
    by_kind (Put put) e h = over (Put put) e _ h.is (update_over h.update old) (update_split h.update old)
    by_kind (Delete delete) e h = over (Delete delete) e _ h.is (update_over h.update old) (update_split h.update old)
    by_kind (Split split) e h =
        let w : SplitOf = record { level = level_in add.basis.chain; next = old; separator = h.separator; page = h.right } in
        let b : Record = base_from add.basis.chain h.separator h.items in
        record {
          basis = add.basis;
          content = Split w;
          placed = e ∙ ap Written h.is;
          over = λ n f. sym (same_Some old n f);
          split =
              λ s f. let same : w ≡ s = cc in
              (h.row, ap k.own.pages (ap (λ v. v.page) (sym same)) ∙ h.ready, rw h.base tt, λ i. let z : Written b ≡ Written (Split w) = sym h.base ∙ ap k.own.rows i ∙ e ∙ ap Written h.is in cc);
        }
    by_kind content e h = over content e _ h.is (λ n f. sym (same_Some old n f)) (λ s f. cc)

-- where a page goes on, it was in the tree before
put_reached : (f f' : ℕ → PageOwner) (c l0 : ℕ) (s0 : Key) (st : Stage) (n : PageOwner) → f c ≡ Placed st l0 s0 → f' ≡ put f c n
    → ((l : ℕ) (s : Key) → Reached 0 l s n → (l0 ≡ l) × (s0 ≡ s)) → (q l : ℕ) (s : Key) → Reached 0 l s (f' q) → Reached 0 l s (f q)
put_reached f f' c l0 s0 st n was e at q l s r = go (rw e at r)
  where
    go : Reached 0 l s (put f c n q) → Reached 0 l s (f q)
    go = by_equal q c (λ i t. rw t λ h. let v = at l s h in placed_reached l s st (f q) (ap f i ∙ was ∙ ap (λ j. Placed st j s0) v.0 ∙ ap (λ (j : Key). Placed st l j) v.1)) (λ ne t. rw t λ h. h)

put_cleared : (f f' : ℕ → PageOwner) (c l0 : ℕ) (s0 : Key) (st : Stage) (n : PageOwner) → f c ≡ Placed st l0 s0 → f' ≡ put f c n → (q b l : ℕ) (s : Key) → f q ≡ Cleared b l s → f' q ≡ Cleared b l s
put_cleared f f' c l0 s0 st n was e q b l s i = rw e (put_other f c n q (λ j. absurd (cc)) ∙ i)

module _ {limits : Limits} {m : Memory} {log : List Update} {o : Owners} {knows : ℕ → Knowledge} {point : ℕ → Option (List Update)}
    {logs : ℕ → List (List Update)} {now : ℕ} {t : Times} (g : IsTree (shared_part m) log o knows point logs) (T : Timed limits m o knows now t) (a : ℕ) where
  abbrev pub After : Memory → StepOf Record → Answer Record → Option Reply → Type 0
  After m' s x r = (n : Next a (shared_part m) (shared_part m') log o knows point logs s x r)
      → Timed limits m' n.owners (put knows a (after_reply (learn (knows a) s x) r)) (suc now) (times_after a m o now s x t)

  still_spare : (b : ℕ) (free : Bool) (v v' : Owner) → v ≡ Spare b → (v' ≡ Linked → v ≡ Linked) → IsMoved a free v v' → v' ≡ Spare b
  still_spare b free v v' e back (inl i) = i ∙ e
  still_spare b free v v' e back (inr (inl i)) = absurd (cc i.1)
  still_spare b free v v' e back (inr (inr i)) = absurd (cc (back i.1))

  spare_or : (b : ℕ) (free : Bool) (v v' : Owner) → v ≡ Spare b → IsMoved a free v v' → (v' ≡ Spare b) ⊎ (v' ≡ Linked)
  spare_or b free v v' e (inl i) = inl (i ∙ e)
  spare_or b free v v' e (inr (inl i)) = absurd (cc i.1)
  spare_or b free v v' e (inr (inr i)) = inr i.1

  -- a step that takes nothing out and links nothing
  pub calm_next : {s : StepOf Record} {x : Answer Record} {r : Option Reply} (m' : Memory) (n : Next a (shared_part m) (shared_part m') log o knows point logs s x r)
      → m'.slots ≡ m.slots → ((row : ℕ) → IsHomed (shared_part m) s x row → ⊥)
      → ((p l : ℕ) (k : Key) → Reached 0 l k (n.owners.page p) → Reached 0 l k (o.page p)) → ((p b l : ℕ) (k : Key) → o.page p ≡ Cleared b l k → n.owners.page p ≡ Cleared b l k)
      → m.epoch ≤ m'.epoch → ((b : ℕ) → b ≢ a → m'.announced b ≡ m.announced b) → Calm g T a m' n.owners
  calm_next {s} {x} {r} m' n slots homed reached cleared epoch announced =
      let back : (j : ℕ) → n.owners.row j ≡ Linked → o.row j ≡ Linked = λ j l. elim (n.homed j l) [ inl u ↦ u | inr u ↦ absurd (homed j u) ] in
      record {
        slots = λ p. ap (λ f. slot_in f p) slots;
        kept = λ j l. (n.kept j l).1;
        stay = λ j l. (n.kept j l).0;
        back = back;
        spare = λ j b e. still_spare b (m.free_rows j) (o.row j) (n.owners.row j) e (back j) (n.moved j);
        reached = reached;
        cleared = cleared;
        epoch = epoch;
        announced = announced;
      }

  -- one that leaves pages whose they are
  calm_pages : {s : StepOf Record} {x : Answer Record} {r : Option Reply} (m' : Memory) (n : Next a (shared_part m) (shared_part m') log o knows point logs s x r) → m'.slots ≡ m.slots
      → ((row : ℕ) → IsHomed (shared_part m) s x row → ⊥) → n.owners.page ≡ o.page → m.epoch ≤ m'.epoch → ((b : ℕ) → b ≢ a → m'.announced b ≡ m.announced b) → Calm g T a m' n.owners
  calm_pages {s} {x} {r} m' n slots homed same epoch announced =
      calm_next m' n slots homed (λ p l k. subst (λ (f : ℕ → PageOwner). Reached 0 l k (f p)) same) (λ p b l k e. ap (λ (f : ℕ → PageOwner). f p) same ∙ e) epoch announced

  reads : (p : ℕ) (v : ℕ) (r : Option Reply) → May a (knows a) (Slot (suc p)) → m.slots (suc p) ≡ v → After m (Slot (suc p)) (answer.Number v) r
  reads p zero r may e n =
      still_timed (after_reply (learn (knows a) (Slot (suc p)) (answer.Number 0)) r) (calm_pages m n refl (λ row h. h) n.phased (omega arith) (λ b ne. refl)) refl refl refl refl refl refl
  reads p (suc x) r may e n =
      let Holds' : ℕ → Type 0 =
      λ j. Holds m.rows t.row_out t.page_out (t.entered a) (knows a).inside (knows a).read.seen (put (knows a).read.learnt j true) (knows a).read.roots
      (put (knows a).read.heads (suc p) (Some j)) (put (knows a).read.before (suc p) (knows a).read.heads) (knows a).asked.linked in
      let here = met_placed g a (suc p) may.1 in
      elim (slot_of g a (suc p) here.0 here.1 here.2) [
        | inl none ↦ absurd (cc none.0)
        | inr v ↦ (let same : v.0 ≡ suc x = same_Some v.0 (suc x) (sym v.1 ∙ ap row_in e) in
            read_timed (after_reply (learn (knows a) (Slot (suc p)) (answer.Number (suc x))) r) (calm_pages m n refl (λ row h. h) n.phased (omega arith) (λ b ne. refl)) refl refl
            (rw same at (head_holds g T a may.0 (suc p) v.0 v.1 here.0 here.1 here.2 v.2 v.3)) refl refl)
      ]

  base_stands : (q : ℕ) (v : OwnRow) → OwnFits a (o.row q) (m.rows q) v → IsOwnBase v → (w : Record) → m.rows q ≡ Some w → next_row w ≡ None
  base_stands q (Written (Base page)) h i w e = ap next_row (same_Some w (Base page) (sym e ∙ h.1))
  base_stands q _ h i w e = absurd i

  Reach : ℕ → ℕ → (ℕ → PageOwner) → Type 0
  Reach p y f' =
      (q l : ℕ) (s : Key) → Reached 0 l s (f' q) → Reached 0 l s (o.page q) ⊎ ((z : ℕ) → slot_in m.slots q ≡ Some z → IsOwn ((knows a).own.rows z) × (z ≢ suc y) × (q ≡ split_page (m.rows (suc y))))

  Clears : (ℕ → PageOwner) → Type 0
  Clears f' = (q b l : ℕ) (s : Key) → o.page q ≡ Cleared b l s → f' q ≡ Cleared b l s

  same_reach : (p y : ℕ) (f' : ℕ → PageOwner) → f' ≡ o.page → Reach p y f'
  unfolding Reach
  same_reach p y f' e q l s r = inl (rw e at r)

  same_clears : (f' : ℕ → PageOwner) → f' ≡ o.page → Clears f'
  unfolding Clears
  same_clears f' e q b l s i = rw e i

  put_reach : (p y : ℕ) (f' : ℕ → PageOwner) (c l0 : ℕ) (s0 : Key) (st : Stage) (n : PageOwner) → o.page c ≡ Placed st l0 s0 → f' ≡ put o.page c n
      → ((l : ℕ) (s : Key) → Reached 0 l s n → (l0 ≡ l) × (s0 ≡ s)) → Reach p y f'
  unfolding Reach
  put_reach p y f' c l0 s0 st n was e at q l s r = inl (put_reached o.page f' c l0 s0 st n was e at q l s r)

  -- what a link does with pages
  links_pages : (p x y : ℕ) (w : Record) (f' : ℕ → PageOwner) → m.rows (suc y) ≡ Some w
      → ((s : SplitOf) → w ≡ Split s → (base : ℕ) × ((knows a).own.pages s.page ≡ Ready base) × IsOwn ((knows a).own.rows base) × (base ≢ suc y)) → LinkMoves (shared_part m) a w (suc p) o.page f'
      → Reach p y f' × Clears f'
  unfolding Reach Clears
  links_pages p x y (Term w) f' st sp h = (
    put_reach p y f' w.child h.0 w.separator Fresh (Placed Indexed h.0 w.separator) h.1 h.2 (λ l s r. (r.0, r.1)),
    put_cleared o.page f' w.child h.0
        w.separator Fresh (Placed Indexed h.0 w.separator) h.1 h.2,
  )
  links_pages p x y (Hold w) f' st sp h = (
    put_reach p y f' w.child h.0 w.separator Indexed (Placed Held h.0 w.separator) h.1 h.2 (λ l s r. (r.0, r.1)),
    put_cleared o.page f' w.child h.0
        w.separator Indexed (Placed Held h.0 w.separator) h.1 h.2,
  )
  links_pages p x y (Unterm w) f' st sp h = (
    put_reach p y f' w.child h.0 w.separator Merged (Cleared a h.0 w.separator) h.1 h.2 (λ l s r. (r.0, r.1)),
    put_cleared o.page f' w.child h.0 w.separator
        Merged (Cleared a h.0 w.separator) h.1 h.2,
  )
  links_pages p x y (Remove w) f' st sp h =
      (put_reach p y f' (suc p) h.0 h.1 Held (Placed Removed h.0 h.1) h.2 h.3 (λ l s r. (r.0, r.1)), put_cleared o.page f' (suc p) h.0 h.1 Held (Placed Removed h.0 h.1) h.2 h.3)
  links_pages p x y (Merge w) f' st sp h =
      (put_reach p y f' h.0 h.1 w.low Removed (Placed Merged h.1 w.low) h.2 h.3 (λ l s r. (r.0, r.1)), put_cleared o.page f' h.0 h.1 w.low Removed (Placed Merged h.1 w.low) h.2 h.3)
  links_pages p x y (Split w) f' st sp h = (reach, cleared)
    where
      b : (base : ℕ) × ((knows a).own.pages w.page ≡ Ready base) × IsOwn ((knows a).own.rows base) × (base ≢ suc y)
      b = sp w refl

      held : slot_in m.slots w.page ≡ Some b.0
      held = (rw b.1 at (g.owns_pages a w.page)).1

      reach : Reach p y f'
      reach q l s r = go (rw h.5 at r)
        where
          go : Reached 0 l s (put o.page w.page (Placed Fresh h.1 w.separator) q)
              → Reached 0 l s (o.page q) ⊎ ((z : ℕ) → slot_in m.slots q ≡ Some z → IsOwn ((knows a).own.rows z) × (z ≢ suc y) × (q ≡ split_page (m.rows (suc y))))
          go = by_equal q w.page
              (λ i t. rw t λ v. inr (λ z e. let same : b.0 ≡ z = same_Some b.0 z (sym held ∙ ap (slot_in m.slots) (sym i) ∙ e) in (rw same at b.2, rw same at b.3, i ∙ ap split_page (sym st))))
              (λ ne t. rw t λ v. inl v)

      cleared : Clears f'
      cleared q c l s e = rw h.5 (put_other o.page w.page (Placed Fresh h.1 w.separator) q (λ i. absurd (cc h.4)) ∙ e)
  links_pages p x y w f' st sp h = (same_reach p y f' h, same_clears f' h)

  no_page_out : (q : ℕ) → o.page q ≡ Keeps a → t.page_out q ≡ None
  no_page_out q e = none_if (t.page_out q) (λ w i. let f = sym e ∙ (T.pages q w i).0.2 in cc)

  -- an exchange of a page's slot to a row, which won
  fills : (p x y : ℕ) (r : Option Reply) → MayExchange a (knows a) (suc p) x (suc y) → slot_in m.slots (suc p) ≡ row_in x
      → After (record m { slots = replaced_at (suc p) (suc y) m.slots }) (Exchange (suc p) x (suc y)) (answer.Whether true) r
  unfolding Reach Clears
  fills p zero y r may held n =
      let m' : Memory = record m { slots = replaced_at (suc p) (suc y) m.slots } in
      rw may.0 (ready_timed g T a p zero y n.owners (record {
        own = own_base ((knows a).own.rows (suc y)) may.1;
        page_in = no_page_out (suc p) n.phased.1;
        under = λ j w e i. absurd (cc (base_stands (suc y) ((knows a).own.rows (suc y)) (g.owns a (suc y)) may.1 w e));
        reached = same_reach p y n.owners.page n.phased.0;
        homed = n.homed;
        stay = λ j l. (n.kept j l).0;
        spare = λ j b e. spare_or b (m.free_rows j) (o.row j) (n.owners.row j) e (n.moved j);
        cleared = same_clears n.owners.page n.phased.0;
      }) may.0 may.1 may.2 r)
  fills p (suc x) y r may held n =
      let m' : Memory = record m { slots = replaced_at (suc p) (suc y) m.slots } in
      let h = link_of a (knows a) (suc p) (suc x) (suc y) may in
      let f = found g a (suc p) (suc x) h.basis in
      let place = place_of g a (suc p) (suc x) h.basis.chain f h.basis.alive held in
      let other : (knows a).own.pages (suc p) ≡ Other = not_own g a (suc p) (level_in h.basis.chain) (low_in h.basis.chain) place.stage place.placed
      ((knows a).own.pages (suc p)) (g.owns_pages a (suc p)) in
      let own : (o.row (suc y) ≡ Spare a) × (m.rows (suc y) ≡ Some h.content) = rw h.placed at (g.owns a (suc y)) in
      let links = rw (same_Some n.phased.0 h.content (sym n.phased.1 ∙ own.1)) at n.phased.2 in
      let pages = links_pages p (suc x) y h.content n.owners.page own.1 h.split links in
      let at = T.slots (suc p) (suc x) (level_in h.basis.chain) (low_in h.basis.chain) f.reached held in
      subst
      (λ (k : Knowledge). Timed limits m' n.owners (put knows a (after_reply k r)) (suc now) (times_after a m o now (Exchange (suc p) (suc x) (suc y)) (answer.Whether true) t))
      (sym (rw (other, h.placed)))
      (linked_timed g T a p (suc x) y n.owners (record {
        own = rw h.placed tt;
        page_in = not_out g T a (suc p) (suc x) held;
        under = λ j w e i.
            let z : j ≡ suc x = h.over j (ap next_row (sym (same_Some w h.content (sym e ∙ own.1))) ∙ i) in
            (ap t.home z ∙ at.0, ap t.row_out z ∙ at.1, ap o.row z ∙ f.linked);
        reached = pages.0;
        homed = n.homed;
        stay = λ j l. (n.kept j l).0;
        spare = λ j b e. spare_or b (m.free_rows j) (o.row j) (n.owners.row j) e (n.moved j);
        cleared = pages.1;
      })
      may.unset
      ((T.holds a).heads_since (suc p) (suc x) h.basis.head).learnt_row
      (f.linked, at.0, at.1)
      r h.content own.1
      (λ u e. let l = rw e at links in placed_in g T a u.child l.0 u.separator Merged l.1)
      (λ s e. let b = h.split s e in (b.0, b.1)))

  emptying_of : (p x : ℕ) (r : Option Reply) → slot_in m.slots (suc p) ≡ Some (suc x) → ((b l : ℕ) (s : Key) → o.page (suc p) ≡ Cleared b l s → b ≡ a)
      → (n : Next a (shared_part m) (shared_part (record m { slots = replaced_at (suc p) 0 m.slots })) log o knows point logs (Exchange (suc p) (suc x) 0) (answer.Whether true) r)
      → Emptying g T a p (suc x) n.owners
  emptying_of p x r held whose n = record {
    held = held;
    whose = whose;
    pages = n.phased.0;
    back = back;
    stay = λ j l. (n.kept j l).0;
    spare = λ j b e. still_spare b (m.free_rows j) (o.row j) (n.owners.row j) e (back j) (n.moved j);
  }
    where
      back : (j : ℕ) → n.owners.row j ≡ Linked → o.row j ≡ Linked
      back j l = elim (n.homed j l) [ inl u ↦ u | inr u ↦ absurd u ]

  -- an exchange of a page's slot to 0, which won
  clears : (p x : ℕ) (r : Option Reply) → MayExchange a (knows a) (suc p) x 0 → slot_in m.slots (suc p) ≡ row_in x
      → After (record m { slots = replaced_at (suc p) 0 m.slots }) (Exchange (suc p) x 0) (answer.Whether true) r
  clears p zero r may held n = absurd may
  clears p (suc x) r (inl ready) held n =
      let m' : Memory = record m { slots = replaced_at (suc p) 0 m.slots } in
      let own : o.page (suc p) ≡ Keeps a = (rw ready at (g.owns_pages a (suc p))).0 in
      rw ready (undone_timed g T a p (suc x) n.owners (emptying_of p x r held (λ b l s e. absurd (cc)) n) own r)
  clears p (suc x) r (inr gone) held n =
      let m' : Memory = record m { slots = replaced_at (suc p) 0 m.slots } in
      rw gone (cleared_timed g T a p (suc x) n.owners
      (emptying_of p x r held (λ b l s e. let w = (rw gone at (g.owns_pages a (suc p))) in let f : Cleared b l s ≡ Cleared a w.0 w.1 = sym e ∙ w.2 in let z : b ≡ a = cc in z) n)
      gone r)

  -- an exchange of slot 0, which won
  roots : (x y : ℕ) (r : Option Reply) → MayRoot (knows a) x y → After (record m { slots = replaced_at 0 y m.slots }) (Exchange 0 x y) (answer.Whether true) r
  roots x y r h n =
      let m' : Memory = record m { slots = replaced_at 0 y m.slots } in
      rw h.ready (rooted_timed g T a x y n.owners (record {
        base = h.base_row;
        ready = h.ready;
        reached = λ q l s v. reached q l s (rw e.6 at v);
        homed = n.homed;
        stay = λ j l. (n.kept j l).0;
        spare = λ j b i. spare_or b (m.free_rows j) (o.row j) (n.owners.row j) i (n.moved j);
        cleared =
            λ q b l s i. ap (λ (f : ℕ → PageOwner). f q) e.6 ∙ put_other (put o.page e.0 (Placed Indexed e.1 e.2)) y (Placed Indexed (suc e.1) []) q
            (λ j. absurd (cc e.5)) ∙ put_other o.page e.0 (Placed Indexed e.1 e.2) q (λ j. absurd (cc e.4)) ∙ i;
      }) r)
    where
      e : Exchanged a (shared_part m) 0 x y o.page n.owners.page
      e = n.phased

      reached : (q l : ℕ) (s : Key) → Reached 0 l s (put (put o.page e.0 (Placed Indexed e.1 e.2)) y (Placed Indexed (suc e.1) []) q) → Reached 0 l s (o.page q) ⊎ (q ≡ y)
      reached q l s = by_equal q y (λ i t. rw t λ v. inr i)
          (λ ne t. rw t (by_equal q e.0
          (λ i t. rw t λ v. inl (placed_reached l s Fresh (o.page q) (ap o.page i ∙ e.4 ∙ ap (λ j. Placed Fresh j e.2) v.0 ∙ ap (λ (j : Key). Placed Fresh l j) v.1)))
          (λ nd t. rw t λ v. inl v)))

  -- an exchange that lost
  loses : (p x y : ℕ) (r : Option Reply) → (m' : Memory) → m' ≡ m → times_after a m o now (Exchange p x y) (answer.Whether false) t ≡ t
      → ((row : ℕ) → IsHomed (shared_part m) (Exchange p x y) (answer.Whether false) row → ⊥) → After m' (Exchange p x y) (answer.Whether false) r
  loses p x y r m' e same homed =
      rw e
      (λ n. rw same (still_timed (after_reply (knows a) r) (calm_pages m n refl homed n.phased (omega arith) (λ b ne. refl)) refl refl refl refl refl refl))

  exchange : (p x y : ℕ) (r : Option Reply) → MayExchange a (knows a) p x y → After (memory_after a (Exchange p x y) m) (Exchange p x y) (answer.Whether (eqb (m.slots p) x)) r
  exchange zero x y r h = by_equal (m.slots 0) x (λ e t. rw t (roots x y r h)) (λ ne t. rw t (loses 0 x y r m refl refl (λ row i. i)))
  exchange (suc p) x zero r h = by_equal (m.slots (suc p)) x (λ e t. rw t (clears p x r h (ap row_in e))) (λ ne t. rw t (loses (suc p) x 0 r m refl refl (λ row i. i)))
  exchange (suc p) x (suc y) r h = by_equal (m.slots (suc p)) x (λ e t. rw t (fills p x y r h (ap row_in e))) (λ ne t. rw t (loses (suc p) x (suc y) r m refl refl (λ row i. i)))

  takes_row : (q : ℕ) (r : Option Reply) (z : Bool) → m.free_rows q ≡ z → After (memory_after a (TakeRow q) m) (TakeRow q) (answer.Whether z) r
  takes_row q r true e n = take_row_timed g T a q r e n.owners (calm_pages (memory_after a (TakeRow q) m) n refl (λ row i. i) n.phased (omega arith) (λ b ne. refl))
  takes_row q r false e n = still_timed (after_reply (knows a) r) (calm_pages (memory_after a (TakeRow q) m) n refl (λ row i. i) n.phased (omega arith) (λ b ne. refl)) refl refl refl refl refl refl

  takes_pid : (q : ℕ) (r : Option Reply) (z : Bool) → m.free_pids q ≡ z → After (memory_after a (TakePid q) m) (TakePid q) (answer.Whether z) r
  takes_pid q r true e n = take_pid_timed g T a q r n.owners (calm_next (memory_after a (TakePid q) m) n refl (λ row i. i) reached cleared (omega arith) (λ b ne. refl))
    where
      reached : (p l : ℕ) (k : Key) → Reached 0 l k (n.owners.page p) → Reached 0 l k (o.page p)
      reached p l k h = go (rw n.phased at h)
        where
          go : Reached 0 l k (put o.page q (Keeps a) p) → Reached 0 l k (o.page p)
          go = by_equal p q (λ i t. rw t λ v. absurd v) (λ ne t. rw t λ v. v)

      cleared : (p b l : ℕ) (k : Key) → o.page p ≡ Cleared b l k → n.owners.page p ≡ Cleared b l k
      cleared p b l k i = rw n.phased (put_other o.page q (Keeps a) p (λ j. absurd (cc (g.frees.page q e).0)) ∙ i)
  takes_pid q r false e n = still_timed (after_reply (knows a) r) (calm_pages (memory_after a (TakePid q) m) n refl (λ row i. i) n.phased (omega arith) (λ b ne. refl)) refl refl refl refl refl refl

  -- each allowed step but a reuse
  pub timed_step : (s : StepOf Record) → (IsReuse s → ⊥) → (x : Answer Record) (r : Option Reply) → May a (knows a) s → IsAnswer m s x → a < limits.actors → After (memory_after a s m) s x r
  timed_step (Slot zero) calm x r may is actor =
      rw is (λ n. read_timed (after_reply (learn (knows a) (Slot 0) (answer.Number (m.slots 0))) r)
      (calm_pages m n refl (λ row i. i) n.phased (omega arith) (λ b ne. refl)) refl refl (root_holds g T a may) refl refl)
  timed_step (Slot (suc p)) calm x r may is actor = rw is (reads p (m.slots (suc p)) r may refl)
  timed_step (Row q) calm x r may is actor =
      rw is.2 (λ n. read_timed (after_reply (learn (knows a) (Row q) (answer.Content is.0)) r)
      (calm_pages m n refl (λ row i. i) n.phased (omega arith) (λ b ne. refl)) refl refl (row_holds g T a q is.0 may.1 is.1) refl refl)
  timed_step Epoch calm x r may is actor = rw is (λ n. epoch_timed g T a r n.owners (calm_pages m n refl (λ row i. i) n.phased (omega arith) (λ b ne. refl)))
  timed_step (Announce c) calm x r may is actor =
      rw is (λ n. announce_timed g T a c r n.owners (calm_pages m n refl (λ row i. i) n.phased (omega arith) (λ b ne. refl)))
  timed_step (Place q w) calm x r may is actor =
      rw is
      (λ n. place_timed g T a q w r n.owners (calm_pages (memory_after a (Place q w) m) n refl (λ row i. i) n.phased (omega arith) (λ b ne. refl)) may.1 may.2)
  timed_step (Exchange p old new) calm x r may is actor = rw is (exchange p old new r may.1)
  timed_step (TakePid q) calm x r may is actor = rw is (takes_pid q r (m.free_pids q) refl)
  timed_step (TakeRow q) calm x r may is actor = rw is (takes_row q r (m.free_rows q) refl)
  timed_step (Enter e) calm x r may is actor =
      λ n. enter_timed g T a e x r n.owners (calm_pages (memory_after a (Enter e) m) n refl (λ row i. i) n.phased (omega arith) (λ b ne. put_other m.announced a e b ne)) may.0 may.1 may.2 actor
  timed_step Leave calm x r may is actor =
      rw is
      (λ n. leave_timed g T a r n.owners (calm_pages (memory_after a Leave m) n refl (λ row i. i) n.phased (omega arith) (λ b ne. put_other m.announced a 0 b ne)))
  timed_step (Retire e) calm x r may is actor =
      let retired : (e : ℕ) → m.epoch ≤ (memory_after a (Retire e) m).epoch = λ e. by_equal m.epoch e (λ i t. rw t (omega arith)) (λ ne t. rw t (omega arith)) in
      λ n. still_timed (after_reply (knows a) r) (calm_pages (memory_after a (Retire e) m) n refl (λ row i. i) n.phased (retired e) (λ b ne. refl)) refl refl refl refl refl refl
  timed_step (ReusePids w b) calm x r may is actor = absurd (calm tt)
  timed_step (ReuseRows w b) calm x r may is actor = absurd (calm tt)
  timed_step s calm x r may is actor =
      rw is.2
      (λ n. still_timed (after_reply (learn (knows a) s (answer.Number is.0)) r) (calm_pages m n refl (λ row i. i) n.phased (omega arith) (λ b ne. refl)) refl refl refl refl refl refl)
