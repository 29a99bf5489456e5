-- Taking rows and pages, placing records in own rows and rows in the slots of own pages keep the invariant.
use Rattle.tree_law.proofs.Words.{false, ap, refl, Option, None, List, true, inl, inr, ◌∷◌, ℕ, ◌≡◌, ◌∙◌, Some, Update, Reply, Whether, Done, TakePid, Place, TakeRow, Record, IsOwn}
use Rattle.tree_law.proofs.Words.{Knowledge, after_reply, learn, Empty, OwnPage, Taken, Written, Key, Owners, Spare, OwnFits, PageFits, Nobody, Placed, Cleared}
use Rattle.tree_law.proofs.Words.{Keeps, Merged, Stage, put, Shared, IsTree}
use Rattle.tree_law.proofs.shape.{by_equal, put_same, put_other, put_all, tree_kept, exact_same, row_free, row_own, row_same, page_free, page_own, page_same, Change}
use Rattle.tree_law.proofs.shape.{kept_change, closed_kept, own_spare}
use Rattle.tree_law.proofs.links.Keeping.{put_tree, mine_at, tree_at, off_still}
use Rattle.tree_law.proofs.shape.Kept.{Kept}

module _ {m : Shared} {log : List Update} {o : Owners} {knows : ℕ → Knowledge} {point : ℕ → Option (List Update)} {logs : ℕ → List (List Update)} (g : IsTree m log o knows point logs) (a : ℕ) where
  pub takes_row : (q : ℕ) → m.free q ≡ true → (r : Option Reply)
      → IsTree (record m { free = put m.free q false }) log (record o { row = put o.row q (Spare a) })
      (put knows a (after_reply (learn (knows a) (TakeRow q) (Whether true)) r)) (put point a (point a)) (put logs a (log ∷ logs a))
  takes_row q f r =
      let m' : Shared = record m { free = put m.free q false } in
      let o' : Owners = record o { row = put o.row q (Spare a) } in
      let change : Change a o o' m m' =
      record { row = λ j. by_equal j q (λ i t. rw t (row_free (ap o.row i ∙ g.frees.row q f))) (λ i t. rw t (row_same refl refl)); page = λ p. page_same refl refl } in
      let kept : Kept o o' m m' = kept_change change in
      put_tree g a m' log o' (after_reply (learn (knows a) (TakeRow q) (Whether true)) r) (point a) (log ∷ logs a)
      change
      (record {
        row = λ j. by_equal j q (λ i t. rw t λ h. absurd (cc)) (λ ne t. rw t λ h. g.frees.row j h);
        page = g.frees.page;
      })
      (closed_kept kept g.closed (λ j. by_equal j q (λ i t. rw t λ h. absurd (cc)) (λ i t. rw t λ h. inl h)))
      (tree_at g a o'.row m' kept refl refl)
      (put_all (λ j v. OwnFits a (o'.row j) (m.rows j) v) (knows a).own.rows q Taken (put_same o.row q (Spare a)) (λ j ne. rw (put_other o.row q (Spare a) j ne) (g.owns a j)))
      (g.owns_pages a)
      (mine_at g a o' m' kept)

  pub takes_page : (q : ℕ) → m.free_pages q ≡ true → (r : Option Reply)
      → IsTree (record m { free_pages = put m.free_pages q false }) log (record o { page = put o.page q (Keeps a) })
      (put knows a (after_reply (learn (knows a) (TakePid q) (Whether true)) r)) (put point a (point a)) (put logs a (log ∷ logs a))
  takes_page q f r =
      let was : (o.page q ≡ Nobody) × (m.slots q ≡ None) = g.frees.page q f in
      let m' : Shared = record m { free_pages = put m.free_pages q false } in
      let o' : Owners = record o { page = put o.page q (Keeps a) } in
      let change : Change a o o' m m' =
      record { row = λ j. row_same refl refl; page = λ p. by_equal p q (λ i t. rw t (page_free (ap o.page i ∙ was.0))) (λ i t. rw t (page_same refl refl)) } in
      let new : (p l : ℕ) (s : Key) (st : Stage) → o.page p ≡ Placed st l s → put o.page q (Keeps a) p ≡ Placed st l s =
      λ p l s st e. put_other o.page q (Keeps a) p (λ i. absurd (cc was.0)) ∙ e in
      let cleared : (p b l : ℕ) (s : Key) → put o.page q (Keeps a) p ≡ Cleared b l s → o.page p ≡ Cleared b l s =
      λ p b l s. by_equal p q (λ i t. rw t λ h. absurd (cc)) (λ i t. rw t λ h. h) in
      let old : (p l : ℕ) (s : Key) (st : Stage) → put o.page q (Keeps a) p ≡ Placed st l s → o.page p ≡ Placed st l s =
      λ p l s st. by_equal p q (λ i t. rw t λ h. absurd (cc)) (λ i t. rw t λ h. h) in
      let kept : Kept o o' m m' = kept_change change in
      put_tree g a m' log o' (after_reply (learn (knows a) (TakePid q) (Whether true)) r) (point a) (log ∷ logs a)
      change
      (record {
        row = g.frees.row;
        page = λ j. by_equal j q (λ i t. rw t λ h. absurd (cc)) (λ ne t. rw t λ h. g.frees.page j h);
      })
      (closed_kept kept g.closed (λ j l. inl l))
      (tree_kept log g.closed kept (λ p l s st e on. (refl, (st, new p l s st e, on, refl))) refl refl (λ p l s st e on. (st, old p l s st e, on)) g.tree
      (exact_same old new cleared g.tree.exact)
      (λ p l s i. off_still g a o' m' kept p l s refl (g.tree.off p l s (elim i [ inl u ↦ inl (old p l s Merged u) | inr u ↦ inr (u.0, cleared p u.0 l s u.1) ]))))
      (g.owns a)
      (put_all (λ j v. PageFits a (o'.page j) (m.slots j) v) (knows a).own.pages q Empty (put_same o.page q (Keeps a), was.1) (λ j ne. rw (put_other o.page q (Keeps a) j ne) (g.owns_pages a j)))
      (mine_at g a o' m' kept)

  pub places : (q : ℕ) (w : Record) → IsOwn ((knows a).own.rows q) → (r : Option Reply)
      → IsTree (record m { rows = put m.rows q (Some w) }) log o (put knows a (after_reply (learn (knows a) (Place q w) Done) r)) (put point a (point a)) (put logs a (log ∷ logs a))
  places q w i r =
      let was : o.row q ≡ Spare a = own_spare (m.rows q) ((knows a).own.rows q) (g.owns a q) i in
      let m' : Shared = record m { rows = put m.rows q (Some w) } in
      let change : Change a o o m m' =
      record { row = λ j. by_equal j q (λ e t. rw t (row_own (ap o.row e ∙ was))) (λ e t. rw t (row_same refl refl)); page = λ p. page_same refl refl } in
      put_tree g a m' log o (after_reply (learn (knows a) (Place q w) Done) r) (point a) (log ∷ logs a)
      change
      (record { row = g.frees.row; page = g.frees.page })
      (closed_kept (kept_change change) g.closed (λ j l. inl l))
      (tree_at g a o.row m' (kept_change change) refl refl)
      (put_all (λ j v. OwnFits a (o.row j) (m'.rows j) v) (knows a).own.rows q (Written w) (was, put_same m.rows q (Some w)) (λ j ne. rw (put_other m.rows q (Some w) j ne) (g.owns a j)))
      (g.owns_pages a)
      (mine_at g a o m' (kept_change change))

  -- the slot of a page of its own is changed
  pub own_slot : (p : ℕ) (x : Option ℕ) (v : OwnPage) → o.page p ≡ Keeps a → PageFits a (o.page p) x v → (k : Knowledge) → k.own.rows ≡ (knows a).own.rows
      → k.own.pages ≡ put (knows a).own.pages p v → k.read ≡ (knows a).read → k.asked.linked ≡ (knows a).asked.linked
      → IsTree (record m { slots = put m.slots p x }) log o (put knows a k) (put point a (point a)) (put logs a (log ∷ logs a))
  own_slot p x v was fits k rows pages read linked =
      let m' : Shared = record m { slots = put m.slots p x } in
      let change : Change a o o m m' =
      record { row = λ j. row_same refl refl; page = λ j. by_equal j p (λ e t. rw t (page_own (ap o.page e ∙ was))) (λ e t. rw t (page_same refl refl)) } in
      let kept : Kept o o m m' = kept_change change in
      put_tree g a m' log o k (point a) (log ∷ logs a)
      change
      (record { row = g.frees.row; page = λ j h. let f = g.frees.page j h in (f.0, put_other m.slots p x j (λ e. absurd (cc f.0)) ∙ f.1) })
      (closed_kept kept g.closed (λ j l. inl l))
      (tree_kept log g.closed kept (λ j l s st h on. (put_other m.slots p x j (λ e. absurd (cc)), (st, h, on, refl))) refl refl (λ j l s st h on. (st, h, on)) g.tree g.tree.exact
      (λ j l s i. off_still g a o m' kept j l s (put_other m.slots p x j (λ e. elim i [ inl u ↦ absurd (cc) | inr u ↦ absurd (cc u.1) ])) (g.tree.off j l s i)))
      (rw rows (g.owns a))
      (rw pages (put_all (λ j w. PageFits a (o.page j) (m'.slots j) w) (knows a).own.pages p v (rw (put_same m.slots p x) fits) (λ j ne. rw (put_other m.slots p x j ne) (g.owns_pages a j))))
      (rw (read, linked) (mine_at g a o m' kept))
