-- The exchange that links a new root over the old one and its right.
use Rattle.tree_law.proofs.Words.{false, ap, refl, Option, suc, None, List, inl, ◌≢◌, ◌≤◌, inr, ◌∷◌, subst, sym, ℕ, ◌≡◌, zero, ◌∙◌, arith, Some, same_Some, Update, Reply, ContentOf, Child, Record}
use Rattle.tree_law.proofs.Words.{level_in, root_over, MayRoot, Knowledge, after_reply, Foreign, Other, after_root, handed_page, Key, put_key, Linked, Owners, eqb}
use Rattle.tree_law.proofs.Words.{Spare, OwnFits, Placed, Indexed, PageOwner, Keeps, Fresh, rank, Stage, stage_removed, put, Shared, IsTree, spec, Level, SidePage, []}
use Rattle.tree_law.proofs.shape.{not_self, by_equal, eqb_apart, put_same, put_other, put_all, reached_placed, level_kept, placed_level, exact_root, row_own, row_same, page_own}
use Rattle.tree_law.proofs.shape.{page_same, page_stage, Change, kept_change, closed_kept}
use Rattle.tree_law.proofs.links.Keeping.{read_names, put_tree, mine_at, off_still}
use Rattle.tree_law.proofs.links.Relinking.{not_off, Found, stay, go, moved_own, found}
use Rattle.tree_law.proofs.links.Splitting.{keeps_not}
use Rattle.tree_law.proofs.shape.Kept.{Kept}

module _ {m : Shared} {log : List Update} {o : Owners} {knows : ℕ → Knowledge} {point : ℕ → Option (List Update)} {logs : ℕ → List (List Update)} (g : IsTree m log o knows point logs) (a : ℕ) where
  pub roots : (x y : ℕ) → m.root ≡ x → (h : MayRoot (knows a) x y) → (r : Option Reply)
      → IsTree (record m { root = y }) log (record {
        row = put o.row h.base_row Linked;
        page = put (put o.page h.right (Placed Indexed g.tree.top h.separator))
            y (Placed Indexed (suc g.tree.top) []);
        index = put o.index g.tree.top
            (put_key (put_key (λ k. None) h.separator (Some (Child h.right false))) [] (Some (Child m.root false)));
      }) (put knows a (after_reply
      (after_root ((knows a).own.pages y) y (knows a)) r)) (put point a (point a)) (put logs a (log ∷ logs a)) × ((o.page x ≡ Placed Indexed g.tree.top []) ×
      (o.page h.right ≡ Placed Fresh g.tree.top h.separator) × (o.page y ≡ Keeps a))
  roots x y s h r =
      let fits : (o.row h.base_row ≡ Spare a) × (m.rows h.base_row ≡ Some base) = rw h.base at (g.owns a h.base_row) in
      let m' : Shared = record m { root = y } in
      let change : Change a o o' m m' = record {
        row = λ j. by_equal j h.base_row (λ i t. rw t (row_own (ap o.row i ∙ fits.0))) (λ i t. rw t (row_same refl refl));
        page = λ j. by_equal j y (λ i is. rw is (page_own (ap o.page i ∙ ready.0)))
            (λ i is. rw is (by_equal j b (λ i t. rw t (page_stage Fresh Indexed top h.separator (ap o.page i ∙ was) refl (omega arith) refl)) (λ i t. rw t (page_same refl refl))));
      } in
      let kept : Kept o o' m m' = kept_change change in
      let top_level : Level o' m' (suc top) (spec log o'.index (suc top)) y = record {
        side = page ∷ [];
        whole = (
          refl,
          refl,
          record {
            stage = Indexed;
            placed = put_same (put o.page b old) y new;
            on = omega arith;
            flagged = refl;
            linked = put_same o.row h.base_row Linked;
            is_page = record {
              head = ready.1;
              is_chain = (fits.1, refl);
              on_level = ap suc level;
              some = refl;
              same =
                  λ k v. ap (λ (n : ℕ). put_key (put_key (λ j. None) h.separator (Some (Child b false))) [] (Some (Child n false)) k) (sym s) ∙ sym
                  (ap (λ (f : Key → Option ContentOf). f k) (put_same o.index top terms'));
            };
          },
          (refl, refl),
        );
        listed = λ q k st. by_equal q y (λ i is. rw is λ e on. inl (sym i))
            (λ i is. rw is (by_equal q b (λ i t. rw t λ e on. absurd (let u = (placed_level Indexed st top (suc top) h.separator k e).0 in omega arith))
            (λ i t. rw t λ e on. absurd (let u = g.tree.exact.below q (suc top) k st e in omega arith))));
      } in (
        subst (λ (k : Knowledge). IsTree m' log o' (put knows a (after_reply k r)) (put point a (point a)) (put logs a (log ∷ logs a))) (sym (rw h.ready))
            (put_tree g a m' log o' (after_reply (handed_page y Other h.base_row (knows a)) r) (point a) (log ∷ logs a)
            change
            (record {
              row = λ j n. put_other o.row h.base_row Linked j (λ i. absurd (cc (g.frees.row j n, fits.0))) ∙ g.frees.row j n;
              page =
                  λ j n. let v = g.frees.page j n in
                  (put_other (put o.page b old) y new j (λ i. absurd (cc (ready.0, v.0))) ∙ put_other o.page b old j (λ i. absurd (let w = sym v.0 ∙ ap o.page i ∙ was in cc)) ∙ v.0, v.1);
            })
            (closed_kept kept g.closed (λ j. by_equal j h.base_row
            (λ i t. rw t λ l. inr (rw i (record { linked = put_same o.row h.base_row Linked; content = base; stands = fits.1; next = tt; rest = []; is_rest = refl })))
            (λ i t. rw t λ l. inl l)))
            (record {
              top = suc top;
              first = put g.tree.first (suc top) y;
              leaf = put_other g.tree.first (suc top) y 0 (λ e. absurd (omega arith)) ∙ g.tree.leaf;
              root = sym (put_same g.tree.first (suc top) y);
              levels = λ l le. by_equal l (suc top)
                  (λ i t. rw (t, i) top_level)
                  (λ ne t. rw t (level_kept l (spec log o.index l) (spec log o'.index l) (g.tree.first l) g.closed kept
                  (λ q k st e on. (refl, forth q l k st e on)) (others l ne) (λ q k st e on. old_page q l k st ne e on) (g.tree.levels l (omega arith))));
              exact = exact_root b h.separator y was h.some (keeps_not g a y ready.0) g.tree.exact;
              off = λ q l k. by_equal q y (λ i is. rw is λ e. absurd (not_off Indexed (suc top) [] l k (omega arith) e))
                  (λ i is e. let rest = rw is at e in by_equal q b (λ i t. absurd (not_off Indexed top h.separator l k (omega arith) (rw t at rest)))
                  (λ i t. off_still g a o' m' kept q l k refl (g.tree.off q l k (rw t at rest))));
            })
            (put_all (λ j v. OwnFits a (o'.row j) (m.rows j) v) (knows a).own.rows h.base_row Foreign tt (λ j ne. rw (put_other o.row h.base_row Linked j ne) (g.owns a j)))
            (λ j. by_equal j y (λ i is. rw is tt)
            (λ i is. rw is (moved_own g a x y (o.page j) (put o.page b old j)
            (by_equal j b (λ i t. rw t (go Fresh Indexed top h.separator (ap o.page i ∙ was) refl (omega arith) (omega arith) refl)) (λ i t. rw t (stay refl)))
            (m.slots j) ((knows a).own.pages j) (g.owns_pages a j))))
            (mine_at g a o' m' kept)),
        (ap o.page (sym s) ∙ g.tree.exact.is_root, was, ready.0),
      )
    where
      b : ℕ
      b = h.right

      top : ℕ
      top = g.tree.top

      f : Found o m x h.row h.basis.chain
      f = found g a x h.row h.basis

      level : level_in h.basis.chain ≡ top
      level = sym (rw (ap o.page (sym s) ∙ g.tree.exact.is_root) at f.reached).0

      right : (st : Stage) × (o.page b ≡ Placed st top h.separator) × (0 ≤ rank st)
      right = let i = (read_names g a x h.row h.basis).right b h.is_right in
          let j : i.0 ≡ h.separator = same_Some i.0 h.separator (sym i.1 ∙ h.is_high) in
          elim (reached_placed 0 top h.separator (o.page b) (rw level at (rw j at i.2))) [
            | inl u ↦ u
            | inr u ↦ absurd (let z = g.tree.exact.gone b u.0 top h.separator u.1 in omega arith)
          ]

      was : o.page b ≡ Placed Fresh top h.separator
      was =
          right.1
          ∙ ap (λ st. Placed st top h.separator) (g.tree.exact.others b h.separator right.0 right.1
          (λ e. absurd (let i = (placed_level right.0 Indexed top top h.separator [] (sym right.1 ∙ ap o.page e ∙ g.tree.exact.is_root)).1 in not_self [] (rw i at h.some))))

      base : Record
      base = root_over (suc (level_in h.basis.chain)) x h.separator b

      ready : (o.page y ≡ Keeps a) × (m.slots y ≡ Some h.base_row)
      ready = rw h.ready at (g.owns_pages a y)

      old : PageOwner
      old = Placed Indexed top h.separator

      new : PageOwner
      new = Placed Indexed (suc top) []

      terms' : Key → Option ContentOf
      terms' = put_key (put_key (λ k. None) h.separator (Some (Child b false))) [] (Some (Child m.root false))

      o' : Owners
      o' = record { row = put o.row h.base_row Linked; page = put (put o.page b old) y new; index = put o.index top terms' }

      old_page : (q l : ℕ) (k : Key) (st : Stage) → l ≢ suc top → o'.page q ≡ Placed st l k → rank st ≤ 3 → (st' : Stage) × (o.page q ≡ Placed st' l k) × (rank st' ≤ 3)
      old_page q l k st ne e on = by_equal q y
          (λ i t. absurd (ne (sym (placed_level Indexed st (suc top) l [] k (rw t at e)).0)))
          (λ i t. by_equal q b
          (λ i u. let v = placed_level Indexed st top l h.separator k (rw (t, u) at e) in (Fresh, rw (i, was, v.0, v.1), omega arith))
          (λ i u. (st, rw (t, u) at e, on)))

      forth : (q l : ℕ) (k : Key) (st : Stage) → o.page q ≡ Placed st l k → rank st ≤ 3 → (st' : Stage) × (o'.page q ≡ Placed st' l k) × (rank st' ≤ 3) × (stage_removed st ≡ stage_removed st')
      forth q l k st e on =
          let other : eqb q y ≡ false = eqb_apart q y (λ i. keeps_not g a y ready.0 l k st (sym (ap o.page i) ∙ e)) in
          by_equal q b
          (λ i t. let w : Placed Fresh top h.separator ≡ Placed st l k = sym was ∙ sym (ap o.page i) ∙ e in let v = placed_level Fresh st top l h.separator k w
          in let same : Fresh ≡ st = cc in (Indexed, rw (other, t, v.0, v.1), omega arith, ap stage_removed (sym same)))
          (λ i t. (st, rw (other, t) e, on, refl))

      others : (l : ℕ) → l ≢ suc top → (k : Key) → spec log o'.index l k ≡ spec log o.index l k
      others zero ne k = refl
      others (suc l) ne k = rw (put_other o.index top terms' l (λ e. ne (ap suc e)))

      page : SidePage
      page = record { page = y; row = h.base_row; chain = base ∷ [] }
