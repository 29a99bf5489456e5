-- The exchanges that merge a removed page into its left one, and that clear a merged page's slot.
use Rattle.tree_law.proofs.Words.{◌⊎◌, ap, refl, Option, None, List, true, inl, ◌≢◌, inr, ◌∷◌, subst, sym, ℕ, ◌≡◌, ◌∙◌, arith, Some, same_Some, IsSome, Update, Reply, Record, Merge}
use Rattle.tree_law.proofs.Words.{right_in, low_in, is_removed, level_in, high_in, HasRead, MayMerge, Knowledge, after_reply, Foreign, Gone, Written, after_filling, after_emptying, handed_over}
use Rattle.tree_law.proofs.Words.{Key, IsBelow, Covers, Linked, Owners, Spare, IsOut, OwnFits, IsChain, Placed, PageOwner, Cleared, rank, Removed, Merged, put, Shared}
use Rattle.tree_law.proofs.Words.{IsTree, spec, IsOff, SidePage, InPlace, after_clear}
use Rattle.tree_law.proofs.shape.{not_below, upto_same, under_trans, by_range, covers_to, by_equal, put_same, put_other, put_all, chain_unique, chain_kept, in_level_as, one_chain, right_page}
use Rattle.tree_law.proofs.shape.{tree_kept, tree_merged, placed_level, exact_going, row_own, row_same, page_same, page_stage, page_link, page_gone, Change, kept_change}
use Rattle.tree_law.proofs.shape.{closed_kept, chain_stands}
use Rattle.tree_law.proofs.links.Keeping.{put_tree, mine, mine_at, off_still, is_gone}
use Rattle.tree_law.proofs.links.Relinking.{LinkedTree, not_off, Found, not_own, found, found_as, place_of}
use Rattle.tree_law.proofs.links.Updating.{below_top}
use Rattle.tree_law.proofs.shape.Kept.{Kept}

module _ {m : Shared} {log : List Update} {o : Owners} {knows : ℕ → Knowledge} {point : ℕ → Option (List Update)} {logs : ℕ → List (List Update)} (g : IsTree m log o knows point logs) (a : ℕ) where
  pub clears : (p x : ℕ) → m.slots p ≡ Some x → (knows a).own.pages p ≡ Gone → (r : Option Reply)
      → IsTree (record m { slots = put m.slots p None }) log o (put knows a (after_reply (after_emptying ((knows a).own.pages p) p x (knows a)) r)) (put point a (point a)) (put logs a (log ∷ logs a))
  clears p x s own r =
      let was : (l : ℕ) × (k : Key) × (o.page p ≡ Cleared a l k) × IsSome (m.slots p) = rw own at (g.owns_pages a p) in
      let m' : Shared = record m { slots = put m.slots p None } in
      let change : Change a o o m m' =
      record { row = λ j. row_same refl refl; page = λ j. by_equal j p (λ e t. rw t (page_gone was.0 was.1 (ap o.page e ∙ was.2) (ap o.page e ∙ was.2) refl)) (λ e t. rw t (page_same refl refl)) } in
      let kept : Kept o o m m' = kept_change change in
      subst (λ (k : Knowledge). IsTree m' log o (put knows a (after_reply k r)) (put point a (point a)) (put logs a (log ∷ logs a))) (sym (rw own))
      (put_tree g a m' log o (after_reply k r) (point a) (log ∷ logs a)
      change
      (record { row = g.frees.row; page = λ j h. let f = g.frees.page j h in (f.0, put_other m.slots p None j (λ e. absurd (cc (f.0, was.2))) ∙ f.1) })
      (closed_kept kept g.closed (λ j l. inl l))
      (tree_kept log g.closed kept (λ j l k st e on. (put_other m.slots p None j (λ i. absurd (cc was.2)), (st, e, on, refl))) refl refl (λ j l k st e on. (st, e, on)) g.tree g.tree.exact
      (λ j l k i. by_equal j p (λ e t. rw t (inl (refl, (a, was.0, was.1, ap o.page e ∙ was.2))))
      (λ ne t. rw t (rw (put_other m.slots p None j ne) at (off_still g a o m' kept j l k (put_other m.slots p None j ne) (g.tree.off j l k i))))))
      (g.owns a)
      (λ j. by_equal j p (λ i t. rw t tt) (λ i t. rw t (g.owns_pages a j)))
      (mine_at g a o m' kept))
    where
      k : Knowledge
      k = after_clear p x (knows a)

  -- a page that was read removed is as it was read
  pub frozen_as : (p x : ℕ) → (knows a).read.heads p ≡ Some x → (c : List Record) → IsChain (knows a).read.seen c (Some x) → is_removed c ≡ true → (m.slots p ≡ Some x) ⊎ IsOut (o.page p) (m.slots p)
  frozen_as p x e c h n =
      let f = rw e at ((mine g a).heads_fit p) in
      f.4 (ap is_removed (chain_unique m.rows f.2.chain c (Some x) f.2.is_chain (chain_stands o m (knows a).read.seen (mine g a).seen_fits c (Some x) h)) ∙ n)

  -- the exchange that merges a page's right into it
  pub merges : (p x y : ℕ) → m.slots p ≡ Some x → (basis : HasRead (knows a) p x) (content : Record) → (knows a).own.rows y ≡ Written content → (h : MayMerge (knows a) x basis.chain content)
      → (r : Option Reply)
      → LinkedTree g a p x y r log
      (record { row = put o.row y Linked; page = put o.page h.other (Placed Merged (level_in basis.chain) (low_in h.merged)); index = o.index }) (point a) ×
      (o.page h.other ≡ Placed Removed (level_in basis.chain) (low_in h.merged))
  merges p x y s basis content written h r =
      let learned : after_filling ((knows a).own.pages p) p x y (knows a) ≡ handed_over y (knows a) =
      rw (not_own g a p lv (low_in c) place.stage place.placed ((knows a).own.pages p) (g.owns_pages a p), (written ∙ ap Written h.is)) refl in
      let change : Change a o o' m m' = record {
        row = λ j. by_equal j y (λ i t. rw t (row_own (ap o.row i ∙ fits.0))) (λ i t. rw t (row_same refl refl));
        page = λ j. by_equal j q
            (λ i is. rw is (page_stage Removed Merged lv sq (ap o.page i ∙ was) refl (omega arith) (put_other m.slots p (Some y) j (λ u. apart (sym i ∙ u)))))
            (λ i is. rw is (by_equal j p
            (λ i t. rw t
            (page_link place.stage place.stage lv (low_in c) (ap o.page i ∙ place.placed) (ap o.page i ∙ place.placed) (omega arith) x y c (ap m.slots i ∙ s) f.stands basis.alive refl fits.0))
            (λ i t. rw t (page_same refl refl))));
      } in
      let kept : Kept o o' m m' = kept_change change in (
        rw learned (put_tree g a m' log o' (after_reply (handed_over y (knows a)) r) (point a) (log ∷ logs a)
            change
            (record {
              row = λ j f. put_other o.row y Linked j (λ i. absurd (cc (g.frees.row j f, fits.0))) ∙ g.frees.row j f;
              page =
                  λ j n. let v = g.frees.page j n in
                  (put_other o.page q gone j (λ i. absurd (let z = sym v.0 ∙ ap o.page i ∙ was in cc)) ∙ v.0, put_other m.slots p (Some y) j (λ i. absurd (cc (v.0, place.placed))) ∙ v.1);
            })
            (closed_kept kept g.closed (λ j. by_equal j y
            (λ i t. rw t λ l. inr (rw i (record { linked = put_same o.row y Linked; content = w; stands = fits.1; next = (kept.row x f.linked).0; rest = c; is_rest = f.stands })))
            (λ i t. rw t λ l. inl l)))
            (tree_merged log g.closed kept g.tree p lv (low_in c) q sq place.stage Removed place.placed place.on was above
            (λ j l k st np nq e on. (put_other m.slots p (Some y) j np, (st, put_other o.page q gone j nq ∙ e, on, refl))) refl refl
            (record { page = p; row = y; chain = w ∷ c }) refl
            (λ g1 k h1 e1 hk rk.
            let kq : k.page ≡ q = same_Some k.page q (sym rk ∙ ap right_in (one_chain o m lv (spec log o.index lv) (spec log o.index lv) here g1 place h1 e1) ∙ h.right) in
            let ck : k.chain ≡ d = one_chain o m lv (spec log o.index lv) (spec log o.index lv) (record { page = q; row = h.row; chain = d }) k removed_place hk kq in
            (kq, (refl, refl, new_place, (ap right_in (sym ck), ap high_in (sym ck)))))
            (λ g1 h1 e1. ap right_in (one_chain o m lv (spec log o.index lv) (spec log o.index lv) here g1 place h1 e1) ∙ h.right)
            (λ j l k st. by_equal j q
            (λ i t. rw t λ e on. absurd (let z : Merged ≡ st = cc in let u = ap rank z in omega arith)) (λ i t. rw t λ e on. ((λ z. i z), (st, e, on))))
            (exact_going q lv sq Removed Merged was (below_top g a q lv sq Removed was (omega arith)) refl g.tree.exact)
            (λ j l k. by_equal j q
            (λ i t. rw t λ e. let z = at_off l k e in inr (record {
              row = h.row;
              chain = d;
              head = put_other m.slots p (Some y) j (λ u. apart (sym i ∙ u)) ∙ ap
                  m.slots i ∙ slot;
              linked = (kept.row h.row fd.linked).0;
              is_chain = chain_kept g.closed kept d (Some h.row) fd.linked fd.stands;
              flagged =
                  h.gone;
              level = level ∙ z.0;
              low = z.1;
            }))
            (λ i t e. let was = rw t at e in off_still g a o' m' kept j l k
            (put_other m.slots p (Some y) j (λ u. not_off place.stage lv (low_in c) l k place.on (rw (ap o.page u ∙ place.placed) at was)))
            (g.tree.off j l k was))))
            (put_all (λ j v. OwnFits a (o'.row j) (m.rows j) v) (knows a).own.rows y Foreign tt (λ j ne. rw (put_other o.row y Linked j ne) (g.owns a j)))
            (λ j. by_equal j q
            (λ i is. rw is (rw (not_own g a j lv sq Removed (ap o.page i ∙ was) ((knows a).own.pages j) (g.owns_pages a j)) tt))
            (λ i is. rw is (by_equal j p
            (λ i t. rw t (rw (not_own g a j lv (low_in c) place.stage (ap o.page i ∙ place.placed) ((knows a).own.pages j) (g.owns_pages a j)) tt))
            (λ i t. rw t (g.owns_pages a j)))))
            (mine_at g a o' m' kept)),
        was,
      )
    where
      c : List Record
      c = basis.chain

      d : List Record
      d = h.merged

      q : ℕ
      q = h.other

      lv : ℕ
      lv = level_in c

      sq : Key
      sq = low_in d

      f : Found o m p x c
      f = found g a p x basis

      here : SidePage
      here = record { page = p; row = x; chain = c }

      place : InPlace o m lv (spec log o.index lv) here
      place = place_of g a p x c f basis.alive s

      fd : Found o m q h.row d
      fd = found_as g a q h.row h.head d h.read

      next : (k : SidePage) × (k.page ≡ q) × (high_in c ≡ Some (low_in k.chain)) × InPlace o m lv (spec log o.index lv) k
      next = right_page (g.tree.levels lv (g.tree.exact.below p lv (low_in c) place.stage place.placed)) here place q h.right

      slot : m.slots q ≡ Some h.row
      slot = elim (frozen_as q h.row h.head d h.read h.gone) [ inl u ↦ u | inr u ↦ absurd (cc (next.3.placed, next.1, u.1.3)) ]

      removed_place : InPlace o m lv (spec log o.index lv) (record { page = q; row = h.row; chain = d })
      removed_place =
          (in_level_as (g.tree.levels lv (g.tree.exact.below p lv (low_in c) place.stage place.placed)) q (low_in next.0.chain) next.3.stage
          (ap o.page (sym next.1) ∙ next.3.placed) next.3.on h.row slot d fd.stands).place

      was : o.page q ≡ Placed Removed lv sq
      was = removed_place.placed ∙ ap (λ st. Placed st lv sq) (is_gone removed_place.stage removed_place.on (sym removed_place.flagged ∙ h.gone))

      level : level_in d ≡ lv
      level = removed_place.is_page.on_level

      above : IsBelow (low_in c) sq
      above = rw h.high at place.is_page.some

      apart : q ≢ p
      apart i = not_below (low_in c) sq above (upto_same sq (low_in c) (placed_level Removed place.stage lv lv sq (low_in c) (sym was ∙ ap o.page i ∙ place.placed)).1)

      gone : PageOwner
      gone = Placed Merged lv sq

      at_off : (l : ℕ) (k : Key) → IsOff gone l k → (lv ≡ l) × (sq ≡ k)
      at_off l k (inl e) = placed_level Merged Merged lv l sq k e
      at_off l k (inr e) = absurd (cc e.1)

      w : Record
      w = Merge (record { level = lv; next = x; low = sq; high = high_in d; right = right_in d; items = h.items })

      fits : (o.row y ≡ Spare a) × (m.rows y ≡ Some w)
      fits = rw (written ∙ ap Written h.is) at (g.owns a y)

      m' : Shared
      m' = record m { slots = put m.slots p (Some y) }

      o' : Owners
      o' = record { row = put o.row y Linked; page = put o.page q gone; index = o.index }

      new_place : InPlace o' m' lv (spec log o'.index lv) (record { page = p; row = y; chain = w ∷ c })
      new_place = record {
        stage = place.stage;
        placed = put_other o.page q gone p (λ i. apart (sym i)) ∙ place.placed;
        on = place.on;
        flagged = place.flagged;
        linked = put_same o.row y Linked;
        is_page = record {
          head = put_same m.slots p (Some y);
          is_chain = (fits.1, f.stands);
          on_level = refl;
          some = under_trans (low_in c) sq (high_in d) above removed_place.is_page.some;
          same = λ k v. by_range sq k (high_in d) v.high
              (λ i t. rw t (let v' : Covers d k = record { low = i; high = v.high } in h.alike k (covers_to d k v') ∙ removed_place.is_page.same k v'))
              (λ i t. rw t (place.is_page.same k (record { low = v.low; high = rw h.high i })));
        };
      }
