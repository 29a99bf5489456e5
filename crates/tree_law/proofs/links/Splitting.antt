-- The exchange that links a split: the new page comes between the old one and its right.
use Rattle.tree_law.proofs.Words.{ap, refl, Option, List, inl, ◌≢◌, inr, ◌∷◌, sym, ℕ, ◌≡◌, ◌∙◌, arith, Some, Update, Reply, Record, Split, SplitOf, content_in, low_in}
use Rattle.tree_law.proofs.Words.{level_in, high_in, base_from, HasRead, MaySplit, Knowledge, after_reply, Other, Written, after_filling, handed_page, handed_over, Key, IsBelow, Covers, Linked}
use Rattle.tree_law.proofs.Words.{Owners, Spare, Placed, Keeps, Fresh, Stage, put, Shared, IsTree, []}
use Rattle.tree_law.proofs.shape.{under_trans, upto_trans, below_not, covers_to, by_equal, put_same, put_other, tree_relinked, placed_level, exact_fresh, row_own, row_same}
use Rattle.tree_law.proofs.shape.{page_own, page_same, page_link, Change, kept_change, closed_kept}
use Rattle.tree_law.proofs.links.Keeping.{OnSide, put_tree, mine_at, off_still}
use Rattle.tree_law.proofs.links.Relinking.{LinkedTree, not_off, Found, not_own, found, place_of}
use Rattle.tree_law.proofs.shape.Kept.{Kept}

-- what a split leaves below its separator
split_below : (split : SplitOf) (c : List Record) (k : Key) → IsBelow k split.separator → content_in (Split split ∷ c) k ≡ content_in c k
split_below split c k h = rw h

module _ {m : Shared} {log : List Update} {o : Owners} {knows : ℕ → Knowledge} {point : ℕ → Option (List Update)} {logs : ℕ → List (List Update)} (g : IsTree m log o knows point logs) (a : ℕ) where
  pub keeps_not : (q : ℕ) → o.page q ≡ Keeps a → (l : ℕ) (s : Key) (st : Stage) → o.page q ≡ Placed st l s → ⊥
  keeps_not q e l s st f = absurd (cc)

  -- the exchange that links a split
  pub splits : (p x y : ℕ) → m.slots p ≡ Some x → (basis : HasRead (knows a) p x) (content : Record) → (knows a).own.rows y ≡ Written content → (h : MaySplit (knows a) x basis.chain content)
      → (r : Option Reply)
      → LinkedTree g a p x y r log
      (record { row = put (put o.row h.row Linked) y Linked; page = put o.page h.right (Placed Fresh (level_in basis.chain) h.separator); index = o.index })
      (point a) × ((st : Stage) × (o.page p ≡ Placed st (level_in basis.chain) (low_in basis.chain)) × (o.page h.right ≡ Keeps a))
  splits p x y s basis content written h r =
      let learned : after_filling ((knows a).own.pages p) p x y (knows a) ≡ handed_page h.right Other y (handed_over h.row (knows a)) =
      rw (not_own g a p (level_in c) (low_in c) place.stage place.placed ((knows a).own.pages p) (g.owns_pages a p), (written ∙ ap Written h.is), h.ready) refl in
      let split : SplitOf = record { level = level_in c; next = x; separator = h.separator; page = h.right } in
      let base : Record = base_from c h.separator h.items in
      let upper : (o.row y ≡ Spare a) × (m.rows y ≡ Some (Split split)) = rw (written ∙ ap Written h.is) at (g.owns a y) in
      let lower : (o.row h.row ≡ Spare a) × (m.rows h.row ≡ Some base) = rw h.base at (g.owns a h.row) in
      let ready : (o.page h.right ≡ Keeps a) × (m.slots h.right ≡ Some h.row) = rw h.ready at (g.owns_pages a h.right) in
      let apart : p ≢ h.right = λ i. absurd (cc (place.placed, ready.0)) in
      let wider : (k : Key) → Covers (base ∷ []) k → Covers c k = λ k v. record { low = upto_trans (low_in c) h.separator k (below_not (low_in c) h.separator h.above) v.low; high = v.high } in
      let m' : Shared = record m { slots = put m.slots p (Some y) } in
      let o' : Owners = record { row = put (put o.row h.row Linked) y Linked; page = put o.page h.right (Placed Fresh (level_in c) h.separator); index = o.index } in
      let change : Change a o o' m m' = record {
        row = λ j. by_equal j y (λ i is. rw is (row_own (ap o.row i ∙ upper.0)))
            (λ i is. rw is (by_equal j h.row (λ i t. rw t (row_own (ap o.row i ∙ lower.0))) (λ i t. rw t (row_same refl refl))));
        page = λ j. by_equal j h.right (λ i is. rw is (page_own (ap o.page i ∙ ready.0)))
            (λ i is. rw is (by_equal j p (λ i t. rw t
            (page_link place.stage place.stage (level_in c) (low_in c) (ap o.page i ∙ place.placed) (ap o.page i ∙ place.placed) (omega arith) x y c
            (ap m.slots i ∙ s) f.stands basis.alive refl upper.0))
            (λ i t. rw t (page_same refl refl))));
      } in
      let linked_lower : o'.row h.row ≡ Linked = by_equal h.row y (λ i t. rw t) (λ i t. rw t (put_same o.row h.row Linked)) in
      let kept : Kept o o' m m' = kept_change change in (
        rw learned (put_tree g a m' log o' (after_reply (handed_page h.right Other y (handed_over h.row (knows a))) r) (point a) (log ∷ logs a)
            change
            (record {
              row = λ j f. by_equal j y (λ i is. rw is (absurd (cc (g.frees.row j f, upper.0))))
                  (λ i is. rw is (by_equal j h.row (λ i t. rw t (absurd (cc (g.frees.row j f, lower.0)))) (λ i t. rw t (g.frees.row j f))));
              page = λ j n. by_equal j h.right (λ i t. rw t (absurd (cc ((g.frees.page j n).0, ready.0))))
                  (λ i t. rw t ((g.frees.page j n).0, put_other m.slots p (Some y) j (λ i. absurd (let v = sym (g.frees.page j n).0 ∙ ap o.page i ∙ place.placed in cc)) ∙ (g.frees.page j n).1));
            })
            (closed_kept kept g.closed (λ j. by_equal j y
            (λ i is. rw is λ l. inr
            (rw i (record { linked = put_same (put o.row h.row Linked) y Linked; content = Split split; stands = upper.1; next = (kept.row x f.linked).0; rest = c; is_rest = f.stands })))
            (λ i is. rw is (by_equal j h.row
            (λ i t. rw t λ l. inr (rw i (record { linked = linked_lower; content = base; stands = lower.1; next = tt; rest = []; is_rest = refl })))
            (λ i t. rw t λ l. inl l)))))
            (tree_relinked log log g.closed kept g.tree p (level_in c) (low_in c) place.stage place.placed place.on x s c f.stands (λ q l n st ne e on. (
              put_other m.slots p (Some y) q ne,
              (st, put_other o.page h.right (Placed Fresh (level_in c) h.separator) q (λ j. keeps_not h.right ready.0 l n st (sym (ap o.page j) ∙ e)) ∙ e, on, refl),
            ))
            refl (λ l k n. refl)
            (record { page = p; row = y; chain = Split split ∷ c } ∷ record { page = h.right; row = h.row; chain = base ∷ [] } ∷ []) (
              refl,
              refl,
              record {
                stage = place.stage;
                placed = put_other o.page h.right (Placed Fresh (level_in c) h.separator) p apart ∙ place.placed;
                on = place.on;
                flagged = place.flagged;
                linked = put_same (put o.row h.row Linked) y Linked;
                is_page = record {
                  head = put_same m.slots p (Some y);
                  is_chain = (upper.1, f.stands);
                  on_level = refl;
                  some = h.above;
                  same = λ k v. split_below split c k v.high ∙ place.is_page.same k (record { low = v.low; high = under_trans k h.separator (high_in c) v.high h.below });
                };
              },
              (
                refl,
                refl,
                record {
                  stage = Fresh;
                  placed = put_same o.page h.right (Placed Fresh (level_in c) h.separator);
                  on = omega arith;
                  flagged = refl;
                  linked = linked_lower;
                  is_page = record {
                    head = put_other m.slots p (Some y) h.right (λ i. apart (sym i)) ∙ ready.1;
                    is_chain = (lower.1, refl);
                    on_level = refl;
                    some = h.below;
                    same = λ k v. h.alike k (covers_to c k (wider k v)) v.low ∙ place.is_page.same k (wider k v);
                  };
                },
                (refl, refl),
              ),
            )
            (inl refl)
            (λ q l k st. by_equal q h.right
            (λ i t. rw t λ e on. inr (sym (placed_level Fresh st (level_in c) l h.separator k e).0, inr (inl (sym i)))) (λ i t. rw t λ e on. inl (st, e, on)))
            (exact_fresh h.right (level_in c) h.separator (keeps_not h.right ready.0) (g.tree.exact.below p (level_in c) (low_in c) place.stage place.placed) g.tree.exact)
            (λ q l k. by_equal q h.right
            (λ i t. rw t λ e. absurd (not_off Fresh (level_in c) h.separator l k (omega arith) e))
            (λ i t e. let was = rw t at e in off_still g a o' m' kept q l k
            (put_other m.slots p (Some y) q (λ j. not_off place.stage (level_in c) (low_in c) l k place.on (rw (ap o.page j ∙ place.placed) at was)))
            (g.tree.off q l k was))))
            (λ j. by_equal j y (λ i is. rw is tt)
            (λ i is. rw is (by_equal j h.row (λ i t. rw t tt) (λ i t. rw t (g.owns a j)))))
            (λ j. by_equal j h.right (λ i is. rw is tt)
            (λ i is. rw is (by_equal j p
            (λ i t. rw t (rw (not_own g a j (level_in c) (low_in c) place.stage (ap o.page i ∙ place.placed) ((knows a).own.pages j) (g.owns_pages a j)) tt))
            (λ i t. rw t (g.owns_pages a j)))))
            (mine_at g a o' m' kept)),
        (place.stage, place.placed, ready.0),
      )
    where
      c : List Record
      c = basis.chain

      f : Found o m p x c
      f = found g a p x basis

      place : OnSide g a p x c
      place = place_of g a p x c f basis.alive s
