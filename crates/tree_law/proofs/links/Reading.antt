-- The reads keep the invariant. At the read of a slot it is known for is_tree what stood in the slots that were read before.
use Rattle.tree_law.proofs.Words.{ap, refl, Option, None, List, true, inl, ◌≤◌, ◌∷◌, sym, ℕ, ◌≡◌, ◌∙◌, arith, Some, same_Some, IfSome, Update, Reply, Row, Child, next_row}
use Rattle.tree_law.proofs.Words.{Record, low_in, is_removed, level_in, Knowledge, after_reply, learn, learnt_next, learn_head, Linked, Owners, Reached, IsLinked, HeadFits, OrderFits, SpellsLog}
use Rattle.tree_law.proofs.Words.{SeenFits, Placed, Indexed, put, Shared, IsTree, [], inr}
use Rattle.bw_model.specs.declared.step.Answer.TheVariants as answer
use Rattle.tree_law.proofs.shape.{by_equal, put_all, chain_unique, reached_placed, placed_reached, in_level_as, no_gap, right_page, name_more}
use Rattle.tree_law.proofs.links.Keeping.{spec_leaf, on_or_merged, quiet, mine, alive_place, beyond_place, place_names}

module _ {m : Shared} {log : List Update} {o : Owners} {knows : ℕ → Knowledge} {point : ℕ → Option (List Update)} {logs : ℕ → List (List Update)} (g : IsTree m log o knows point logs) (a : ℕ) where
  pub reads_root : (r : Option Reply)
      → IsTree m log o (put knows a (after_reply (record (knows a) { read = record (knows a).read { roots = put (knows a).read.roots m.root true } }) r))
      (put point a (point a)) (put logs a (log ∷ logs a))
  reads_root r =
      quiet g a (after_reply (record (knows a) { read = record (knows a).read { roots = put (knows a).read.roots m.root true } }) r) (point a) (log ∷ logs a) (g.owns a) (g.owns_pages a)
      (record {
        seen_fits = (mine g a).seen_fits;
        learnt_fits = (mine g a).learnt_fits;
        roots_fit =
            λ p. by_equal p m.root (λ i t. rw t λ e. (g.tree.top, placed_reached g.tree.top [] Indexed (o.page p) (ap o.page i ∙ g.tree.exact.is_root))) (λ i t. rw t λ e. (mine g a).roots_fit p e);
        heads_fit = (mine g a).heads_fit;
        orders_fit = (mine g a).orders_fit;
        linked_fits = (mine g a).linked_fits;
      })

  pub reads_slot : (p x : ℕ) → m.slots p ≡ Some x → (h : SpellsLog o m x log) → Reached 0 (level_in h.chain) (low_in h.chain) (o.page p) → (r : Option Reply)
      → IsTree m log o (put knows a (after_reply (learn_head p x (knows a)) r)) (put point a (point a)) (put logs a (log ∷ logs a))
  reads_slot p x sx s e r =
      quiet g a (after_reply (learn_head p x (knows a)) r) (point a) (log ∷ logs a) (g.owns a) (g.owns_pages a)
      (record {
        seen_fits = (mine g a).seen_fits;
        learnt_fits = name_more o (knows a).read.learnt x s.linked (mine g a).learnt_fits;
        roots_fit = (mine g a).roots_fit;
        heads_fit =
            put_all (λ q v. HeadFits o m (log ∷ logs a) q v) (knows a).read.heads p (Some x) (
              log,
              inl refl,
              s,
              e,
              (λ h. inl sx),
              (λ nr. place_names g a (record { page = p; row = x; chain = s.chain }) (alive_place g a p (level_in s.chain) (low_in s.chain) e x sx s.chain s.is_chain nr)),
            )
            (λ q ne. (mine g a).heads_fit q);
        orders_fit = λ q f. by_equal q p
            (λ i t. rw (t, i) (order f ((knows a).read.heads f) refl ((mine g a).heads_fit f)))
            (λ i t. rw t ((mine g a).orders_fit q f));
        linked_fits = (mine g a).linked_fits;
      })
    where
      order : (f : ℕ) (v : Option ℕ) → (knows a).read.heads f ≡ v → HeadFits o m (log ∷ logs a) f v → OrderFits o m (log ∷ logs a) p f (Some x) v
      order f None at h = tt
      order f (Some z') at h = record {
        above = h.2.linked;
        below = s.linked;
        chain = h.2.chain;
        is_chain = h.2.is_chain;
        placed = h.3;
        uncleared = λ c d ic id nc nd i v sz cl. absurd (let w = alive_place g a p (level_in s.chain) (low_in s.chain) e x sx d id nd in let u = sym w.placed ∙ cl.3 in cc);
        spelled = λ c d ic id rc nd z i.
            let w = alive_place g a p (level_in s.chain) (low_in s.chain) e x sx d id nd in
            let n = right_page (g.tree.levels (level_in d) (g.tree.exact.below p (level_in d) (low_in d) w.stage w.placed)) (record { page = p; row = x; chain = d }) w f i in
            let same : h.2.chain ≡ c = chain_unique m.rows h.2.chain c (Some z') h.2.is_chain ic in
            let slot : m.slots f ≡ Some z' = elim (h.4 (ap is_removed same ∙ rc)) [ inl u ↦ u | inr u ↦ absurd (cc (n.3.placed, n.1, u.1.3)) ] in
            let r = (in_level_as (g.tree.levels (level_in d) (g.tree.exact.below p (level_in d) (low_in d) w.stage w.placed)) f (low_in n.0.chain) n.3.stage
            (ap o.page (sym n.1) ∙ n.3.placed) n.3.on z' slot c ic).place in
            (log, inl refl, λ k v. r.is_page.same k v ∙ spec_leaf log o.index (level_in d) (sym r.is_page.on_level ∙ z) k);
        beyond = λ c d ic id rc nd i.
            let same : s.chain ≡ d = chain_unique m.rows s.chain d (Some x) s.is_chain id in
            place_names g a (record { page = f; row = z'; chain = c }) (beyond_place g a p x sx d id (rw same at e) nd f z' i at c ic rc);
        merged = λ c d k q ic id nc nd i v fd lo hi ne.
            let same : h.2.chain ≡ c = chain_unique m.rows h.2.chain c (Some z') h.2.is_chain ic in
            let w = alive_place g a p (level_in s.chain) (low_in s.chain) e x sx d id nd in
            elim (reached_placed 2 (level_in d) k (o.page q) ((rw same at (h.5 (ap is_removed same ∙ nc))).items (level_in d) k (Child q true) i v fd)) [
              | inl u ↦ elim (on_or_merged u.0) [
                | inl on ↦ absurd (
                    let b = no_gap (g.tree.levels (level_in d) (g.tree.exact.below q (level_in d) k u.0 u.1)) (record { page = p; row = x; chain = d }) w q k u.0 u.1 on lo hi in
                    ne b.0 b.1)
                | inr e ↦ rw (u.1 ∙ ap (λ st. Placed st (level_in d) k) e) (refl, refl, (let z : 4 ≤ 4 = omega arith in z))
              ]
              | inr u ↦ rw u.1 (refl, refl)
            ];
      }

  pub reads_row : (q : ℕ) (w : Record) → (knows a).read.learnt q ≡ true → m.rows q ≡ Some w → (r : Option Reply)
      → IsTree m log o (put knows a (after_reply (learn (knows a) (Row q) (answer.Content w)) r)) (put point a (point a)) (put logs a (log ∷ logs a))
  reads_row q w l e r =
      let at : IsLinked o m q = g.closed q ((mine g a).learnt_fits q l) in
      quiet g a (after_reply (learn (knows a) (Row q) (answer.Content w)) r) (point a) (log ∷ logs a) (g.owns a) (g.owns_pages a)
      (record {
        seen_fits = put_all (λ j v. SeenFits (o.row j) (m.rows j) v) (knows a).read.seen q (Some w) (at.linked, e) (λ j ne. (mine g a).seen_fits j);
        learnt_fits = rows (next_row w) (rw (same_Some at.content w (sym at.stands ∙ e)) at at.next);
        roots_fit = (mine g a).roots_fit;
        heads_fit = (mine g a).heads_fit;
        orders_fit = (mine g a).orders_fit;
        linked_fits = (mine g a).linked_fits;
      })
    where
      rows : (x : Option ℕ) → IfSome x (λ n. o.row n ≡ Linked) → (j : ℕ) → learnt_next x (knows a).read.learnt j ≡ true → o.row j ≡ Linked
      rows None h = (mine g a).learnt_fits
      rows (Some n) h = name_more o (knows a).read.learnt n h (mine g a).learnt_fits
