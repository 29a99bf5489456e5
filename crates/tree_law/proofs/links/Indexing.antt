-- Links on an index page that change one term: a term is posted, held, or taken away.
use Rattle.tree_law.proofs.Words.{false, ap, refl, cond, Option, suc, None, List, true, inl, ◌≢◌, ◌≤◌, ◌∷◌, sym, ℕ, ◌≡◌, zero, ◌∙◌, ◌<◌, arith, Some, same_Some, is_eq, IsSome, key_cmp, Update}
use Rattle.tree_law.proofs.Words.{Reply, ContentOf, Child, next_row, Record, Hold, Term, Unterm, content_in, right_in, low_in, is_removed, level_in, high_in, HasRead, MayPost, MayUnterm, MayHold}
use Rattle.tree_law.proofs.Words.{Knowledge, Foreign, Gone, Written, linked_over, handed_page, handed_over, Key, Covers, put_key, Linked, Owners, Reached, stage_removed, InOrder}
use Rattle.tree_law.proofs.Words.{IsChain, OwnsPages, Placed, Indexed, PageOwner, Cleared, Fresh, rank, Held, Merged, Stage, rank_of, child_of, mark, put, Shared, IsTree, spec, inr}
use Rattle.tree_law.proofs.shape.{by_key, key_other, covers_from, by_equal, put_same, put_other, reached_placed, same_page, placed_level, exact_moved}
use Rattle.tree_law.proofs.links.Keeping.{OnSide, mine, alive_place, indexed_mark}
use Rattle.tree_law.proofs.links.Relinking.{LinkedTree, Found, Moves, stay, go, clear, owned_row, found, place_of, relink_one}
use Rattle.tree_law.proofs.shape.Terms.{mark_number}

pub not_fresh : (st : Stage) (q : ℕ) → mark st q ≡ None → st ≡ Fresh
not_fresh Fresh q e = refl
not_fresh st q e = absurd (cc)

module _ {m : Shared} {log : List Update} {o : Owners} {knows : ℕ → Knowledge} {point : ℕ → Option (List Update)} {logs : ℕ → List (List Update)} (g : IsTree m log o knows point logs) (a : ℕ) where
  index_one : (p x y : ℕ) (c : List Record) → Found o m p x c → (place : OnSide g a p x c) → is_removed c ≡ false → m.slots p ≡ Some x → (w : Record) → (knows a).own.rows y ≡ Written w
      → (lv : ℕ) (sep : Key) (q : ℕ) → level_in c ≡ suc lv → Covers c sep → (st : Stage) → o.page q ≡ Placed st lv sep → o.index lv sep ≡ mark st q
      → (n : PageOwner) (v : Option ContentOf) → Moves a o m p y (o.page q) n
      → ((l' : ℕ) (s' : Key) (st' : Stage) → n ≡ Placed st' l' s' → (lv ≡ l') × (sep ≡ s') × (mark st' q ≡ v))
      → ((i : ContentOf) → v ≡ Some i → (st' : Stage) × (child_of i ≡ q) × (n ≡ Placed st' lv sep) × (mark st' q ≡ Some i))
      → ((b l' : ℕ) (s' : Key) → n ≡ Cleared b l' s' → lv ≡ l')
      → ((i : ContentOf) → v ≡ Some i → Reached (rank_of i) lv sep n)
      → next_row w ≡ Some x → level_in (w ∷ c) ≡ level_in c → low_in (w ∷ c) ≡ low_in c → right_in (w ∷ c) ≡ right_in c → high_in (w ∷ c) ≡ high_in c → is_removed (w ∷ c) ≡ is_removed c
      → ((k : Key) → content_in (w ∷ c) k ≡ cond (is_eq (key_cmp k sep)) v (content_in c k))
      → (k : Knowledge) → linked_over (Written w) x y (knows a) ≡ k → k.own.rows ≡ put (knows a).own.rows y Foreign
      → (OwnsPages a (record { row = put o.row y Linked; page = put o.page q n; index = put o.index lv (put_key (o.index lv) sep v) })
      (record m { slots = put m.slots p (Some y) }) (knows a).own.pages → OwnsPages a
      (record { row = put o.row y Linked; page = put o.page q n; index = put o.index lv (put_key (o.index lv) sep v) })
      (record m { slots = put m.slots p (Some y) }) k.own.pages)
      → k.read ≡ (knows a).read → k.asked.linked ≡ (knows a).asked.linked → (r : Option Reply)
      → LinkedTree g a p x y r log (record { row = put o.row y Linked; page = put o.page q n; index = put o.index lv (put_key (o.index lv) sep v) }) (point a)
  index_one p x y c f place alive s w placed lv sep q level covers st e had n v move fits full clears reach next wl wlow wright whigh wrem finds k learned rows pages read linked r =
      let apart : q ≢ p = λ i. absurd (let z = (placed_level st place.stage lv (level_in c) sep (low_in c) (sym e ∙ ap o.page i ∙ place.placed)).0 in omega arith) in
      let same : (key : Key) → Covers c key → content_in c key ≡ o.index lv key = λ key cv. place.is_page.same key cv ∙ ap (λ n. spec log o.index n key) level in
      relink_one g a p x y c f place alive s w placed place.stage (omega arith) place.on (put o.page q n) index' (put_other o.page q n p (λ i. apart (sym i)) ∙ place.placed)
      (λ j ne. by_equal j q (λ i t. rw (t, i) move) (λ i t. rw t (stay refl)))
      (exact_moved q lv sep st n v e (let i = g.tree.exact.below p (level_in c) (low_in c) place.stage place.placed in omega arith) had fits full clears g.tree.exact)
      (rw next f.linked) c (rw next f.stands)
      wl wlow wright whigh (wrem ∙ place.flagged)
      log
      (λ key cv. rw (level, finds key, put_same o.index lv (put_key (o.index lv) sep v)) (by_key key sep (λ j t. rw t) (λ j t. rw t (same key cv))))
      outside
      k learned rows pages read
      (point a) (rw linked (mine g a).linked_fits) r
    where
      index' : ℕ → Key → Option ContentOf
      index' = put o.index lv (put_key (o.index lv) sep v)

      outside : (l : ℕ) (key : Key) → (l ≡ level_in c → Covers c key → ⊥) → spec log index' l key ≡ spec log o.index l key
      outside zero key ne = refl
      outside (suc l) key ne = by_equal l lv
          (λ i t. rw t (key_other (o.index lv) sep v key (λ j. ne (ap suc i ∙ sym level) (rw j covers)) ∙ ap (λ n. o.index n key) (sym i)))
          (λ i t. rw t)

  -- what the index has while the page is as it was read
  term_at : (p x : ℕ) (c : List Record) → (place : OnSide g a p x c) → (lv : ℕ) (sep : Key) → level_in c ≡ suc lv → Covers c sep → o.index lv sep ≡ content_in c sep
  term_at p x c place lv sep level covers = sym (place.is_page.same sep covers ∙ ap (λ n. spec log o.index n sep) level)

  -- a page goes on by a link that has its term, and no more of the index is changed
  term_goes : (p x y : ℕ) (basis : HasRead (knows a) p x) (s : m.slots p ≡ Some x) → (w : Record) → (knows a).own.rows y ≡ Written w
      → (lv : ℕ) (sep : Key) (q : ℕ) → level_in basis.chain ≡ suc lv → Covers basis.chain sep → (from to : Stage) → o.page q ≡ Placed from lv sep → content_in basis.chain sep ≡ mark from q
      → (v : ContentOf) → mark to q ≡ Some v → rank from ≤ rank to → rank to ≤ 3 → stage_removed from ≡ stage_removed to → rank_of v ≤ rank to
      → next_row w ≡ Some x → level_in (w ∷ basis.chain) ≡ level_in basis.chain → low_in (w ∷ basis.chain) ≡ low_in basis.chain → right_in (w ∷ basis.chain) ≡ right_in basis.chain
      → high_in (w ∷ basis.chain) ≡ high_in basis.chain → is_removed (w ∷ basis.chain) ≡ is_removed basis.chain
      → ((k : Key) → content_in (w ∷ basis.chain) k ≡ cond (is_eq (key_cmp k sep)) (Some v) (content_in basis.chain k))
      → linked_over (Written w) x y (knows a) ≡ handed_over y (knows a) → (r : Option Reply)
      → LinkedTree g a p x y r log (record { row = put o.row y Linked; page = put o.page q (Placed to lv sep); index = put o.index lv (put_key (o.index lv) sep (Some v)) }) (point a)
  term_goes p x y basis s w placed lv sep q level covers from to was has v marks le on flag high next wl wlow wright whigh wrem finds learned r =
      let f = found g a p x basis in
      let place = place_of g a p x basis.chain f basis.alive s in
      index_one p x y basis.chain f place basis.alive s w placed lv sep q level covers from was (term_at p x basis.chain place lv sep level covers ∙ has) (Placed to lv sep) (Some v)
      (go from to lv sep was refl le on flag)
      (λ l' s' st' e. let i = placed_level to st' lv l' sep s' e in let j : to ≡ st' = cc in (i.0, i.1, ap (λ z. mark z q) (sym j) ∙ marks))
      (λ i e. (to, ap child_of (sym (same_Some v i e)) ∙ mark_number to q v marks, refl, marks ∙ e))
      (λ b l' s' e. absurd (cc))
      (λ i e. rw (← same_Some v i e) (refl, refl, high))
      next wl wlow wright whigh wrem finds
      (handed_over y (knows a)) learned refl (λ n. n) refl refl r

  -- the exchange that links a term
  pub posts : (p x y : ℕ) → m.slots p ≡ Some x → (basis : HasRead (knows a) p x) (content : Record) → (knows a).own.rows y ≡ Written content
      → (h : MayPost (knows a) p x basis.chain content) → (r : Option Reply)
      → LinkedTree g a p x y r log (record {
        row = put o.row y Linked;
        page = put o.page h.child
            (Placed Indexed (level_in h.below.chain) (low_in h.below.chain));
        index = put o.index (level_in h.below.chain)
            (put_key (o.index (level_in h.below.chain)) (low_in h.below.chain) (Some (Child h.child false)));
      }) (point a) × (o.page h.child ≡ Placed Fresh
      (level_in h.below.chain) (low_in h.below.chain))
  posts p x y s basis content written h r = (
    term_goes p x y basis s (Term (record { level = level_in c; next = x; separator = sep; child = q })) (written ∙ ap Written h.is) lv sep q h.level covers Fresh Indexed was h.absent
        (Child q false) refl (omega arith) (omega arith) refl (omega arith) refl refl refl refl refl refl (λ k. refl) refl r,
    was,
  )
    where
      c : List Record
      c = basis.chain

      q : ℕ
      q = h.child

      lv : ℕ
      lv = level_in h.below.chain

      sep : Key
      sep = low_in h.below.chain

      covers : Covers c sep
      covers = covers_from c sep h.covers

      f : Found o m p x c
      f = found g a p x basis

      d : Found o m q h.row h.below.chain
      d = found g a q h.row h.below

      place : OnSide g a p x c
      place = place_of g a p x c f basis.alive s

      lt : lv < g.tree.top
      lt = let i = g.tree.exact.below p (level_in c) (low_in c) place.stage place.placed in let j = h.level in omega arith

      fresh : (st : Stage) → o.page q ≡ Placed st lv sep → (v : Option ContentOf) → mark st q ≡ v → st ≡ Fresh
      fresh st e None i = not_fresh st q i
      fresh st e (Some v) i = absurd (cc (term_at p x c place lv sep h.level covers, h.absent, g.tree.exact.posted q lv sep st v e lt i))

      order : InOrder o m (log ∷ logs a) q h.row p x
      order = rw h.order at (rw h.below.head at ((mine g a).orders_fit q p))

      was : o.page q ≡ Placed Fresh lv sep
      was = elim (reached_placed 0 lv sep (o.page q) d.reached) [
        | inl u ↦ u.1 ∙ ap (λ st. Placed st lv sep) (fresh u.0 u.1 (mark u.0 q) refl)
        | inr u ↦ absurd (order.uncleared c h.below.chain f.stands d.stands basis.alive h.below.alive h.level covers s (u.0, lv, sep, u.1))
      ]

  -- the exchange that holds a term
  pub holds : (p x y : ℕ) → m.slots p ≡ Some x → (basis : HasRead (knows a) p x) (content : Record) → (knows a).own.rows y ≡ Written content → (h : MayHold x basis.chain content) → (r : Option Reply)
      → LinkedTree g a p x y r log
      (record { row = put o.row y Linked; page = put o.page h.child (Placed Held h.level h.key); index = put o.index h.level (put_key (o.index h.level) h.key (Some (Child h.child true))) })
      (point a) × (o.page h.child ≡ Placed Indexed h.level h.key)
  holds p x y s basis content written h r =
      let covers = covers_from basis.chain h.key h.covers in
      let place = place_of g a p x basis.chain (found g a p x basis) basis.alive s in
      let n = (g.tree.exact.named h.level h.key (Child h.child false) (term_at p x basis.chain place h.level h.key h.is_level covers ∙ h.present)).1 in
      let was : o.page h.child ≡ Placed Indexed h.level h.key = n.1 ∙ ap (λ st. Placed st h.level h.key) (indexed_mark n.0 h.child n.2) in (
        term_goes p x y basis s (Hold (record { level = level_in basis.chain; next = x; separator = h.key; child = h.child })) (written ∙ ap Written h.is)
            h.level h.key h.child h.is_level covers Indexed Held was h.present
            (Child h.child true) refl (omega arith) (omega arith) refl (omega arith) refl refl refl refl refl refl (λ k. refl) refl r,
        was,
      )

  -- the exchange that takes a held term away
  pub unterms : (p x y : ℕ) → m.slots p ≡ Some x → (basis : HasRead (knows a) p x) (content : Record) → (knows a).own.rows y ≡ Written content
      → (h : MayUnterm (knows a) p x basis.chain content) → (r : Option Reply)
      → LinkedTree g a p x y r log (record {
        row = put o.row y Linked;
        page = put o.page h.child (Cleared a (level_in h.below.chain) h.key);
        index = put o.index
            (level_in h.below.chain) (put_key (o.index (level_in h.below.chain)) h.key None);
      }) (point a) × (o.page h.child ≡ Placed Merged (level_in
      h.below.chain) h.key)
  unterms p x y s basis content written h r = (
    index_one p x y c f place basis.alive s (Unterm (record { level = level_in c; next = x; separator = sep; child = q })) (written ∙ ap Written h.is) lv sep q
        h.level (covers_from c sep h.covers) Merged was present (Cleared a lv sep) None
        (clear lv sep was refl guard)
        (λ l' s' st' e. absurd (cc))
        (λ i e. absurd (cc))
        (λ b l' s' e. cc)
        (λ i e. absurd (cc))
        refl refl refl refl refl refl (λ k. refl)
        (handed_page q Gone y (knows a)) refl refl
        (λ v j. by_equal j q (λ i t. rw t (lv, sep, refl, rw i there)) (λ ne t. rw t (rw (put_other o.page q (Cleared a lv sep) j ne) at (v j))))
        refl refl r,
    was,
  )
    where
      c : List Record
      c = basis.chain

      q : ℕ
      q = h.child

      lv : ℕ
      lv = level_in h.below.chain

      sep : Key
      sep = h.key

      f : Found o m p x c
      f = found g a p x basis

      place : OnSide g a p x c
      place = place_of g a p x c f basis.alive s

      present : o.index lv sep ≡ Some (Child q true)
      present = term_at p x c place lv sep h.level (covers_from c sep h.covers) ∙ h.present

      order : InOrder o m (log ∷ logs a) h.left h.row p x
      order = rw h.order at (rw h.below.head at ((mine g a).orders_fit h.left p))

      merged : Reached 4 lv sep (o.page q)
      merged = order.merged c h.below.chain sep q f.stands (found g a h.left h.row h.below).stands basis.alive h.below.alive h.level (covers_from c sep h.covers) h.present h.above h.within h.apart

      is_merged : (st : Stage) → 4 ≤ rank st → st ≡ Merged
      is_merged Merged i = refl
      is_merged st i = absurd (omega arith)

      was : o.page q ≡ Placed Merged lv sep
      was = let n = (g.tree.exact.named lv sep (Child q true) present).1 in n.1 ∙ ap (λ st. Placed st lv sep) (is_merged n.0 (rw n.1 at merged).2)

      -- the page's slot is not empty
      there : IsSome (put m.slots p (Some y) q)
      there = by_equal q p (λ e t. rw t)
          (λ ne t. rw t (elim (g.tree.off q lv sep (inl was)) [ inl u ↦ absurd (let v = sym was ∙ u.1.3 in cc) | inr u ↦ rw u.head ]))

      guard : (f' x' : ℕ) (c' : List Record) → o.row x' ≡ Linked → IsChain m.rows c' (Some x') → Reached 0 (level_in c') (low_in c') (o.page f') → is_removed c' ≡ false
          → level_in c' ≡ suc lv → Covers c' sep → m.slots f' ≡ Some x' → put m.slots p (Some y) f' ≡ Some x' → ⊥
      guard f' x' c' l' ch' r' n' e' v' s' now =
          let i : level_in c' ≡ level_in c = e' ∙ sym h.level in
          let there = rw i at (alive_place g a f' (level_in c') (low_in c') r' x' s' c' ch' n') in
          let same : p ≡ f' = same_page (g.tree.levels (level_in c) (g.tree.exact.below p (level_in c) (low_in c) place.stage place.placed))
          (record { page = p; row = x; chain = c }) (record { page = f'; row = x'; chain = c' }) place there sep (covers_from c sep h.covers) v' in
          absurd (let u = sym (owned_row g a y _ written).0 ∙ ap o.row (same_Some y x' (sym (put_same m.slots p (Some y)) ∙ ap (put m.slots p (Some y)) same ∙ now)) ∙ l' in cc)
