-- One row is linked over the chain of a page that was read, and pages go on.
use Rattle.tree_law.proofs.Words.{false, ap, refl, Option, suc, None, List, inl, ◌≢◌, ◌≤◌, inr, ◌∷◌, sym, ℕ, ◌≡◌, ◌∙◌, arith, Some, IfSome, Update, ContentOf, next_row}
use Rattle.tree_law.proofs.Words.{Record, content_in, right_in, low_in, is_removed, level_in, high_in, HasRead, Knowledge, after_reply, after_filling, linked_over, Reply}
use Rattle.tree_law.proofs.Words.{Foreign, OwnPage, Other, Gone, Written, Key}
use Rattle.tree_law.proofs.Words.{Covers, Linked, Owners, Reached, Spare, OwnFits, LinkFits, PageFits, IsChain, OwnsPages, Nobody, Placed, PageOwner, Cleared, rank}
use Rattle.tree_law.proofs.Words.{Merged, Stage, stage_removed, put, Shared, IsTree, spec, IsOff, Exact, KnowsBy, []}
use Rattle.tree_law.proofs.shape.Puts.{by_equal, put_same, put_other, put_all}
use Rattle.tree_law.proofs.shape.Chains.{chain_unique}
use Rattle.tree_law.proofs.shape.Kept.{Kept, link_kept}
use Rattle.tree_law.proofs.shape.Relinked.{tree_relinked, placed_level}
use Rattle.tree_law.proofs.shape.Frames.{row_own, row_same, PageChange, page_same, page_stage, page_link, page_clear, Change, kept_change, closed_kept, read_linked, chain_stands}
use Rattle.tree_law.proofs.links.Keeping.{OnSide, put_tree, mine, mine_at, alive_place, off_still}

pub not_off : (st : Stage) (l : ℕ) (s : Key) (l' : ℕ) (s' : Key) → rank st ≤ 3 → IsOff (Placed st l s) l' s' → ⊥
not_off st l s l' s' r (inl e) = absurd (let f : st ≡ Merged = cc in let i : rank Merged ≤ 3 = rw f at r in omega arith)
not_off st l s l' s' r (inr e) = absurd (cc e.1)

-- a page that was read
pub record Found (o : Owners) (m : Shared) (p x : ℕ) (c : List Record) : Type 0 where
  pub reached : Reached 0 (level_in c) (low_in c) (o.page p)
  pub linked : o.row x ≡ Linked
  pub stands : IsChain m.rows c (Some x)

-- a page stays, or goes on, or is cleared
pub data Moves (a : ℕ) (o : Owners) (m : Shared) (p y : ℕ) (w n : PageOwner) : Type 0 where
  stay : n ≡ w → Moves a o m p y w n
  go : (st st' : Stage) (l : ℕ) (s : Key) → w ≡ Placed st l s → n ≡ Placed st' l s → rank st ≤ rank st' → rank st' ≤ 3 → stage_removed st ≡ stage_removed st' → Moves a o m p y w n
  clear : (l : ℕ) (s : Key) → w ≡ Placed Merged l s → n ≡ Cleared a l s
      → ((f x : ℕ) (c : List Record) → o.row x ≡ Linked → IsChain m.rows c (Some x) → Reached 0 (level_in c) (low_in c) (o.page f) → is_removed c ≡ false →
      level_in c ≡ suc l → Covers c s → m.slots f ≡ Some x → put m.slots p (Some y) f ≡ Some x → ⊥)
      → Moves a o m p y w n

module _ {m : Shared} {log : List Update} {o : Owners} {knows : ℕ → Knowledge} {point : ℕ → Option (List Update)} {logs : ℕ → List (List Update)} (g : IsTree m log o knows point logs) (a : ℕ) where
  -- no actor's own page is placed in the tree
  placed_other : (st : Stage) (l : ℕ) (s : Key) (w : PageOwner) (slot : Option ℕ) (v : OwnPage) → w ≡ Placed st l s → PageFits a w slot v → v ≡ Other
  placed_other st l s w slot Other e f = refl
  placed_other st l s w slot Gone e f = absurd (cc f.2)
  placed_other st l s w slot v e f = absurd (cc f.0)

  pub not_own : (p l : ℕ) (s : Key) (st : Stage) → o.page p ≡ Placed st l s → (v : OwnPage) → PageFits a (o.page p) (m.slots p) v → v ≡ Other
  not_own p l s st e v f = placed_other st l s (o.page p) (m.slots p) v e f

  -- a page that was read
  pub found_as : (p x : ℕ) → (knows a).read.heads p ≡ Some x → (c : List Record) → IsChain (knows a).read.seen c (Some x) → Found o m p x c
  found_as p x e c h =
      let f = rw e at ((mine g a).heads_fit p) in
      let stands = chain_stands o m (knows a).read.seen (mine g a).seen_fits c (Some x) h in
      let linked = read_linked o m (knows a).read.seen (mine g a).seen_fits c x h in
      let same : f.2.chain ≡ c = chain_unique m.rows f.2.chain c (Some x) f.2.is_chain stands in
      record { reached = rw same at f.3; linked = linked; stands = stands }

  pub found : (p x : ℕ) → (h : HasRead (knows a) p x) → Found o m p x h.chain
  found p x h = found_as p x h.head h.chain h.read

  -- what the tree says of it while its slot is unchanged
  pub place_of : (p x : ℕ) (c : List Record) → Found o m p x c → is_removed c ≡ false → m.slots p ≡ Some x → OnSide g a p x c
  place_of p x c f n s = alive_place g a p (level_in c) (low_in c) f.reached x s c f.stands n

  pub moved_placed : (p y : ℕ) (w n : PageOwner) → Moves a o m p y w n → (st : Stage) (l : ℕ) (s : Key) → n ≡ Placed st l s → rank st ≤ 3 → (st' : Stage) × (w ≡ Placed st' l s) × (rank st' ≤ 3)
  moved_placed p y w n (stay u) st l s e on = (st, sym u ∙ e, on)
  moved_placed p y w n (go st0 st1 l0 s0 i j le on' r) st l s e on = let f = placed_level st1 st l0 l s0 s (sym j ∙ e) in (st0, rw (sym f.0, sym f.1) i, omega arith)
  moved_placed p y w n (clear l0 s0 i j f) st l s e on = absurd (cc)

  pub moved_rest : (p y : ℕ) (w n : PageOwner) → Moves a o m p y w n → (st : Stage) (l : ℕ) (s : Key) → w ≡ Placed st l s → rank st ≤ 3
      → (st' : Stage) × (n ≡ Placed st' l s) × (rank st' ≤ 3) × (stage_removed st ≡ stage_removed st')
  moved_rest p y w n (stay u) st l s e on = (st, u ∙ e, on, refl)
  moved_rest p y w n (go st0 st1 l0 s0 i j le on' r) st l s e on =
      let f = placed_level st0 st l0 l s0 s (sym i ∙ e) in
      let h : Placed st0 l0 s0 ≡ Placed st l s = sym i ∙ e in
      let k : st ≡ st0 = cc in
      (st1, rw (sym f.0, sym f.1) j, on', ap stage_removed k ∙ r)
  moved_rest p y w n (clear l0 s0 i j f) st l s e on = absurd (not_off st l s l0 s0 on (inl (sym e ∙ i)))

  pub moved_free : (p y : ℕ) (w n : PageOwner) → Moves a o m p y w n → w ≡ Nobody → n ≡ Nobody
  moved_free p y w n (stay u) e = u ∙ e
  moved_free p y w n (go st0 st1 l0 s0 i j le on r) e = absurd (cc)
  moved_free p y w n (clear l0 s0 i j g) e = absurd (cc)

  pub moved_own : (p y : ℕ) (w n : PageOwner) → Moves a o m p y w n → (s : Option ℕ) (v : OwnPage) → PageFits a w s v → PageFits a n s v
  moved_own p y w n (stay u) s v f = rw u f
  moved_own p y w n (go st0 st1 l0 s0 i j le on r) s v f = rw (placed_other st0 l0 s0 w s v i f) tt
  moved_own p y w n (clear l0 s0 i j g) s v f = rw (placed_other Merged l0 s0 w s v i f) tt

  pub moved_change : (p y : ℕ) (w n : PageOwner) (s t : Option ℕ) → Moves a o m p y w n → t ≡ s → PageChange a o m (record m { slots = put m.slots p (Some y) }) w n s t
  moved_change p y w n s t (stay u) e = page_same u e
  moved_change p y w n s t (go st0 st1 l0 s0 i j le on r) e = page_stage st0 st1 l0 s0 i j le e
  moved_change p y w n s t (clear l0 s0 i j g) e = page_clear l0 s0 i j e g

  pub moved_off : (p y : ℕ) (w n : PageOwner) → Moves a o m p y w n → (l : ℕ) (s : Key) → IsOff n l s → IsOff w l s
  moved_off p y w n (stay u) l s h = rw u at h
  moved_off p y w n (go st0 st1 l0 s0 i j le on r) l s h = absurd (not_off st1 l0 s0 l s on (rw j at h))
  moved_off p y w n (clear l0 s0 i j g) l s h = elim h [
    | inl u ↦ absurd (cc)
    | inr u ↦ let e : Cleared a l0 s0 ≡ Cleared u.0 l s = sym j ∙ u.1 in let p : l0 ≡ l = cc in let q : s0 ≡ s = cc in inl (rw (sym p, sym q) i)
  ]

  -- the tree after the actor's exchange of the page's slot from one row to another
  abbrev pub LinkedTree : (p x y : ℕ) (r : Option Reply) (log' : List Update) (o' : Owners) (ps : Option (List Update)) → Type 0
  LinkedTree p x y r log' o' ps =
      IsTree (record m { slots = put m.slots p (Some y) }) log' o' (put knows a (after_reply (after_filling ((knows a).own.pages p) p x y (knows a)) r)) (put point a ps) (put logs a (log ∷ logs a))

  -- what was placed in a row of its own
  pub owned_row : (y : ℕ) (w : Record) → (knows a).own.rows y ≡ Written w → (o.row y ≡ Spare a) × (m.rows y ≡ Some w)
  owned_row y w e = rw e at (g.owns a y)

  -- one row is linked in the place of the chain of a page, and pages go on
  pub relink_one : (p x y : ℕ) (c : List Record) → Found o m p x c → (place : OnSide g a p x c) → is_removed c ≡ false → m.slots p ≡ Some x → (w : Record) → (knows a).own.rows y ≡ Written w
      → (stage' : Stage) → rank place.stage ≤ rank stage' → rank stage' ≤ 3
      → (page' : ℕ → PageOwner) (index' : ℕ → Key → Option ContentOf) → page' p ≡ Placed stage' (level_in c) (low_in c)
      → ((q : ℕ) → q ≢ p → Moves a o m p y (o.page q) (page' q)) → Exact page' index' g.tree.top m.root
      → IfSome (next_row w) (λ n. o.row n ≡ Linked) → (rest : List Record) → IsChain m.rows rest (next_row w)
      → level_in (w ∷ rest) ≡ level_in c → low_in (w ∷ rest) ≡ low_in c → right_in (w ∷ rest) ≡ right_in c → high_in (w ∷ rest) ≡ high_in c → is_removed (w ∷ rest) ≡ stage_removed stage'
      → (log' : List Update) → ((k : Key) → Covers c k → content_in (w ∷ rest) k ≡ spec log' index' (level_in c) k)
      → ((l : ℕ) (k : Key) → (l ≡ level_in c → Covers c k → ⊥) → spec log' index' l k ≡ spec log o.index l k)
      → (k : Knowledge) → linked_over (Written w) x y (knows a) ≡ k → k.own.rows ≡ put (knows a).own.rows y Foreign
      → (OwnsPages a (record { row = put o.row y Linked; page = page'; index = index' }) (record m { slots = put m.slots p (Some y) }) (knows a).own.pages →
      OwnsPages a (record { row = put o.row y Linked; page = page'; index = index' }) (record m { slots = put m.slots p (Some y) }) k.own.pages)
      → k.read ≡ (knows a).read → (ps : Option (List Update)) → LinkFits o m ps k.asked.linked → (r : Option Reply)
      → LinkedTree p x y r log' (record { row = put o.row y Linked; page = page'; index = index' }) ps
  relink_one p x y c f place alive s w placed stage' le on page' index' here moves exact next rest is_rest level low right high flagged log' same apart k learned rows pages read ps link r =
      let owned : OwnsPages a o' m' (knows a).own.pages = λ j. by_equal j p
      (λ i t. rw t (rw (not_own j (level_in c) (low_in c) place.stage (ap o.page i ∙ place.placed) ((knows a).own.pages j) (g.owns_pages a j)) tt))
      (λ ne t. rw t (moved_own p y (o.page j) (page' j) (moves j ne) (m.slots j) ((knows a).own.pages j) (g.owns_pages a j))) in
      let mine' : KnowsBy o' m' (knows a) (point a) (log ∷ logs a) = mine_at g a o' m' kept in
      rw learns (put_tree g a m' log' o' (after_reply k r) ps (log ∷ logs a)
      change
      (record {
        row = λ j f. put_other o.row y Linked j (λ i. absurd (cc (g.frees.row j f, own.0))) ∙ g.frees.row j f;
        page =
            λ j h. let n = g.frees.page j h in let ne : j ≢ p = (λ i. absurd (cc (n.0, place.placed))) in
            (moved_free p y (o.page j) (page' j) (moves j ne) n.0, put_other m.slots p (Some y) j ne ∙ n.1);
      })
      (closed_kept kept g.closed (λ j. by_equal j y
      (λ i t. rw t λ l. inr (rw i (record { linked = put_same o.row y Linked; content = w; stands = own.1; next = nexts (next_row w) next; rest = rest; is_rest = is_rest })))
      (λ i t. rw t λ l. inl l)))
      (tree_relinked log log' g.closed kept g.tree p (level_in c) (low_in c) place.stage place.placed place.on x s c f.stands
      (λ q l n st ne e i. (put_other m.slots p (Some y) q ne, moved_rest p y (o.page q) (page' q) (moves q ne) st l n e i)) refl apart
      (record { page = p; row = y; chain = w ∷ rest } ∷ []) (
        refl,
        ap Some (sym low),
        record {
          stage = stage';
          placed = rw low here;
          on = on;
          flagged = flagged;
          linked = put_same o.row y Linked;
          is_page = record {
            head = put_same m.slots p (Some y);
            is_chain = (own.1, is_rest);
            on_level = level;
            some = rw (low, high) place.is_page.some;
            same = λ n v. same n (record { low = rw low at v.low; high = rw high at v.high });
          };
        },
        (right, high),
      )
      (inl refl)
      (λ q l n st e i. by_equal q p
      (λ j t. inr (sym (placed_level stage' st (level_in c) l (low_in c) n (sym here ∙ ap page' (sym j) ∙ e)).0, inl (sym j)))
      (λ ne t. inl (moved_placed p y (o.page q) (page' q) (moves q ne) st l n e i)))
      exact
      (λ q l n i. by_equal q p
      (λ j t. rw t (absurd (not_off stage' (level_in c) (low_in c) l n on (rw (ap page' j ∙ here) at i))))
      (λ ne t. rw t
      (rw (put_other m.slots p (Some y) q ne) at (off_still g a o' m' kept q l n (put_other m.slots p (Some y) q ne) (g.tree.off q l n (moved_off p y (o.page q) (page' q) (moves q ne) l n i)))))))
      (rw rows (put_all (λ j v. OwnFits a (o'.row j) (m.rows j) v) (knows a).own.rows y Foreign tt (λ j ne. rw (put_other o.row y Linked j ne) (g.owns a j))))
      (pages owned)
      (rw read (record {
        seen_fits = mine'.seen_fits;
        learnt_fits = mine'.learnt_fits;
        roots_fit = mine'.roots_fit;
        heads_fit = mine'.heads_fit;
        orders_fit =
            mine'.orders_fit;
        linked_fits = link_kept g.closed kept ps k.asked.linked link;
      })))
    where
      own : (o.row y ≡ Spare a) × (m.rows y ≡ Some w)
      own = owned_row y w placed

      learns : after_filling ((knows a).own.pages p) p x y (knows a) ≡ k
      learns = rw (not_own p (level_in c) (low_in c) place.stage place.placed ((knows a).own.pages p) (g.owns_pages a p), placed) learned

      m' : Shared
      m' = record m { slots = put m.slots p (Some y) }

      o' : Owners
      o' = record { row = put o.row y Linked; page = page'; index = index' }

      change : Change a o o' m m'
      change = record {
        row = λ j. by_equal j y (λ i t. rw t (row_own (ap o.row i ∙ own.0))) (λ i t. rw t (row_same refl refl));
        page = λ j. by_equal j p
            (λ i t. rw t (page_link place.stage stage' (level_in c) (low_in c) (ap o.page i ∙ place.placed) (ap page' i ∙ here) le x y c (ap m.slots i ∙ s) f.stands alive refl own.0))
            (λ ne t. rw t (moved_change p y (o.page j) (page' j) (m.slots j) (m.slots j) (moves j ne) refl));
      }

      kept : Kept o o' m m'
      kept = kept_change change

      nexts : (v : Option ℕ) → IfSome v (λ n. o.row n ≡ Linked) → IfSome v (λ n. put o.row y Linked n ≡ Linked)
      nexts None i = tt
      nexts (Some n) i = (kept.row n i).0

  pub placed_row : (y : ℕ) (w : Record) → (knows a).own.rows y ≡ Written w → m.rows y ≡ Some w
  placed_row y w e = (owned_row y w e).1

  pub alive_stage : (p x : ℕ) (c : List Record) → (place : OnSide g a p x c) → is_removed c ≡ false → false ≡ stage_removed place.stage
  alive_stage p x c place n = sym n ∙ place.flagged
