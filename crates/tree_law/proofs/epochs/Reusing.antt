-- Rows and pages that nobody holds may be freed: the invariant stays.
use Rattle.tree_law.proofs.Words.{false, ◌⊎◌, [], refl, Option, suc, None, List, true, inl, inr, ◌∷◌, sym, ℕ, ◌≡◌, Bool, ◌∙◌, Some, IfSome, Update, ContentOf, Child, next_row, Record}
use Rattle.tree_law.proofs.Words.{content_in, right_in, low_in, is_removed, level_in, high_in, IsOwn, Knowledge, Foreign, OwnPage, Taken, Other, Gone, Written, OwnRow, Key, Covers, Free, Linked}
use Rattle.tree_law.proofs.Words.{Owners, Reached, IsOut, Owner, OwnFits, LinkFits, HeadFits, OrderFits, PageFits, IsChain, IsCleared, SpellsLog, SeenFits, Nobody, Placed, Indexed, PageOwner, Cleared}
use Rattle.tree_law.proofs.Words.{Keeps, Merged, Stage, child_of, Shared, IsTree, spec, IsOff, Off, SidePage, InPlace, IsPart, Exact, KnowsBy}
use Rattle.tree_law.proofs.shape.Kept.{placed_reached}
use Rattle.tree_law.proofs.shape.Relinked.{off_as, with_levels}

-- What actors know, they know of rows whose names they have learnt.
pub record Learnt (k : Knowledge) : Type 0 where
  pub seen : (r : ℕ) (w : Record) → k.read.seen r ≡ Some w → k.read.learnt r ≡ true
  pub heads : (p x : ℕ) → k.read.heads p ≡ Some x → k.read.learnt x ≡ true
  pub before : (p f x : ℕ) → k.read.before p f ≡ Some x → k.read.learnt x ≡ true
  pub linked : (x : ℕ) → k.asked.linked ≡ Some (Some x) → k.read.learnt x ≡ true

-- The rows whose owner changes nobody has learnt, stand in no slot, are under no linked row, and are no one's own.
pub record AreLoose (o : Owners) (m : Shared) (knows : ℕ → Knowledge) (row : ℕ → Owner) (bits : ℕ → Bool) : Type 0 where
  pub linked : (r : ℕ) → row r ≡ Linked → o.row r ≡ Linked
  pub learnt : (b r : ℕ) → (knows b).read.learnt r ≡ true → row r ≡ o.row r
  pub slots : (p r l : ℕ) (s : Key) → Reached 0 l s (o.page p) → m.slots p ≡ Some r → row r ≡ o.row r
  pub next : (r n : ℕ) (w : Record) → row r ≡ Linked → m.rows r ≡ Some w → next_row w ≡ Some n → row n ≡ o.row n
  pub own : (b r : ℕ) → IsOwn ((knows b).own.rows r) → row r ≡ o.row r
  pub freed : (r : ℕ) → bits r ≡ true → row r ≡ Free

-- The pages that the chain names are whose they were.
pub record AreSame (page was : ℕ → PageOwner) (c : List Record) : Type 0 where
  pub right : (q : ℕ) → right_in c ≡ Some q → page q ≡ was q
  pub items : (l : ℕ) (s : Key) (i : ContentOf) → level_in c ≡ suc l → Covers c s → content_in c s ≡ Some i → page (child_of i) ≡ was (child_of i)

-- a part of a side chain each of whose pages stays in its place
part_map : (o o' : Owners) (m m' : Shared) (lv : ℕ) (mp : Key → Option ContentOf) → ((p : SidePage) → InPlace o m lv mp p → InPlace o' m' lv mp p)
    → (gs : List SidePage) (p : Option ℕ) (low : Option Key) (q : Option ℕ) (high : Option Key) → IsPart o m lv mp gs p low q high → IsPart o' m' lv mp gs p low q high
part_map o o' m m' lv mp stays [] p low q high e = e
part_map o o' m m' lv mp stays (x ∷ xs) p low q high e = (e.0, e.1, stays x e.2, part_map o o' m m' lv mp stays xs (right_in x.chain) (high_in x.chain) q high e.3)

module _ {m : Shared} {log : List Update} {o : Owners} {knows : ℕ → Knowledge} {point : ℕ → Option (List Update)} {logs : ℕ → List (List Update)} (g : IsTree m log o knows point logs) where
  module _ (row : ℕ → Owner) (free : ℕ → Bool) (known : (b : ℕ) → Learnt (knows b)) (h : AreLoose o m knows row free) where
    abbrev pub o1 : Owners
    o1 = record o { row = row }

    abbrev pub m1 : Shared
    m1 = record m { free = free }

    place_loose : (lv : ℕ) (mp : Key → Option ContentOf) (p : SidePage) → InPlace o m lv mp p → InPlace o1 m1 lv mp p
    place_loose lv mp p e = record {
      stage = e.stage;
      placed = e.placed;
      on = e.on;
      flagged = e.flagged;
      linked = h.slots p.page p.row lv (low_in p.chain) (placed_reached lv (low_in p.chain) e.stage (o.page p.page) e.placed) e.is_page.head ∙ e.linked;
      is_page = e.is_page;
    }

    off_loose : (q l : ℕ) (s : Key) → IsOff (o.page q) l s → IsOut (o.page q) (m.slots q) ⊎ Off o m q l s → IsOut (o.page q) (m.slots q) ⊎ Off o1 m1 q l s
    off_loose q l s i (inl e) = inl e
    off_loose q l s i (inr w) =
        inr (off_as w refl (h.slots q w.row l s (off_reached (o.page q) i) w.head ∙ w.linked) w.is_chain)
      where
        off_reached : (w : PageOwner) → IsOff w l s → Reached 0 l s w
        off_reached w (inl e) = placed_reached l s Merged w e
        off_reached w (inr e) = rw e.1 (refl, refl)

    abbrev spells_loose : (x : ℕ) (l : List Update) → row x ≡ o.row x → SpellsLog o m x l → SpellsLog o1 m1 x l
    spells_loose x l same s = record { linked = same ∙ s.linked; chain = s.chain; is_chain = s.is_chain; same = s.same }

    nexts : (r : ℕ) (w : Record) → row r ≡ Linked → m.rows r ≡ Some w → (n : Option ℕ) → next_row w ≡ n → IfSome n (λ j. o.row j ≡ Linked) → IfSome n (λ j. row j ≡ Linked)
    nexts r w l e None i f = tt
    nexts r w l e (Some n) i f = h.next r n w l e i ∙ f

    knows_loose : (b : ℕ) → KnowsBy o1 m1 (knows b) (point b) (logs b)
    knows_loose b =
        let s : KnowsBy o m (knows b) (point b) (logs b) = g.sound b in
        record {
          seen_fits = λ r. seen_at r ((knows b).read.seen r) refl (s.seen_fits r);
          learnt_fits = λ r e. h.learnt b r e ∙ s.learnt_fits r e;
          roots_fit = s.roots_fit;
          heads_fit = λ p. head_at p ((knows b).read.heads p) refl (s.heads_fit p);
          orders_fit = λ p f. order_at p f ((knows b).read.heads p) ((knows b).read.before p f) refl refl (s.orders_fit p f);
          linked_fits = link_at ((knows b).asked.linked) refl s.linked_fits;
        }
      where
        seen_at : (r : ℕ) (v : Option Record) → (knows b).read.seen r ≡ v → SeenFits (o.row r) (m.rows r) v → SeenFits (row r) (m.rows r) v
        seen_at r None e f = tt
        seen_at r (Some w) e f = (h.learnt b r ((known b).seen r w e) ∙ f.0, f.1)

        head_at : (p : ℕ) (x : Option ℕ) → (knows b).read.heads p ≡ x → HeadFits o m (logs b) p x → HeadFits o1 m1 (logs b) p x
        head_at p None e f = tt
        head_at p (Some x) e f = (f.0, f.1, spells_loose x f.0 (h.learnt b x ((known b).heads p x e)) f.2, f.3, f.4, λ i. assumption (f.5 i))

        order_at : (p f : ℕ) (y x : Option ℕ) → (knows b).read.heads p ≡ y → (knows b).read.before p f ≡ x → OrderFits o m (logs b) p f y x → OrderFits o1 m1 (logs b) p f y x
        order_at p f (Some y) (Some x) e i v = record {
          above = h.learnt b x ((known b).before p f x i) ∙ v.above;
          below = h.learnt b y ((known b).heads p y e) ∙ v.below;
          chain = v.chain;
          is_chain = v.is_chain;
          placed = v.placed;
          uncleared = v.uncleared;
          merged = v.merged;
          beyond = λ c d ic id rc nd e. assumption (v.beyond c d ic id rc nd e);
          spelled = v.spelled;
        }
        order_at p f y x e i v = tt

        link_at : (x : Option (Option ℕ)) → (knows b).asked.linked ≡ x → LinkFits o m (point b) x → LinkFits o1 m1 (point b) x
        link_at (Some (Some x)) e f = (f.0, f.1, spells_loose x f.0 (h.learnt b x ((known b).linked x e)) f.2)
        link_at x e f = f

    -- rows are let go, or freed
    pub lets_rows : IsTree m1 log o1 knows point logs
    lets_rows = record {
      frees = record { row = λ r e. h.freed r e; page = g.frees.page };
      closed =
          λ r l. let k = g.closed r (h.linked r l) in record
          { linked = l; content = k.content; stands = k.stands; next = nexts r k.content l k.stands (next_row k.content) refl k.next; rest = k.rest; is_rest = k.is_rest };
      tree = with_levels g.tree refl
          (λ l le. let v = g.tree.levels l le in record
          { side = v.side; whole = part_map o o1 m m1 l (spec log o.index l) (place_loose l (spec log o.index l)) v.side (Some (g.tree.first l)) (Some []) None None v.whole; listed = v.listed })
          g.tree.exact (λ q l s i. off_loose q l s i (g.tree.off q l s i));
      owns = λ b r. own_at b r ((knows b).own.rows r) refl (g.owns b r);
      owns_pages = g.owns_pages;
      sound = knows_loose;
    }
      where
        own_at : (b r : ℕ) (v : OwnRow) → (knows b).own.rows r ≡ v → OwnFits b (o.row r) (m.rows r) v → OwnFits b (row r) (m.rows r) v
        own_at b r Foreign e f = tt
        own_at b r Taken e f = h.own b r (rw e tt) ∙ f
        own_at b r (Written w) e f = (h.own b r (rw e tt) ∙ f.0, f.1)

  -- The pages whose owner changes were cleared, their slots are empty, and nobody can reach them.
  module _ (page : ℕ → PageOwner) (free : ℕ → Bool)
      (gone : (q : ℕ) → (page q ≡ o.page q) ⊎ ((page q ≡ Nobody) × IsCleared (o.page q)))
      (roots : (b p : ℕ) → (knows b).read.roots p ≡ true → page p ≡ o.page p)
      (heads : (b p x : ℕ) → (knows b).read.heads p ≡ Some x → page p ≡ o.page p)
      (before : (b p f x : ℕ) → (knows b).read.before p f ≡ Some x → page f ≡ o.page f)
      (heads_right : (b p x q : ℕ) (c : List Record) → (knows b).read.heads p ≡ Some x → IsChain m.rows c (Some x) → is_removed c ≡ false → right_in c ≡ Some q → page q ≡ o.page q)
      (heads_items : (b p x l : ℕ) (s : Key) (i : ContentOf) (c : List Record) → (knows b).read.heads p ≡ Some x → IsChain m.rows c (Some x) → is_removed c ≡
      false → level_in c ≡ suc l → Covers c s → content_in c s ≡ Some i → page (child_of i) ≡ o.page (child_of i))
      (before_items : (b p f x l : ℕ) (s : Key) (i : ContentOf) (c : List Record) → (knows b).read.before p f ≡ Some x → IsChain m.rows c (Some x) → is_removed
      c ≡ false → level_in c ≡ suc l → Covers c s → content_in c s ≡ Some i → page (child_of i) ≡ o.page (child_of i))
      (beyond : (b p f y x : ℕ) (c d : List Record) → (knows b).read.heads p ≡ Some y → (knows b).read.before p f ≡ Some x → IsChain m.rows c (Some x) → IsChain
      m.rows d (Some y) → is_removed c ≡ true → is_removed d ≡ false → right_in d ≡ Some f → AreSame page o.page c)
      (gone_own : (b p : ℕ) → (knows b).own.pages p ≡ Gone → page p ≡ o.page p)
      (frees : (q : ℕ) → free q ≡ true → (page q ≡ Nobody) × (m.slots q ≡ None)) where
    abbrev pub o2 : Owners
    o2 = record o { page = page }

    abbrev pub m2 : Shared
    m2 = record m { free_pages = free }

    -- pages in the tree stay
    stays : (q l : ℕ) (s : Key) (st : Stage) → o.page q ≡ Placed st l s → page q ≡ Placed st l s
    stays q l s st e = elim (gone q) [ inl same ↦ same ∙ e | inr out ↦ absurd (cc out.1.3) ]

    was : (q l : ℕ) (s : Key) (st : Stage) → page q ≡ Placed st l s → o.page q ≡ Placed st l s
    was q l s st e = elim (gone q) [ inl same ↦ sym same ∙ e | inr out ↦ absurd (cc out.0) ]

    was_cleared : (q b l : ℕ) (s : Key) → page q ≡ Cleared b l s → o.page q ≡ Cleared b l s
    was_cleared q b l s e = elim (gone q) [ inl same ↦ sym same ∙ e | inr out ↦ absurd (cc out.0) ]

    place_free : (lv : ℕ) (mp : Key → Option ContentOf) (p : SidePage) → InPlace o m lv mp p → InPlace o2 m2 lv mp p
    place_free lv mp p e = record {
      stage = e.stage;
      placed = stays p.page lv (low_in p.chain) e.stage e.placed;
      on = e.on;
      flagged = e.flagged;
      linked = e.linked;
      is_page = e.is_page;
    }

    exact_free : Exact page o.index g.tree.top m.root
    exact_free = record {
      below = λ q l s st e. g.tree.exact.below q l s st (was q l s st e);
      posted = λ q l s st i e. g.tree.exact.posted q l s st i (was q l s st e);
      named = λ l s i e. let n = g.tree.exact.named l s i e in (n.0, (n.1.0, stays (child_of i) l s n.1.0 n.1.1, n.1.2));
      others = λ q s st e. g.tree.exact.others q s st (was q g.tree.top s st e);
      gone = λ q b l s e. g.tree.exact.gone q b l s (was_cleared q b l s e);
      is_root = stays m.root g.tree.top [] Indexed g.tree.exact.is_root;
    }

    off_was : (q l : ℕ) (s : Key) → IsOff (page q) l s → IsOff (o.page q) l s
    off_was q l s (inl e) = inl (was q l s Merged e)
    off_was q l s (inr e) = inr (e.0, was_cleared q e.0 l s e.1)

    off_free : (q l : ℕ) (s : Key) → IsOff (page q) l s → IsOut (o.page q) (m.slots q) ⊎ Off o m q l s → IsOut (page q) (m.slots q) ⊎ Off o2 m2 q l s
    off_free q l s i (inl e) = inl (e.0, cleared_off i e.1)
      where
        cleared_off : IsOff (page q) l s → IsCleared (o.page q) → IsCleared (page q)
        cleared_off (inl j) c = absurd (cc (was q l s Merged j, c.3))
        cleared_off (inr j) c = (j.0, l, s, j.1)
    off_free q l s i (inr w) = inr (off_as w refl w.linked w.is_chain)

    cleared_was : (p : ℕ) → IsCleared (page p) → IsCleared (o.page p)
    cleared_was p c = (c.0, c.1, c.2, was_cleared p c.0 c.1 c.2 c.3)

    knows_free : (b : ℕ) → KnowsBy o2 m2 (knows b) (point b) (logs b)
    knows_free b =
        let s : KnowsBy o m (knows b) (point b) (logs b) = g.sound b in
        record {
          seen_fits = s.seen_fits;
          learnt_fits = s.learnt_fits;
          roots_fit = λ p e. let i = s.roots_fit p e in (i.0, rw (roots b p e) i.1);
          heads_fit = λ p. head_at p ((knows b).read.heads p) refl (s.heads_fit p);
          orders_fit = λ p f. order_at p f ((knows b).read.heads p) ((knows b).read.before p f) refl refl (s.orders_fit p f);
          linked_fits = link_at ((knows b).asked.linked) s.linked_fits;
        }
      where
        spells_free : (x : ℕ) (l : List Update) → SpellsLog o m x l → SpellsLog o2 m2 x l
        spells_free x l v = record { linked = v.linked; chain = v.chain; is_chain = v.is_chain; same = v.same }

        head_at : (p : ℕ) (x : Option ℕ) → (knows b).read.heads p ≡ x → HeadFits o m (logs b) p x → HeadFits o2 m2 (logs b) p x
        head_at p None e f = tt
        head_at p (Some x) e f = (
          f.0,
          f.1,
          spells_free x f.0 f.2,
          rw (heads b p x e) f.3,
          λ i. elim (f.4 i) [ inl u ↦ inl u | inr u ↦ inr (u.0, rw (heads b p x e) u.1) ],
          λ i. record {
            right = λ q j. let n = (f.5 i).right q j in (n.0, n.1, rw (heads_right b p x q f.2.chain e f.2.is_chain i j) n.2);
            items = λ l k c j v d. rw (heads_items b p x l k c f.2.chain e f.2.is_chain i j v d) ((f.5 i).items l k c j v d);
          },
        )

        order_at : (p f : ℕ) (y x : Option ℕ) → (knows b).read.heads p ≡ y → (knows b).read.before p f ≡ x → OrderFits o m (logs b) p f y x → OrderFits o2 m2 (logs b) p f y x
        order_at p f (Some y) (Some x) e i v = record {
          above = v.above;
          below = v.below;
          chain = v.chain;
          is_chain = v.is_chain;
          placed = rw (before b p f x i) v.placed;
          uncleared = λ c d ic id nc nd j u sx cl. v.uncleared c d ic id nc nd j u sx (cleared_was p cl);
          merged = λ c d k q ic id nc nd j u fd lo hi ne. rw (before_items b p f x (level_in d) k (Child q true) c i ic nc j u fd) (v.merged c d k q ic id nc nd j u fd lo hi ne);
          beyond = λ c d ic id rc nd j.
              let n = v.beyond c d ic id rc nd j in
              let same = beyond b p f y x c d e i ic id rc nd j in
              record {
                right = λ q z. let r = n.right q z in (r.0, r.1, rw (same.right q z) r.2);
                items = λ l k h z u fd. rw (same.items l k h z u fd) (n.items l k h z u fd);
              };
          spelled = v.spelled;
        }
        order_at p f y x e i v = tt

        link_at : (x : Option (Option ℕ)) → LinkFits o m (point b) x → LinkFits o2 m2 (point b) x
        link_at (Some (Some x)) f = (f.0, f.1, spells_free x f.0 f.2)
        link_at x f = f

    pub frees_pages : IsTree m2 log o2 knows point logs
    frees_pages = record {
      frees = record { row = g.frees.row; page = frees };
      closed = λ r l. let k = g.closed r l in record { linked = k.linked; content = k.content; stands = k.stands; next = k.next; rest = k.rest; is_rest = k.is_rest };
      tree = with_levels g.tree refl
          (λ l le. let v = g.tree.levels l le in record {
            side = v.side;
            whole = part_map o o2 m m2 l (spec log o.index l) (place_free l (spec log o.index l)) v.side (Some (g.tree.first l)) (Some []) None None v.whole;
            listed = λ p s st e. v.listed p s st (was p l s st e);
          })
          exact_free (λ q l s i. off_free q l s i (g.tree.off q l s (off_was q l s i)));
      owns = g.owns;
      owns_pages = λ b p. own_at b p ((knows b).own.pages p) refl (g.owns_pages b p);
      sound = knows_free;
    }
      where
        kept : (b p : ℕ) → o.page p ≡ Keeps b → page p ≡ Keeps b
        kept b p e = elim (gone p) [ inl same ↦ same ∙ e | inr out ↦ absurd (cc out.1.3) ]

        own_at : (b p : ℕ) (v : OwnPage) → (knows b).own.pages p ≡ v → PageFits b (o.page p) (m.slots p) v → PageFits b (page p) (m.slots p) v
        own_at b p Other e f = tt
        own_at b p Gone e f = (f.0, f.1, gone_own b p e ∙ f.2, f.3)
        own_at b p v e f = (kept b p f.0, f.1)
