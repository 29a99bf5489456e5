-- What a step leaves, and what the tree says of a slot.
use Rattle.tree_law.proofs.Words.{false, ◌⊎◌, ap, refl, Option, None, List, true, inl, ◌≤◌, inr, ◌∷◌, sym, ℕ, ◌≡◌, ◌∙◌, arith, Some, same_Some, Update, Command, Reply, Answer, []}
use Rattle.tree_law.proofs.Words.{Done, Leave, Enter, ContentOf, Child, Record, right_in, low_in, is_removed, level_in, HasRead, IsMet, NamesChild, after_begin}
use Rattle.tree_law.proofs.Words.{Knowledge, after_reply, learn, forgotten, Key}
use Rattle.tree_law.proofs.Words.{Owners, Reached, IsOut, Owner, LinkFits, InOrder, IsChain, IsClosed, SpellsLog, leaf_map, ChainNames, OwnsPages, Owns, Placed, Indexed}
use Rattle.tree_law.proofs.Words.{PageOwner, Fresh, rank, stage_removed, Removed, Merged, Stage, rank_of, child_of, mark, put, Shared, IsTree, spec, IsOff, Off, SidePage, InPlace, HasLevels, KnowsBy}
use Rattle.traces.specs.discipline.Discipline.{IsBeyond}
use Rattle.tree_law.specs.Tree.{FreeAreUnowned}
use Rattle.tree_law.proofs.shape.KeyOrder.{covers_from}
use Rattle.tree_law.proofs.shape.Puts.{by_equal}
use Rattle.tree_law.proofs.shape.Chains.{chain_unique}
use Rattle.tree_law.proofs.shape.Kept.{Kept, cleared_forward, reached_placed, placed_reached, chain_kept, knows_kept, owns_spared, pages_spared}
use Rattle.tree_law.proofs.shape.Sides.{locate}
use Rattle.tree_law.proofs.shape.Relinked.{in_level_as, off_as, right_page, tree_kept}
use Rattle.tree_law.proofs.shape.Frames.{Change, kept_change, spared_change, change_none, knows_more, chain_stands}

pub spec_leaf : (log : List Update) (index : ℕ → Key → Option ContentOf) (l : ℕ) → l ≡ 0 → (k : Key) → spec log index l k ≡ leaf_map log k
spec_leaf log index l e k = rw e

pub on_or_merged : (st : Stage) → (rank st ≤ 3) ⊎ (st ≡ Merged)
on_or_merged Merged = inr refl
on_or_merged st = inl (omega arith)

-- a term that isn't held is that of an indexed page
pub indexed_mark : (st : Stage) (q : ℕ) → mark st q ≡ Some (Child q false) → st ≡ Indexed
indexed_mark Indexed q e = refl
indexed_mark other q e = absurd (cc)

-- of the stages on a side chain one is a removed page's
pub is_gone : (st : Stage) → rank st ≤ 3 → stage_removed st ≡ true → st ≡ Removed
is_gone Removed on gone = refl
is_gone Merged on gone = absurd (omega (arith, on))
is_gone other on gone = absurd (cc)

-- a page is as far as its term says
marked_rank : (st : Stage) (q : ℕ) (i : ContentOf) → mark st q ≡ Some i → rank_of i ≤ rank st
marked_rank Fresh q i e = absurd (cc)
marked_rank Indexed q i e = rw (← same_Some (Child q false) i e) (omega arith)
marked_rank stage q i e = rw (← same_Some (Child q true) i e) (omega arith)

module _ {m : Shared} {log : List Update} {o : Owners} {knows : ℕ → Knowledge} {point : ℕ → Option (List Update)} {logs : ℕ → List (List Update)} (g : IsTree m log o knows point logs) (a : ℕ) where
  -- what a step of the actor leaves
  pub put_tree : (m' : Shared) (log' : List Update) (o' : Owners) (k : Knowledge) (p : Option (List Update)) (s : List (List Update))
      → Change a o o' m m' → FreeAreUnowned o' m' → IsClosed o' m' → HasLevels o' m' log'
      → Owns a o' m' k.own.rows → OwnsPages a o' m' k.own.pages → KnowsBy o' m' k p s
      → IsTree m' log' o' (put knows a k) (put point a p) (put logs a s)
  put_tree m' log' o' k p s change frees closed tree own pages kn =
      record {
        frees = frees;
        closed = closed;
        tree = tree;
        owns = λ b. by_equal b a
            (λ e t. rw (t, e) own)
            (λ ne t. rw t (owns_spared (spared_change ne change) (knows b).own.rows (g.owns b)));
        owns_pages = λ b. by_equal b a
            (λ e t. rw (t, e) pages)
            (λ ne t. rw t (pages_spared (spared_change ne change) (knows b).own.pages (g.owns_pages b)));
        sound = λ b. by_equal b a
            (λ e t. rw t kn)
            (λ ne t. rw t (knows_kept g.closed (kept_change change) (g.sound b)));
      }

  -- a step that leaves memory and log
  pub quiet : (k : Knowledge) (p : Option (List Update)) (s : List (List Update)) → Owns a o m k.own.rows → OwnsPages a o m k.own.pages → KnowsBy o m k p s
      → IsTree m log o (put knows a k) (put point a p) (put logs a s)
  quiet k p s own pages kn = put_tree m log o k p s (change_none a o m) g.frees g.closed g.tree own pages kn

  pub mine : KnowsBy o m (knows a) (point a) (log ∷ logs a)
  mine = knows_more log (g.sound a)

  -- what the actor knows stays so at a step of its own
  pub mine_at : (o' : Owners) (m' : Shared) → Kept o o' m m' → KnowsBy o' m' (knows a) (point a) (log ∷ logs a)
  mine_at o' m' kept = knows_kept g.closed kept mine

  pub begins : (c : Command) → IsTree m log o (put knows a (after_begin (knows a) c)) (put point a None) (put logs a [])
  begins c =
      quiet (after_begin (knows a) c) None [] (g.owns a) (g.owns_pages a)
      (record { seen_fits = mine.seen_fits; learnt_fits = mine.learnt_fits; roots_fit = mine.roots_fit; heads_fit = λ p. tt; orders_fit = λ p f. tt; linked_fits = refl })

  -- a step after which the actor knows what it knew
  pub idles : (k : Knowledge) → k.own ≡ (knows a).own → k.read ≡ (knows a).read → k.asked.linked ≡ (knows a).asked.linked
      → IsTree m log o (put knows a k) (put point a (point a)) (put logs a (log ∷ logs a))
  idles k own read linked = quiet k (point a) (log ∷ logs a) (rw own (g.owns a)) (rw own (g.owns_pages a)) (rw (read, linked) mine)

  pub enters : (e : ℕ) (x : Answer Record) (r : Option Reply) → IsTree m log o (put knows a (after_reply (learn (knows a) (Enter e) x) r)) (put point a (point a)) (put logs a (log ∷ logs a))
  enters e x r =
      quiet (after_reply (learn (knows a) (Enter e) x) r) (point a) (log ∷ logs a) (g.owns a) (g.owns_pages a) (record
      { seen_fits = mine.seen_fits; learnt_fits = λ q e. absurd (cc); roots_fit = mine.roots_fit; heads_fit = mine.heads_fit; orders_fit = mine.orders_fit; linked_fits = mine.linked_fits })

  forgets : (linked : Option (Option ℕ)) → LinkFits o m (point a) linked → LinkFits o m (point a) (forgotten linked)
  forgets (Some (Some x)) h = (h.0, h.1)
  forgets linked h = h

  pub leaves : (r : Option Reply) → IsTree m log o (put knows a (after_reply (learn (knows a) Leave Done) r)) (put point a (point a)) (put logs a (log ∷ logs a))
  leaves r =
      quiet (after_reply (learn (knows a) Leave Done) r) (point a) (log ∷ logs a) (g.owns a) (g.owns_pages a) (record {
        seen_fits = λ q. tt;
        learnt_fits = λ q e.
            absurd (cc);
        roots_fit = λ p e. absurd (cc);
        heads_fit = λ p. tt;
        orders_fit = λ p f. tt;
        linked_fits = forgets (knows a).asked.linked
            mine.linked_fits;
      })

  -- the page is on its side chain, with this row and chain
  abbrev pub OnSide : (p x : ℕ) (c : List Record) → Type 0
  OnSide p x c = InPlace o m (level_in c) (spec log o.index (level_in c)) (record { page = p; row = x; chain = c })

  -- a page whose slot has a chain that is not removed is on its side chain
  pub alive_place : (p l : ℕ) (s : Key) → Reached 0 l s (o.page p) → (y : ℕ) → m.slots p ≡ Some y → (d : List Record) → IsChain m.rows d (Some y) → is_removed d ≡ false → OnSide p y d
  alive_place p l s r y sy d h nd =
      elim (reached_placed 0 l s (o.page p) r) [
        | inl u ↦ elim (on_or_merged u.0) [
          | inl on ↦ let e = (in_level_as (g.tree.levels l (g.tree.exact.below p l s u.0 u.1)) p s u.0 u.1 on y sy d h).place in
              rw e.is_page.on_level e
          | inr e ↦ off (inl (u.1 ∙ ap (λ st. Placed st l s) e))
        ]
        | inr u ↦ off (inr u)
      ]
    where
      off : IsOff (o.page p) l s → OnSide p y d
      off i = elim (g.tree.off p l s i) [
        | inl n ↦ absurd (cc n.0)
        | inr w ↦ let e : w.chain ≡ d = chain_unique m.rows w.chain d (Some y) (rw (same_Some w.row y (sym w.head ∙ sy)) at w.is_chain) h in
            absurd (cc w.flagged)
      ]

  -- the slot of a page of the tree: it is empty only where the page was cleared
  pub slot_of : (p l : ℕ) (s : Key) → Reached 0 l s (o.page p)
      → IsOut (o.page p) (m.slots p) ⊎ ((x : ℕ) × (m.slots p ≡ Some x) × (h : SpellsLog o m x log) × Reached 0 (level_in h.chain) (low_in h.chain) (o.page p))
  slot_of p lv s r =
      elim (reached_placed 0 lv s (o.page p) r) [
        | inl u ↦ elim (on_or_merged u.0) [
          | inl on ↦ let t = g.tree.levels lv (g.tree.exact.below p lv s u.0 u.1) in
              let l = locate o m lv (spec log o.index lv) t.side (Some (g.tree.first lv)) (Some []) None None p t.whole (t.listed p s u.0 u.1 on) in
              let at : SpellsLog o m l.page.row log = record {
                linked = l.here.linked;
                chain = l.page.chain;
                is_chain = l.here.is_page.is_chain;
                same = λ z y k
                    v. l.here.is_page.same k v ∙ spec_leaf log o.index lv (sym l.here.is_page.on_level ∙ z) k;
              } in
              inr (
                l.page.row,
                ap m.slots (sym l.is) ∙ l.here.is_page.head,
                at,
                rw l.here.is_page.on_level (placed_reached lv (low_in l.page.chain) l.here.stage (o.page p) (ap o.page (sym l.is) ∙ l.here.placed)),
              )
          | inr e ↦ off (inl (u.1 ∙ ap (λ st. Placed st lv s) e))
        ]
        | inr u ↦ off (inr u)
      ]
    where
      off : IsOff (o.page p) lv s → IsOut (o.page p) (m.slots p) ⊎ ((x : ℕ) × (m.slots p ≡ Some x) × (h : SpellsLog o m x log) × Reached 0 (level_in h.chain) (low_in h.chain) (o.page p))
      off i = elim (g.tree.off p lv s i) [
        | inl n ↦ inl n
        | inr w ↦ inr (
          w.row,
          w.head,
          record { linked = w.linked; chain = w.chain; is_chain = w.is_chain; same = λ z y. absurd (cc w.flagged) },
          rw w.level (rw w.low r),
        )
      ]

  -- what the chain of a page names that is not removed, as its slot was read
  pub read_names : (p x : ℕ) → (h : HasRead (knows a) p x) → ChainNames o h.chain
  read_names p x h =
      let f = rw h.head at (mine.heads_fit p) in
      let same : f.2.chain ≡ h.chain = chain_unique m.rows f.2.chain h.chain (Some x) f.2.is_chain (chain_stands o m (knows a).read.seen mine.seen_fits h.chain (Some x) h.read) in
      rw same at (f.5 (ap is_removed same ∙ h.alive))

  -- what a page on its side chain names
  pub place_names : (p : SidePage) → (e : InPlace o m (level_in p.chain) (spec log o.index (level_in p.chain)) p) → ChainNames o p.chain
  place_names p e = record {
    right = λ q i. let n = right_page (g.tree.levels (level_in p.chain) (g.tree.exact.below p.page (level_in p.chain) (low_in p.chain) e.stage e.placed)) p e q i in
        (low_in n.0.chain, n.2, placed_reached (level_in p.chain) (low_in n.0.chain) n.3.stage (o.page q) (ap o.page (sym n.1) ∙ n.3.placed));
    items = λ l s i at v d.
        let n = (g.tree.exact.named l s i (sym (e.is_page.same s v ∙ ap (λ n. spec log o.index n s) at) ∙ d)).1 in
        rw n.1 (refl, refl, marked_rank n.0 (child_of i) i n.2);
  }

  -- a removed page that was read and stands right of a page is on its side chain, with the chain that was read
  pub beyond_place : (p x : ℕ) → m.slots p ≡ Some x → (d : List Record) → IsChain m.rows d (Some x) → Reached 0 (level_in d) (low_in d) (o.page p) → is_removed d ≡ false → (f z : ℕ)
      → right_in d ≡ Some f → (knows a).read.heads f ≡ Some z → (c : List Record) → IsChain m.rows c (Some z) → is_removed c ≡ true
      → OnSide f z c
  beyond_place p x sx d id e nd f z i ez c ic rc =
      let h = rw ez at (mine.heads_fit f) in
      let w = alive_place p (level_in d) (low_in d) e x sx d id nd in
      let on = g.tree.levels (level_in d) (g.tree.exact.below p (level_in d) (low_in d) w.stage w.placed) in
      let n = right_page on (record { page = p; row = x; chain = d }) w f i in
      let same : h.2.chain ≡ c = chain_unique m.rows h.2.chain c (Some z) h.2.is_chain ic in
      let slot : m.slots f ≡ Some z = elim (h.4 (ap is_removed same ∙ rc)) [ inl u ↦ u | inr u ↦ absurd (cc (n.3.placed, n.1, u.1.3)) ] in
      let r = (in_level_as on f (low_in n.0.chain) n.3.stage (ap o.page (sym n.1) ∙ n.3.placed) n.3.on z slot c ic).place in
      rw r.is_page.on_level r

  -- what that page names, once both were read
  pub beyond_names : (p y : ℕ) → (knows a).read.heads p ≡ Some y → (d : List Record) → IsChain m.rows d (Some y) → is_removed d ≡ false → (q : ℕ) (b : IsBeyond (knows a) p d q) → ChainNames o b.chain
  beyond_names p y e d id nd q b =
      let i : InOrder o m (log ∷ logs a) p y b.removed b.row = rw b.order at (rw e at (mine.orders_fit p b.removed)) in
      i.beyond b.chain d (chain_stands o m (knows a).read.seen mine.seen_fits b.chain (Some b.row) b.read) id b.gone nd b.right

  -- a page that was met is in the tree
  pub lower : (r l : ℕ) (s : Key) (w : PageOwner) → Reached r l s w → Reached 0 l s w
  lower r l s w h = elim (reached_placed r l s w h) [ inl u ↦ placed_reached l s u.0 w u.1 | inr u ↦ rw u.1 (refl, refl) ]

  pub met_placed : (p : ℕ) → ((knows a).read.roots p ≡ true) ⊎ IsMet (knows a) p → (l : ℕ) × (s : Key) × Reached 0 l s (o.page p)
  met_placed p (inl e) = let i = mine.roots_fit p e in (i.0, [], i.1)
  met_placed p (inr h) = by_name h.named
    where
      IsThere : Type 0
      IsThere = (l : ℕ) × (s : Key) × Reached 0 l s (o.page p)

      by_right : (c : List Record) → ChainNames o c → right_in c ≡ Some p → IsThere
      by_right c n e = let r = n.right p e in (level_in c, r.0, r.2)

      by_child : (c : List Record) → ChainNames o c → NamesChild c p → IsThere
      by_child c n u = (u.0, u.1, lower (rank_of (Child p u.2)) u.0 u.1 (o.page p) (n.items u.0 u.1 (Child p u.2) u.3 (covers_from c u.1 u.4) u.5))

      by_name : (right_in h.basis.chain ≡ Some p) ⊎ NamesChild h.basis.chain p ⊎ IsBeyond (knows a) h.other h.basis.chain p → IsThere
      by_name (inl u) = by_right h.basis.chain (read_names h.other h.row h.basis) u
      by_name (inr (inl u)) = by_child h.basis.chain (read_names h.other h.row h.basis) u
      by_name (inr (inr b)) =
          let n = beyond_names h.other h.row h.basis.head h.basis.chain (chain_stands o m (knows a).read.seen mine.seen_fits h.basis.chain (Some h.row) h.basis.read) h.basis.alive p b in
          elim b.named [ inl u ↦ by_right b.chain n u | inr u ↦ by_child b.chain n u ]

  pub off_still : (o' : Owners) (m' : Shared) → Kept o o' m m' → (q l : ℕ) (k : Key) → m'.slots q ≡ m.slots q → IsOut (o.page q) (m.slots q) ⊎ Off o m q l k
      → IsOut (o'.page q) (m'.slots q) ⊎ Off o' m' q l k
  off_still o' m' kept q l k s (inl e) = inl (s ∙ e.0, cleared_forward (o.page q) (o'.page q) (kept.page q) e.1)
  off_still o' m' kept q l k s (inr w) =
      inr (off_as w s (kept.row w.row w.linked).0 (chain_kept g.closed kept w.chain (Some w.row) w.linked w.is_chain))

  -- at a step that touches no slot and no page
  pub tree_at : (row : ℕ → Owner) (m' : Shared) → Kept o (record o { row = row }) m m' → m'.slots ≡ m.slots → m'.root ≡ m.root → HasLevels (record o { row = row }) m' log
  tree_at row m' kept s e =
      tree_kept log g.closed kept (λ q l k st i on. (ap (λ f. f q) s, (st, i, on, refl))) e refl (λ p l k st i on. (st, i, on)) g.tree (rw e g.tree.exact)
      (λ q l k i. off_still (record o { row = row }) m' kept q l k (ap (λ f. f q) s) (g.tree.off q l k i))
