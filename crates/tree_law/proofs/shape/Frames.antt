-- What a step touches was free or its actor's own: so all else stays.
use Rattle.tree_law.proofs.Words.{false, ◌⊎◌, ap, refl, Option, suc, None, List, true, inl, ◌≢◌, ◌≤◌, inr, ◌∷◌, sym, ℕ, ◌≡◌, Bool, ◌∙◌, arith, Some, same_Some, IfSome, Update}
use Rattle.tree_law.proofs.Words.{next_row, Record, content_in, low_in, is_removed, level_in, Key, Covers, Free, Linked, Owners, Reached, Spare, IsOut, IsLinked, Owner, HeadFits, OrderFits, IsChain}
use Rattle.tree_law.proofs.Words.{IsClosed, IsCleared, SpellsLog, Knows, leaf_map, SeenFits, Forward, Nobody, Placed, PageOwner, Cleared, Keeps, rank, Merged, Stage, put, Shared, []}
use Rattle.tree_law.proofs.shape.Puts.{by_equal}
use Rattle.tree_law.proofs.shape.Chains.{chain_unique, chain_within}
use Rattle.tree_law.proofs.shape.Kept.{chain_kept, Kept, Spared}

pub data RowChange (a : ℕ) (was now : Owner) (w v : Option Record) : Type 0 where
  row_free : was ≡ Free → RowChange a was now w v
  row_own : was ≡ Spare a → RowChange a was now w v
  row_same : now ≡ was → v ≡ w → RowChange a was now w v

pub data PageChange (a : ℕ) (o : Owners) (m m' : Shared) (was now : PageOwner) (s t : Option ℕ) : Type 0 where
  page_free : was ≡ Nobody → PageChange a o m m' was now s t
  page_own : was ≡ Keeps a → PageChange a o m m' was now s t
  page_same : now ≡ was → t ≡ s → PageChange a o m m' was now s t
  page_stage : (st st' : Stage) (l : ℕ) (low : Key) → was ≡ Placed st l low → now ≡ Placed st' l low → rank st ≤ rank st' → t ≡ s → PageChange a o m m' was now s t
  page_link : (st st' : Stage) (l : ℕ) (low : Key) → was ≡ Placed st l low → now ≡ Placed st' l low → rank st ≤ rank st' → (x y : ℕ) (c : List Record) → s ≡ Some x
      → IsChain m.rows c (Some x) → is_removed c ≡ false → t ≡ Some y → o.row y ≡ Spare a → PageChange a o m m' was now s t
  page_clear : (l : ℕ) (low : Key) → was ≡ Placed Merged l low → now ≡ Cleared a l low → t ≡ s
      → ((f x : ℕ) (c : List Record) → o.row x ≡ Linked → IsChain m.rows c (Some x) → Reached 0 (level_in c) (low_in c) (o.page f) → is_removed c ≡ false →
      level_in c ≡ suc l → Covers c low → m.slots f ≡ Some x → m'.slots f ≡ Some x → ⊥)
      → PageChange a o m m' was now s t
  page_gone : (l : ℕ) (low : Key) → was ≡ Cleared a l low → now ≡ Cleared a l low → t ≡ None → PageChange a o m m' was now s t

pub record Change (a : ℕ) (o o' : Owners) (m m' : Shared) : Type 0 where
  pub row : (j : ℕ) → RowChange a (o.row j) (o'.row j) (m.rows j) (m'.rows j)
  pub page : (p : ℕ) → PageChange a o m m' (o.page p) (o'.page p) (m.slots p) (m'.slots p)

pub kept_change : {a : ℕ} {o o' : Owners} {m m' : Shared} → Change a o o' m m' → Kept o o' m m'
kept_change {a} {o} {o'} {m} {m'} c = record {
  row = λ r l. row r l (c.row r);
  page = λ p. page (o.page p) (o'.page p) (m.slots p) (m'.slots p) (c.page p);
  back = λ p x l s. back (o.page p) (o'.page p) (m.slots p) (m'.slots p) x l s (c.page p);
  frozen = λ p x l s d. frozen (o.page p) (o'.page p) (m.slots p) (m'.slots p) x l s d (c.page p);
  out = λ p. out (o.page p) (o'.page p) (m.slots p) (m'.slots p) (c.page p);
  clears = λ p l s st. clears (o.page p) (o'.page p) (m.slots p) (m'.slots p) l s st (c.page p);
}
  where
    row : (r : ℕ) → o.row r ≡ Linked → RowChange a (o.row r) (o'.row r) (m.rows r) (m'.rows r) → (o'.row r ≡ Linked) × (m'.rows r ≡ m.rows r)
    row r l (row_same e f) = (e ∙ l, f)
    row r l (row_free e) = absurd (cc)
    row r l (row_own e) = absurd (cc)

    staged : (w n : PageOwner) (st st' : Stage) (lv : ℕ) (low : Key) → w ≡ Placed st lv low → n ≡ Placed st' lv low → rank st ≤ rank st' → Forward w n
    staged w n st st' lv low e f le r l s h =
        let i = rw e at h in
        rw f (i.0, i.1, (let j = i.2 in let g : r ≤ rank st' = omega arith in g))

    page : (w n : PageOwner) (u v : Option ℕ) → PageChange a o m m' w n u v → Forward w n
    page w n u v (page_free e) r l s h = absurd (rw e at h)
    page w n u v (page_own e) r l s h = absurd (rw e at h)
    page w n u v (page_same e f) r l s h = rw e h
    page w n u v (page_stage st st' lv low e f le i) r l s h = staged w n st st' lv low e f le r l s h
    page w n u v (page_link st st' lv low e f le x y d i j k z q) r l s h = staged w n st st' lv low e f le r l s h
    page w n u v (page_clear lv low e f i g) r l s h = let i = rw e at h in rw f (i.0, i.1)
    page w n u v (page_gone lv low e f i) r l s h = rw (e ∙ sym f) at h

    back : (w n : PageOwner) (u v : Option ℕ) (x l : ℕ) (s : Key) → PageChange a o m m' w n u v → Reached 0 l s w → o.row x ≡ Linked → v ≡ Some x → u ≡ Some x
    back w n u v x l s (page_free e) r lx i = absurd (rw e at r)
    back w n u v x l s (page_own e) r lx i = absurd (rw e at r)
    back w n u v x l s (page_same e f) r lx i = sym f ∙ i
    back w n u v x l s (page_stage st st' lv low e f le j) r lx i = sym j ∙ i
    back w n u v x l s (page_link st st' lv low e f le x' y d j k nr z q) r lx i = absurd (let same : y ≡ x = same_Some y x (sym z ∙ i) in let h = sym q ∙ ap o.row same ∙ lx in cc)
    back w n u v x l s (page_clear lv low e f j g) r lx i = sym j ∙ i
    back w n u v x l s (page_gone lv low e f j) r lx i = absurd (cc)

    frozen : (w n : PageOwner) (u v : Option ℕ) (x l : ℕ) (s : Key) (d : List Record) → PageChange a o m m' w n u v → Reached 0 l s w → u ≡ Some x
        → o.row x ≡ Linked → IsChain m.rows d (Some x) → is_removed d ≡ true → (v ≡ Some x) ⊎ IsOut n v
    frozen w n u v x l s d (page_free e) r i lx ch rm = absurd (rw e at r)
    frozen w n u v x l s d (page_own e) r i lx ch rm = absurd (rw e at r)
    frozen w n u v x l s d (page_same e f) r i lx ch rm = inl (f ∙ i)
    frozen w n u v x l s d (page_stage st st' lv low e f le j) r i lx ch rm = inl (j ∙ i)
    frozen w n u v x l s d (page_link st st' lv low e f le x' y d' j k nr z q) r i lx ch rm =
        absurd (let t : x' ≡ x = same_Some x' x (sym j ∙ i) in
        let h : true ≡ false = sym rm ∙ ap is_removed (sym (chain_unique m.rows d' d (Some x) (rw t at k) ch)) ∙ nr in cc)
    frozen w n u v x l s d (page_clear lv low e f j g) r i lx ch rm = inl (j ∙ i)
    frozen w n u v x l s d (page_gone lv low e f j) r i lx ch rm = inr (j, (a, lv, low, f))

    out : (w n : PageOwner) (u v : Option ℕ) → PageChange a o m m' w n u v → IsOut w u → IsOut n v
    out w n u v (page_free e) i = absurd (cc i.1.3)
    out w n u v (page_own e) i = absurd (cc i.1.3)
    out w n u v (page_same e f) i = (f ∙ i.0, (i.1.0, i.1.1, i.1.2, e ∙ i.1.3))
    out w n u v (page_stage st st' lv low e f le j) i = absurd (cc i.1.3)
    out w n u v (page_link st st' lv low e f le x' y d' j k nr z q) i = absurd (cc i.1.3)
    out w n u v (page_clear lv low e f j g) i = absurd (cc i.1.3)
    out w n u v (page_gone lv low e f j) i = (j, (a, lv, low, f))

    clears : (w n : PageOwner) (u v : Option ℕ) (l : ℕ) (s : Key) (st : Stage) → PageChange a o m m' w n u v → w ≡ Placed st l s → IsCleared n
        → (f x : ℕ) (d : List Record) → o.row x ≡ Linked → IsChain m.rows d (Some x) → Reached 0 (level_in d) (low_in d) (o.page f) → is_removed d ≡ false
        → level_in d ≡ suc l → Covers d s → m.slots f ≡ Some x → m'.slots f ≡ Some x → ⊥
    clears w n u v l s st (page_free e) i cl f x d lx ch r nr lv cv sx sx' = absurd (cc)
    clears w n u v l s st (page_own e) i cl f x d lx ch r nr lv cv sx sx' = absurd (cc)
    clears w n u v l s st (page_same e j) i cl f x d lx ch r nr lv cv sx sx' = absurd (cc cl.3)
    clears w n u v l s st (page_stage st' st'' l' low e j le z) i cl f x d lx ch r nr lv cv sx sx' = absurd (cc cl.3)
    clears w n u v l s st (page_link st' st'' l' low e j le x' y d' z k nr' z' q) i cl f x d lx ch r nr lv cv sx sx' = absurd (cc cl.3)
    clears w n u v l s st (page_clear l' low e j z g) i cl f x d lx ch r nr lv cv sx sx' =
        let h : Placed Merged l' low ≡ Placed st l s = sym e ∙ i in let p : l ≡ l' = cc in let q : s ≡ low = cc in
        g f x d lx ch r nr (lv ∙ ap suc p) (rw q at cv) sx sx'
    clears w n u v l s st (page_gone l' low e j z) i cl f x d lx ch r nr lv cv sx sx' = absurd (cc)

pub spared_change : {a b : ℕ} {o o' : Owners} {m m' : Shared} → b ≢ a → Change a o o' m m' → Spared b o o' m m'
spared_change {a} {b} {o} {o'} {m} {m'} ne c = record { row = λ r l. row r l (c.row r); page = λ p l. page p l (c.page p); gone = λ p l s e. gone p l s e (c.page p) }
  where
    row : (r : ℕ) → o.row r ≡ Spare b → RowChange a (o.row r) (o'.row r) (m.rows r) (m'.rows r) → (o'.row r ≡ Spare b) × (m'.rows r ≡ m.rows r)
    row r l (row_free e) = absurd (cc)
    row r l (row_own e) = absurd (ne (let h : Spare b ≡ Spare a = sym l ∙ e in cc))
    row r l (row_same e f) = (e ∙ l, f)

    page : (p : ℕ) → o.page p ≡ Keeps b → PageChange a o m m' (o.page p) (o'.page p) (m.slots p) (m'.slots p) → (o'.page p ≡ Keeps b) × (m'.slots p ≡ m.slots p)
    page p l (page_free e) = absurd (cc)
    page p l (page_own e) = absurd (ne (let h : Keeps b ≡ Keeps a = sym l ∙ e in cc))
    page p l (page_same e f) = (e ∙ l, f)
    page p l (page_stage st st' lv low e f le i) = absurd (cc)
    page p l (page_link st st' lv low e f le x y d i j k z q) = absurd (cc)
    page p l (page_clear lv low e f i g) = absurd (cc)
    page p l (page_gone lv low e f i) = absurd (cc)

    gone : (p l : ℕ) (s : Key) → o.page p ≡ Cleared b l s → PageChange a o m m' (o.page p) (o'.page p) (m.slots p) (m'.slots p) → (o'.page p ≡ Cleared b l s) × (m'.slots p ≡ m.slots p)
    gone p l s i (page_free e) = absurd (cc)
    gone p l s i (page_own e) = absurd (cc)
    gone p l s i (page_same e f) = (e ∙ i, f)
    gone p l s i (page_stage st st' lv low e f le j) = absurd (cc)
    gone p l s i (page_link st st' lv low e f le x y d j k nr z q) = absurd (cc)
    gone p l s i (page_clear lv low e f j g) = absurd (cc)
    gone p l s i (page_gone lv low e f j) = absurd (ne (let h : Cleared b l s ≡ Cleared a lv low = sym i ∙ e in cc))

pub change_none : (a : ℕ) (o : Owners) (m : Shared) → Change a o o m m
change_none a o m = record { row = λ j. row_same refl refl; page = λ p. page_same refl refl }

linked_kept : {o o' : Owners} {m m' : Shared} → IsClosed o m → Kept o o' m m' → (r : ℕ) → IsLinked o m r → IsLinked o' m' r
linked_kept {o} {o'} {m} {m'} closed kept r h =
    record {
      linked = (kept.row r h.linked).0;
      content = h.content;
      stands = (kept.row r h.linked).1 ∙ h.stands;
      next = next (next_row h.content) h.next;
      rest = h.rest;
      is_rest = chain_kept closed kept h.rest (next_row h.content) h.next h.is_rest;
    }
  where
    next : (x : Option ℕ) → IfSome x (λ n. o.row n ≡ Linked) → IfSome x (λ n. o'.row n ≡ Linked)
    next None l = tt
    next (Some n) l = (kept.row n l).0

pub closed_kept : {o o' : Owners} {m m' : Shared} → Kept o o' m m' → IsClosed o m → ((r : ℕ) → o'.row r ≡ Linked → (o.row r ≡ Linked) ⊎ IsLinked o' m' r) → IsClosed o' m'
closed_kept {o} {o'} {m} {m'} kept closed new r l = elim (new r l) [ inl i ↦ linked_kept closed kept r (closed r i) | inr i ↦ i ]

-- the row of a chain that was read is linked
pub read_linked : (o : Owners) (m : Shared) (seen : ℕ → Option Record) → ((r : ℕ) → SeenFits (o.row r) (m.rows r) (seen r)) → (c : List Record) (x : ℕ) → IsChain seen c (Some x) → o.row x ≡ Linked
read_linked o m seen fits [] x h = absurd h
read_linked o m seen fits (w ∷ c) x h = (rw h.0 at (fits x)).0

-- one more own step
pub knows_more : {o : Owners} {m : Shared} {seen : ℕ → Option Record} {learnt roots : ℕ → Bool} {heads : ℕ → Option ℕ} {before : ℕ → ℕ → Option ℕ}
    {linked : Option (Option ℕ)} {point : Option (List Update)} {logs : List (List Update)} (l : List Update)
    → Knows o m seen learnt roots heads before linked point logs → Knows o m seen learnt roots heads before linked point (l ∷ logs)
knows_more {o} {m} {seen} {learnt} {roots} {heads} {before} {linked} {point} {logs} l k =
    record {
      seen_fits = k.seen_fits;
      learnt_fits = k.learnt_fits;
      roots_fit = k.roots_fit;
      heads_fit = λ p. go p (heads p) (k.heads_fit p);
      orders_fit = λ p f.
          order p f (heads p) (before p f) (k.orders_fit p f);
      linked_fits = k.linked_fits;
    }
  where
    order : (p f : ℕ) (y x : Option ℕ) → OrderFits o m logs p f y x → OrderFits o m (l ∷ logs) p f y x
    order p f (Some y) (Some x) h = record {
      above = h.above;
      below = h.below;
      chain = h.chain;
      is_chain = h.is_chain;
      placed = h.placed;
      uncleared =
          h.uncleared;
      merged = h.merged;
      beyond = h.beyond;
      spelled = λ c d ic id rc nd z r. let s = h.spelled c d ic id rc nd z r in (s.0, inr s.1, s.2);
    }
    order p f y x h = tt

    go : (p : ℕ) (x : Option ℕ) → HeadFits o m logs p x → HeadFits o m (l ∷ logs) p x
    go p None h = tt
    go p (Some x) h = (h.0, inr h.1, h.2, h.3, h.4, h.5)

-- one more name
pub name_more : (o : Owners) (learnt : ℕ → Bool) (x : ℕ) → o.row x ≡ Linked → ((r : ℕ) → learnt r ≡ true → o.row r ≡ Linked) → (r : ℕ) → put learnt x true r ≡ true → o.row r ≡ Linked
name_more o learnt x l h r =
    by_equal r x
    (λ e t. rw t λ _. ap o.row e ∙ l)
    (λ ne t. rw t (h r))

-- the chain that was read stands
pub chain_stands : (o : Owners) (m : Shared) (seen : ℕ → Option Record) → ((r : ℕ) → SeenFits (o.row r) (m.rows r) (seen r)) → (c : List Record) (x : Option ℕ) → IsChain seen c x → IsChain m.rows c x
chain_stands o m seen fits =
    chain_within seen m.rows (λ r w e. (rw e at (fits r)).1)

-- a chain that was read decides what the log of its row does
pub chain_decides : (o : Owners) (m : Shared) (seen : ℕ → Option Record) → ((r : ℕ) → SeenFits (o.row r) (m.rows r) (seen r)) → (x : ℕ) (c : List Record) → IsChain seen c (Some x)
    → (l : List Update) → SpellsLog o m x l → level_in c ≡ 0 → is_removed c ≡ false → (k : Key) → Covers c k → content_in c k ≡ leaf_map l k
chain_decides o m seen fits x c h l s z y k v =
    let e = chain_unique m.rows c s.chain (Some x) (chain_stands o m seen fits c (Some x) h) s.is_chain in
    ap (λ d. content_in d k) e ∙ s.same (ap level_in (sym e) ∙ z) (ap is_removed (sym e) ∙ y) k (rw e at v)
