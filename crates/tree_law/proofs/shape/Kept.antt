-- What stays of what actors know: linked rows stay, and pages go forward.
use Rattle.tree_law.proofs.Words.{false, ◌⊎◌, [], refl, Option, suc, None, List, true, inl, ◌≤◌, inr, ◌∷◌, sym, ℕ, ◌≡◌, Bool, ◌∙◌, ◌<◌, arith, Some, same_Some, IfSome, Update}
use Rattle.tree_law.proofs.Words.{next_row, Record, low_in, is_removed, level_in, Foreign, OwnPage, Taken, Other, Gone, Written, OwnRow, Key, Covers, Linked, Owners, Reached, Spare, IsOut, OwnFits}
use Rattle.tree_law.proofs.Words.{LinkFits, HeadFits, OrderFits, InOrder, PageFits, IsChain, IsClosed, IsCleared, SpellsLog, Knows, SeenFits, ChainNames, OwnsPages, Forward, Owns, Placed, PageOwner}
use Rattle.tree_law.proofs.Words.{Cleared, Keeps, Fresh, rank, Stage, rank_of, child_of, Shared}
use Rattle.tree_law.proofs.shape.Chains.{chain_unique}

-- linked rows stay, and pages go forward
pub record Kept (o o' : Owners) (m m' : Shared) : Type 0 where
  pub row : (r : ℕ) → o.row r ≡ Linked → (o'.row r ≡ Linked) × (m'.rows r ≡ m.rows r)
  pub page : (p : ℕ) → Forward (o.page p) (o'.page p)
  -- what is linked comes into no slot again
  pub back : (p x l : ℕ) (s : Key) → Reached 0 l s (o.page p) → o.row x ≡ Linked → m'.slots p ≡ Some x → m.slots p ≡ Some x
  -- a is_removed chain stays
  pub frozen : (p x l : ℕ) (s : Key) (c : List Record) → Reached 0 l s (o.page p) → m.slots p ≡ Some x → o.row x ≡ Linked → IsChain m.rows c (Some x)
      → is_removed c ≡ true → (m'.slots p ≡ Some x) ⊎ IsOut (o'.page p) (m'.slots p)
  -- a cleared page's slot stays empty
  pub out : (p : ℕ) → IsOut (o.page p) (m.slots p) → IsOut (o'.page p) (m'.slots p)
  -- a page is cleared by an exchange on the page that has its low
  pub clears : (p l : ℕ) (s : Key) (st : Stage) → o.page p ≡ Placed st l s → IsCleared (o'.page p) → (f x : ℕ) (c : List Record) → o.row x ≡ Linked → IsChain m.rows c (Some x)
      → Reached 0 (level_in c) (low_in c) (o.page f) → is_removed c ≡ false → level_in c ≡ suc l → Covers c s → m.slots f ≡ Some x → m'.slots f ≡ Some x → ⊥

-- what an actor has to itself stays
pub record Spared (a : ℕ) (o o' : Owners) (m m' : Shared) : Type 0 where
  pub row : (r : ℕ) → o.row r ≡ Spare a → (o'.row r ≡ Spare a) × (m'.rows r ≡ m.rows r)
  pub page : (p : ℕ) → o.page p ≡ Keeps a → (o'.page p ≡ Keeps a) × (m'.slots p ≡ m.slots p)
  pub gone : (p l : ℕ) (s : Key) → o.page p ≡ Cleared a l s → (o'.page p ≡ Cleared a l s) × (m'.slots p ≡ m.slots p)

-- a page that is so far is in the tree
pub reached_placed : (r l : ℕ) (s : Key) (w : PageOwner) → Reached r l s w → ((st : Stage) × (w ≡ Placed st l s) × (r ≤ rank st)) ⊎ ((a : ℕ) × (w ≡ Cleared a l s))
reached_placed r l s (Placed st l' s') h = inl (st, (let e = h.0 in let f = h.1 in cc), h.2)
reached_placed r l s (Cleared a l' s') h = inr (a, (let e = h.0 in let f = h.1 in cc))
reached_placed r l s w h = absurd h

rank_below : (st : Stage) → rank st < 5
rank_below Fresh = omega arith
rank_below st = omega arith

pub cleared_forward : (w n : PageOwner) → Forward w n → IsCleared w → IsCleared n
cleared_forward w n f u =
    elim (reached_placed 5 u.1 u.2 n (f 5 u.1 u.2 (rw u.3 (refl, refl)))) [
      | inl r ↦ absurd (let i = rank_below r.0 in let j = r.2 in omega arith)
      | inr r ↦ (r.0, u.1, u.2, r.1)
    ]

pub placed_reached : (l : ℕ) (s : Key) (st : Stage) (w : PageOwner) → w ≡ Placed st l s → Reached 0 l s w
placed_reached l s st w e = rw e (refl, refl, (let h : 0 ≤ rank st = omega arith in h))

-- the chain of a linked row stays
pub chain_kept : {o o' : Owners} {m m' : Shared} → IsClosed o m → Kept o o' m m' → (c : List Record) (x : Option ℕ) → IfSome x (λ r. o.row r ≡ Linked) → IsChain m.rows c x → IsChain m'.rows c x
chain_kept {o} {o'} {m} {m'} closed kept c None l h = h
chain_kept {o} {o'} {m} {m'} closed kept [] (Some x) l h = h
chain_kept {o} {o'} {m} {m'} closed kept (w ∷ c) (Some x) l h =
    let k = closed x l in
    let n = rw (same_Some k.content w (sym k.stands ∙ h.0)) at k.next in
    ((kept.row x l).1 ∙ h.0, chain_kept closed kept c (next_row w) n h.1)

-- and back
pub chain_back : {o o' : Owners} {m m' : Shared} → IsClosed o m → Kept o o' m m' → (c : List Record) (x : ℕ) → o.row x ≡ Linked → IsChain m'.rows c (Some x) → IsChain m.rows c (Some x)
chain_back {o} {o'} {m} {m'} closed kept c x l h =
    let k = closed x l in
    let d : IsChain m.rows (k.content ∷ k.rest) (Some x) = (k.stands, k.is_rest) in
    rw (← chain_unique m'.rows (k.content ∷ k.rest) c (Some x) (chain_kept closed kept (k.content ∷ k.rest) (Some x) l d) h) d

abbrev pub spells_kept : (o o' : Owners) (m m' : Shared) → IsClosed o m → Kept o o' m m' → (x : ℕ) (l : List Update) → SpellsLog o m x l → SpellsLog o' m' x l
spells_kept o o' m m' closed kept x l s =
    record { linked = (kept.row x s.linked).0; chain = s.chain; is_chain = chain_kept closed kept s.chain (Some x) s.linked s.is_chain; same = s.same }

pub link_kept : {o o' : Owners} {m m' : Shared} → IsClosed o m → Kept o o' m m' → (point : Option (List Update)) (x : Option (Option ℕ)) → LinkFits o m point x → LinkFits o' m' point x
link_kept {o} {o'} {m} {m'} closed kept point (Some (Some x)) h = (h.0, h.1, spells_kept o o' m m' closed kept x h.0 h.2)
link_kept {o} {o'} {m} {m'} closed kept point x h = h

pub names_kept : (o o' : Owners) → ((p : ℕ) → Forward (o.page p) (o'.page p)) → (c : List Record) → ChainNames o c → ChainNames o' c
names_kept o o' kept c n = record {
  right = λ q e. let h = n.right q e in (h.0, h.1, kept q 0 (level_in c) h.0 h.2);
  items = λ l s i e v f. kept (child_of i) (rank_of i) l s (n.items l s i e v f);
}

-- what an actor knows stays so
pub knows_kept : {o o' : Owners} {m m' : Shared} → IsClosed o m → Kept o o' m m'
    → {seen : ℕ → Option Record} {learnt roots : ℕ → Bool} {heads : ℕ → Option ℕ} {before : ℕ → ℕ → Option ℕ} {linked : Option (Option ℕ)} {point : Option (List Update)} {logs : List (List Update)}
    → Knows o m seen learnt roots heads before linked point logs → Knows o' m' seen learnt roots heads before linked point logs
knows_kept {o} {o'} {m} {m'} closed kept {seen} {learnt} {roots} {heads} {before} {linked} {point} {logs} k =
    record {
      seen_fits = λ r. seen_at r (seen r) (k.seen_fits r);
      learnt_fits = λ r e. (kept.row r (k.learnt_fits r e)).0;
      roots_fit = λ p e. let i = k.roots_fit p e in (i.0, kept.page p 0 i.0 [] i.1);
      heads_fit = λ p. head_at p (heads p) (k.heads_fit p);
      orders_fit = λ p f. order_at p f (heads p) (before p f) (k.heads_fit p) (k.orders_fit p f);
      linked_fits = link_kept closed kept point linked k.linked_fits;
    }
  where
    still : (p f x y : ℕ) (c d : List Record) → IsChain m.rows c (Some x) → IsChain m.rows d (Some y) → is_removed c ≡ false → is_removed d ≡ false → level_in c ≡ suc (level_in d)
        → Covers c (low_in d) → m'.slots f ≡ Some x → IsCleared (o'.page p) → HeadFits o m logs p (Some y) → InOrder o m logs p y f x → ⊥
    still p f x y c d ic id nc nd e v s u h i =
        let above : i.chain ≡ c = chain_unique m.rows i.chain c (Some x) i.is_chain ic in
        let was : m.slots f ≡ Some x = kept.back f x (level_in i.chain) (low_in i.chain) i.placed i.above s in
        elim (reached_placed 0 (level_in d) (low_in d) (o.page p) (rw (chain_unique m.rows h.2.chain d (Some y) h.2.is_chain id) at h.3)) [
          | inl r ↦ kept.clears p (level_in d) (low_in d) r.0 r.1 u f x c i.above ic (rw above at i.placed) nc e v was s
          | inr r ↦ i.uncleared c d ic id nc nd e v was (r.0, level_in d, low_in d, r.1)
        ]

    seen_at : (r : ℕ) (w : Option Record) → SeenFits (o.row r) (m.rows r) w → SeenFits (o'.row r) (m'.rows r) w
    seen_at r None h = tt
    seen_at r (Some v) h = ((kept.row r h.0).0, (kept.row r h.0).1 ∙ h.1)

    head_at : (p : ℕ) (x : Option ℕ) → HeadFits o m logs p x → HeadFits o' m' logs p x
    head_at p None h = tt
    head_at p (Some x) h = (
      h.0,
      h.1,
      spells_kept o o' m m' closed kept x h.0 h.2,
      kept.page p 0 (level_in h.2.chain) (low_in h.2.chain) h.3,
      λ e. elim (h.4 e) [ inl u ↦ kept.frozen p x (level_in h.2.chain) (low_in h.2.chain) h.2.chain h.3 u h.2.linked h.2.is_chain e | inr u ↦ inr (kept.out p u) ],
      λ e. names_kept o o' kept.page h.2.chain (h.5 e),
    )

    order_at : (p f : ℕ) (y x : Option ℕ) → HeadFits o m logs p y → OrderFits o m logs p f y x → OrderFits o' m' logs p f y x
    order_at p f (Some y) (Some x) h i = record {
      above = (kept.row x i.above).0;
      below = (kept.row y i.below).0;
      chain = i.chain;
      is_chain = chain_kept closed kept i.chain (Some x) i.above i.is_chain;
      placed = kept.page f 0 (level_in i.chain) (low_in i.chain) i.placed;
      uncleared = λ c d ic id nc nd e v s u.
          still p f x y c d (chain_back closed kept c x i.above ic) (chain_back closed kept d y i.below id) nc nd e v s u h i;
      spelled = λ c d ic id. i.spelled c d (chain_back closed kept c x i.above ic) (chain_back closed kept d y i.below id);
      beyond = λ c d ic id rc nd e. names_kept o o' kept.page c (i.beyond c d (chain_back closed kept c x i.above ic) (chain_back closed kept d y i.below id) rc nd e);
      merged =
          λ c d s q ic id nc nd e v t lo hi ne. kept.page q 4 (level_in d) s (i.merged c d s q (chain_back closed kept c x i.above ic) (chain_back closed kept d y i.below id) nc nd e v t lo hi ne);
    }
    order_at p f y x h i = tt

-- what an actor has to itself stays so
pub owns_spared : {a : ℕ} {o o' : Owners} {m m' : Shared} → Spared a o o' m m' → (own : ℕ → OwnRow) → Owns a o m own → Owns a o' m' own
owns_spared {a} {o} {o'} {m} {m'} kept own h r = (elim (own r) as (λ v. OwnFits a (o.row r) (m.rows r) v → OwnFits a (o'.row r) (m'.rows r) v) [
  | Foreign ↦ λ f. tt
  | Taken ↦ λ f. (kept.row r f).0
  | Written v ↦ λ f. ((kept.row r f.0).0, (kept.row r f.0).1 ∙ f.1)
]) (h r)

pub pages_spared : {a : ℕ} {o o' : Owners} {m m' : Shared} → Spared a o o' m m' → (pages : ℕ → OwnPage) → OwnsPages a o m pages → OwnsPages a o' m' pages
pages_spared {a} {o} {o'} {m} {m'} kept pages h p = (elim (pages p) as (λ v. PageFits a (o.page p) (m.slots p) v → PageFits a (o'.page p) (m'.slots p) v) [
  | Other ↦ λ f. tt
  | Gone ↦ λ f. let g = kept.gone p f.0 f.1 f.2 in (f.0, f.1, g.0, rw g.1 f.3)
  | v ↦ λ f. ((kept.page p f.0).0, (kept.page p f.0).1 ∙ f.1)
]) (h p)
