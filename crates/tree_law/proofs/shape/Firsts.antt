-- A step keeps the first page of each level, and adds at most one level on top.
use Rattle.tree_law.proofs.Words.{false, ◌⊎◌, ap, Option, suc, List, true, inl, ◌≢◌, ◌≤◌, inr, sym, ℕ, ◌≡◌, zero, ◌∙◌, arith, Update, is_among, Answer, Whether, StepOf, ReusePids, TakePid}
use Rattle.tree_law.proofs.Words.{Exchange, Memory, Record, Remove, Hold, Split, Merge, Term, Unterm, Knowledge, IsAnswer, IsFirst, Key, Owners, Nobody, Placed, Indexed, PageOwner, Cleared, Keeps}
use Rattle.tree_law.proofs.Words.{Fresh, rank, Removed, Held, Merged, Stage, Phased, LinkMoves, Exchanged, put, shared_part, Shared, IsTree, [], nat_tests, eqb}
use Rattle.tree_law.proofs.shape.Exactness.{is_indexed, below_top, root_indexed}
use Rattle.tree_law.proofs.shape.Puts.{by_equal, put_same, put_other, decided, eqb_apart}
use Rattle.tree_law.proofs.shape.Relinked.{placed_level}

-- A page on a side chain is there afterwards, at its place, or was merged, and then nothing else was changed.
abbrev Stays : (ℕ → PageOwner) → (ℕ → PageOwner) → ℕ → ℕ → Key → Type 0
Stays f f' q l s = ((st : Stage) × (f' q ≡ Placed st l s) × (rank st ≤ 3)) ⊎ (f' ≡ put f q (Placed Merged l s))

-- A page placed afterwards has its level from a page that was placed before, or is one above it.
abbrev Grown : (ℕ → PageOwner) → ℕ → Type 0
Grown f l = (p : ℕ) × (st : Stage) × (below : ℕ) × (s : Key) × (f p ≡ Placed st below s) × (l ≤ suc below)

module _ (f f' : ℕ → PageOwner) where
  unchanged : (q l : ℕ) (s : Key) (st : Stage) → f q ≡ Placed st l s → rank st ≤ 3 → f' ≡ f → Stays f f' q l s
  unchanged q l s st at on e = inl (st, rw e at, on)

  -- one page goes to a next stage that is still on the side chain
  staged : (q l : ℕ) (s : Key) (st : Stage) (p lp : ℕ) (sp : Key) (from to : Stage) → f q ≡ Placed st l s → rank st ≤ 3 → f p ≡ Placed from lp sp → rank to ≤ 3
      → f' ≡ put f p (Placed to lp sp) → Stays f f' q l s
  staged q l s st p lp sp from to at on was next e = by_equal q p
      (λ i t. inl (to, rw (e, t) (grind (arith, nat_tests)), next))
      (λ ne t. inl (st, rw (e, t) at, on))

  -- a page that was on no side chain is changed
  elsewhere : (q l : ℕ) (s : Key) (st : Stage) (p : ℕ) (to : PageOwner) → f q ≡ Placed st l s → rank st ≤ 3 → (f p ≡ Placed st l s → ⊥) → f' ≡ put f p to → Stays f f' q l s
  elsewhere q l s st p to at on not e = inl (st, rw e (put_other f p to q (λ i. not (ap f (sym i) ∙ at)) ∙ at), on)

  not_merged : (st : Stage) (l l' : ℕ) (s s' : Key) → rank st ≤ 3 → Placed Merged l' s' ≡ Placed st l s → ⊥
  not_merged st l l' s s' on e = let i : st ≡ Merged = cc in absurd (let n : rank Merged ≤ 3 = rw i at on in omega arith)

  module _ (m : Shared) (a : ℕ) where
    by_links : (w : Record) (p : ℕ) → LinkMoves m a w p f f' → (q l : ℕ) (s : Key) (st : Stage) → f q ≡ Placed st l s → rank st ≤ 3 → Stays f f' q l s
    by_links (Term term) p h q l s st at on = staged q l s st term.child h.0 term.separator Fresh Indexed at on h.1 (omega arith) h.2
    by_links (Hold hold) p h q l s st at on = staged q l s st hold.child h.0 hold.separator Indexed Held at on h.1 (omega arith) h.2
    by_links (Unterm unterm) p h q l s st at on = elsewhere q l s st unterm.child (Cleared a h.0 unterm.separator) at on (λ e. not_merged st l h.0 s unterm.separator on (sym h.1 ∙ e)) h.2
    by_links (Split split) p h q l s st at on = elsewhere q l s st split.page (Placed Fresh h.1 split.separator) at on (λ e. let g = h.4 in absurd (cc)) h.5
    by_links (Remove remove) p h q l s st at on = staged q l s st p h.0 h.1 Held Removed at on h.2 (omega arith) h.3
    by_links (Merge merge) p h q l s st at on = by_equal q h.0
        (λ i t. let here : Placed Removed h.1 merge.low ≡ Placed st l s = sym h.2 ∙ ap f (sym i) ∙ at in inr (h.3 ∙ ap (λ n. put f n (Placed Merged h.1 merge.low)) (sym i) ∙ ap (put f q) cc))
        (λ ne t. inl (st, rw (h.3, t) at, on))
    by_links w p h q l s st at on = unchanged q l s st at on h

    by_root : (x y : ℕ) → Exchanged a m zero x y f f' → (q l : ℕ) (s : Key) (st : Stage) → f q ≡ Placed st l s → rank st ≤ 3 → Stays f f' q l s
    by_root x y h q l s st at on =
        let other : eqb q y ≡ false = eqb_apart q y (λ i. let e : f q ≡ Keeps a = ap f i ∙ h.5 in absurd (cc)) in
        by_equal q h.0
        (λ i t. let here : Placed Fresh h.1 h.2 ≡ Placed st l s = sym h.4 ∙ ap f (sym i) ∙ at in inl (Indexed, rw (h.6, other, t) cc, omega arith))
        (λ ne t. inl (st, rw (h.6, other, t) at, on))

    -- backwards
    was_there : (q l : ℕ) (s : Key) (st : Stage) → f' q ≡ Placed st l s → f' ≡ f → Grown f l
    was_there q l s st at e = (q, st, l, s, rw e at at, omega arith)

    put_back : (q l : ℕ) (s : Key) (st : Stage) (p : ℕ) (to : PageOwner) → f' q ≡ Placed st l s → f' ≡ put f p to → (to ≡ Placed st l s → Grown f l) → Grown f l
    put_back q l s st p to at e here = by_equal q p (λ i t. here (rw (e, t) at at)) (λ ne t. (q, st, l, s, rw (e, t) at at, omega arith))

    from : (q l : ℕ) (s : Key) (st : Stage) (lp : ℕ) (sp sf : Key) (sto sfrom : Stage) (p : ℕ) → f p ≡ Placed sfrom lp sf → Placed sto lp sp ≡ Placed st l s → Grown f l
    from q l s st lp sp sf sto sfrom p was e = (p, sfrom, lp, sf, was, let i : lp ≡ l = (placed_level sto st lp l sp s e).0 in omega arith)

    links_back : (w : Record) (p : ℕ) → LinkMoves m a w p f f' → (q l : ℕ) (s : Key) (st : Stage) → f' q ≡ Placed st l s → Grown f l
    links_back (Term term) p h q l s st at = put_back q l s st term.child (Placed Indexed h.0 term.separator) at h.2 (from q l s st h.0 term.separator term.separator Indexed Fresh term.child h.1)
    links_back (Hold hold) p h q l s st at = put_back q l s st hold.child (Placed Held h.0 hold.separator) at h.2 (from q l s st h.0 hold.separator hold.separator Held Indexed hold.child h.1)
    links_back (Unterm unterm) p h q l s st at = put_back q l s st unterm.child (Cleared a h.0 unterm.separator) at h.2 (λ e. absurd (cc))
    links_back (Split split) p h q l s st at = put_back q l s st split.page (Placed Fresh h.1 split.separator) at h.5 (from q l s st h.1 split.separator h.2 Fresh h.0 p h.3)
    links_back (Remove remove) p h q l s st at = put_back q l s st p (Placed Removed h.0 h.1) at h.3 (from q l s st h.0 h.1 h.1 Removed Held p h.2)
    links_back (Merge merge) p h q l s st at = put_back q l s st h.0 (Placed Merged h.1 merge.low) at h.3 (from q l s st h.1 merge.low merge.low Merged Removed h.0 h.2)
    links_back w p h q l s st at = was_there q l s st at h

    root_back : (x y : ℕ) → Exchanged a m zero x y f f' → (q l : ℕ) (s : Key) (st : Stage) → f' q ≡ Placed st l s → Grown f l
    root_back x y h q l s st at = by_equal q y
        (λ i t. let is : suc h.1 ≡ l = (placed_level Indexed st (suc h.1) l [] s (rw (h.6, t) at at)).0 in (x, Indexed, h.1, [], h.3, omega arith))
        (λ ne t. by_equal q h.0
        (λ i u. from q l s st h.1 h.2 h.2 Indexed Fresh h.0 h.4 (rw (h.6, t, u) at at))
        (λ other u. (q, st, l, s, rw (h.6, t, u) at at, omega arith)))

-- what each step does, by its phases
module _ (m : Memory) {log : List Update} {o : Owners} {knows : ℕ → Knowledge} {point : ℕ → Option (List Update)} {logs : ℕ → List (List Update)}
    (g : IsTree (shared_part m) log o knows point logs) (a : ℕ) (s : StepOf Record) (x : Answer Record) (is : IsAnswer m s x) (f' : ℕ → PageOwner) where
  taken_nobody : (q : ℕ) → m.free_pids q ≡ true → o.page q ≡ Nobody
  taken_nobody q free = (g.frees.page q free).0

  stays_or_merged : Phased a (shared_part m) s x o.page f' → (q l : ℕ) (low : Key) (st : Stage) → o.page q ≡ Placed st l low → rank st ≤ 3 → Stays o.page f' q l low
  stays_or_merged ph q l low st at on = go s x is ph
    where
      go : (t : StepOf Record) (y : Answer Record) → IsAnswer m t y → Phased a (shared_part m) t y o.page f' → Stays o.page f' q l low
      go (TakePid p) (Whether true) e ph' = elsewhere o.page f' q l low st p (Keeps a) at on (λ i. let was : o.page p ≡ Nobody = taken_nobody p (cc) in absurd (cc)) ph'
      go (Exchange zero old new) (Whether true) e ph' = by_root o.page f' (shared_part m) a old new ph' q l low st at on
      go (Exchange (suc p) zero zero) (Whether true) e ph' = unchanged o.page f' q l low st at on ph'.0
      go (Exchange (suc p) (suc old) (suc new)) (Whether true) e ph' = by_links o.page f' (shared_part m) a ph'.0 (suc p) ph'.2 q l low st at on
      go (Exchange (suc p) old new) (Whether true) e ph' = unchanged o.page f' q l low st at on ph'.0
      go (Exchange p old new) (Whether false) e ph' = unchanged o.page f' q l low st at on ph'
      go (TakePid p) (Whether false) e ph' = unchanged o.page f' q l low st at on ph'
      go (ReusePids word bits) y e ph' = elim (decided (is_among word bits q)) [ inl k ↦ absurd (let v = (ph' q).0 k in let f = sym at ∙ v.3 in cc) | inr k ↦ inl (st, (ph' q).1 k ∙ at, on) ]
      go (Exchange p old new) y e ph' = absurd (cc)
      go (TakePid p) y e ph' = absurd (cc)
      go t y e ph' = unchanged o.page f' q l low st at on ph'

  grown_by_one : Phased a (shared_part m) s x o.page f' → (q l : ℕ) (low : Key) (st : Stage) → f' q ≡ Placed st l low → Grown o.page l
  grown_by_one ph q l low st at = go s x is ph
    where
      same : f' ≡ o.page → Grown o.page l
      same e = was_there o.page f' (shared_part m) a q l low st at e

      go : (t : StepOf Record) (y : Answer Record) → IsAnswer m t y → Phased a (shared_part m) t y o.page f' → Grown o.page l
      go (TakePid p) (Whether true) e ph' = put_back o.page f' (shared_part m) a q l low st p (Keeps a) at ph' (λ i. absurd (cc))
      go (Exchange zero old new) (Whether true) e ph' = root_back o.page f' (shared_part m) a old new ph' q l low st at
      go (Exchange (suc p) zero zero) (Whether true) e ph' = same ph'.0
      go (Exchange (suc p) (suc old) (suc new)) (Whether true) e ph' = links_back o.page f' (shared_part m) a ph'.0 (suc p) ph'.2 q l low st at
      go (Exchange (suc p) old new) (Whether true) e ph' = same ph'.0
      go (Exchange p old new) (Whether false) e ph' = same ph'
      go (TakePid p) (Whether false) e ph' = same ph'
      go (ReusePids word bits) y e ph' = elim (decided (is_among word bits q))
          [ inl k ↦ absurd (let v = (ph' q).0 k in let f = sym at ∙ v.4 in cc) | inr k ↦ (q, st, l, low, sym ((ph' q).1 k) ∙ at, omega arith) ]
      go (Exchange p old new) y e ph' = absurd (cc)
      go (TakePid p) y e ph' = absurd (cc)
      go t y e ph' = same ph'

-- from one memory that meets the invariant to the next
module _ (m m' : Memory) {log log' : List Update} {o o' : Owners} {knows knows' : ℕ → Knowledge} {point point' : ℕ → Option (List Update)}
    {logs logs' : ℕ → List (List Update)} (g : IsTree (shared_part m) log o knows point logs) (g' : IsTree (shared_part m') log' o' knows' point' logs')
    (a : ℕ) (s : StepOf Record) (x : Answer Record) (is : IsAnswer m s x) (ph : Phased a (shared_part m) s x o.page o'.page) where
  -- The first page of a level stays the first. It is not merged: another page would then be the first, and it would have been so before.
  pub first_stays : (l q : ℕ) → IsFirst o l q → IsFirst o' l q
  first_stays l q (st, at, on) = elim (stays_or_merged m g a s x is o'.page ph q l [] st at on) [
    | inl there ↦ there
    | inr gone ↦
        let now = is_indexed m' g' in
        let was = is_indexed m g in
        let merged : o'.page q ≡ Placed Merged l [] = ap (λ (k : ℕ → PageOwner). k q) gone ∙ put_same o.page q (Placed Merged l []) in
        let first = now.firsts l (below_top m' g' q l [] Merged merged) in
        let other : now.first l ≢ q = λ i. not_merged o.page o'.page first.0 l l [] [] first.2 (sym merged ∙ ap o'.page (sym i) ∙ first.1) in
        let before : o.page (now.first l) ≡ Placed first.0 l [] = sym (put_other o.page q (Placed Merged l []) (now.first l) other) ∙ ap
        (λ (k : ℕ → PageOwner). k (now.first l)) (sym gone) ∙ first.1 in
        let le' : l ≤ was.top = below_top m g q l [] st at in
        absurd (other (was.only (now.first l) l first.0 le' before first.2 ∙ sym (was.only q l st le' at on)))
  ]

  -- the tree grows by one level at most
  pub grows : (is_indexed m' g').top ≤ suc ((is_indexed m g).top)
  grows =
      let h = grown_by_one m g a s x is o'.page ph (m'.slots 0) ((is_indexed m' g').top) [] Indexed (root_indexed m' g') in
      let le : h.2 ≤ (is_indexed m g).top = below_top m g h.0 h.2 h.3 h.1 h.4 in
      omega arith
