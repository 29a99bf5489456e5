-- Levels and the tree: where their slots stay, and where pages stand in one's place, or one in the place of two.
use Rattle.tree_law.proofs.Words.{◌⊎◌, ap, refl, Option, None, List, inl, ◌≢◌, ◌++◌, ◌≤◌, inr, ◌∷◌, sym, ℕ, ◌≡◌, ◌∙◌, Some, same_Some, ⊤, Update, ContentOf, Record, right_in}
use Rattle.tree_law.proofs.Words.{low_in, high_in, Key, IsBelow, IsUpTo, Covers, Owners, IsOut, IsChain, IsClosed, Placed, rank, Stage, Shared, spec, HasSidePage}
use Rattle.tree_law.proofs.Words.{Level, IsOff, Off, SidePage, InPlace, IsPart, Exact, HasLevels, [], Linked}
use Rattle.tree_law.specs.Keys.{IsWithinEnd}
use Rattle.tree_law.proofs.shape.KeyOrder.{not_below, below_not, upto_same, upto_refl, upto_both, upto_trans}
use Rattle.tree_law.proofs.shape.Puts.{by_equal}
use Rattle.tree_law.proofs.shape.Chains.{chain_unique}
use Rattle.tree_law.proofs.shape.Kept.{Kept}
use Rattle.tree_law.proofs.shape.Sides.{all_pages, part_join, Located, locate, StartsFrom, under_start, begins_after, one_chain, all_in, Rest, Stays}
use Rattle.tree_law.proofs.shape.Sides.{place_kept, part_kept, has_left, has_right, has_other, stays_by, replaced}

-- a level stays where its slots do
pub level_kept : {o o' : Owners} {m m' : Shared} (lv : ℕ) (mp mp' : Key → Option ContentOf) (first : ℕ) → IsClosed o m → Kept o o' m m'
    → ((p : ℕ) (s : Key) (st : Stage) → o.page p ≡ Placed st lv s → rank st ≤ 3 → Rest o o' m m' p lv s st) → ((k : Key) → mp' k ≡ mp k)
    → ((p : ℕ) (s : Key) (st : Stage) → o'.page p ≡ Placed st lv s → rank st ≤ 3 → (st' : Stage) × (o.page p ≡ Placed st' lv s) × (rank st' ≤ 3)) → Level o m lv mp first → Level o' m' lv mp' first
level_kept {o} {o'} {m} {m'} lv mp mp' first closed kept rests same old t =
    record {
      side = t.side;
      whole = part_kept lv mp mp' closed kept t.side (Some first) (Some []) None None
          (all_in o m lv mp (λ f. ⊤) (Stays o' m m' lv mp mp')
          (λ f h u. stays_by o o' m m' lv mp mp' f h (rests f.page (low_in f.chain) h.stage h.placed h.on) (λ k c. same k)) t.side (Some first) (Some [])
          None None t.whole (all_pages (λ f. ⊤) (λ f. tt) t.side))
          t.whole;
      listed = λ p s st e on. let f = old p s st e on in t.listed p s f.0 f.1 f.2;
    }

-- what a level says of the chain of a slot
pub record InLevelAs (o : Owners) (m : Shared) (lv : ℕ) (mp : Key → Option ContentOf) (p x : ℕ) (c : List Record) : Type 0 where
  pub place : InPlace o m lv mp (record { page = p; row = x; chain = c })

pub in_level_as : {o : Owners} {m : Shared} {lv : ℕ} {mp : Key → Option ContentOf} {first : ℕ} → (t : Level o m lv mp first) → (p : ℕ) (s : Key) (st : Stage) → o.page p ≡ Placed st lv s
    → rank st ≤ 3 → (x : ℕ) → m.slots p ≡ Some x → (c : List Record) → IsChain m.rows c (Some x) → InLevelAs o m lv mp p x c
in_level_as {o} {m} {lv} {mp} {first} t p s st e on x i c h =
    let l = locate o m lv mp t.side (Some first) (Some []) None None p t.whole (t.listed p s st e on) in
    let r : l.page.row ≡ x = same_Some l.page.row x (sym l.here.is_page.head ∙ ap m.slots l.is ∙ i) in
    let d : l.page.chain ≡ c = chain_unique m.rows l.page.chain c (Some x) (rw r at l.here.is_page.is_chain) h in
    let q : l.page ≡ record { page = p; row = x; chain = c } = λ i. record { page = l.is i; row = r i; chain = d i } in
    record { place = rw q at l.here }

-- pages in the place of one
level_relinked : {o o' : Owners} {m m' : Shared} (lv : ℕ) (mp mp' : Key → Option ContentOf) (first : ℕ) → IsClosed o m → Kept o o' m m' → (t : Level o m lv mp first)
    → (p : ℕ) (s : Key) (st : Stage) → o.page p ≡ Placed st lv s → rank st ≤ 3 → (x : ℕ) → m.slots p ≡ Some x → (c : List Record) → IsChain m.rows c (Some x)
    → ((q : ℕ) (s : Key) (st : Stage) → q ≢ p → o.page q ≡ Placed st lv s → rank st ≤ 3 → Rest o o' m m' q lv s st)
    → ((k : Key) → (Covers c k → ⊥) → mp' k ≡ mp k)
    → (news : List SidePage) → IsPart o' m' lv mp' news (Some p) (Some (low_in c)) (right_in c) (high_in c) → HasSidePage p news
    → ((q : ℕ) (s : Key) (st : Stage) → o'.page q ≡ Placed st lv s → rank st ≤ 3 → ((st' : Stage) × (o.page q ≡ Placed st' lv s) × (rank st' ≤ 3)) ⊎ HasSidePage q news) → Level o' m' lv mp' first
level_relinked {o} {o'} {m} {m'} lv mp mp' first closed kept t p s st e on x i c h rests outside news new has listed =
    let l = locate o m lv mp t.side (Some first) (Some []) None None p t.whole (t.listed p s st e on) in
    let r : l.page.row ≡ x = same_Some l.page.row x (sym l.here.is_page.head ∙ ap m.slots l.is ∙ i) in
    let d : l.page.chain ≡ c = chain_unique m.rows l.page.chain c (Some x) (rw r at l.here.is_page.is_chain) h in
    record {
      side = l.before ++ (news ++ l.after);
      whole = replaced lv mp mp' closed kept t.side (Some first) (Some []) None None p l
          (λ f h b. rests f.page (low_in f.chain) h.stage (λ i. b.other (i ∙ sym l.is)) h.placed h.on)
          (λ k n. outside k (λ v. n (rw d v)))
          news
          (rw (l.is, d) new);
      listed = λ q s' st' i on'. elim (listed q s' st' i on') [
        | inl u ↦ by_equal q p
            (λ j is. has_right q l.before (news ++ l.after) (has_left q news l.after (rw j has)))
            (λ ne is. has_other q l.before l.page news l.after (λ j. ne (j ∙ l.is)) (rw l.all at (t.listed q s' u.0 u.1 u.2)))
        | inr u ↦ has_right q l.before (news ++ l.after) (has_left q news l.after u)
      ];
    }

pub placed_level : (st st' : Stage) (l l' : ℕ) (s s' : Key) → Placed st l s ≡ Placed st' l' s' → (l ≡ l') × (s ≡ s')
placed_level st st' l l' s s' e = ((let f : l ≡ l' = cc in f), (let f : s ≡ s' = cc in f))

-- the same levels, first pages and root, in another memory
pub with_levels : {o o' : Owners} {m m' : Shared} {log log' : List Update} (t : HasLevels o m log) → m'.root ≡ m.root
    → ((l : ℕ) → l ≤ t.top → Level o' m' l (spec log' o'.index l) (t.first l)) → Exact o'.page o'.index t.top m'.root
    → ((q l : ℕ) (s : Key) → IsOff (o'.page q) l s → IsOut (o'.page q) (m'.slots q) ⊎ Off o' m' q l s) → HasLevels o' m' log'
with_levels t root levels exact off = record { top = t.top; first = t.first; leaf = t.leaf; root = root ∙ t.root; levels = levels; exact = exact; off = off }

-- no more on a side chain, in another memory where the slot is the same and the chain stands
pub off_as : {o o' : Owners} {m m' : Shared} {q l : ℕ} {s : Key} (w : Off o m q l s) → m'.slots q ≡ m.slots q → o'.row w.row ≡ Linked
    → IsChain m'.rows w.chain (Some w.row) → Off o' m' q l s
off_as w slot linked chain = record { row = w.row; chain = w.chain; head = slot ∙ w.head; linked = linked; is_chain = chain; flagged = w.flagged; level = w.level; low = w.low }

-- the tree stays where its slots do
pub tree_kept : {o o' : Owners} {m m' : Shared} (log : List Update) → IsClosed o m → Kept o o' m m'
    → ((p l : ℕ) (s : Key) (st : Stage) → o.page p ≡ Placed st l s → rank st ≤ 3 → Rest o o' m m' p l s st) → m'.root ≡ m.root → o'.index ≡ o.index
    → ((p l : ℕ) (s : Key) (st : Stage) → o'.page p ≡ Placed st l s → rank st ≤ 3 → (st' : Stage) × (o.page p ≡ Placed st' l s) × (rank st' ≤ 3)) → (t : HasLevels o m log)
    → Exact o'.page o'.index t.top m'.root → ((q l : ℕ) (s : Key) → IsOff (o'.page q) l s → IsOut (o'.page q) (m'.slots q) ⊎ Off o' m' q l s) → HasLevels o' m' log
tree_kept {o} {o'} {m} {m'} log closed kept rests root index old t exact off =
    with_levels t root (λ l le. level_kept l (spec log o.index l) (spec log o'.index l) (t.first l) closed kept (λ p s st. rests p l s st)
    (λ k. rw index) (λ p s st. old p l s st) (t.levels l le)) exact off

-- pages in the place of one
pub tree_relinked : {o o' : Owners} {m m' : Shared} (log log' : List Update) → IsClosed o m → Kept o o' m m' → (t : HasLevels o m log) → (p lv : ℕ) (s : Key) (st : Stage)
    → o.page p ≡ Placed st lv s → rank st ≤ 3 → (x : ℕ) → m.slots p ≡ Some x → (c : List Record) → IsChain m.rows c (Some x)
    → ((q l : ℕ) (s : Key) (st : Stage) → q ≢ p → o.page q ≡ Placed st l s → rank st ≤ 3 → Rest o o' m m' q l s st) → m'.root ≡ m.root
    → ((l : ℕ) (k : Key) → (l ≡ lv → Covers c k → ⊥) → spec log' o'.index l k ≡ spec log o.index l k)
    → (news : List SidePage) → IsPart o' m' lv (spec log' o'.index lv) news (Some p) (Some (low_in c)) (right_in c) (high_in c) → HasSidePage p news
    → ((q l : ℕ) (s : Key) (st : Stage) → o'.page q ≡ Placed st l s → rank st ≤ 3 → ((st' : Stage) × (o.page q ≡ Placed st' l s) × (rank st' ≤ 3)) ⊎ ((l ≡ lv) × HasSidePage q news))
    → Exact o'.page o'.index t.top m'.root → ((q l : ℕ) (s : Key) → IsOff (o'.page q) l s → IsOut (o'.page q) (m'.slots q) ⊎ Off o' m' q l s) → HasLevels o' m' log'
tree_relinked {o} {o'} {m} {m'} log log' closed kept t p lv s st e on x i c h rests root outside news new has listed exact off =
    with_levels t root (λ l le. by_equal l lv
    (λ j is. rw j (level_relinked lv (spec log o.index lv) (spec log' o'.index lv) (t.first lv) closed kept (t.levels lv (t.exact.below p lv s st e)) p s
    st e on x i c h (λ q s' st'. rests q lv s' st') (λ k n. outside lv k (λ j. n)) news new has
    (λ q s' st' f on'. elim (listed q lv s' st' f on') [ inl u ↦ inl u | inr u ↦ inr u.1 ])))
    (λ ne is. level_kept l (spec log o.index l) (spec log' o'.index l) (t.first l) closed kept
    (λ q s' st' f. rests q l s' st' (λ j. ne (placed_level st' st l lv s' s (sym f ∙ ap o.page j ∙ e)).0) f)
    (λ k. outside l k (λ j. absurd (ne j)))
    (λ q s' st' f on'. elim (listed q l s' st' f on') [ inl u ↦ u | inr u ↦ absurd (ne u.0) ])
    (t.levels l le))) exact off

-- two pages of a level that have a key in common are one
pub same_page : {o : Owners} {m : Shared} {lv : ℕ} {mp : Key → Option ContentOf} {first : ℕ} → Level o m lv mp first → (g f : SidePage) → InPlace o m lv mp g
    → InPlace o m lv mp f → (k : Key) → Covers g.chain k → Covers f.chain k → g.page ≡ f.page
same_page {o} {m} {lv} {mp} {first} t g f hg hf k cg cf =
    go t.side (Some first) (Some []) t.whole (t.listed g.page (low_in g.chain) hg.stage hg.placed hg.on) (t.listed f.page (low_in f.chain) hf.stage hf.placed hf.on)
  where
    moved : (h e : SidePage) → InPlace o m lv mp h → InPlace o m lv mp e → h.page ≡ e.page → Covers e.chain k → Covers h.chain k
    moved h e ih ie i c = rw (one_chain o m lv mp mp e h ie ih i) c

    later : (h e : SidePage) → InPlace o m lv mp e → Covers h.chain k → Covers e.chain k → (gs : List SidePage) (p : Option ℕ) (low : Option Key)
        → low ≡ high_in h.chain → IsPart o m lv mp gs p low None None → HasSidePage e.page gs → ⊥
    later h e ie ch ce gs p low j part has =
        let l = locate o m lv mp gs p low None None e.page part has in
        let u = from_located l in
        let c : IsUpTo (low_in l.page.chain) k = (moved l.page e l.here ie l.is ce).low in
        absurd (let i = under_start k (low_in l.page.chain) (high_in h.chain) ch.high (rw (← j) u) in not_below k (low_in l.page.chain) i c)
      where
        from_located : (l : Located o m lv mp gs p low None None e.page) → StartsFrom low (low_in l.page.chain)
        from_located l = middle l.before p low l.first
          where
            middle : (bs : List SidePage) (p : Option ℕ) (low : Option Key) → IsPart o m lv mp bs p low (Some l.page.page) (Some (low_in l.page.chain)) → StartsFrom low (low_in l.page.chain)
            middle [] p low h = rw h.1 (upto_refl (low_in l.page.chain))
            middle (b ∷ bs) p low h =
                rw h.1 (let i = under_start (low_in b.chain) (low_in l.page.chain) (high_in b.chain) h.2.is_page.some
                (middle bs (right_in b.chain) (high_in b.chain) h.3) in below_not (low_in b.chain) (low_in l.page.chain) i)

    go : (gs : List SidePage) (p : Option ℕ) (low : Option Key) → IsPart o m lv mp gs p low None None → HasSidePage g.page gs → HasSidePage f.page gs → g.page ≡ f.page
    go [] p low part a b = absurd a
    go (h ∷ gs) p low part (inl a) (inl b) = sym a ∙ b
    go (h ∷ gs) p low part (inl a) (inr b) = absurd (later h f hf (moved h g part.2 hg a cg) cf gs (right_in h.chain) (high_in h.chain) refl part.3 b)
    go (h ∷ gs) p low part (inr a) (inl b) = absurd (later h g hg (moved h f part.2 hf b cf) cg gs (right_in h.chain) (high_in h.chain) refl part.3 a)
    go (h ∷ gs) p low part (inr a) (inr b) = go gs (right_in h.chain) (high_in h.chain) part.3 a b

-- a page of a level with its low beyond another's, and not beyond its end, is its right
pub no_gap : {o : Owners} {m : Shared} {lv : ℕ} {mp : Key → Option ContentOf} {first : ℕ} → Level o m lv mp first → (g : SidePage) → InPlace o m lv mp g → (q : ℕ) (s : Key) (st : Stage)
    → o.page q ≡ Placed st lv s → rank st ≤ 3 → IsBelow (low_in g.chain) s → IsWithinEnd s (high_in g.chain) → (high_in g.chain ≡ Some s) × (right_in g.chain ≡ Some q)
no_gap {o} {m} {lv} {mp} {first} t g hg q s st e on lo hi = go t.side (Some first) (Some []) t.whole (t.listed g.page (low_in g.chain) hg.stage hg.placed hg.on) (t.listed q s st e on)
  where
    low_is : (f : SidePage) → InPlace o m lv mp f → f.page ≡ q → low_in f.chain ≡ s
    low_is f h i = let w : Placed h.stage lv (low_in f.chain) ≡ Placed st lv s = sym h.placed ∙ ap o.page i ∙ e in cc

    chain_is : (f : SidePage) → InPlace o m lv mp f → f.page ≡ g.page → f.chain ≡ g.chain
    chain_is f h i = one_chain o m lv mp mp g f hg h i

    from : (gs : List SidePage) (p : Option ℕ) (low : Option Key) → IsPart o m lv mp gs p low None None → (f : ℕ) → HasSidePage f gs → (k : Key)
        → ((h : SidePage) → InPlace o m lv mp h → h.page ≡ f → low_in h.chain ≡ k) → StartsFrom low k
    from [] p low part f has k is = absurd has
    from (h ∷ gs) p low part f (inl i) k is = rw part.1 (upto_same (low_in h.chain) k (is h part.2 i))
    from (h ∷ gs) p low part f (inr i) k is =
        rw part.1 (let u = under_start (low_in h.chain) k (high_in h.chain) part.2.is_page.some (from gs (right_in h.chain) (high_in h.chain) part.3 f i k is) in below_not (low_in h.chain) k u)

    upto : (b : Option Key) → StartsFrom b s → IsWithinEnd s b → b ≡ Some s
    upto None u v = absurd u
    upto (Some x) u v = ap Some (upto_both x s u v)

    next : (gs : List SidePage) (p : Option ℕ) (low : Option Key) → IsPart o m lv mp gs p low None None → low ≡ Some s → HasSidePage q gs → p ≡ Some q
    next [] p low part i has = absurd has
    next (h ∷ gs) p low part i (inl j) = part.0 ∙ ap Some j
    next (h ∷ gs) p low part i (inr j) =
        absurd (let u = under_start (low_in h.chain) s (high_in h.chain) part.2.is_page.some (from gs (right_in h.chain) (high_in h.chain) part.3 q j s low_is)
        in not_below (low_in h.chain) s u (upto_same s (low_in h.chain) (sym (same_Some (low_in h.chain) s (sym part.1 ∙ i)))))

    go : (gs : List SidePage) (p : Option ℕ) (low : Option Key) → IsPart o m lv mp gs p low None None → HasSidePage g.page gs → HasSidePage q gs
        → (high_in g.chain ≡ Some s) × (right_in g.chain ≡ Some q)
    go [] p low part a b = absurd a
    go (h ∷ gs) p low part (inl a) (inl b) = absurd (not_below (low_in g.chain) s lo (upto_same s (low_in g.chain) (sym (low_is h part.2 b) ∙ ap low_in (chain_is h part.2 a))))
    go (h ∷ gs) p low part (inl a) (inr b) =
        let r : IsPart o m lv mp gs (right_in g.chain) (high_in g.chain) None None = rw (chain_is h part.2 a) at part.3 in
        let i = upto (high_in g.chain) (from gs (right_in g.chain) (high_in g.chain) r q b s low_is) hi in
        (i, next gs (right_in g.chain) (high_in g.chain) r i b)
    go (h ∷ gs) p low part (inr a) (inl b) = absurd (
        let u = under_start (low_in h.chain) (low_in g.chain) (high_in h.chain) part.2.is_page.some
        (from gs (right_in h.chain) (high_in h.chain) part.3 g.page a (low_in g.chain) (λ f ih i. ap low_in (chain_is f ih i))) in
        not_below (low_in g.chain) s lo (upto_trans s (low_in h.chain) (low_in g.chain) (upto_same s (low_in h.chain) (sym (low_is h part.2 b))) (below_not (low_in h.chain) (low_in g.chain) u)))
    go (h ∷ gs) p low part (inr a) (inr b) = go gs (right_in h.chain) (high_in h.chain) part.3 a b

-- the page right of a page
pub right_page : {o : Owners} {m : Shared} {lv : ℕ} {mp : Key → Option ContentOf} {first : ℕ} → Level o m lv mp first → (g : SidePage) → InPlace o m lv mp g → (q : ℕ)
    → right_in g.chain ≡ Some q → (f : SidePage) × (f.page ≡ q) × (high_in g.chain ≡ Some (low_in f.chain)) × InPlace o m lv mp f
right_page {o} {m} {lv} {mp} {first} t g hg q r = go t.side (Some first) (Some []) t.whole (t.listed g.page (low_in g.chain) hg.stage hg.placed hg.on)
  where
    next : (gs : List SidePage) → IsPart o m lv mp gs (right_in g.chain) (high_in g.chain) None None → (f : SidePage) × (f.page ≡ q) × (high_in g.chain ≡ Some (low_in f.chain)) × InPlace o m lv mp f
    next [] part = absurd (cc part.0)
    next (k ∷ gs) part = (k, same_Some k.page q (sym part.0 ∙ r), part.1, part.2)

    go : (gs : List SidePage) (p : Option ℕ) (low : Option Key) → IsPart o m lv mp gs p low None None → HasSidePage g.page gs
        → (f : SidePage) × (f.page ≡ q) × (high_in g.chain ≡ Some (low_in f.chain)) × InPlace o m lv mp f
    go [] p low part a = absurd a
    go (h ∷ gs) p low part (inl a) = next gs (rw (one_chain o m lv mp mp g h hg part.2 a) at part.3)
    go (h ∷ gs) p low part (inr a) = go gs (right_in h.chain) (high_in h.chain) part.3 a

-- one page in the place of two
level_merged : {o o' : Owners} {m m' : Shared} (lv : ℕ) (mp mp' : Key → Option ContentOf) (first : ℕ) → IsClosed o m → Kept o o' m m' → (t : Level o m lv mp first)
    → (p : ℕ) (sp : Key) (q : ℕ) (sq : Key) (st st2 : Stage) → o.page p ≡ Placed st lv sp → rank st ≤ 3 → o.page q ≡ Placed st2 lv sq → IsBelow sp sq
    → ((r : ℕ) (s : Key) (st : Stage) → r ≢ p → r ≢ q → o.page r ≡ Placed st lv s → rank st ≤ 3 → Rest o o' m m' r lv s st) → ((k : Key) → mp' k ≡ mp k)
    → (new : SidePage) → new.page ≡ p
    → ((g k : SidePage) → InPlace o m lv mp g → g.page ≡ p → InPlace o m lv mp k → right_in g.chain ≡ Some k.page → (k.page ≡ q) × IsPart o' m' lv mp'
    (new ∷ []) (Some p) (Some sp) (right_in k.chain) (high_in k.chain))
    → ((g : SidePage) → InPlace o m lv mp g → g.page ≡ p → right_in g.chain ≡ Some q)
    → ((r : ℕ) (s : Key) (st : Stage) → o'.page r ≡ Placed st lv s → rank st ≤ 3 → (r ≢ q) × ((st' : Stage) × (o.page r ≡ Placed st' lv s) × (rank st' ≤ 3))) → Level o' m' lv mp' first
level_merged {o} {o'} {m} {m'} lv mp mp' first closed kept t p sp q sq st st2 ep on eq lt rests same new is pair right old =
    let r = go t.side (Some first) (Some []) t.whole (t.listed p sp st ep on) in
    record { side = r.0; whole = r.1; listed = λ z s' st' e i. let f = old z s' st' e i in r.2 z f.0 (t.listed z s' f.1.0 f.1.1 f.1.2) }
  where
    low_at : (r : ℕ) (s : Key) (st' : Stage) → o.page r ≡ Placed st' lv s → (f : SidePage) → InPlace o m lv mp f → f.page ≡ r → low_in f.chain ≡ s
    low_at r s st' e f h i = let w : Placed h.stage lv (low_in f.chain) ≡ Placed st' lv s = sym h.placed ∙ ap o.page i ∙ e in cc

    from : (gs : List SidePage) (b : Option ℕ) (low : Option Key) → IsPart o m lv mp gs b low None None → HasSidePage p gs → StartsFrom low sp
    from [] b low part has = absurd has
    from (h ∷ gs) b low part (inl i) = rw part.1 (upto_same (low_in h.chain) sp (low_at p sp st ep h part.2 i))
    from (h ∷ gs) b low part (inr i) =
        rw part.1 (let u = under_start (low_in h.chain) sp (high_in h.chain) part.2.is_page.some (from gs (right_in h.chain) (high_in h.chain) part.3 i) in below_not (low_in h.chain) sp u)

    stays : (f : SidePage) → InPlace o m lv mp f → f.page ≢ p → f.page ≢ q → Stays o' m m' lv mp mp' f
    stays f h np nq = stays_by o o' m m' lv mp mp' f h (rests f.page (low_in f.chain) h.stage np nq h.placed h.on) (λ k c. same k)

    tail : (k : SidePage) → InPlace o m lv mp k → k.page ≡ q → (gs : List SidePage) → IsPart o m lv mp gs (right_in k.chain) (high_in k.chain) None None
        → IsPart o' m' lv mp' gs (right_in k.chain) (high_in k.chain) None None
    tail k hk i gs part = part_kept lv mp mp' closed kept gs (right_in k.chain) (high_in k.chain) None None
        (all_in o m lv mp (λ f. StartsFrom (high_in k.chain) (low_in f.chain)) (Stays o' m m' lv mp mp')
        (λ f h u. let v = under_start (low_in k.chain) (low_in f.chain) (high_in k.chain) hk.is_page.some u in let w = low_at q sq st2 eq k hk i in
        stays f h (λ j. not_below (low_in k.chain) (low_in f.chain) v (upto_trans (low_in f.chain) sp (low_in k.chain)
        (upto_same (low_in f.chain) sp (low_at p sp st ep f h j))
        (upto_trans sp sq (low_in k.chain) (below_not sp sq lt) (upto_same sq (low_in k.chain) (sym w)))))
        (λ j. not_below (low_in k.chain) (low_in f.chain) v (upto_same (low_in f.chain) (low_in k.chain) (low_at q sq st2 eq f h j ∙ sym w))))
        gs (right_in k.chain) (high_in k.chain) None None part (begins_after o m lv mp gs (right_in k.chain) (high_in k.chain) None None part)) part

    merge : (h : SidePage) → InPlace o m lv mp h → h.page ≡ p → (gs : List SidePage) → IsPart o m lv mp gs (right_in h.chain) (high_in h.chain) None None
        → (gs' : List SidePage) × IsPart o' m' lv mp' gs' (Some h.page) (Some (low_in h.chain)) None None × ((r : ℕ) → r ≢ q → HasSidePage r (h ∷ gs) → HasSidePage r gs')
    merge h hh i [] part = absurd (cc (right h hh i, part.0))
    merge h hh i (k ∷ gs) part =
        let f = pair h k hh i part.2 part.0 in (
          new ∷ gs,
          rw (i, low_at p sp st ep h hh i) (part_join o' m' lv mp' (new ∷ []) gs (Some p) (Some sp) (right_in k.chain) (high_in k.chain) None None f.1 (tail k part.2 f.0 gs part.3)),
          λ r ne has. has_in r ne f.0 has,
        )
      where
        has_in : (r : ℕ) → r ≢ q → k.page ≡ q → HasSidePage r (h ∷ k ∷ gs) → HasSidePage r (new ∷ gs)
        has_in r ne j (inl e) = inl (is ∙ sym i ∙ e)
        has_in r ne j (inr (inl e)) = absurd (ne (sym e ∙ j))
        has_in r ne j (inr (inr e)) = inr e

    go : (gs : List SidePage) (b : Option ℕ) (low : Option Key) → IsPart o m lv mp gs b low None None → HasSidePage p gs
        → (gs' : List SidePage) × IsPart o' m' lv mp' gs' b low None None × ((r : ℕ) → r ≢ q → HasSidePage r gs → HasSidePage r gs')
    go [] b low part has = absurd has
    go (h ∷ gs) b low part (inl i) = let r = merge h part.2 i gs part.3 in (r.0, rw (part.0, part.1) r.1, r.2)
    go (h ∷ gs) b low part (inr i) =
        let u = under_start (low_in h.chain) sp (high_in h.chain) part.2.is_page.some (from gs (right_in h.chain) (high_in h.chain) part.3 i) in
        let r = go gs (right_in h.chain) (high_in h.chain) part.3 i in
        let s = stays h part.2 (λ j. not_below (low_in h.chain) sp u (upto_same sp (low_in h.chain) (sym (low_at p sp st ep h part.2 j))))
        (λ j. not_below (low_in h.chain) sp u (upto_trans sp sq (low_in h.chain) (below_not sp sq lt) (upto_same sq (low_in h.chain) (sym (low_at q sq st2 eq h part.2 j))))) in
        (h ∷ r.0, (part.0, part.1, place_kept lv mp mp' closed kept h s part.2, r.1), λ z ne has. more z ne r.0 r.2 has)
      where
        more : (z : ℕ) → z ≢ q → (gs' : List SidePage) → ((r : ℕ) → r ≢ q → HasSidePage r gs → HasSidePage r gs') → HasSidePage z (h ∷ gs) → HasSidePage z (h ∷ gs')
        more z ne gs' f (inl e) = inl e
        more z ne gs' f (inr e) = inr (f z ne e)

pub tree_merged : {o o' : Owners} {m m' : Shared} (log : List Update) → IsClosed o m → Kept o o' m m' → (t : HasLevels o m log) → (p lv : ℕ) (sp : Key) (q : ℕ) (sq : Key) (st st2 : Stage)
    → o.page p ≡ Placed st lv sp → rank st ≤ 3 → o.page q ≡ Placed st2 lv sq → IsBelow sp sq
    → ((r l : ℕ) (s : Key) (st : Stage) → r ≢ p → r ≢ q → o.page r ≡ Placed st l s → rank st ≤ 3 → Rest o o' m m' r l s st) → m'.root ≡ m.root → o'.index ≡ o.index
    → (new : SidePage) → new.page ≡ p
    → ((g k : SidePage) → InPlace o m lv (spec log o.index lv) g → g.page ≡ p → InPlace o m lv (spec log o.index lv) k → right_in g.chain ≡ Some k.page →
    (k.page ≡ q) × IsPart o' m' lv (spec log o'.index lv) (new ∷ []) (Some p) (Some sp) (right_in k.chain) (high_in k.chain))
    → ((g : SidePage) → InPlace o m lv (spec log o.index lv) g → g.page ≡ p → right_in g.chain ≡ Some q)
    → ((r l : ℕ) (s : Key) (st : Stage) → o'.page r ≡ Placed st l s → rank st ≤ 3 → (r ≢ q) × ((st' : Stage) × (o.page r ≡ Placed st' l s) × (rank st' ≤ 3)))
    → Exact o'.page o'.index t.top m'.root → ((q l : ℕ) (s : Key) → IsOff (o'.page q) l s → IsOut (o'.page q) (m'.slots q) ⊎ Off o' m' q l s) → HasLevels o' m' log
tree_merged {o} {o'} {m} {m'} log closed kept t p lv sp q sq st st2 ep on eq lt rests root index new is pair right old exact off =
    with_levels t root (λ l le. by_equal l lv
    (λ j says. rw j (level_merged lv (spec log o.index lv) (spec log o'.index lv) (t.first lv) closed kept (t.levels lv (t.exact.below p lv sp st ep)) p
    sp q sq st st2 ep on eq lt (λ r s. rests r lv s) (λ k. rw index) new is pair right
    (λ r s. old r lv s)))
    (λ ne says. level_kept l (spec log o.index l) (spec log o'.index l) (t.first l) closed kept
    (λ r s' st' f. rests r l s' st' (λ j. ne (placed_level st' st l lv s' sp (sym f ∙ ap o.page j ∙ ep)).0) (λ j. ne (placed_level st' st2 l lv s' sq (sym f ∙ ap o.page j ∙ eq)).0) f)
    (λ k. rw index)
    (λ r s' st' f i. (old r l s' st' f i).1)
    (t.levels l le))) exact off
