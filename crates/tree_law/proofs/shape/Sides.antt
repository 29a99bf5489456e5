-- Parts of the side chain: joining, finding a page, what is outside a page, putting others in its place.
use Rattle.tree_law.proofs.Words.{ap, refl, Option, None, List, inl, ◌≢◌, ◌++◌, ◌≤◌, inr, ◌∷◌, subst, sym, ℕ, ◌≡◌, ◌∙◌, Some, same_Some, ⊤, ContentOf, right_in}
use Rattle.tree_law.proofs.Words.{low_in, is_removed, high_in, Key, IsBelow, IsUpTo, Covers, IsUnder, Owners, IsClosed, Placed, rank, Stage, stage_removed, Shared, HasSidePage}
use Rattle.tree_law.proofs.Words.{SidePage, InPlace, IsPart, []}
use Rattle.tree_law.proofs.shape.KeyOrder.{not_below, below_not, below_upto, upto_same, upto_refl}
use Rattle.tree_law.proofs.shape.Chains.{chain_unique}
use Rattle.tree_law.proofs.shape.Kept.{Kept, chain_kept}

abbrev pub AllPages : (SidePage → Type 0) → List SidePage → Type 0
AllPages P [] = ⊤
AllPages P (g ∷ gs) = P g × AllPages P gs

pub all_pages : (P : SidePage → Type 0) → ((g : SidePage) → P g) → (gs : List SidePage) → AllPages P gs
all_pages P h [] = tt
all_pages P h (g ∷ gs) = (h g, all_pages P h gs)

pub all_map : (P Q : SidePage → Type 0) → ((g : SidePage) → P g → Q g) → (gs : List SidePage) → AllPages P gs → AllPages Q gs
all_map P Q f [] h = tt
all_map P Q f (g ∷ gs) h = (f g h.0, all_map P Q f gs h.1)

pub part_join : (o : Owners) (m : Shared) (lv : ℕ) (mp : Key → Option ContentOf) (xs ys : List SidePage) (p : Option ℕ) (low : Option Key) (q : Option ℕ)
    (high : Option Key) (r : Option ℕ) (top : Option Key)
    → IsPart o m lv mp xs p low q high → IsPart o m lv mp ys q high r top → IsPart o m lv mp (xs ++ ys) p low r top
part_join o m lv mp [] ys p low q high r top h g = rw (h.0, h.1) g
part_join o m lv mp (x ∷ xs) ys p low q high r top h g = (h.0, h.1, h.2, part_join o m lv mp xs ys (right_in x.chain) (high_in x.chain) q high r top h.3 g)

-- a page of a part, with what is before and after it
pub record Located (o : Owners) (m : Shared) (lv : ℕ) (mp : Key → Option ContentOf) (gs : List SidePage) (p : Option ℕ) (low : Option Key) (q : Option ℕ) (high : Option Key) (at : ℕ) : Type 0 where
  pub before : List SidePage
  pub page : SidePage
  pub after : List SidePage
  pub is : page.page ≡ at
  pub all : gs ≡ before ++ page ∷ after
  pub first : IsPart o m lv mp before p low (Some page.page) (Some (low_in page.chain))
  pub here : InPlace o m lv mp page
  pub rest : IsPart o m lv mp after (right_in page.chain) (high_in page.chain) q high

pub locate : (o : Owners) (m : Shared) (lv : ℕ) (mp : Key → Option ContentOf) (gs : List SidePage) (p : Option ℕ) (low : Option Key) (q : Option ℕ) (high : Option Key) (at : ℕ)
    → IsPart o m lv mp gs p low q high → HasSidePage at gs → Located o m lv mp gs p low q high at
locate o m lv mp [] p low q high at h has = absurd has
locate o m lv mp (g ∷ gs) p low q high at h (inl e) = record { before = []; page = g; after = gs; is = e; all = refl; first = (h.0, h.1); here = h.2; rest = h.3 }
locate o m lv mp (g ∷ gs) p low q high at h (inr e) =
    let l = locate o m lv mp gs (right_in g.chain) (high_in g.chain) q high at h.3 e in
    record { before = g ∷ l.before; page = l.page; after = l.after; is = l.is; all = rw l.all; first = (h.0, h.1, h.2, l.first); here = l.here; rest = l.rest }

-- a bound from which a key is
abbrev pub StartsFrom : Option Key → Key → Type 0
StartsFrom None x = ⊥
StartsFrom (Some l) x = IsUpTo l x

pub under_start : (l x : Key) (b : Option Key) → IsUnder l b → StartsFrom b x → IsBelow l x
under_start l x None i u = absurd u
under_start l x (Some y) i u = below_upto l y x i u

ends_itself : (b : Option Key) (h : Key) → b ≡ Some h → StartsFrom b h
ends_itself None h e = absurd (cc)
ends_itself (Some x) h e = upto_same x h (same_Some x h e)

-- the pages of a part end at or below its end
ends_before : (o : Owners) (m : Shared) (lv : ℕ) (mp : Key → Option ContentOf) (gs : List SidePage) (p : Option ℕ) (low : Option Key) (q : Option ℕ) (h : Key)
    → IsPart o m lv mp gs p low q (Some h) → StartsFrom low h × AllPages (λ g. StartsFrom (high_in g.chain) h) gs
ends_before o m lv mp [] p low q h part = (ends_itself low h part.1, tt)
ends_before o m lv mp (g ∷ gs) p low q h part =
    let r = ends_before o m lv mp gs (right_in g.chain) (high_in g.chain) q h part.3 in
    (rw part.1 (below_not (low_in g.chain) h (under_start (low_in g.chain) h (high_in g.chain) part.2.is_page.some r.0)), (r.0, r.1))

-- and begin at or above its beginning
pub begins_after : (o : Owners) (m : Shared) (lv : ℕ) (mp : Key → Option ContentOf) (gs : List SidePage) (p : Option ℕ) (low : Option Key) (q : Option ℕ) (high : Option Key)
    → IsPart o m lv mp gs p low q high → AllPages (λ g. StartsFrom low (low_in g.chain)) gs
begins_after o m lv mp [] p low q high part = tt
begins_after o m lv mp (g ∷ gs) p low q high part =
    let r = begins_after o m lv mp gs (right_in g.chain) (high_in g.chain) q high part.3 in
    let i : IsUpTo (low_in g.chain) (low_in g.chain) = upto_refl (low_in g.chain) in
    subst (λ (b : Option Key). AllPages (λ f. StartsFrom b (low_in f.chain)) (g ∷ gs)) (sym part.1) (
      i,
      all_map (λ f. StartsFrom (high_in g.chain) (low_in f.chain)) (λ f. IsUpTo (low_in g.chain) (low_in f.chain))
          (λ f h. below_not (low_in g.chain) (low_in f.chain) (under_start (low_in g.chain) (low_in f.chain) (high_in g.chain) part.2.is_page.some h)) gs r,
    )

-- a page beside another: another page, and no key in common
pub record Beside (g f : SidePage) : Type 0 where
  pub other : f.page ≢ g.page
  pub apart : (k : Key) → Covers f.chain k → Covers g.chain k → ⊥

-- one page has one chain
pub one_chain : (o : Owners) (m : Shared) (lv : ℕ) (mp mp' : Key → Option ContentOf) (g f : SidePage) → InPlace o m lv mp g → InPlace o m lv mp' f → f.page ≡ g.page → f.chain ≡ g.chain
one_chain o m lv mp mp' g f hg hf e =
    let i : f.row ≡ g.row = same_Some f.row g.row (sym hf.is_page.head ∙ ap m.slots e ∙ hg.is_page.head) in
    chain_unique m.rows f.chain g.chain (Some g.row) (rw i at hf.is_page.is_chain) hg.is_page.is_chain

beside_before : (o : Owners) (m : Shared) (lv : ℕ) (mp : Key → Option ContentOf) (g f : SidePage) → InPlace o m lv mp g → InPlace o m lv mp f
    → StartsFrom (high_in f.chain) (low_in g.chain) → Beside g f
beside_before o m lv mp g f hg hf u =
    record {
      other =
          λ e. let c = one_chain o m lv mp mp g f hg hf e in let l = under_start (low_in f.chain) (low_in g.chain) (high_in f.chain) hf.is_page.some u in
          not_below (low_in f.chain) (low_in g.chain) l (upto_same (low_in g.chain) (low_in f.chain) (sym (ap low_in c)));
      apart = λ k cf cg. let l = under_start k (low_in g.chain) (high_in f.chain) cf.high u in not_below k (low_in g.chain) l cg.low;
    }

pub beside_after : (o : Owners) (m : Shared) (lv : ℕ) (mp : Key → Option ContentOf) (g f : SidePage) → InPlace o m lv mp g → InPlace o m lv mp f
    → StartsFrom (high_in g.chain) (low_in f.chain) → Beside g f
beside_after o m lv mp g f hg hf u =
    record {
      other =
          λ e. let c = one_chain o m lv mp mp g f hg hf e in let l = under_start (low_in g.chain) (low_in f.chain) (high_in g.chain) hg.is_page.some u in
          not_below (low_in g.chain) (low_in f.chain) l (upto_same (low_in f.chain) (low_in g.chain) (ap low_in c));
      apart = λ k cf cg. let l = under_start k (low_in f.chain) (high_in g.chain) cg.high u in not_below k (low_in f.chain) l cf.low;
    }

-- with what is so of each page of a part
pub all_in : (o : Owners) (m : Shared) (lv : ℕ) (mp : Key → Option ContentOf) (P Q : SidePage → Type 0) → ((g : SidePage) → InPlace o m lv mp g → P g → Q g)
    → (gs : List SidePage) (p : Option ℕ) (low : Option Key) (q : Option ℕ) (high : Option Key) → IsPart o m lv mp gs p low q high → AllPages P gs → AllPages Q gs
all_in o m lv mp P Q f [] p low q high part h = tt
all_in o m lv mp P Q f (g ∷ gs) p low q high part h = (f g part.2 h.0, all_in o m lv mp P Q f gs (right_in g.chain) (high_in g.chain) q high part.3 h.1)

-- a page that is on its side chain rests there
abbrev pub Rest : Owners → Owners → Shared → Shared → ℕ → ℕ → Key → Stage → Type 0
Rest o o' m m' q l s st = (m'.slots q ≡ m.slots q) × ((st' : Stage) × (o'.page q ≡ Placed st' l s) × (rank st' ≤ 3) × (stage_removed st ≡ stage_removed st'))

-- what a page of the tree is to keep
pub record Stays (o' : Owners) (m m' : Shared) (lv : ℕ) (mp mp' : Key → Option ContentOf) (g : SidePage) : Type 0 where
  pub slot : m'.slots g.page ≡ m.slots g.page
  pub values : (k : Key) → Covers g.chain k → mp' k ≡ mp k
  pub on : (st : Stage) × (o'.page g.page ≡ Placed st lv (low_in g.chain)) × (rank st ≤ 3) × (is_removed g.chain ≡ stage_removed st)

pub place_kept : {o o' : Owners} {m m' : Shared} (lv : ℕ) (mp mp' : Key → Option ContentOf) → IsClosed o m → Kept o o' m m' → (g : SidePage)
    → Stays o' m m' lv mp mp' g → InPlace o m lv mp g → InPlace o' m' lv mp' g
place_kept {o} {o'} {m} {m'} lv mp mp' closed kept g s h =
    record {
      stage = s.on.0;
      placed = s.on.1;
      on = s.on.2;
      flagged = s.on.3;
      linked = (kept.row g.row h.linked).0;
      is_page = record {
        head = s.slot ∙ h.is_page.head;
        on_level = h.is_page.on_level;
        is_chain = chain_kept closed kept g.chain (Some g.row) h.linked h.is_page.is_chain;
        some = h.is_page.some;
        same = λ k c. h.is_page.same k c ∙ sym (s.values k c);
      };
    }

pub part_kept : {o o' : Owners} {m m' : Shared} (lv : ℕ) (mp mp' : Key → Option ContentOf) → IsClosed o m → Kept o o' m m'
    → (gs : List SidePage) (p : Option ℕ) (low : Option Key) (q : Option ℕ) (high : Option Key) → AllPages (Stays o' m m' lv mp mp') gs → IsPart o m lv mp gs p low q high
    → IsPart o' m' lv mp' gs p low q high
part_kept {o} {o'} {m} {m'} lv mp mp' closed kept [] p low q high s h = h
part_kept {o} {o'} {m} {m'} lv mp mp' closed kept (g ∷ gs) p low q high s h =
    (h.0, h.1, place_kept lv mp mp' closed kept g s.0 h.2, part_kept lv mp mp' closed kept gs (right_in g.chain) (high_in g.chain) q high s.1 h.3)

pub has_left : (p : ℕ) (xs ys : List SidePage) → HasSidePage p xs → HasSidePage p (xs ++ ys)
has_left p [] ys h = absurd h
has_left p (x ∷ xs) ys (inl e) = inl e
has_left p (x ∷ xs) ys (inr e) = inr (has_left p xs ys e)

pub has_right : (p : ℕ) (xs ys : List SidePage) → HasSidePage p ys → HasSidePage p (xs ++ ys)
has_right p [] ys h = h
has_right p (x ∷ xs) ys h = inr (has_right p xs ys h)

-- other pages are still listed where pages stand in one's place
pub has_other : (p : ℕ) (before : List SidePage) (g : SidePage) (news after : List SidePage) → p ≢ g.page → HasSidePage p (before ++ g ∷ after) → HasSidePage p (before ++ (news ++ after))
has_other p [] g news after ne (inl e) = absurd (ne (sym e))
has_other p [] g news after ne (inr e) = has_right p news after e
has_other p (b ∷ before) g news after ne (inl e) = inl e
has_other p (b ∷ before) g news after ne (inr e) = inr (has_other p before g news after ne e)

pub stays_by : (o o' : Owners) (m m' : Shared) (lv : ℕ) (mp mp' : Key → Option ContentOf) (f : SidePage) → (h : InPlace o m lv mp f)
    → Rest o o' m m' f.page lv (low_in f.chain) h.stage → ((k : Key) → Covers f.chain k → mp' k ≡ mp k) → Stays o' m m' lv mp mp' f
stays_by o o' m m' lv mp mp' f h r v = record { slot = r.0; values = v; on = (r.1.0, r.1.1, r.1.2, h.flagged ∙ r.1.3) }

-- pages in the place of one, on the same keys
pub replaced : {o o' : Owners} {m m' : Shared} (lv : ℕ) (mp mp' : Key → Option ContentOf) → IsClosed o m → Kept o o' m m'
    → (gs : List SidePage) (p : Option ℕ) (low : Option Key) (q : Option ℕ) (high : Option Key) (at : ℕ) (l : Located o m lv mp gs p low q high at)
    → ((f : SidePage) → (h : InPlace o m lv mp f) → Beside l.page f → Rest o o' m m' f.page lv (low_in f.chain) h.stage)
    → ((k : Key) → (Covers l.page.chain k → ⊥) → mp' k ≡ mp k)
    → (news : List SidePage) → IsPart o' m' lv mp' news (Some l.page.page) (Some (low_in l.page.chain)) (right_in l.page.chain) (high_in l.page.chain)
    → IsPart o' m' lv mp' (l.before ++ (news ++ l.after)) p low q high
replaced {o} {o'} {m} {m'} lv mp mp' closed kept gs p low q high at l rests logs news new =
    let g = l.page in
    let stays = λ (f : SidePage) (h : InPlace o m lv mp f) (b : Beside g f). (let r : Stays o' m m' lv mp mp' f = stays_by o o' m m' lv mp mp' f h (rests f h b) (λ k c. logs k (b.apart k c)) in r) in
    let first = all_in o m lv mp (λ f. StartsFrom (high_in f.chain) (low_in g.chain)) (Stays o' m m' lv mp mp')
    (λ f h u. stays f h (beside_before o m lv mp g f l.here h u)) l.before p low (Some g.page) (Some (low_in g.chain)) l.first
    (ends_before o m lv mp l.before p low (Some g.page) (low_in g.chain) l.first).1 in
    let rest = all_in o m lv mp (λ f. StartsFrom (high_in g.chain) (low_in f.chain)) (Stays o' m m' lv mp mp')
    (λ f h u. stays f h (beside_after o m lv mp g f l.here h u)) l.after (right_in g.chain) (high_in g.chain) q high l.rest
    (begins_after o m lv mp l.after (right_in g.chain) (high_in g.chain) q high l.rest) in
    part_join o' m' lv mp' l.before (news ++ l.after) p low (Some g.page) (Some (low_in g.chain)) q high
    (part_kept lv mp mp' closed kept l.before p low (Some g.page) (Some (low_in g.chain)) first l.first)
    (part_join o' m' lv mp' news l.after (Some g.page) (Some (low_in g.chain)) (right_in g.chain) (high_in g.chain) q high new
    (part_kept lv mp mp' closed kept l.after (right_in g.chain) (high_in g.chain) q high rest l.rest))
