-- What a step makes of its actor's limbos.
use Rattle.tree_law.proofs.Words.{false, ◌⊎◌, ap, refl, cond, Option, suc, None, List, true, inl, inr, ◌∷◌, sym, ℕ, ◌≡◌, Bool, zero, ◌∙◌, arith, Some, same_Some, Contains, MatchOption, unwrap_or}
use Rattle.tree_law.proofs.Words.{is_among, Answer, Whether, Content, Number, StepOf, ReuseRows, ReusePids, Slot, Epoch, Exchange, Announce, next_row, Record}
use Rattle.tree_law.proofs.Words.{chain_rows, IsChainFrom, Knowledge, learn, Other, Gone, after_exchange, Unstamped, is_on_walk, LimboMark, Absent, passed_by}
use Rattle.tree_law.proofs.Words.{with_stamp, taken_out, next_seen, Limbos, []}
use Rattle.tree_law.proofs.shape.Puts.{by_equal, decided}
use Rattle.tree_law.proofs.links.Exchanged.{exchanging, clears, rebuilds}

-- What becomes of an item of a limbo; Out: why it is there now.
pub data LimboCase (s : StepOf Record) (x : Answer Record) (old new : LimboMark) (Out Freed : Type 0) : Type 0 where
  as_it_was : new ≡ old → LimboCase s x old new Out Freed
  is_stamped : (epoch : ℕ) → s ≡ Epoch → x ≡ Number epoch → new ≡ with_stamp epoch old → LimboCase s x old new Out Freed
  is_passed : (c value : ℕ) → s ≡ Announce c → x ≡ Number value → new ≡ passed_by c value old → LimboCase s x old new Out Freed
  is_out : new ≡ Unstamped → Out → LimboCase s x old new Out Freed
  is_freed : new ≡ Absent → Freed → LimboCase s x old new Out Freed

-- a row is taken out with the chain that a base is linked in the place of, or with a page
pub record RowOut (k : Knowledge) (s : StepOf Record) (x : Answer Record) (row : ℕ) : Type 0 where
  pub page : ℕ
  pub old : ℕ
  pub new : ℕ
  pub step : s ≡ Exchange (suc page) old new
  pub won : x ≡ Whether true
  pub walk : is_on_walk 13 k.read.seen (Some old) row ≡ true
  pub whose : ((k.own.pages (suc page) ≡ Gone) × (new ≡ 0)) ⊎ ((k.own.pages (suc page) ≡ Other) × ((y : ℕ) × (new ≡ suc y)))

pub record PageOut (k : Knowledge) (s : StepOf Record) (x : Answer Record) (page : ℕ) : Type 0 where
  pub at : ℕ
  pub old : ℕ
  pub is : page ≡ suc at
  pub step : s ≡ Exchange (suc at) old 0
  pub won : x ≡ Whether true
  pub gone : k.own.pages (suc at) ≡ Gone

abbrev pub FreesRows : StepOf Record → Type 0
FreesRows s = (word bits : ℕ) × (s ≡ ReuseRows word bits)

abbrev pub FreesPids : StepOf Record → Type 0
FreesPids s = (word bits : ℕ) × (s ≡ ReusePids word bits)

-- of pages, or else of rows: those in the limbo, why one is there now, and what frees some
abbrev pub items : Bool → Limbos → ℕ → LimboMark
items true limbo = limbo.pids
items false limbo = limbo.rows

abbrev pub ItemOut : Bool → Knowledge → StepOf Record → Answer Record → ℕ → Type 0
ItemOut true k s x item = PageOut k s x item
ItemOut false k s x item = RowOut k s x item

abbrev pub Frees : Bool → StepOf Record → Type 0
Frees true s = FreesPids s
Frees false s = FreesRows s

walked : (k : Knowledge) (s : StepOf Record) (x : Answer Record) (row old : ℕ) → (is_on_walk 13 k.read.seen (Some old) row ≡ true → RowOut k s x row)
    → LimboCase s x (k.limbo.rows row) (taken_out k.read.seen old k.limbo.rows row) (RowOut k s x row) (FreesRows (s))
walked k s x row old f = elim (decided (is_on_walk 13 k.read.seen (Some old) row)) [ inl e ↦ is_out (rw e) (f e) | inr e ↦ as_it_was (rw e) ]

module _ (k : Knowledge) where
  won_rows : (p x y row : ℕ)
      → LimboCase (Exchange p x y) (Whether true) (k.limbo.rows row) ((after_exchange p x y k).limbo.rows row) (RowOut k (Exchange p x y) (Whether true) row) (FreesRows (Exchange p x y))
  won_rows p x y row = elim (exchanging p x y k) as
      (λ p x y k' v. LimboCase (Exchange p x y) (Whether true) (k.limbo.rows row) (k'.limbo.rows row) (RowOut k (Exchange p x y) (Whether true) row) (FreesRows (Exchange p x y))) [
        | clears p x e ↦ walked k (Exchange (suc p) x 0) (Whether true) row x (λ i. record { page = p; old = x; new = 0; step = refl; won = refl; walk = i; whose = inl (e, refl) })
        | rebuilds p x y w o e ↦ walked k (Exchange (suc p) x (suc y)) (Whether true) row x
            (λ i. record { page = p; old = x; new = suc y; step = refl; won = refl; walk = i; whose = inr (o, (y, refl)) })
        | v ↦ as_it_was refl
      ]

  won_pids : (p x y q : ℕ) → LimboCase (Exchange p x y) (Whether true) (k.limbo.pids q) ((after_exchange p x y k).limbo.pids q)
      (PageOut k (Exchange p x y) (Whether true) q) (FreesPids (Exchange p x y))
  won_pids p x y q = elim (exchanging p x y k) as
      (λ p x y k' v. LimboCase (Exchange p x y) (Whether true) (k.limbo.pids q) (k'.limbo.pids q) (PageOut k (Exchange p x y) (Whether true) q) (FreesPids (Exchange p x y))) [
        | clears p x e ↦ by_equal q (suc p)
            (λ i t. rw t (is_out refl (record { at = p; old = x; is = i; step = refl; won = refl; gone = e }))) (λ ne t. rw t (as_it_was refl))
        | v ↦ as_it_was refl
      ]

  word_case : (s : StepOf Record) (x : Answer Record) (z : Bool) (l : LimboMark) (Out Freed : Type 0) → Freed → LimboCase s x l (cond z Absent l) Out Freed
  word_case s x true l Out Freed f = is_freed refl f
  word_case s x false l Out Freed f = as_it_was refl

  -- what a step makes of the items in the limbo
  pub limbo_case : (pages : Bool) (s : StepOf Record) (x : Answer Record) (item : ℕ)
      → LimboCase s x (items pages k.limbo item) (items pages (learn k s x).limbo item) (ItemOut pages k s x item) (Frees pages s)
  limbo_case true Epoch (Number n) item = is_stamped n refl refl refl
  limbo_case false Epoch (Number n) item = is_stamped n refl refl refl
  limbo_case true (Announce c) (Number n) item = is_passed c n refl refl refl
  limbo_case false (Announce c) (Number n) item = is_passed c n refl refl refl
  limbo_case true (Exchange p old new) (Whether true) item = won_pids p old new item
  limbo_case false (Exchange p old new) (Whether true) item = won_rows p old new item
  limbo_case true (ReusePids word bits) x item = word_case (ReusePids word bits) x (is_among word bits item) (k.limbo.pids item) _ _ (word, bits, refl)
  limbo_case false (ReuseRows word bits) x item = word_case (ReuseRows word bits) x (is_among word bits item) (k.limbo.rows item) _ _ (word, bits, refl)
  limbo_case pages (Slot (suc p)) (Number zero) item = as_it_was refl
  limbo_case pages s (Number n) item = as_it_was refl
  limbo_case pages s (Content w) item = as_it_was refl
  limbo_case pages s (Whether true) item = as_it_was refl
  limbo_case pages s x item = as_it_was refl

-- a row on the walk from a chain's first row is on the chain
under_contained : (seen rows : ℕ → Option Record) → ((r : ℕ) (w : Record) → seen r ≡ Some w → rows r ≡ Some w) → (x : ℕ) (w : Record) (c : List Record)
    → rows x ≡ Some w → MatchOption (next_row w) (c ≡ []) (λ y. IsChainFrom rows y c)
    → (n row : ℕ) → ((y : ℕ) → IsChainFrom rows y c → is_on_walk n seen (Some y) row ≡ true → Contains (chain_rows y c) row)
    → is_on_walk n seen None row ≡ false → is_on_walk n seen (next_seen (seen x)) row ≡ true → Contains (chain_rows (unwrap_or (next_row w) 0) c) row
under_contained seen rows stand x w c at under n row deeper none e = go (seen x) refl e
  where
    go : (v : Option Record) → seen x ≡ v → is_on_walk n seen (next_seen v) row ≡ true → Contains (chain_rows (unwrap_or (next_row w) 0) c) row
    go None i z = absurd (cc)
    go (Some u) i z =
        below (next_row w) refl under (rw (ap next_row (same_Some u w (sym (stand x u i) ∙ at))) at z)
      where
        below : (o : Option ℕ) → next_row w ≡ o → MatchOption o (c ≡ []) (λ y. IsChainFrom rows y c) → is_on_walk n seen o row ≡ true → Contains (chain_rows (unwrap_or o 0) c) row
        below None j h k = absurd (cc)
        below (Some y) j h k = deeper y h k

no_walk : (n : ℕ) (seen : ℕ → Option Record) (row : ℕ) → is_on_walk n seen None row ≡ false
no_walk zero seen row = refl
no_walk (suc n) seen row = refl

pub walk_contained : (n : ℕ) (seen rows : ℕ → Option Record) → ((r : ℕ) (w : Record) → seen r ≡ Some w → rows r ≡ Some w) → (x : ℕ) (c : List Record) (row : ℕ)
    → IsChainFrom rows x c → is_on_walk n seen (Some x) row ≡ true → Contains (chain_rows x c) row
walk_contained zero seen rows stand x c row h e = absurd (cc)
walk_contained (suc n) seen rows stand x [] row h e = absurd h
walk_contained (suc n) seen rows stand x (w ∷ c) row h e = by_equal row x
    (λ i t. (zero, (omega arith), sym i))
    (λ ne t. let v = rw t at e in let d = under_contained seen rows stand x w c h.0 h.1 n row (λ y hy ey. walk_contained n seen rows stand y c row hy ey)
    (no_walk n seen row) v in (suc d.0, (let lt = d.1 in omega arith), d.2))
