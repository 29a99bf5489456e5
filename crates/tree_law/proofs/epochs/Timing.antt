-- What stays of the times, and of what each actor holds, at a step of one actor.
use Rattle.tree_law.proofs.Words.{◌⊎◌, ap, Option, suc, None, List, true, inl, ◌≢◌, ◌≤◌, inr, sym, ℕ, ◌≡◌, Bool, ◌∙◌, ◌<◌, arith, Some, same_Some, Limits, Memory, next_row}
use Rattle.tree_law.proofs.Words.{Record, IsChainFrom, IsOwn, IsOwnBase, Knowledge, Ready, Gone, Unstamped, LimboMark, Absent, Stamped, Key, Linked, Owners, Reached, Spare, Cleared, put, slot_in}
use Rattle.tree_law.proofs.Words.{Times, Timed, LimboFits, Outing, Holds, NamesSince, IsSince, HeldHead, HoldsBy}
use Rattle.tree_law.specs.Times.{IsAnnounced}
use Rattle.tree_law.proofs.shape.Puts.{by_equal}

-- it stays out or in, or is taken out now
abbrev pub IsLater : ℕ → ℕ → ℕ → Option Outing → Option Outing → Type 0
IsLater now epoch who out out' = (out' ≡ out) ⊎ ((out ≡ None) × (out' ≡ Some (record { at = now; epoch = epoch; who = who })))

pub since_later : (e now epoch who : ℕ) (out out' : Option Outing) → e ≤ now → IsLater now epoch who out out' → IsSince e out → IsSince e out'
since_later e now epoch who out out' le (inl same) s = rw same s
since_later e now epoch who out out' le (inr f) s = rw f.1 le

pub none_since : (e : ℕ) (out : Option Outing) → out ≡ None → IsSince e out
none_since e out i = rw i tt

pub names_later : {po po' : ℕ → Option Outing} {e : ℕ} → ((q : ℕ) → IsSince e (po q) → IsSince e (po' q)) → (c : List Record) → NamesSince po e c → NamesSince po' e c
names_later {po} {po'} {e} f c n = record { right = λ q i. f q (n.right q i); items = λ l s i j v d. f _ (n.items l s i j v d) }

pub head_later : {rows rows' : ℕ → Option Record} {po po' : ℕ → Option Outing} {e : ℕ} {learnt : ℕ → Bool} {p x : ℕ} → ((q : ℕ) → IsSince e (po q) → IsSince e (po' q))
    → ((c : List Record) → IsChainFrom rows x c → IsChainFrom rows' x c) → HeldHead rows po e learnt p x → HeldHead rows' po' e learnt p x
head_later {rows} {rows'} {po} {po'} {e} {learnt} {p} {x} f k h = record
    { learnt_row = h.learnt_row; page = f p h.page; chain = h.chain; is_chain = k h.chain h.is_chain; names = λ i. names_later f h.chain (h.names i) }

-- one more name
pub head_more : {rows : ℕ → Option Record} {po : ℕ → Option Outing} {e : ℕ} {learnt learnt' : ℕ → Bool} {p x : ℕ}
    → ((r : ℕ) → learnt r ≡ true → learnt' r ≡ true) → HeldHead rows po e learnt p x → HeldHead rows po e learnt' p x
head_more {rows} {po} {e} {learnt} {learnt'} {p} {x} f h = record { learnt_row = f x h.learnt_row; page = h.page; chain = h.chain; is_chain = h.is_chain; names = h.names }

pub holds_later : {rows rows' : ℕ → Option Record} {ro ro' po po' : ℕ → Option Outing} {e : ℕ} {inside : Bool} {seen : ℕ → Option Record}
    {learnt roots : ℕ → Bool} {heads : ℕ → Option ℕ} {before : ℕ → ℕ → Option ℕ} {linked : Option (Option ℕ)}
    → (inside ≡ true → (r : ℕ) → IsSince e (ro r) → IsSince e (ro' r)) → (inside ≡ true → (q : ℕ) → IsSince e (po q) → IsSince e (po' q))
    → ((x : ℕ) (c : List Record) → learnt x ≡ true → IsChainFrom rows x c → IsChainFrom rows' x c)
    → Holds rows ro po e inside seen learnt roots heads before linked → Holds rows' ro' po' e inside seen learnt roots heads before linked
holds_later {rows} {rows'} {ro} {ro'} {po} {po'} {e} {inside} {seen} {learnt} {roots} {heads} {before} {linked} f g k h = record {
  learnt_inside = h.learnt_inside;
  learnt_since = λ r i. f (h.learnt_inside r i) r (h.learnt_since r i);
  seen_learnt = h.seen_learnt;
  roots_inside = h.roots_inside;
  roots_since = λ p i. g (h.roots_inside p i) p (h.roots_since p i);
  heads_since = λ p x i. let d = h.heads_since p x i in head_later (g (h.learnt_inside x d.learnt_row)) (λ c. k x c d.learnt_row) d;
  before_since = λ p q x i. let d = h.before_since p q x i in head_later (g (h.learnt_inside x d.learnt_row)) (λ c. k x c d.learnt_row) d;
  beside_since = λ p q y x i j. let d = h.beside_since p q y x i j in record {
    chain = d.chain;
    is_chain = k x d.chain (h.before_since p q x j).learnt_row d.is_chain;
    left = d.left;
    is_left = k y d.left (h.heads_since p y i).learnt_row d.is_left;
    since = λ gone alive right. names_later (g (h.learnt_inside x (h.before_since p q x j).learnt_row)) d.chain (d.since gone alive right);
  };
  linked_learnt = h.linked_learnt;
}

pub limbo_later : (b now : ℕ) (inside inside' : ℕ → Bool) (entered entered' : ℕ → ℕ) (out out' : Option Outing) (l : LimboMark)
    → ((w : Outing) → out ≡ Some w → (out' ≡ Some w) × (w.at < now)) → ((c u : ℕ) → u < now → (inside c ≡ true → u < entered c) → inside' c ≡ true → u < entered' c)
    → LimboFits b inside entered out l → LimboFits b inside' entered' out' l
limbo_later b now inside inside' entered entered' out out' Absent f g h = tt
limbo_later b now inside inside' entered entered' out out' Unstamped f g h = (h.0, (f h.0 h.1).0, h.2)
limbo_later b now inside inside' entered entered' out out' (Stamped epoch passed) f g h = (h.0, (f h.0 h.1).0, h.2, h.3, λ c i. g c h.0.at (f h.0 h.1).1 (h.4 c i))

pub out_stays : (now epoch who : ℕ) (out out' : Option Outing) (w : Outing) → IsLater now epoch who out out' → out ≡ Some w → out' ≡ Some w
out_stays now epoch who out out' w (inl same) e = same ∙ e
out_stays now epoch who out out' w (inr f) e = absurd (cc f.0)

-- what is out is out since an earlier step, or since this one
pub out_was : (now epoch who : ℕ) (out out' : Option Outing) (w : Outing) → IsLater now epoch who out out' → out' ≡ Some w
    → (out ≡ Some w) ⊎ ((out ≡ None) × (w.at ≡ now) × (w.epoch ≡ epoch) × (w.who ≡ who))
out_was now epoch who out out' w (inl same) e = inl (sym same ∙ e)
out_was now epoch who out out' w (inr f) e =
    let i : record { at = now; epoch = epoch; who = who } ≡ w = same_Some (record { at = now; epoch = epoch; who = who }) w (sym f.1 ∙ e) in
    inr (f.0, sym (ap (λ v. v.at) i), sym (ap (λ v. v.epoch) i), sym (ap (λ v. v.who) i))

pub announced_later : (t t' : Times) (epoch epoch' an an' now a e : ℕ) → epoch ≤ epoch' → an' ≡ an → ((r : ℕ) → IsLater now epoch a (t.row_out r) (t'.row_out r))
    → ((p : ℕ) → IsLater now epoch a (t.page_out p) (t'.page_out p)) → IsAnnounced t epoch an now e → IsAnnounced t' epoch' an' (suc now) e
announced_later t t' epoch epoch' an an' now a e le same rows pages h = record {
  some = rw same h.some;
  old = rw same (let i = h.old in omega arith);
  past = let i = h.past in omega arith;
  rows = λ r w i j. rw same (elim (out_was now epoch a (t.row_out r) (t'.row_out r) w (rows r) i) [ inl u ↦ h.rows r w u j | inr u ↦ let o = h.old in let q = u.2 in omega arith ]);
  pages = λ r w i j. rw same (elim (out_was now epoch a (t.page_out r) (t'.page_out r) w (pages r) i) [ inl u ↦ h.pages r w u j | inr u ↦ let o = h.old in let q = u.2 in omega arith ]);
}

module _ {limits : Limits} {m : Memory} {o : Owners} {knows : ℕ → Knowledge} {now : ℕ} {t : Times} (T : Timed limits m o knows now t)
    (linked : (b r : ℕ) → (knows b).read.learnt r ≡ true → o.row r ≡ Linked) (a : ℕ) where
  -- what a step of the actor makes of the memory, the owners and the times
  pub record Turn (m' : Memory) (o' : Owners) (k' : Knowledge) (t' : Times) : Type 0 where
    pub rows_later : (r : ℕ) → IsLater now m.epoch a (t.row_out r) (t'.row_out r)
    pub pages_later : (p : ℕ) → IsLater now m.epoch a (t.page_out p) (t'.page_out p)
    pub chains : (x : ℕ) (c : List Record) → o.row x ≡ Linked → IsChainFrom m.rows x c → IsChainFrom m'.rows x c
    pub epoch : m.epoch ≤ m'.epoch
    pub announced : (b : ℕ) → b ≢ a → m'.announced b ≡ m.announced b
    pub entered : (b : ℕ) → b ≢ a → t'.entered b ≡ t.entered b
    pub passes : (u : ℕ) → u < now → ((knows a).inside ≡ true → u < t.entered a) → k'.inside ≡ true → u < t'.entered a
    pub slots : (p x l : ℕ) (s : Key) → Reached 0 l s (o'.page p) → slot_in m'.slots p ≡ Some x → (t'.home x ≡ p) × (t'.row_out x ≡ None)
    pub together : (r n : ℕ) (w : Record) → o'.row r ≡ Linked → m'.rows r ≡ Some w → next_row w ≡ Some n → (t'.home n ≡ t'.home r) × (t'.row_out n ≡ t'.row_out r)
    pub rows : (r : ℕ) (w : Outing) → t'.row_out r ≡ Some w → (o'.row r ≡ Linked) ⊎ (o'.row r ≡ Spare w.who)
    pub pages : (p : ℕ) (w : Outing) → t'.page_out p ≡ Some w → ((l : ℕ) × (s : Key) × (o'.page p ≡ Cleared w.who l s)) × (slot_in m'.slots p ≡ None)
    pub own_rows : (b r : ℕ) → b ≢ a → IsOwn ((knows b).own.rows r) → t'.row_out r ≡ None
    pub gone_pages : (b p : ℕ) → b ≢ a → (knows b).own.pages p ≡ Gone → t'.page_out p ≡ None

  -- what the actor itself then knows
  pub record Mine (m' : Memory) (k' : Knowledge) (t' : Times) : Type 0 where
    pub within : k'.inside ≡ true → a < limits.actors
    pub holds : HoldsBy m'.rows t'.row_out t'.page_out (t'.entered a) k'
    pub announced : k'.inside ≡ true → IsAnnounced t' m'.epoch (m'.announced a) (suc now) (t'.entered a)
    pub epochs : (e : ℕ) → k'.limbo.epoch ≡ Some e → e ≤ m'.epoch
    pub own_rows : (r : ℕ) → IsOwn (k'.own.rows r) → t'.row_out r ≡ None
    pub gone_pages : (p : ℕ) → k'.own.pages p ≡ Gone → t'.page_out p ≡ None
    pub limbo_rows : (r : ℕ) → LimboFits a (λ c. (put knows a k' c).inside) t'.entered (t'.row_out r) (k'.limbo.rows r)
    pub limbo_pids : (p : ℕ) → LimboFits a (λ c. (put knows a k' c).inside) t'.entered (t'.page_out p) (k'.limbo.pids p)
    pub ready : (p r : ℕ) → k'.own.pages p ≡ Ready r → IsOwnBase (k'.own.rows r)
    pub apart : (p q r : ℕ) → k'.own.pages p ≡ Ready r → k'.own.pages q ≡ Ready r → p ≡ q

module _ {limits : Limits} {m : Memory} {o : Owners} {knows : ℕ → Knowledge} {now : ℕ} {t : Times} {T : Timed limits m o knows now t}
    {linked : (b r : ℕ) → (knows b).read.learnt r ≡ true → o.row r ≡ Linked} {a : ℕ} {m' : Memory} {o' : Owners} {k' : Knowledge} {t' : Times}
    (n : Turn T linked a m' o' k' t') where
  pub pass : (c u : ℕ) → u < now → ((knows c).inside ≡ true → u < t.entered c) → (put knows a k' c).inside ≡ true → u < t'.entered c
  pass c u lt f = by_equal c a
      (λ e is. rw is λ i. rw e (n.passes u lt (λ h. rw e at (f (rw e h))) i))
      (λ ne is. rw is λ i. rw (n.entered c ne) (f i))

  pub row_stays : (r : ℕ) (w : Outing) → t.row_out r ≡ Some w → (t'.row_out r ≡ Some w) × (w.at < now)
  row_stays r w e = (out_stays now m.epoch a (t.row_out r) (t'.row_out r) w (n.rows_later r) e, (T.rows r w e).1)

  pub page_stays : (p : ℕ) (w : Outing) → t.page_out p ≡ Some w → (t'.page_out p ≡ Some w) × (w.at < now)
  page_stays p w e = (out_stays now m.epoch a (t.page_out p) (t'.page_out p) w (n.pages_later p) e, (T.pages p w e).2)

  -- what is in the limbo of an actor stays there
  pub limbo_row : (b r : ℕ) → LimboFits b (λ c. (put knows a k' c).inside) t'.entered (t'.row_out r) ((knows b).limbo.rows r)
  limbo_row b r =
      limbo_later b now (λ c. (knows c).inside) (λ c. (put knows a k' c).inside) t.entered t'.entered (t.row_out r) (t'.row_out r) ((knows b).limbo.rows r) (row_stays r) pass (T.limbo_rows b r)

  pub limbo_pid : (b p : ℕ) → LimboFits b (λ c. (put knows a k' c).inside) t'.entered (t'.page_out p) ((knows b).limbo.pids p)
  limbo_pid b p =
      limbo_later b now (λ c. (knows c).inside) (λ c. (put knows a k' c).inside) t.entered t'.entered (t.page_out p) (t'.page_out p) ((knows b).limbo.pids p) (page_stays p) pass (T.limbo_pids b p)

  -- what an actor held it still holds
  pub held_later : (b : ℕ) → HoldsBy m'.rows t'.row_out t'.page_out (t.entered b) (knows b)
  held_later b = holds_later
      (λ i r. since_later (t.entered b) now m.epoch a (t.row_out r) (t'.row_out r) (let p = (T.announced b i).past in omega arith) (n.rows_later r))
      (λ i p. since_later (t.entered b) now m.epoch a (t.page_out p) (t'.page_out p) (let q = (T.announced b i).past in omega arith) (n.pages_later p))
      (λ x c e. n.chains x c (linked b x e))
      (T.holds b)

  pub announced_still : (b : ℕ) → m'.announced b ≡ m.announced b → (knows b).inside ≡ true → IsAnnounced t' m'.epoch (m'.announced b) (suc now) (t.entered b)
  announced_still b same i = announced_later t t' m.epoch m'.epoch (m.announced b) (m'.announced b) now a (t.entered b) n.epoch same n.rows_later n.pages_later (T.announced b i)

  pub put_timed : Mine T linked a m' k' t' → Timed limits m' o' (put knows a k') (suc now) t'
  put_timed k = record {
    within = λ b. by_equal b a (λ e t. rw (t, e) λ i. k.within i) (λ ne t. rw t (T.within b));
    holds = λ b. by_equal b a
        (λ e t. rw (t, e) k.holds)
        (λ ne t. rw t (rw (n.entered b ne) (held_later b)));
    announced = λ b. by_equal b a
        (λ e t. rw (t, e) λ i. k.announced i)
        (λ ne t. rw t λ i. rw (n.entered b ne) (announced_still b (n.announced b ne) i));
    epochs = λ b v. by_equal b a (λ e t. rw t (k.epochs v)) (λ ne t. rw t λ i. let j = T.epochs b v i in let l = n.epoch in omega arith);
    slots = n.slots;
    together = n.together;
    rows =
        λ r w i. let v = since_then w (t.row_out r) (λ e. (T.rows r w e).1) (λ e. (T.rows r w e).2)
        (out_was now m.epoch a (t.row_out r) (t'.row_out r) w (n.rows_later r) i) in (n.rows r w i, v.0, v.1);
    pages =
        λ p w i. let v = n.pages p w i in let u = since_then w (t.page_out p) (λ e. (T.pages p w e).2) (λ e. (T.pages p w e).3)
        (out_was now m.epoch a (t.page_out p) (t'.page_out p) w (n.pages_later p) i) in (v.0, v.1, u.0, u.1);
    own_rows = λ b r. by_equal b a (λ e t. rw t (k.own_rows r)) (λ ne t. rw t (n.own_rows b r ne));
    gone_pages = λ b p. by_equal b a (λ e t. rw t (k.gone_pages p)) (λ ne t. rw t (n.gone_pages b p ne));
    limbo_rows = λ b r. by_equal b a (λ e t. rw (t, e) (k.limbo_rows r)) (λ ne t. rw t (limbo_row b r));
    limbo_pids = λ b p. by_equal b a (λ e t. rw (t, e) (k.limbo_pids p)) (λ ne t. rw t (limbo_pid b p));
    ready = λ b p r. by_equal b a (λ e t. rw t (k.ready p r)) (λ ne t. rw t (T.ready b p r));
    apart = λ b p q r. by_equal b a (λ e t. rw t (k.apart p q r)) (λ ne t. rw t (T.apart b p q r));
  }
    where
      since_then : (w : Outing) (out : Option Outing) → (out ≡ Some w → w.at < now) → (out ≡ Some w → w.epoch ≤ m.epoch)
          → (out ≡ Some w) ⊎ ((out ≡ None) × (w.at ≡ now) × (w.epoch ≡ m.epoch) × (w.who ≡ a)) → (w.at < suc now) × (w.epoch ≤ m'.epoch)
      since_then w out f g (inl u) = let x = f u in let y = g u in let l = n.epoch in ((let z : w.at < suc now = omega arith in z), (let z : w.epoch ≤ m'.epoch = omega arith in z))
      since_then w out f g (inr u) = let x = u.1 in let y = u.2 in let l = n.epoch in ((let z : w.at < suc now = omega arith in z), (let z : w.epoch ≤ m'.epoch = omega arith in z))
