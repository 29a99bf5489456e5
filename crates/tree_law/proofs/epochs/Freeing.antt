-- A reuse frees what nobody can hold: the invariant and what actors hold stay.
use Rattle.tree_law.proofs.Words.{false, ◌⊎◌, ap, refl, cond, ltb, Option, suc, None, List, true, inl, ◌≢◌, ◌≤◌, inr, ◌∷◌, sym, ℕ, ◌≡◌, Bool, zero, ◌∙◌, ◌<◌, arith, Some, ltb-true}
use Rattle.tree_law.proofs.Words.{same_Some, Update, is_among, Reply, Limits, Answer, ReuseRows, ReusePids, ContentOf, Memory, next_row, Record, content_in, right_in, is_removed, level_in}
use Rattle.tree_law.proofs.Words.{IsPassed, Knowledge, after_reply, learn, LimboMark, Absent, memory_after, Key, Covers, After, Free, Linked, Owners, Reached, Spare, Owner}
use Rattle.tree_law.proofs.Words.{IsChain, IsCleared, Nobody, PageOwner, child_of, put, shared_part, slot_in, Times, Timed, LimboFits, Outing, IsSince, HeldHead, IsTree, HoldsBy}
use Rattle.std.proofs.lemmas.Bool.{ltb-false, le-ltb, or_cases}
use Rattle.tree_law.proofs.shape.{chain_unique, by_equal, decided, false_if}
use Rattle.tree_law.proofs.links.Keeping.{quiet, mine}
use Rattle.tree_law.proofs.epochs.Reusing.{Learnt, AreLoose, AreSame, lets_rows, frees_pages}
use Rattle.tree_law.proofs.epochs.Timing.{holds_later, limbo_later}

-- when the first of these actors that are inside has entered
pub record Oldest (n : ℕ) (inside : ℕ → Bool) (entered : ℕ → ℕ) (now : ℕ) : Type 0 where
  pub at : ℕ
  pub first : (b : ℕ) → b < n → inside b ≡ true → at ≤ entered b
  pub before : (u : ℕ) → u < now → ((b : ℕ) → b < n → inside b ≡ true → u < entered b) → u < at

-- with one actor more
older : (n : ℕ) (inside : ℕ → Bool) (entered : ℕ → ℕ) (now : ℕ) → Oldest n inside entered now → Oldest (suc n) inside entered now
older n inside entered now rest = go (inside n) (ltb (entered n) rest.at) refl refl
  where
    at_most : (x : ℕ) → x ≤ rest.at → (inside n ≡ true → x ≤ entered n) → (b : ℕ) → b < suc n → inside b ≡ true → x ≤ entered b
    at_most x le f b lt i = by_equal b n (λ e t. rw e (f (rw e at i))) (λ ne t. let h = rest.first b (omega arith) i in omega arith)

    wider : (b : ℕ) → b < n → b < suc n
    wider b l = omega arith

    go : (y z : Bool) → inside n ≡ y → ltb (entered n) rest.at ≡ z → Oldest (suc n) inside entered now
    go false z e i = record { at = rest.at; first = at_most rest.at (omega arith) (λ h. absurd (cc)); before = λ u lt f. rest.before u lt (λ b l. f b (wider b l)) }
    go true true e i = let h = ltb-true (entered n) rest.at i in record { at = entered n; first = at_most (entered n) (omega arith) (λ h. omega arith); before = λ u lt f. f n (omega arith) e }
    go true false e i = let h = ltb-false (entered n) rest.at i in record { at = rest.at; first = at_most rest.at (omega arith) (λ j. h); before = λ u lt f. rest.before u lt (λ b l. f b (wider b l)) }

pub oldest : (n : ℕ) (inside : ℕ → Bool) (entered : ℕ → ℕ) (now : ℕ) → Oldest n inside entered now
oldest zero inside entered now = record { at = now; first = λ b lt i. absurd (omega arith); before = λ u lt f. lt }
oldest (suc n) inside entered now = older n inside entered now (oldest n inside entered now)

-- whose a row is after a reuse: what is freed is nobody's, and what nobody can hold any more is of the actor that took it out
abbrev pub row_after : ℕ → Bool → Owner → Option Outing → Owner
row_after first true v out = Free
row_after first false Linked (Some w) = cond (ltb w.at first) (Spare w.who) Linked
row_after first false v out = v

row_same : (first : ℕ) (z : Bool) (v : Owner) (out : Option Outing) → z ≡ false → ((w : Outing) → out ≡ Some w → first ≤ w.at) → row_after first z v out ≡ v
row_same first z Linked (Some w) e f = rw (e, le-ltb w.at first (f w refl)) refl
row_same first z v out e f = rw e

pub row_free_after : (first : ℕ) (z : Bool) (v : Owner) (out : Option Outing) → v ≡ Free → row_after first z v out ≡ Free
row_free_after first true v out e = refl
row_free_after first false v out e = rw e

-- a row that is linked afterwards was, and is not older
pub row_linked : (first : ℕ) (z : Bool) (v : Owner) (out : Option Outing) → row_after first z v out ≡ Linked → (z ≡ false) × (v ≡ Linked) × ((w : Outing) → out ≡ Some w → first ≤ w.at)
row_linked first false Linked None e = (refl, refl, λ w i. absurd (cc))
row_linked first false Linked (Some w) e =
    (refl, refl, λ v i. rw (← same_Some w v i) (elim (decided (ltb w.at first)) [ inl t ↦ absurd (let f = rw t at e in cc) | inr f ↦ ltb-false w.at first f ]))
row_linked first z v out e = absurd (cc)

row_of : (first : ℕ) (v : Owner) (w : Outing) → (v ≡ Linked) ⊎ (v ≡ Spare w.who) → (row_after first false v (Some w) ≡ Linked) ⊎ (row_after first false v (Some w) ≡ Spare w.who)
row_of first v w (inl e) = rw e (elim (decided (ltb w.at first)) [ inl t ↦ inr (rw t) | inr f ↦ inl (rw f) ])
row_of first v w (inr e) = inr (rw e)

freed_out : (z : Bool) (out : Option Outing) (w : Outing) → cond z None out ≡ Some w → (z ≡ false) × (out ≡ Some w)
freed_out true out w e = absurd (cc)
freed_out false out w e = (refl, e)

freed_since : (z : Bool) (out : Option Outing) (e : ℕ) → IsSince e out → IsSince e (cond z None out)
freed_since true out e h = tt
freed_since false out e h = h

freed_none : (z : Bool) (out : Option Outing) → out ≡ None → cond {A = Option Outing} z None out ≡ None
freed_none true out e = refl
freed_none false out e = e

module _ {limits : Limits} {m : Memory} {log : List Update} {o : Owners} {knows : ℕ → Knowledge} {point : ℕ → Option (List Update)}
    {logs : ℕ → List (List Update)} {now : ℕ} {t : Times} (g : IsTree (shared_part m) log o knows point logs) (T : Timed limits m o knows now t) (a : ℕ)
    (outside : (knows a).inside ≡ false) where
  other_inside : (b : ℕ) → (knows b).inside ≡ true → b ≢ a
  other_inside b i e = absurd (cc (ap (λ n. (knows n).inside) e))

  -- what may be freed is out since a time before each actor that is inside has entered
  pub record Freed (out : Option Outing) : Type 0 where
    pub outing : Outing
    pub is : out ≡ Some outing
    pub who : outing.who ≡ a
    pub old : (b : ℕ) → (knows b).inside ≡ true → outing.at < t.entered b

  freed_of : (out : Option Outing) (l : LimboMark) → LimboFits a (λ c. (knows c).inside) t.entered out l → IsPassed limits a l → Freed out
  freed_of out l h p =
      let f = rw p.stamped at h in
      record { outing = f.0; is = f.1; who = f.2; old = λ b i. f.4 b (p.all b (T.within b i) (other_inside b i)) i }

  -- an actor that is inside can hold nothing that may be freed
  unheld : (b : ℕ) (out : Option Outing) → (knows b).inside ≡ true → IsSince (t.entered b) out → Freed out → ⊥
  unheld b out i s f = let h : t.entered b ≤ f.outing.at = rw f.is at s in let l = f.old b i in omega arith

  pub known : (b : ℕ) → Learnt (knows b)
  known b = let h = T.holds b in record { seen = h.seen_learnt; heads = λ p x e. (h.heads_since p x e).learnt_row; before = λ p f x e. (h.before_since p f x e).learnt_row; linked = h.linked_learnt }

  module _ (word bits : ℕ) where
    -- after the actor, which is outside, freed those among the word's bits and knows this
    module _ (k : Knowledge) (stays_outside : k.inside ≡ (knows a).inside) where
      same_inside : (b : ℕ) → (put knows a k b).inside ≡ true → (knows b).inside ≡ true
      same_inside b = by_equal b a (λ e t. rw t λ i. absurd (cc)) (λ ne t. rw t λ i. i)

      -- of rows or pages: what the limbos show of those that are out
      module _ (outs : ℕ → Option Outing) (past : (n : ℕ) (w : Outing) → outs n ≡ Some w → w.at < now) where
        abbrev Fitted : ℕ → ℕ → LimboMark → Type 0
        Fitted b n l = LimboFits b (λ c. (knows c).inside) t.entered (outs n) l

        abbrev FitsNow : ℕ → Option Outing → LimboMark → Type 0
        FitsNow b out l = LimboFits b (λ c. (put knows a k c).inside) t.entered out l

        abbrev left : ℕ → Option Outing
        left n = cond (is_among word bits n) None (outs n)

        limbo_still : (b n : ℕ) (l : LimboMark) → Fitted b n l → FitsNow b (outs n) l
        limbo_still b n l h =
            limbo_later b now (λ c. (knows c).inside) (λ c. (put knows a k c).inside) t.entered t.entered (outs n) (outs n) l (λ w i. (i, past n w i)) (λ c u lt f i. f (same_inside c i)) h

        limbo_kept : (b n : ℕ) (l : LimboMark) → is_among word bits n ≡ false → Fitted b n l → FitsNow b (left n) l
        limbo_kept b n l e h =
            limbo_later b now (λ c. (knows c).inside) (λ c. (put knows a k c).inside) t.entered t.entered (outs n) (left n) l (λ w i. (rw e i, past n w i)) (λ c u lt f i. f (same_inside c i)) h

        own_limbo : (n : ℕ) (l : LimboMark) (z : Bool) → is_among word bits n ≡ z → Fitted a n l → FitsNow a (left n) (cond z Absent l)
        own_limbo n l true e h = tt
        own_limbo n l false e h = limbo_kept a n l e h

        module _ (gone : (n : ℕ) → is_among word bits n ≡ true → Freed (outs n)) where
          apart : (b n : ℕ) → b ≢ a → (w : Outing) → outs n ≡ Some w → w.who ≡ b → is_among word bits n ≡ false
          apart b n ne w e who = false_if (is_among word bits n) (λ i. let f = gone n i in ne (sym who ∙ ap (λ v. v.who) (same_Some w f.outing (sym e ∙ f.is)) ∙ f.who))

          -- what another actor has in its limbo is not freed
          others_limbo : (b n : ℕ) → b ≢ a → (l : LimboMark) → Fitted b n l → FitsNow b (left n) l
          others_limbo b n ne Absent h = tt
          others_limbo b n ne l h = limbo_kept b n l (apart b n ne h.0 h.1 h.2) h

    module _ (may : (r : ℕ) → is_among word bits r ≡ true → IsPassed limits a ((knows a).limbo.rows r)) (r0 : Option Reply) (x : Answer Record) where
      abbrev pub first : Oldest limits.actors (λ c. (knows c).inside) t.entered now
      first = oldest limits.actors (λ c. (knows c).inside) t.entered now

      abbrev pub row1 : ℕ → Owner
      row1 r = row_after first.at (is_among word bits r) (o.row r) (t.row_out r)

      abbrev pub o1 : Owners
      o1 = record o { row = row1 }

      abbrev pub t1 : Times
      t1 = record t { row_out = λ r. cond (is_among word bits r) None (t.row_out r) }

      abbrev pub m1 : Memory
      m1 = memory_after a (ReuseRows word bits) m

      abbrev pub k1 : Knowledge
      k1 = after_reply (learn (knows a) (ReuseRows word bits) x) r0

      pub freed : (r : ℕ) → is_among word bits r ≡ true → Freed (t.row_out r)
      freed r e = freed_of (t.row_out r) ((knows a).limbo.rows r) (T.limbo_rows a r) (may r e)

      freed_old : (r : ℕ) → is_among word bits r ≡ true → (w : Outing) → t.row_out r ≡ Some w → first.at ≤ w.at → ⊥
      freed_old r e w i le =
          let f = freed r e in
          let lt : f.outing.at < first.at = first.before f.outing.at (T.rows r f.outing f.is).1 (λ b l v. f.old b v) in
          let eq = ap (λ v. v.at) (same_Some f.outing w (sym f.is ∙ i)) in
          omega arith

      pub not_among : (r : ℕ) → ((w : Outing) → t.row_out r ≡ Some w → first.at ≤ w.at) → is_among word bits r ≡ false
      not_among r h = false_if (is_among word bits r) (λ e. let f = freed r e in freed_old r e f.outing f.is (h f.outing f.is))

      -- a row that is not out, or not older, stays
      pub stays : (r : ℕ) → ((w : Outing) → t.row_out r ≡ Some w → first.at ≤ w.at) → row1 r ≡ o.row r
      stays r h = row_same first.at (is_among word bits r) (o.row r) (t.row_out r) (not_among r h) h

      pub in_tree : (r : ℕ) → t.row_out r ≡ None → (w : Outing) → t.row_out r ≡ Some w → first.at ≤ w.at
      in_tree r e w i = absurd (cc)

      pub held : (b r : ℕ) → (knows b).read.learnt r ≡ true → (w : Outing) → t.row_out r ≡ Some w → first.at ≤ w.at
      held b r e w i =
          let h = T.holds b in
          let s : t.entered b ≤ w.at = rw i at (h.learnt_since r e) in
          let f = first.first b (T.within b (h.learnt_inside r e)) (h.learnt_inside r e) in
          omega arith

      under : (r n : ℕ) (w : Record) → row1 r ≡ Linked → m.rows r ≡ Some w → next_row w ≡ Some n → (v : Outing) → t.row_out n ≡ Some v → first.at ≤ v.at
      under r n w l e i v j =
          let h = row_linked first.at (is_among word bits r) (o.row r) (t.row_out r) l in
          h.2 v (sym (T.together r n w h.1 e i).1 ∙ j)

      loose : AreLoose o (shared_part m) knows row1 m1.free_rows
      loose = record {
        linked = λ r l. (row_linked first.at (is_among word bits r) (o.row r) (t.row_out r) l).1;
        learnt = λ b r e. stays r (held b r e);
        slots = λ p r l s h e. stays r (in_tree r (T.slots p r l s h e).1);
        next = λ r n w l e i. stays n (under r n w l e i);
        own = λ b r i. stays r (in_tree r (T.own_rows b r i));
        freed = λ r e. elim (or_cases (m.free_rows r) (is_among word bits r) e) [
          | inl u ↦ let f = g.frees.row r u in row_free_after first.at (is_among word bits r) (o.row r) (t.row_out r) f
          | inr u ↦ rw u
        ];
      }

      pub rows_tree : IsTree (shared_part m1) log o1 (put knows a k1) (put point a (point a)) (put logs a (log ∷ logs a))
      rows_tree =
          let n = lets_rows g row1 m1.free_rows known loose in
          quiet n a k1 (point a) (log ∷ logs a) (n.owns a) (n.owns_pages a) (mine n a)

      -- what the reuse leaves
      abbrev pub rows_after : After a (shared_part m) (shared_part m1) log o knows point logs (ReuseRows word bits) x r0
      rows_after = record {
        update = None;
        due = tt;
        last = λ i. refl;
        owners = o1;
        phased = refl;
        added = λ row l. inl (row_linked first.at (is_among word bits row) (o.row row) (t.row_out row) l).1;
        same = λ row l. refl;
        is_tree = rows_tree;
      }

      rows_past : (r : ℕ) (w : Outing) → t.row_out r ≡ Some w → w.at < now
      rows_past r w e = (T.rows r w e).1

      pub rows_timed : Timed limits m1 o1 (put knows a k1) (suc now) t1
      rows_timed =
          let holds : (b : ℕ) → HoldsBy m.rows t1.row_out t.page_out (t.entered b) (knows b) =
          λ b. holds_later (λ i r. freed_since (is_among word bits r) (t.row_out r) (t.entered b)) (λ i p h. h) (λ x c e h. h) (T.holds b) in
          let pids_still : (b p : ℕ) → LimboFits b (λ c. (put knows a k1 c).inside) t.entered (t.page_out p) ((knows b).limbo.pids p) =
          λ b p. limbo_still k1 refl t.page_out (λ q w e. (T.pages q w e).2) b p ((knows b).limbo.pids p) (T.limbo_pids b p) in
          record {
            within = λ b i. T.within b (same_inside k1 refl b i);
            holds = λ b. by_equal b a (λ e is. rw (is, e) (holds a)) (λ ne is. rw is (holds b));
            announced =
                λ b i. let h = T.announced b (same_inside k1 refl b i) in record
                { some = h.some; old = h.old; past = (let p = h.past in omega arith); rows = λ r w e. h.rows r w (freed_out (is_among word bits r) (t.row_out r) w e).1; pages = h.pages };
            epochs = λ b e. by_equal b a (λ i t. rw t (T.epochs a e)) (λ ne t. rw t (T.epochs b e));
            slots = λ p q l s h e. let v = T.slots p q l s h e in (v.0, freed_none (is_among word bits q) (t.row_out q) v.1);
            together = λ r n w l e i.
                let h = row_linked first.at (is_among word bits r) (o.row r) (t.row_out r) l in
                let c = T.together r n w h.1 e i in
                (c.0, rw (h.0, not_among n (under r n w l e i)) c.1);
            rows =
                λ r w e. let v = freed_out (is_among word bits r) (t.row_out r) w e in let u = T.rows r w v.1 in (rw (v.0, v.1) (row_of first.at (o.row r) w u.0), (let z = u.1 in omega arith), u.2);
            pages = λ p w e. let v = T.pages p w e in (v.0, v.1, (let z = v.2 in omega arith), v.3);
            own_rows =
                λ b r. by_equal b a (λ i is. rw is λ h. freed_none (is_among word bits r) (t.row_out r) (T.own_rows a r h))
                (λ ne is. rw is λ h. freed_none (is_among word bits r) (t.row_out r) (T.own_rows b r h));
            gone_pages = λ b p. by_equal b a (λ i t. rw t (T.gone_pages a p)) (λ ne t. rw t (T.gone_pages b p));
            limbo_rows =
                λ b r. by_equal b a
                (λ i is. rw (is, i) (own_limbo k1 refl t.row_out rows_past r ((knows a).limbo.rows r) (is_among word bits r) refl (T.limbo_rows a r)))
                (λ ne is. rw is (others_limbo k1 refl t.row_out rows_past freed b r ne ((knows b).limbo.rows r) (T.limbo_rows b r)));
            limbo_pids = λ b p. by_equal b a (λ i is. rw (is, i) (pids_still a p)) (λ ne is. rw is (pids_still b p));
            ready = λ b p r. by_equal b a (λ i t. rw t (T.ready a p r)) (λ ne t. rw t (T.ready b p r));
            apart = λ b p q r. by_equal b a (λ i t. rw t (T.apart a p q r)) (λ ne t. rw t (T.apart b p q r));
          }

    module _ (may : (p : ℕ) → is_among word bits p ≡ true → IsPassed limits a ((knows a).limbo.pids p)) (r0 : Option Reply) (x : Answer Record) where
      abbrev pub page2 : ℕ → PageOwner
      page2 p = cond (is_among word bits p) Nobody (o.page p)

      abbrev pub o2 : Owners
      o2 = record o { page = page2 }

      abbrev pub t2 : Times
      t2 = record t { page_out = λ p. cond (is_among word bits p) None (t.page_out p) }

      abbrev pub m2 : Memory
      m2 = memory_after a (ReusePids word bits) m

      abbrev pub k2 : Knowledge
      k2 = after_reply (learn (knows a) (ReusePids word bits) x) r0

      pub freed_page : (p : ℕ) → is_among word bits p ≡ true → Freed (t.page_out p)
      freed_page p e = freed_of (t.page_out p) ((knows a).limbo.pids p) (T.limbo_pids a p) (may p e)

      pub same_page : (p : ℕ) → (is_among word bits p ≡ true → ⊥) → page2 p ≡ o.page p
      same_page p f = elim (decided (is_among word bits p)) [ inl e ↦ absurd (f e) | inr e ↦ rw e ]

      page_in : (p : ℕ) → t.page_out p ≡ None → page2 p ≡ o.page p
      page_in p e = same_page p (λ i. let f = freed_page p i in absurd (cc f.is))

      page_held : (b p : ℕ) → (knows b).inside ≡ true → IsSince (t.entered b) (t.page_out p) → page2 p ≡ o.page p
      page_held b p i s = same_page p (λ e. unheld b (t.page_out p) i s (freed_page p e))

      head_inside : (b p x : ℕ) → HeldHead m.rows t.page_out (t.entered b) (knows b).read.learnt p x → (knows b).inside ≡ true
      head_inside b p x h = (T.holds b).learnt_inside x h.learnt_row

      head_items : (b p x : ℕ) (h : HeldHead m.rows t.page_out (t.entered b) (knows b).read.learnt p x) (l : ℕ) (s : Key) (i : ContentOf) (c : List Record) → IsChain m.rows c (Some x)
          → is_removed c ≡ false → level_in c ≡ suc l → Covers c s → content_in c s ≡ Some i → page2 (child_of i) ≡ o.page (child_of i)
      head_items b p x h l s i c is alive at v d =
          let same : h.chain ≡ c = chain_unique m.rows h.chain c (Some x) h.is_chain is in
          page_held b (child_of i) (head_inside b p x h) ((rw same at (h.names (ap is_removed same ∙ alive))).items l s i at v d)

      head_right : (b p x : ℕ) (h : HeldHead m.rows t.page_out (t.entered b) (knows b).read.learnt p x) (q : ℕ) (c : List Record) → IsChain m.rows c (Some x)
          → is_removed c ≡ false → right_in c ≡ Some q → page2 q ≡ o.page q
      head_right b p x h q c is alive e =
          let same : h.chain ≡ c = chain_unique m.rows h.chain c (Some x) h.is_chain is in
          page_held b q (head_inside b p x h) ((rw same at (h.names (ap is_removed same ∙ alive))).right q e)

      gone : (q : ℕ) → (page2 q ≡ o.page q) ⊎ ((page2 q ≡ Nobody) × IsCleared (o.page q))
      gone q = elim (decided (is_among word bits q)) [
        | inl e ↦ let f = freed_page q e in let v = (T.pages q f.outing f.is).0 in inr (rw e, (f.outing.who, v.0, v.1, v.2))
        | inr e ↦ inl (rw e)
      ]

      frees : (q : ℕ) → m2.free_pids q ≡ true → (page2 q ≡ Nobody) × (slot_in m.slots q ≡ None)
      frees q e = elim (or_cases (m.free_pids q) (is_among word bits q) e) [
        | inl u ↦ let f = g.frees.page q u in (elim (decided (is_among word bits q)) [ inl i ↦ rw i | inr i ↦ rw i f.0 ], f.1)
        | inr u ↦ let f = freed_page q u in (rw u, (T.pages q f.outing f.is).1)
      ]

      beyond_held : (b p f y x : ℕ) (c d : List Record) → (knows b).read.heads p ≡ Some y → (knows b).read.before p f ≡ Some x → IsChain m.rows c (Some x) → IsChain m.rows d (Some y)
          → is_removed c ≡ true → is_removed d ≡ false → right_in d ≡ Some f → AreSame page2 o.page c
      beyond_held b p f y x c d i j ic id rc nd e =
          let h = (T.holds b).beside_since p f y x i j in
          let above : h.chain ≡ c = chain_unique m.rows h.chain c (Some x) h.is_chain ic in
          let below : h.left ≡ d = chain_unique m.rows h.left d (Some y) h.is_left id in
          let n = rw above at (h.since (ap is_removed above ∙ rc) (ap is_removed below ∙ nd) (ap right_in below ∙ e)) in
          let inside = head_inside b f x ((T.holds b).before_since p f x j) in
          record {
            right = λ q z. page_held b q inside (n.right q z);
            items = λ l s h z u fd. page_held b (child_of h) inside (n.items l s h z u fd);
          }

      pub pages_tree : IsTree (shared_part m2) log o2 (put knows a k2) (put point a (point a)) (put logs a (log ∷ logs a))
      pages_tree =
          let n = frees_pages g page2 m2.free_pids gone
          (λ b p e. page_held b p ((T.holds b).roots_inside p e) ((T.holds b).roots_since p e))
          (λ b p x e. let h = (T.holds b).heads_since p x e in page_held b p (head_inside b p x h) h.page)
          (λ b p f x e. let h = (T.holds b).before_since p f x e in page_held b f (head_inside b f x h) h.page)
          (λ b p x q c e. head_right b p x ((T.holds b).heads_since p x e) q c)
          (λ b p x l s i c e. head_items b p x ((T.holds b).heads_since p x e) l s i c)
          (λ b p f x l s i c e. head_items b f x ((T.holds b).before_since p f x e) l s i c)
          beyond_held
          (λ b p e. page_in p (T.gone_pages b p e))
          frees in
          quiet n a k2 (point a) (log ∷ logs a) (n.owns a) (n.owns_pages a) (mine n a)

      abbrev pub pages_after : After a (shared_part m) (shared_part m2) log o knows point logs (ReusePids word bits) x r0
      pages_after = record {
        update = None;
        due = tt;
        last = λ i. refl;
        owners = o2;
        phased = λ q. (λ e. let f = freed_page q e in let v = (T.pages q f.outing f.is).0 in (f.outing.who, v.0, v.1, v.2, rw e), λ e. rw e);
        added = λ row l. inl l;
        same = λ row l. refl;
        is_tree = pages_tree;
      }

      pages_past : (p : ℕ) (w : Outing) → t.page_out p ≡ Some w → w.at < now
      pages_past p w e = (T.pages p w e).2

      pub pages_timed : Timed limits m2 o2 (put knows a k2) (suc now) t2
      pages_timed =
          let holds : (b : ℕ) → HoldsBy m.rows t.row_out t2.page_out (t.entered b) (knows b) =
          λ b. holds_later (λ i r h. h) (λ i p. freed_since (is_among word bits p) (t.page_out p) (t.entered b)) (λ x c e h. h) (T.holds b) in
          let rows_still : (b r : ℕ) → LimboFits b (λ c. (put knows a k2 c).inside) t.entered (t.row_out r) ((knows b).limbo.rows r) =
          λ b r. limbo_still k2 refl t.row_out (λ q w e. (T.rows q w e).1) b r ((knows b).limbo.rows r) (T.limbo_rows b r) in
          record {
            within = λ b i. T.within b (same_inside k2 refl b i);
            holds = λ b. by_equal b a (λ e is. rw (is, e) (holds a)) (λ ne is. rw is (holds b));
            announced =
                λ b i. let h = T.announced b (same_inside k2 refl b i) in record
                { some = h.some; old = h.old; past = (let p = h.past in omega arith); rows = h.rows; pages = λ p w e. h.pages p w (freed_out (is_among word bits p) (t.page_out p) w e).1 };
            epochs = λ b e. by_equal b a (λ i t. rw t (T.epochs a e)) (λ ne t. rw t (T.epochs b e));
            slots = λ p q l s h e. T.slots p q l s (reached p l s (is_among word bits p) h) e;
            together = T.together;
            rows = λ r w e. let v = T.rows r w e in (v.0, (let z = v.1 in omega arith), v.2);
            pages =
                λ p w e. let v = freed_out (is_among word bits p) (t.page_out p) w e in let u = T.pages p w v.1 in
                ((u.0.0, u.0.1, same_page p (λ i. absurd (cc v.0)) ∙ u.0.2), u.1, (let z = u.2 in omega arith), u.3);
            own_rows = λ b r. by_equal b a (λ i t. rw t (T.own_rows a r)) (λ ne t. rw t (T.own_rows b r));
            gone_pages =
                λ b p. by_equal b a (λ i is. rw is λ h. freed_none (is_among word bits p) (t.page_out p) (T.gone_pages a p h))
                (λ ne is. rw is λ h. freed_none (is_among word bits p) (t.page_out p) (T.gone_pages b p h));
            limbo_rows = λ b r. by_equal b a (λ i is. rw (is, i) (rows_still a r)) (λ ne is. rw is (rows_still b r));
            limbo_pids =
                λ b p. by_equal b a
                (λ i is. rw (is, i) (own_limbo k2 refl t.page_out pages_past p ((knows a).limbo.pids p) (is_among word bits p) refl (T.limbo_pids a p)))
                (λ ne is. rw is (others_limbo k2 refl t.page_out pages_past freed_page b p ne ((knows b).limbo.pids p) (T.limbo_pids b p)));
            ready = λ b p r. by_equal b a (λ i t. rw t (T.ready a p r)) (λ ne t. rw t (T.ready b p r));
            apart = λ b p q r. by_equal b a (λ i t. rw t (T.apart a p q r)) (λ ne t. rw t (T.apart b p q r));
          }
        where
          reached : (p l : ℕ) (s : Key) (z : Bool) → Reached 0 l s (cond z Nobody (o.page p)) → Reached 0 l s (o.page p)
          reached p l s true h = absurd h
          reached p l s false h = h
