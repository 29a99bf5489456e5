-- Steps that take nothing out of the tree and free nothing keep what actors hold.
use Rattle.tree_law.proofs.Words.{ap, refl, Option, suc, None, List, true, inl, ◌≢◌, ◌≤◌, inr, sym, ℕ, ◌≡◌, ◌∙◌, arith, Some, same_Some, Update, Limits, Memory, next_row, Record}
use Rattle.tree_law.proofs.Words.{low_in, level_in, IsOwn, IsOwnBase, Knowledge, Ready, learnt_next, Gone, Key, Linked, Owners, Reached, Spare, SpellsLog, Placed, Indexed, Cleared, Stage}
use Rattle.tree_law.proofs.Words.{child_of, put, shared_part, slot_in, Times, Timed, LimboFits, Holds, NamesSince, IsSince, HeldHead, IsTree, spec, SidePage, InPlace, HoldsBy, []}
use Rattle.tree_law.specs.Times.{HeldBeside}
use Rattle.tree_law.proofs.links.Keeping.{alive_place, beyond_place}
use Rattle.tree_law.proofs.shape.{by_equal, put_same, put_true, rows_kept, right_page, none_if}
use Rattle.tree_law.proofs.epochs.Timing.{none_since, head_more, Turn, limbo_row, limbo_pid, held_later, announced_still, put_timed}

module _ {limits : Limits} {m : Memory} {log : List Update} {o : Owners} {knows : ℕ → Knowledge} {point : ℕ → Option (List Update)}
    {logs : ℕ → List (List Update)} {now : ℕ} {t : Times} (g : IsTree (shared_part m) log o knows point logs) (T : Timed limits m o knows now t) (a : ℕ) where
  abbrev pub linked : (b r : ℕ) → (knows b).read.learnt r ≡ true → o.row r ≡ Linked
  linked b = (g.sound b).learnt_fits

  -- a step that takes nothing out of the tree, and links nothing
  pub record Calm (m' : Memory) (o' : Owners) : Type 0 where
    pub slots : (p : ℕ) → slot_in m'.slots p ≡ slot_in m.slots p
    pub kept : (r : ℕ) → o.row r ≡ Linked → m'.rows r ≡ m.rows r
    pub stay : (r : ℕ) → o.row r ≡ Linked → o'.row r ≡ Linked
    pub back : (r : ℕ) → o'.row r ≡ Linked → o.row r ≡ Linked
    pub spare : (r b : ℕ) → o.row r ≡ Spare b → o'.row r ≡ Spare b
    pub reached : (p l : ℕ) (s : Key) → Reached 0 l s (o'.page p) → Reached 0 l s (o.page p)
    pub cleared : (p b l : ℕ) (s : Key) → o.page p ≡ Cleared b l s → o'.page p ≡ Cleared b l s
    pub epoch : m.epoch ≤ m'.epoch
    pub announced : (b : ℕ) → b ≢ a → m'.announced b ≡ m.announced b

module _ {limits : Limits} {m : Memory} {log : List Update} {o : Owners} {knows : ℕ → Knowledge} {point : ℕ → Option (List Update)}
    {logs : ℕ → List (List Update)} {now : ℕ} {t : Times} {g : IsTree (shared_part m) log o knows point logs} {T : Timed limits m o knows now t} {a : ℕ}
    {m' : Memory} {o' : Owners} (k' : Knowledge) (c : Calm g T a m' o') where
  -- a step at which nobody enters
  pub calm_turn : (k'.inside ≡ true → (knows a).inside ≡ true) → Turn T (linked g T a) a m' o' k' t
  calm_turn inside = record {
    rows_later = λ r. inl refl;
    pages_later = λ p. inl refl;
    chains = λ x d l h. rows_kept o (shared_part m) m'.rows g.closed c.kept x d l h;
    epoch = c.epoch;
    announced = c.announced;
    entered = λ b ne. refl;
    passes = λ u lt f i. f (inside i);
    slots = λ p x l s r e. T.slots p x l s (c.reached p l s r) (sym (c.slots p) ∙ e);
    together = λ r n w l e. T.together r n w (c.back r l) (sym (c.kept r (c.back r l)) ∙ e);
    rows = λ r w e. elim (T.rows r w e).0 [ inl u ↦ inl (c.stay r u) | inr u ↦ inr (c.spare r w.who u) ];
    pages = λ p w e. let v = T.pages p w e in ((v.0.0, v.0.1, c.cleared p w.who v.0.0 v.0.1 v.0.2), c.slots p ∙ v.1);
    own_rows = λ b r ne. T.own_rows b r;
    gone_pages = λ b p ne. T.gone_pages b p;
  }

  -- a step after which the actor holds this
  pub idle_timed : m'.announced a ≡ m.announced a → k'.inside ≡ (knows a).inside → ((n : Turn T (linked g T a) a m' o' k' t) → HoldsBy m'.rows t.row_out t.page_out (t.entered a) k')
      → ((e : ℕ) → k'.limbo.epoch ≡ Some e → e ≤ m'.epoch) → ((r : ℕ) → IsOwn (k'.own.rows r) → t.row_out r ≡ None) → ((p : ℕ) → k'.own.pages p ≡ Gone → t.page_out p ≡ None)
      → ((n : Turn T (linked g T a) a m' o' k' t) (r : ℕ) → LimboFits a (λ b. (put knows a k' b).inside) t.entered (t.row_out r) (k'.limbo.rows r))
      → ((n : Turn T (linked g T a) a m' o' k' t) (p : ℕ) → LimboFits a (λ b. (put knows a k' b).inside) t.entered (t.page_out p) (k'.limbo.pids p))
      → ((p r : ℕ) → k'.own.pages p ≡ Ready r → IsOwnBase (k'.own.rows r)) → ((p q r : ℕ) → k'.own.pages p ≡ Ready r → k'.own.pages q ≡ Ready r → p ≡ q)
      → Timed limits m' o' (put knows a k') (suc now) t
  idle_timed an e0 holds epochs own gone rows pids ready apart =
      let n = calm_turn (λ i. sym e0 ∙ i) in
      put_timed n (record {
        within = λ i. T.within a (sym e0 ∙ i);
        holds = holds n;
        announced = λ i. announced_still n a an (sym e0 ∙ i);
        epochs = epochs;
        own_rows = own;
        gone_pages = gone;
        limbo_rows = rows n;
        limbo_pids = pids n;
        ready = ready;
        apart = apart;
      })

  -- a read, after which it also has and has taken out what it had
  pub read_timed : m'.announced a ≡ m.announced a → k'.inside ≡ (knows a).inside → HoldsBy m'.rows t.row_out t.page_out (t.entered a) k' → k'.own ≡ (knows a).own → k'.limbo ≡ (knows a).limbo
      → Timed limits m' o' (put knows a k') (suc now) t
  read_timed an inside holds own limbo = idle_timed an inside (λ n. holds)
      (rw limbo λ e i. let j = T.epochs a e i in let l = c.epoch in omega arith)
      (rw own (T.own_rows a))
      (rw own (T.gone_pages a))
      (λ n r. rw (← limbo) at (limbo_row n a r))
      (λ n p. rw (← limbo) at (limbo_pid n a p))
      (rw own (T.ready a))
      (rw own (T.apart a))

  -- a step after which it also holds what it held
  pub still_timed : m'.announced a ≡ m.announced a → k'.inside ≡ (knows a).inside → k'.read ≡ (knows a).read → k'.asked.linked ≡ (knows a).asked.linked
      → k'.own ≡ (knows a).own → k'.limbo ≡ (knows a).limbo → Timed limits m' o' (put knows a k') (suc now) t
  still_timed an inside read over = read_timed an inside (rw (inside, read, over) (held_later (calm_turn (λ i. sym inside ∙ i)) a))

module _ {limits : Limits} {m : Memory} {log : List Update} {o : Owners} {knows : ℕ → Knowledge} {point : ℕ → Option (List Update)}
    {logs : ℕ → List (List Update)} {now : ℕ} {t : Times} (g : IsTree (shared_part m) log o knows point logs) (T : Timed limits m o knows now t) (a : ℕ) where
  -- nothing is changed
  pub calm_same : Calm g T a m o
  calm_same = record
      { slots = λ p. refl; kept = λ r l. refl; stay = λ r l. l; back = λ r l. l; spare = λ r b e. e; reached = λ p l s r. r; cleared = λ p b l s e. e; epoch = omega arith; announced = λ b ne. refl }

  -- a page in the tree with a row in its slot, and one on a side chain, are not out
  pub not_out : (p x : ℕ) → slot_in m.slots p ≡ Some x → t.page_out p ≡ None
  not_out p x s = none_if (t.page_out p) (λ w e. let f = sym s ∙ (T.pages p w e).1 in cc)

  pub placed_in : (p l : ℕ) (k : Key) (st : Stage) → o.page p ≡ Placed st l k → t.page_out p ≡ None
  placed_in p l k st s = none_if (t.page_out p) (λ w e. let f = sym s ∙ (T.pages p w e).0.2 in cc)

  -- what a page on its side chain names is not out
  pub place_since : (e : ℕ) (p : SidePage) → InPlace o (shared_part m) (level_in p.chain) (spec log o.index (level_in p.chain)) p → NamesSince t.page_out e p.chain
  place_since e p h = record {
    right = λ q i. let n = right_page (g.tree.levels (level_in p.chain) (g.tree.exact.below p.page (level_in p.chain) (low_in p.chain) h.stage h.placed)) p h q i in
        none_since e (t.page_out q) (placed_in q (level_in p.chain) (low_in n.0.chain) n.3.stage (ap o.page (sym n.1) ∙ n.3.placed));
    items = λ l s i at v d.
        let n = (g.tree.exact.named l s i (sym (h.is_page.same s v ∙ ap (λ n. spec log o.index n s) at) ∙ d)).1 in
        none_since e (t.page_out (child_of i)) (placed_in (child_of i) l s n.0 n.1);
  }

  -- the actor reads the root
  pub root_holds : (knows a).inside ≡ true
      → Holds m.rows t.row_out t.page_out (t.entered a) (knows a).inside (knows a).read.seen (knows a).read.learnt (put (knows a).read.roots (m.slots 0) true)
      (knows a).read.heads (knows a).read.before (knows a).asked.linked
  root_holds inside =
      let h : HoldsBy m.rows t.row_out t.page_out (t.entered a) (knows a) = T.holds a in
      record {
        learnt_inside = h.learnt_inside;
        learnt_since = h.learnt_since;
        seen_learnt = h.seen_learnt;
        roots_inside = λ p i. inside;
        roots_since =
            λ p. by_equal p (m.slots 0)
            (λ e is. rw is λ i. none_since (t.entered a) (t.page_out p) (placed_in p g.tree.top [] Indexed (ap o.page e ∙ g.tree.exact.is_root)))
            (λ ne is. rw is (h.roots_since p));
        heads_since = h.heads_since;
        before_since = h.before_since;
        beside_since = h.beside_since;
        linked_learnt = h.linked_learnt;
      }

  -- the actor reads the slot of a page
  pub head_holds : (knows a).inside ≡ true → (p x : ℕ) → slot_in m.slots p ≡ Some x → (l : ℕ) (s : Key) → Reached 0 l s (o.page p) → (spells : SpellsLog o (shared_part m) x log)
      → Reached 0 (level_in spells.chain) (low_in spells.chain) (o.page p)
      → Holds m.rows t.row_out t.page_out (t.entered a) (knows a).inside (knows a).read.seen (put (knows a).read.learnt x true) (knows a).read.roots
      (put (knows a).read.heads p (Some x)) (put (knows a).read.before p (knows a).read.heads) (knows a).asked.linked
  head_holds inside p x sx l s reached spells there =
      let here : HeldHead m.rows t.page_out (t.entered a) (put (knows a).read.learnt x true) p x = record {
        learnt_row = put_same (knows a).read.learnt x true;
        page = none_since (t.entered a) (t.page_out p) (not_out p x sx);
        chain = spells.chain;
        is_chain = spells.is_chain;
        names = λ alive. place_since (t.entered a) (record { page = p; row = x; chain = spells.chain }) (alive_place g a p l s reached x sx spells.chain spells.is_chain alive);
      } in
      record {
        learnt_inside = λ r i. inside;
        learnt_since = λ r. by_equal r x (λ e is. rw is λ i. none_since (t.entered a) (t.row_out r) (ap t.row_out e ∙ (T.slots p x l s reached sx).1)) (λ ne is. rw is (h.learnt_since r));
        seen_learnt = λ r w e. put_true (knows a).read.learnt x r (h.seen_learnt r w e);
        roots_inside = h.roots_inside;
        roots_since = h.roots_since;
        heads_since = λ q y. by_equal q p
            (λ e is. rw (is, e) λ i. rw (← same_Some x y i) here)
            (λ ne is. rw is λ i. head_more (put_true (knows a).read.learnt x) (h.heads_since q y i));
        before_since = λ q f y. by_equal q p
            (λ e is. rw is λ i. head_more (put_true (knows a).read.learnt x) (h.heads_since f y i))
            (λ ne is. rw is λ i. head_more (put_true (knows a).read.learnt x) (h.before_since q f y i));
        beside_since = λ q f y z. by_equal q p
            (λ e is. rw is λ i j. rw (same_Some x y i) at ((at_chain there) f z j))
            (λ ne is. rw is (h.beside_since q f y z));
        linked_learnt = λ y i. put_true (knows a).read.learnt x y (h.linked_learnt y i);
      }
    where
      h : HoldsBy m.rows t.row_out t.page_out (t.entered a) (knows a)
      h = T.holds a

      at_chain : Reached 0 (level_in spells.chain) (low_in spells.chain) (o.page p) → (f z : ℕ) → (knows a).read.heads f ≡ Some z → HeldBeside m.rows t.page_out (t.entered a) f x z
      at_chain there f z j =
          let d = h.heads_since f z j in
          record {
            chain = d.chain;
            is_chain = d.is_chain;
            left = spells.chain;
            is_left = spells.is_chain;
            since =
                λ gone alive right. place_since (t.entered a) (record { page = f; row = z; chain = d.chain })
                (beyond_place g a p x sx spells.chain spells.is_chain there alive f z right j d.chain d.is_chain gone);
          }

  -- the actor reads a row
  pub row_holds : (q : ℕ) (w : Record) → (knows a).read.learnt q ≡ true → m.rows q ≡ Some w
      → Holds m.rows t.row_out t.page_out (t.entered a) (knows a).inside (put (knows a).read.seen q (Some w)) (learnt_next (next_row w) (knows a).read.learnt)
      (knows a).read.roots (knows a).read.heads (knows a).read.before (knows a).asked.linked
  row_holds q w l e = record {
    learnt_inside = λ r i. h.learnt_inside q l;
    learnt_since = since (next_row w) refl;
    seen_learnt = λ r v. by_equal r q (λ i t. rw t λ j. grows (next_row w) r (ap (knows a).read.learnt i ∙ l)) (λ ne t. rw t λ j. grows (next_row w) r (h.seen_learnt r v j));
    roots_inside = h.roots_inside;
    roots_since = h.roots_since;
    heads_since = λ p x i. head_more (grows (next_row w)) (h.heads_since p x i);
    before_since = λ p f x i. head_more (grows (next_row w)) (h.before_since p f x i);
    beside_since = h.beside_since;
    linked_learnt = λ x i. grows (next_row w) x (h.linked_learnt x i);
  }
    where
      h : HoldsBy m.rows t.row_out t.page_out (t.entered a) (knows a)
      h = T.holds a

      grows : (n : Option ℕ) (r : ℕ) → (knows a).read.learnt r ≡ true → learnt_next n (knows a).read.learnt r ≡ true
      grows None r i = i
      grows (Some n) r i = put_true (knows a).read.learnt n r i

      since : (n : Option ℕ) → next_row w ≡ n → (r : ℕ) → learnt_next n (knows a).read.learnt r ≡ true → IsSince (t.entered a) (t.row_out r)
      since None i r = h.learnt_since r
      since (Some n) i r = by_equal r n (λ j is. rw is λ v. rw (ap t.row_out j ∙ (T.together q n w (linked g T a a q l) e i).1) (h.learnt_since q l)) (λ ne is. rw is (h.learnt_since r))
