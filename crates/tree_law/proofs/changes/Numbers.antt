-- Numbers that are taken and not in the tree: who has them, and what a step makes of them.
use Rattle.tree_law.proofs.Words.{◌⊎◌, [], ap, refl, cond, Option, List, inl, ◌≢◌, length, ◌++◌, ◌≤◌, inr, suc, zero, ◌∷◌, ℕ, ◌≡◌, ◌∙◌, ◌<◌, arith, ◌+◌, true, cases_lt, All}
use Rattle.tree_law.proofs.Words.{count_by, eqb_tells, ◌==◌, Limits, Command, Reply, Answer, Whether, StepOf, TakePid, TakeRow, Place, Exchange, Slot, Row, Epoch, Announce, PidBits, RowBits}
use Rattle.tree_law.proofs.Words.{Enter, Leave, ReusePids, ReuseRows, Number, Content, Record, memory_of, knows, Knowledge, learn, after_reply, after_begin, IsAnswer, May, Entry, Begin, Step}
use Rattle.tree_law.proofs.Words.{after_exchange, after_emptying, OwnPage, Other, Empty, Ready, Gone, OwnRow, Written, put, shared_part, IsState, PageOwner, Keeps, MayExchange, Foreign, Taken}
use Rattle.tree_law.proofs.Words.{Retire, Happens, Happens-below, Happens-kept, ChangesTree, takes_number, total, Owner, Free, Spare, Linked, OwnFits, PageFits}
use Rattle.bw_model.specs.declared.step.Link.TheVariants as link
use Rattle.traces.proofs.TraceLaws.{Happens-last}
use Rattle.std.proofs.lemmas.List.Elements.{All-push}
use Rattle.tree_law.specs.Changes.{AreUsed, numbers_had, page_mark, pids_had, row_mark, rows_had}
use Rattle.tree_law.proofs.shape.Puts.{by_equal, put_other, put_same}
use Rattle.tree_law.proofs.trace.Beginning.{knows-push}
use Rattle.tree_law.proofs.trace.Owned.{pushed_length}
use Rattle.tree_law.proofs.links.Exchanged.{exchanging, roots, empties, clears, readies, rebuilds, updates, splits, unterms, hands, misses}
use Rattle.traces.proofs.Pushes.{increasing_push}
use Rattle.tree_law.proofs.direct.Counting.{count_push}
use Rattle.tree_law.proofs.direct.Linking.{change}
use Rattle.tree_law.proofs.changes.Totals.{bounded, none, one}

-- Sums of marks, where one place is put anew.
module _ {V : Type 0} (mark : V → ℕ) (small : (v : V) → mark v ≤ 1) (f : ℕ → V) (p : ℕ) (v : V) (n : ℕ) where
  abbrev old : ℕ → ℕ
  old i = mark (f i)

  abbrev new : ℕ → ℕ
  new i = mark (put f p v i)

  elsewhere : (i : ℕ) → i ≢ p → old i ≤ new i
  elsewhere i ne = let same : new i ≡ old i = ap mark (put_other f p v i ne) in omega arith

  moved : p < n → total old n + mark v ≤ total new n + mark (f p)
  moved lt =
      let h : total old n + new p ≤ total new n + old p = one new old p n lt (λ i below ne. elsewhere i ne) in
      let here : new p ≡ mark v = ap mark (put_same f p v) in
      omega arith

  pub no_less : mark (f p) ≤ mark v → total old n ≤ total new n
  no_less less =
      none new old n (λ i below. by_equal i p
      (λ same t. let here : new i ≡ mark v = ap (λ j. mark (put f p v j)) same ∙ ap mark (put_same f p v) in let was : old i ≡ mark (f p) = ap old same in omega (arith, here, was, less))
      (λ ne t. elsewhere i ne))

  pub loses_one : total old n ≤ total new n + 1
  loses_one = elim (cases_lt p n) [
    | inl lt ↦ let h = moved lt in let most : mark (f p) ≤ 1 = small (f p) in omega (arith, h, most)
    | inr ge ↦ let h : total old n ≤ total new n = none new old n (λ i below. elsewhere i (λ same. let e : i ≡ p = same in omega arith)) in omega arith
  ]

  pub gains_one : p < n → mark (f p) ≡ 0 → mark v ≡ 1 → total old n + 1 ≤ total new n
  gains_one lt was now = let h = moved lt in omega (arith, h, was, now)

row_small : (row : OwnRow) → row_mark row ≤ 1
row_small Foreign = omega arith
row_small other = omega arith

page_small : (page : OwnPage) → page_mark page ≤ 1
page_small Other = omega arith
page_small other = omega arith

module _ (limits : Limits) where
  abbrev pub had : Knowledge → ℕ
  had k = rows_had limits k + pids_had limits k

  -- what a row, or a page, that is put anew makes of it
  module _ (rows : ℕ → OwnRow) (row : ℕ) where
    row_lost : total (λ r. row_mark (rows r)) limits.rows ≤ total (λ r. row_mark (put rows row Foreign r)) limits.rows + 1
    row_lost = loses_one row_mark row_small rows row Foreign limits.rows

  module _ (pages : ℕ → OwnPage) (page : ℕ) (v : OwnPage) where
    page_lost : total (λ p. page_mark (pages p)) limits.pids ≤ total (λ p. page_mark (put pages page v p)) limits.pids + 1
    page_lost = loses_one page_mark page_small pages page v limits.pids

    page_kept : page_mark (pages page) ≤ page_mark v → total (λ p. page_mark (pages p)) limits.pids ≤ total (λ p. page_mark (put pages page v p)) limits.pids
    page_kept less = no_less page_mark page_small pages page v limits.pids less

  -- an exchange that wins takes three at most from its actor
  at_most_three : (p x y : ℕ) (k : Knowledge) → had k ≤ had (after_exchange p x y k) + 3
  at_most_three p x y k = elim (exchanging p x y k) as (λ p x y k' v. had k ≤ had k' + 3) [
    | roots x y base e ↦ let one = row_lost k.own.rows base in let two = page_lost k.own.pages y Other in omega (arith, one, two)
    | empties p x base e ↦ let one = page_lost k.own.pages (suc p) Empty in omega (arith, one)
    | clears p x e ↦ let one = page_lost k.own.pages (suc p) Other in omega (arith, one)
    | readies p x y e ↦ let one = page_lost k.own.pages (suc p) (Ready (suc y)) in omega (arith, one)
    | rebuilds p x y w o e ↦ let one = row_lost k.own.rows (suc y) in omega (arith, one)
    | updates p x y w o e u ↦ let one = row_lost k.own.rows (suc y) in omega (arith, one)
    | splits p x y base w e ↦
        let one = row_lost k.own.rows base in
        let two = row_lost (put k.own.rows base Foreign) (suc y) in
        let three = page_lost k.own.pages w.page Other in
        omega (arith, one, two, three)
    | unterms p x y w ↦ let one = row_lost k.own.rows (suc y) in let two = page_lost k.own.pages w.child Gone in omega (arith, one, two)
    | hands p x y ↦ let one = row_lost k.own.rows (suc y) in omega (arith, one)
    | misses ↦ omega arith
  ]

  -- the emptying of a slot takes none
  emptied_keeps : (page : OwnPage) (p x : ℕ) (k : Knowledge) → k.own.pages p ≡ page → had k ≤ had (after_emptying page p x k)
  emptied_keeps Other p x k e = omega arith
  emptied_keeps Empty p x k e = omega arith
  emptied_keeps (Ready base) p x k e = let kept = page_kept k.own.pages p Empty (page_small (k.own.pages p)) in omega (arith, kept)
  emptied_keeps Gone p x k e = let kept = page_kept k.own.pages p Other (let none : page_mark (k.own.pages p) ≡ 0 = ap page_mark e in omega arith) in omega (arith, kept)

  abbrev took : Entry → ℕ
  took entry = cond (takes_number entry) 1 0

  module _ (entries : List Entry) (a : ℕ) (state : IsState limits entries) (r : Option Reply) where
    abbrev k : Knowledge
    k = knows entries a

    -- what the actor has pays for what it takes, but for a change of the tree
    abbrev pub UsesFew : StepOf Record → Answer Record → Type 0
    UsesFew s x = (had k + took (Step a s x r) ≤ had (after_reply (learn k s x) r))
        ⊎ (ChangesTree (memory_of limits entries) (Step a s x r) × (had k + took (Step a s x r) ≤ had (after_reply (learn k s x) r) + 3))

    exchange_uses : (slot old new : ℕ) → MayExchange a k slot old new → (memory_of limits entries).slots slot ≡ old → UsesFew (Exchange slot old new) (Whether true)
    exchange_uses zero old new may at = inr ((a, zero, old, new, link.Root, ((r, refl), refl), (λ e. cc e), (λ e. cc e)), (let few = at_most_three zero old new k in omega (arith, few)))
    exchange_uses (suc p) zero zero may at = absurd may
    exchange_uses (suc p) zero (suc row) may at = inl (rw may.0 (let kept = page_kept k.own.pages (suc p) (Ready (suc row)) (page_small (k.own.pages (suc p))) in omega (arith, kept)))
    exchange_uses (suc p) (suc old) zero may at = inl (let kept = emptied_keeps (k.own.pages (suc p)) (suc p) (suc old) k refl in omega (arith, kept))
    exchange_uses (suc p) (suc old) (suc new) may at = by_page (k.own.pages (suc p)) refl
      where
        changes : ((base : ℕ) → k.own.pages (suc p) ≡ Ready base → ⊥) → UsesFew (Exchange (suc p) (suc old) (suc new)) (Whether true)
        changes never =
            let made = change limits entries a state (suc p) (suc old) (suc new) may at in
            let counts = made.counts (omega arith) never in
            inr ((a, suc p, suc old, suc new, made.kind, ((r, refl), made.is), counts.0, counts.1), (let few = at_most_three (suc p) (suc old) (suc new) k in omega (arith, few)))

        by_page : (page : OwnPage) → k.own.pages (suc p) ≡ page → UsesFew (Exchange (suc p) (suc old) (suc new)) (Whether true)
        by_page (Ready base) e = inl (rw e (omega arith))
        by_page other e = changes (λ base f. cc (e, f))

    -- a number that is free is nobody's
    unowned_row : (row : ℕ) → (memory_of limits entries).free_rows row ≡ true → row_mark (k.own.rows row) ≡ 0
    unowned_row row free = by_row (k.own.rows row) (state.is_tree.owns a row)
      where
        by_row : (own : OwnRow) → OwnFits a (state.owners.row row) ((memory_of limits entries).rows row) own → row_mark own ≡ 0
        by_row Foreign fits = refl
        by_row Taken fits = absurd (cc (fits, state.is_tree.frees.row row free))
        by_row (Written content) fits = absurd (cc (fits.0, state.is_tree.frees.row row free))

    unowned_page : (page : ℕ) → (memory_of limits entries).free_pids page ≡ true → page_mark (k.own.pages page) ≡ 0
    unowned_page page free = by_page (k.own.pages page) (state.is_tree.owns_pages a page)
      where
        by_page : (own : OwnPage) → PageFits a (state.owners.page page) ((shared_part (memory_of limits entries)).slots page) own → page_mark own ≡ 0
        by_page Other fits = refl
        by_page Empty fits = absurd (cc (fits.0, (state.is_tree.frees.page page free).0))
        by_page (Ready row) fits = absurd (cc (fits.0, (state.is_tree.frees.page page free).0))
        by_page Gone fits = refl

    got : {b : _} → ◌≡◌ {A = Answer Record} (Whether true) (Whether b) → b ≡ true
    got e = cc e

    -- a step that neither takes, nor places, nor exchanges leaves an actor what it has
    abbrev IsOther : StepOf Record → Type 0
    IsOther (TakePid page) = ⊥
    IsOther (TakeRow row) = ⊥
    IsOther (Place row content) = ⊥
    IsOther (Exchange slot from to) = ⊥
    IsOther s = Unit {0}

    same_own : (s : StepOf Record) (x : Answer Record) → IsOther s → (learn k s x).own ≡ k.own
    same_own (Slot (suc p)) (Number zero) other = refl
    same_own (TakePid page) x other = absurd other
    same_own (TakeRow row) x other = absurd other
    same_own (Place row content) x other = absurd other
    same_own (Exchange slot from to) x other = absurd other
    same_own s (Number n) other = refl
    same_own s (Content content) other = refl
    same_own s x other = refl

    took_none : (s : StepOf Record) (x : Answer Record) → IsOther s → took (Step a s x r) ≡ 0
    took_none (TakePid page) x other = absurd other
    took_none (TakeRow row) x other = absurd other
    took_none (Place row content) x other = absurd other
    took_none (Exchange slot from to) x other = absurd other
    took_none s x other = refl

    others : (s : StepOf Record) (x : Answer Record) → IsOther s → UsesFew s x
    others s x other =
        let same : had (after_reply (learn k s x) r) ≡ had k = rw (same_own s x other) in
        let none = took_none s x other in
        inl (omega (arith, same, none))

    pub uses_few : (s : StepOf Record) (x : Answer Record) → May a k s → IsAnswer (memory_of limits entries) s x → UsesFew s x
    uses_few (TakePid page) (Whether true) may is =
        let free : (memory_of limits entries).free_pids page ≡ true = got is in
        inl (let more = gains_one page_mark page_small k.own.pages page Empty limits.pids (state.named.free_pid_below page free).1 (unowned_page page free) refl in omega (arith, more))
    uses_few (TakeRow row) (Whether true) may is =
        let free : (memory_of limits entries).free_rows row ≡ true = got is in
        inl (let more = gains_one row_mark row_small k.own.rows row Taken limits.rows (state.named.free_row_below row free) (unowned_row row free) refl in omega (arith, more))
    uses_few (Place row content) x may is = inl (let kept = no_less row_mark row_small k.own.rows row (Written content) limits.rows (row_small (k.own.rows row)) in omega (arith, kept))
    uses_few (Exchange slot from to) (Whether true) may is =
        exchange_uses slot from to may.1 (elim (eqb_tells ((memory_of limits entries).slots slot) from) [ inl same ↦ same.1 | inr apart ↦ absurd (cc (is, apart.0)) ])
    uses_few (Slot slot) x may is = others (Slot slot) x tt
    uses_few (Row row) x may is = others (Row row) x tt
    uses_few Epoch x may is = others Epoch x tt
    uses_few (Announce other) x may is = others (Announce other) x tt
    uses_few (PidBits word) x may is = others (PidBits word) x tt
    uses_few (RowBits word) x may is = others (RowBits word) x tt
    uses_few (Enter epoch) x may is = others (Enter epoch) x tt
    uses_few Leave x may is = others Leave x tt
    uses_few (Retire epoch) x may is = others (Retire epoch) x tt
    uses_few (ReusePids word bits) x may is = others (ReusePids word bits) x tt
    uses_few (ReuseRows word bits) x may is = others (ReuseRows word bits) x tt
    uses_few s x may is = inl (omega arith)

-- No number is had twice, so all actors together have no more than there are.
abbrev below : ℕ → ℕ → ℕ
below b zero = 0
below b (suc n) = cond (b == n) 1 (below b n)

below_small : (b n : ℕ) → below b n ≤ 1
below_small b zero = omega arith
below_small b (suc n) = elim (eqb_tells b n) [ inl same ↦ rw same.0 (omega arith) | inr apart ↦ rw apart.0 (below_small b n) ]

not_below : (b n : ℕ) → n ≤ b → below b n ≡ 0
not_below b zero le = refl
not_below b (suc n) le = elim (eqb_tells b n) [ inl same ↦ absurd (let e : b ≡ n = same.1 in omega arith) | inr apart ↦ rw apart.0 (not_below b n (omega arith)) ]

below_next : (n : ℕ) → below n (suc n) ≡ 1
below_next n = elim (eqb_tells n n) [ inl same ↦ rw same.0 refl | inr apart ↦ absurd (apart.1 refl) ]

below_grows : (b n : ℕ) → below b n ≤ below b (suc n)
below_grows b n = elim (eqb_tells b n) [ inl same ↦ rw same.0 (below_small b n) | inr apart ↦ rw apart.0 (omega arith) ]

abbrev row_of_below : ℕ → Owner → ℕ
row_of_below n Free = 0
row_of_below n (Spare b) = below b n
row_of_below n Linked = 0

abbrev page_of_below : ℕ → PageOwner → ℕ
page_of_below n (Keeps b) = below b n
page_of_below n other = 0

row_below_small : (n : ℕ) (o : Owner) → row_of_below n o ≤ 1
row_below_small n Free = omega arith
row_below_small n (Spare b) = below_small b n
row_below_small n Linked = omega arith

page_below_small : (n : ℕ) (o : PageOwner) → page_of_below n o ≤ 1
page_below_small n (Keeps b) = below_small b n
page_below_small n other = omega arith

row_grows : (n : ℕ) (o : Owner) → row_of_below n o ≤ row_of_below (suc n) o
row_grows n Free = omega arith
row_grows n (Spare b) = below_grows b n
row_grows n Linked = omega arith

page_grows : (n : ℕ) (o : PageOwner) → page_of_below n o ≤ page_of_below (suc n) o
page_grows n (Keeps b) = below_grows b n
page_grows n other = omega arith

row_counted : (n : ℕ) (o : Owner) (w : Option Record) (own : OwnRow) → OwnFits n o w own → row_of_below n o + row_mark own ≤ row_of_below (suc n) o
row_counted n o w Foreign fits = let more = row_grows n o in omega (arith, more)
row_counted n o w Taken fits = rw fits (let one = below_next n in let zero = not_below n n (omega arith) in omega (arith, one, zero))
row_counted n o w (Written content) fits = rw fits.0 (let one = below_next n in let zero = not_below n n (omega arith) in omega (arith, one, zero))

page_counted : (n : ℕ) (o : PageOwner) (s : Option ℕ) (own : OwnPage) → PageFits n o s own → page_of_below n o + page_mark own ≤ page_of_below (suc n) o
page_counted n o s Other fits = let more = page_grows n o in omega (arith, more)
page_counted n o s Empty fits = rw fits.0 (let one = below_next n in let zero = not_below n n (omega arith) in omega (arith, one, zero))
page_counted n o s (Ready row) fits = rw fits.0 (let one = below_next n in let zero = not_below n n (omega arith) in omega (arith, one, zero))
page_counted n o s Gone fits = let more = page_grows n o in omega (arith, more)

total_both : (f g : ℕ → ℕ) (n : ℕ) → total (λ i. f i + g i) n ≡ total f n + total g n
total_both f g zero = refl
total_both f g (suc n) = let rest = total_both f g n in omega (arith, rest)

module _ (limits : Limits) (entries : List Entry) (state : IsState limits entries) where
  rows_until : (n : ℕ) → total (λ a. rows_had limits (knows entries a)) n ≤ total (λ row. row_of_below n (state.owners.row row)) limits.rows
  rows_until zero = omega arith
  rows_until (suc n) =
      let before = rows_until n in
      let both = total_both (λ row. row_of_below n (state.owners.row row)) (λ row. row_mark ((knows entries n).own.rows row)) limits.rows in
      let more = none (λ row. row_of_below (suc n) (state.owners.row row)) (λ row. row_of_below n (state.owners.row row) + row_mark ((knows entries n).own.rows row)) limits.rows
      (λ row lt. row_counted n (state.owners.row row) _ ((knows entries n).own.rows row) (state.is_tree.owns n row)) in
      omega (arith, before, both, more)

  pids_until : (n : ℕ) → total (λ a. pids_had limits (knows entries a)) n ≤ total (λ page. page_of_below n (state.owners.page page)) limits.pids
  pids_until zero = omega arith
  pids_until (suc n) =
      let before = pids_until n in
      let both = total_both (λ page. page_of_below n (state.owners.page page)) (λ page. page_mark ((knows entries n).own.pages page)) limits.pids in
      let more = none (λ page. page_of_below (suc n) (state.owners.page page)) (λ page. page_of_below n (state.owners.page page) + page_mark ((knows entries n).own.pages page)) limits.pids
      (λ page lt. page_counted n (state.owners.page page) _ ((knows entries n).own.pages page) (state.is_tree.owns_pages n page)) in
      omega (arith, before, both, more)

  -- all actors together have no more than there are
  pub had_most : numbers_had limits (knows entries) ≤ limits.rows + limits.pids
  had_most =
      let both = total_both (λ a. rows_had limits (knows entries a)) (λ a. pids_had limits (knows entries a)) limits.actors in
      let rows = rows_until limits.actors in
      let pids = pids_until limits.actors in
      let most_rows = bounded (λ row. row_of_below limits.actors (state.owners.row row)) 1 limits.rows (λ row. row_below_small limits.actors (state.owners.row row)) in
      let most_pids = bounded (λ page. page_of_below limits.actors (state.owners.page page)) 1 limits.pids (λ page. page_below_small limits.actors (state.owners.page page)) in
      omega (arith, both, rows, pids, most_rows, most_pids)

-- One entry more.
module _ (limits : Limits) (entries : List Entry) (last : Entry) (used : AreUsed limits entries) where
  abbrev longer : List Entry
  longer = entries ++ last ∷ []

  kept : All (λ place. Happens limits longer place ChangesTree) used.changes
  kept = λ k d lt. Happens-kept (last ∷ []) (used.each k d lt)

  counted : count_by takes_number longer ≡ count_by takes_number entries + cond (takes_number last) 1 0
  counted = count_push takes_number entries last

  pub used_still : numbers_had limits (knows entries) + cond (takes_number last) 1 0 ≤ numbers_had limits (knows longer) → AreUsed limits longer
  used_still enough = record {
    changes = used.changes;
    increasing = used.increasing;
    each = kept;
    used = let old = used.used in omega (arith, old, counted, enough);
  }

  pub used_changed : ChangesTree (memory_of limits entries) last → numbers_had limits (knows entries) + cond (takes_number last) 1 0 ≤ numbers_had limits (knows longer) + 3 → AreUsed limits longer
  used_changed changes enough = record {
    changes = used.changes ++ length entries ∷ [];
    increasing =
        increasing_push used.changes (length entries) used.increasing
        (λ k d lt. Happens-below (used.each k d lt));
    each = All-push (λ place. Happens limits longer place ChangesTree) used.changes (length entries) kept (Happens-last limits entries last ChangesTree changes);
    used =
        let old = used.used in
        let more : length (used.changes ++ length entries ∷ []) ≡ suc (length used.changes) = pushed_length used.changes (length entries) in
        omega (arith, old, counted, enough, more);
  }

module _ (limits : Limits) (entries : List Entry) (a : ℕ) (within : a < limits.actors) where
  abbrev all_had : (ℕ → Knowledge) → ℕ → ℕ
  all_had ks actor = rows_had limits (ks actor) + pids_had limits (ks actor)

  -- one actor's part of the sum
  had_moves : (k : Knowledge) → numbers_had limits (knows entries) + had limits k ≤ numbers_had limits (put (knows entries) a k) + had limits (knows entries a)
  had_moves k =
      let h = one (all_had (put (knows entries) a k)) (all_had (knows entries)) a limits.actors within
      (λ actor lt ne. let same : all_had (put (knows entries) a k) actor ≡ all_had (knows entries) actor = rw (put_other (knows entries) a k actor ne) in omega arith) in
      let here : all_had (put (knows entries) a k) a ≡ had limits k = rw (put_same (knows entries) a k) in
      omega (arith, h, here)

  pub used_step : (s : StepOf Record) (x : Answer Record) (r : Option Reply) (state : IsState limits entries) → AreUsed limits entries
      → May a (knows entries a) s → IsAnswer (memory_of limits entries) s x
      → AreUsed limits (entries ++ Step a s x r ∷ [])
  used_step s x r state used may is =
      let last : Entry = Step a s x r in
      let moved = had_moves (after_reply (learn (knows entries a) s x) r) in
      let then : numbers_had limits (knows (entries ++ Step a s x r ∷ [])) ≡ numbers_had limits (put (knows entries) a (after_reply (learn (knows entries a) s x) r)) = ap
      (numbers_had limits) (knows-push entries (Step a s x r)) in
      elim (uses_few limits entries a state r s x may is) [
        | inl paid ↦ used_still limits entries (Step a s x r) used (omega (arith, moved, then, paid))
        | inr (changes, paid) ↦ used_changed limits entries (Step a s x r) used changes (omega (arith, moved, then, paid))
      ]

  pub used_begin : (c : Command) → AreUsed limits entries → AreUsed limits (entries ++ Begin a c ∷ [])
  used_begin c used =
      let moved = had_moves (after_begin (knows entries a) c) in
      let then : numbers_had limits (knows (entries ++ Begin a c ∷ [])) ≡ numbers_had limits (put (knows entries) a (after_begin (knows entries a) c)) = ap
      (numbers_had limits) (knows-push entries (Begin a c)) in
      used_still limits entries (Begin a c) used (omega (arith, moved, then))
