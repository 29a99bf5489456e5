-- Refreshing, splitting and joining seats keeps the rule, and so does a new seat.
use Rattle.table_rule.proofs.Words.{Allows, Each, Entry, ExtendsFor, Idle, IsRefreshed, IsSettled, LeavesRow, Limits, List, Memory, Mine, Noted, Part, PartFits}
use Rattle.table_rule.proofs.Words.{Reach, Running, SpellsWhere, StartsWith, Writing, ap, arith, at_last, at_longer, at_set, dite, everywhere, extends_self}
use Rattle.table_rule.proofs.Words.{first_part, get_elem?, is_at, keeps, length, map, memory_of, none, other_parts, part_note, refl, set, set-get_or, set_else}
use Rattle.table_rule.proofs.Words.{some, some-injective, some-ne-none, step, suc, sym, times, with_run, zero, ℕ, ℕ_discrete, [], ⊎_elim, ◌++◌, ◌+◌, ◌<◌, ◌∙◌}
use Rattle.table_rule.proofs.Words.{◌∷◌, ◌≡◌, ◌≢◌, ◌≤◌}
use Rattle.atomic_table.specs.Table.{Splits, Joins, Enters as NewSeat}
use Rattle.atomic_table.proofs.Lists.{at_snoc}
use Rattle.table_rule.specs.Views.{Refreshes, IsBlank}
use Rattle.table_rule.proofs.Turns.{TableState}
use Rattle.table_rule.proofs.Parts.{mark, each_map, each_append, extends_goes, everywhere_set, everywhere_snoc, times_append, spells_views}

pub set_at : {A : Type 0} (l : List A) (i : ℕ) (v w : A) → get_elem? l i ≡ some v → get_elem? (set l i w) i ≡ some w
set_at [] i v w e = absurd (some-ne-none v (sym e))
set_at (x ∷ xs) zero v w e = refl
set_at (x ∷ xs) (suc i) v w e = set_at xs i v w e

pub each_left : {A : Type 0} (P : A → Type 0) (xs ys : List A) → Each P (xs ++ ys) → Each P xs
each_left P [] ys t = tt
each_left P (x ∷ xs) ys t = (t.0, each_left P xs ys t.1)

each_right : {A : Type 0} (P : A → Type 0) (xs ys : List A) → Each P (xs ++ ys) → Each P ys
each_right P [] ys t = t
each_right P (x ∷ xs) ys t = each_right P xs ys t.1

times_refreshed : (a : ℕ) (run : List Entry) (v : List Part) → times a (map (with_run run) v) ≡ times a v
times_refreshed a run [] = refl
times_refreshed a run (p ∷ ps) = ap (λ (n : ℕ). mark (is_at a p.actor p.reach) + n) (times_refreshed a run ps)

leaves_refreshed : (r : ℕ) (run : List Entry) (v : List Part) → Each (λ p. LeavesRow r p.reach) (map (with_run run) v) → Each (λ p. LeavesRow r p.reach) v
leaves_refreshed r run [] t = tt
leaves_refreshed r run (p ∷ ps) t = (t.0, leaves_refreshed r run ps t.1)

pub same_view : (views : List (List Part)) (id j : ℕ) (v u : List Part) → get_elem? views id ≡ some v → get_elem? views j ≡ some u → j ≡ id → v ≡ u
same_view views id j v u at there e = some-injective v u (sym at ∙ ap (get_elem? views) (sym e) ∙ there)

-- the rows that are settled in one roster are settled in the other
with_views : (limits : Limits) (words : List ℕ) (views views' : List (List Part)) (m : Memory) → ((r : ℕ) → IsSettled views' r → IsSettled views r)
    → SpellsWhere limits words m (IsSettled views) → SpellsWhere limits words m (IsSettled views')
with_views limits words views views' m back sp = spells_views limits words m (IsSettled views) (IsSettled views') back sp

pub first_and_others : (v : List Part) → v ≡ first_part v ++ other_parts v
first_and_others [] = refl
first_and_others (p ∷ ps) = refl

module _ (limits : Limits) (law : List Entry → Type 0) where
  abbrev R : TableState → Type 0
  R = Running limits law

  abbrev Fits : List ℕ → List Entry → Part → Type 0
  Fits words run = PartFits limits words run

  fits_refreshed : (words : List ℕ) (run : List Entry) (v : List Part) → Each (Fits words run) v → Each (Fits words run) (map (with_run run) v)
  fits_refreshed words run [] t = tt
  fits_refreshed words run (p ∷ ps) t =
      (record { extends = extends_goes p.reach p.actor run run (extends_self p.actor run); reach = t.0.reach; there = t.0.there; own_limits = t.0.own_limits }, fits_refreshed words run ps t.1)

  -- the same words and run, under other views
  reviewed : (s : TableState) (h : R s) (views : List (List Part)) → ((r : ℕ) → IsSettled views r → IsSettled s.views r) → ((a : ℕ) → everywhere a views ≤ 1)
      → ((a : ℕ) → a < limits.actors → 1 ≤ everywhere a views) → ((id : ℕ) (view : List Part) → get_elem? views id ≡ some view → Each (Fits s.words h.run) view)
      → R record { words = s.words; homes = s.homes; views = views }
  reviewed s h views settled once somewhere each = record {
    run = h.run;
    legal = h.legal;
    kept = h.kept;
    wide = h.wide;
    spells = with_views limits s.words s.views views (memory_of limits h.run) settled h.spells;
    begins = h.begins;
    actors = h.actors;
    once = once;
    somewhere = somewhere;
    each = each;
  }

  pub view_refreshed : (s : TableState) (h : R s) (id : ℕ) (v : List Part) → get_elem? s.views id ≡ some v
      → R record { words = s.words; homes = s.homes; views = set s.views id (map (with_run h.run) v) }
  view_refreshed s h id v at = let w : List Part = map (with_run h.run) v in reviewed s h (set s.views id w)
      (λ r st j u there. dite (ℕ_discrete j id)
      (λ e. rw (← same_view s.views id j v u at there e) (leaves_refreshed r h.run v (st id w (set_at s.views id v w at))))
      (λ ne. st j u (set_else s.views id j w ne ∙ there)))
      (λ a. let t = everywhere_set s.views id v w a at in let o = h.once a in let same = times_refreshed a h.run v in omega arith)
      (λ a below. let t = everywhere_set s.views id v w a at in let o = h.somewhere a below in let same = times_refreshed a h.run v in omega arith)
      (λ j u there. ⊎_elim
      (λ t. rw (← t.1) (fits_refreshed s.words h.run v (h.each id v at)))
      (λ t. h.each j u t.1)
      (at_set s.views id j w u there))

  pub refreshes : (slots id : ℕ) (me : Mine) (i : ℕ) → Allows R slots id me i (λ n. n) (λ n. IsRefreshed law me)
  refreshes slots id me i s h _ at _ = (
    map (with_run h.run) me.0,
    keeps,
    tt,
    rw (set-get_or s.words i 0) (view_refreshed s h id me.0 at),
    record {
      run = h.run;
      legal = h.legal;
      begins = h.begins;
      saw = refl;
      extends = each_map (Fits s.words h.run) (λ p. ExtendsFor p.reach p.actor p.seen h.run)
          (λ p f. f.extends) me.0 (h.each id me.0 at);
    },
  )

  pub joins : (id other : ℕ) (v w : List Part) → Joins R id v other w (v ++ w) []
  joins id other v w s h at ne there =
      let first : List (List Part) = set s.views id (v ++ w) in
      let last : List (List Part) = set first other [] in
      let away : id ≢ other = λ e. ne (sym e) in
      let there' : get_elem? s.views other ≡ some w = sym (set_else s.views id other (v ++ w) ne) ∙ there in
      let here : get_elem? last id ≡ some (v ++ w) = set_else first other id [] away ∙ set_at s.views id v (v ++ w) at in reviewed s h last
      (λ r st j u is. let both = st id (v ++ w) here in dite (ℕ_discrete j id)
      (λ e. rw (← same_view s.views id j v u at is e) (each_left (λ p. LeavesRow r p.reach) v w both))
      (λ nid. dite (ℕ_discrete j other)
      (λ e. rw (← same_view s.views other j w u there' is e) (each_right (λ p. LeavesRow r p.reach) v w both))
      (λ nother. st j u (set_else first other j [] nother ∙ set_else s.views id j (v ++ w) nid ∙ is))))
      (λ a. let t = everywhere_set s.views id v (v ++ w) a at in let u = everywhere_set first other w [] a there in let o = h.once a in let sum = times_append a v w in omega arith)
      (λ a below. let t = everywhere_set s.views id v (v ++ w) a at in let u = everywhere_set first other w [] a there in let o = h.somewhere a below in
      let sum = times_append a v w in omega arith)
      (λ j u is. ⊎_elim
      (λ t. rw (← t.1) tt)
      (λ t. ⊎_elim
      (λ y. rw (← y.1) (each_append (Fits s.words h.run) v w (h.each id v at) (h.each other w there')))
      (λ y. h.each j u y.1)
      (at_set s.views id j (v ++ w) u t.1))
      (at_set first other j [] u is))

  pub splits : (id : ℕ) (v left right : List Part) → v ≡ left ++ right → Splits R id v left right
  splits id v left right cut s h at =
      let first : List (List Part) = set s.views id left in
      let last : List (List Part) = first ++ right ∷ [] in
      let fit : Each (Fits s.words h.run) (left ++ right) = rw (← cut) (h.each id v at) in
      let here : get_elem? last id ≡ some left = at_longer first (right ∷ []) id left (set_at s.views id v left at) in
      let there : get_elem? last (length first) ≡ some right = at_last first right (length first) refl in reviewed s h last
      (λ r st j u is. dite (ℕ_discrete j id)
      (λ e. rw (← sym cut ∙ same_view s.views id j v u at is e)
      (each_append (λ p. LeavesRow r p.reach) left right (st id left here) (st (length first) right there)))
      (λ ne. st j u (at_longer first (right ∷ []) j u (set_else s.views id j left ne ∙ is))))
      (λ a. let t = everywhere_set s.views id v left a at in let u = everywhere_snoc first right a in let o = h.once a in let sum = times_append a left right in
      let whole : times a v ≡ times a (left ++ right) = ap (times a) cut in omega arith)
      (λ a below. let t = everywhere_set s.views id v left a at in let u = everywhere_snoc first right a in let o = h.somewhere a below in let sum = times_append a left right in
      let whole : times a v ≡ times a (left ++ right) = ap (times a) cut in omega arith)
      (λ j u is. ⊎_elim
      (λ t. ⊎_elim
      (λ y. rw (← y.1) (each_left (Fits s.words h.run) left right fit))
      (λ y. h.each j u y.1)
      (at_set s.views id j left u t))
      (λ e. rw (← e) (each_right (Fits s.words h.run) left right fit))
      (at_snoc first right u j is))

  note_times : (a : ℕ) (v : List Part) → times a (part_note v) ≡ 0
  note_times a [] = refl
  note_times a (p ∷ ps) = refl

  note_goes : (p : Part) (reach : Reach) (run : List Entry) → ExtendsFor reach p.actor p.seen run → StartsWith run p.seen
  note_goes p Idle run goes = (goes.0, goes.1)
  note_goes p (Writing row first words) run goes = (goes.0, goes.1)
  note_goes p Noted run goes = goes

  note_fits : (words : List ℕ) (run : List Entry) (v : List Part) → Each (Fits words run) v → Each (Fits words run) (part_note v)
  note_fits words run [] t = tt
  note_fits words run (p ∷ ps) t = (record { extends = note_goes p p.reach run t.0.extends; reach = tt; there = t.0.there; own_limits = t.0.own_limits }, tt)

  pub notes : (id : ℕ) (v : List Part) → Splits R id v v (part_note v)
  notes id v s h at =
      let first : List (List Part) = set s.views id v in
      let last : List (List Part) = first ++ part_note v ∷ [] in
      let here : get_elem? last id ≡ some v = at_longer first (part_note v ∷ []) id v (set_at s.views id v v at) in reviewed s h last
      (λ r st j u is. dite (ℕ_discrete j id)
      (λ e. rw (← same_view s.views id j v u at is e) (st id v here))
      (λ ne. st j u (at_longer first (part_note v ∷ []) j u (set_else s.views id j v ne ∙ is))))
      (λ a. let t = everywhere_set s.views id v v a at in let u = everywhere_snoc first (part_note v) a in let o = h.once a in let none = note_times a v in omega arith)
      (λ a below. let t = everywhere_set s.views id v v a at in let u = everywhere_snoc first (part_note v) a in let o = h.somewhere a below in let none = note_times a v in omega arith)
      (λ j u is. ⊎_elim
      (λ t. ⊎_elim
      (λ y. rw (← y.1) (h.each id v at))
      (λ y. h.each j u y.1)
      (at_set s.views id j v u t))
      (λ e. rw (← e) (note_fits s.words h.run v (h.each id v at)))
      (at_snoc first (part_note v) u j is))

module _ (limits : Limits) (law : List Entry → Type 0) where
  pub blanks : (slots i : ℕ) (me : Mine) → NewSeat (Running limits law) slots i (λ n w. IsBlank (w, []))
  blanks slots i me s h _ _ = (
    [],
    reviewed limits law s h (s.views ++ [] ∷ [])
        (λ r st j u is. st j u (at_longer s.views ([] ∷ []) j u is))
        (λ a. let t = everywhere_snoc s.views [] a in let o = h.once a in omega arith)
        (λ a below. let t = everywhere_snoc s.views [] a in let o = h.somewhere a below in omega arith)
        (λ j u is. ⊎_elim (λ t. h.each j u t) (λ e. rw (← e) tt) (at_snoc s.views [] u j is)),
    refl,
  )

first_limits : (limits : Limits) (words : List ℕ) (run : List Entry) (v : List Part) (p : Part) (ps : List Part) → v ≡ p ∷ ps → Each (PartFits limits words run) v → p.limits ≡ limits
first_limits limits words run v p ps e fits = let all : Each (PartFits limits words run) (p ∷ ps) = rw e at fits in all.0.own_limits

pub refreshes_of : (limits key : Limits) (law : Limits → List Entry → Type 0) → key ≡ limits → (slots id : ℕ) (me : Mine) (i : ℕ)
    → Allows (Running key (law key)) slots id me i (λ n. n) (Refreshes law (step slots i 0 0 none) me)
refreshes_of limits key law own slots id me i s h count at small = let t = refreshes key (law key) slots id me i s h count at small in
    (t.0, t.1, t.2, t.3, λ p ps e. rw (first_limits key s.words h.run me.0 p ps e (h.each id me.0 at)) t.4)
