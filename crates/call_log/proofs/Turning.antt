-- Steps on the words keep the rule.
use Rattle.std.proofs.Common.{◌≡◌, ◌≢◌, ◌+◌, ◌-◌, ◌<◌, ◌++◌, ◌∷◌, ◌∙◌, ◌⊎◌, ℕ, zero, suc, List, [], ap, arith, eqb, get_or, inl, inr, length, refl, set, subst, sym, ⊎_elim}
use Rattle.std.proofs.lemmas.List.{set-get_or}
use mathlib.Core.Logic.{dite}
use mathlib.Core.Option.{Option, none, some, some-injective, some-ne-none}
use native.Mathlib.Decide.{ℕ_discrete}
use prog.Atomic.{either}
use lib.ListN.{get_elem?}
use Rattle.atomic_table.specs.Table.{Act, Allows, State, carried_after, gives, Valid, keeps, put_back, rest, stepped, takes}
use Rattle.atomic_table.proofs.Lists.{at_set, exchanged, set_else, set_here}
use Rattle.call_log.specs.declared.log.Deed.{Deed}
use Rattle.call_log.specs.declared.log.Deed.TheVariants.{Began, Closed, Emptied, Ended}
use Rattle.call_log.specs.declared.log.Event.{Event}
use Rattle.call_log.specs.declared.log.Knows.{Knows}
use Rattle.call_log.specs.Logs.{Cell, Ends, IsLog, MayFollow, WritesAs, by, cell_of, home, lent, no_slot, out, stage_of}
use Rattle.call_log.specs.Rule.{HasSlot, Holds, IsTrueView, Stands, knows}
use Rattle.call_log.specs.Steps.{CanClose, CanEmpty, CanEnd, CanLeave, EndsSo, HasClosed, HasDone, HasEmptied, HasLeft, HasSeen, HasTried, Mine, WasLog, event}
use Rattle.call_log.proofs.Logs.{by_other, goes_on_one, goes_on_self, has_first, out_value, same_first, stays_closed, stays_one, stays_out, where_other, where_same}

at_index : {A : Type 0} (l : List A) (i : ℕ) (a d : A) → get_elem? l i ≡ some a → get_or l i d ≡ a
at_index [] i a d e = absurd (some-ne-none a (sym e))
at_index (x ∷ xs) zero a d e = some-injective x a e
at_index (x ∷ xs) (suc i) a d e = at_index xs i a d e

inside : {A : Type 0} (l : List A) (i : ℕ) (a : A) → get_elem? l i ≡ some a → i < length l
inside [] i a e = absurd (some-ne-none a (sym e))
inside (x ∷ xs) zero a e = omega arith
inside (x ∷ xs) (suc i) a e = let r = inside xs i a e in omega (arith, r)

abbrev head_value : {S : Type 0} → S → List (ℕ × S) → S
head_value d [] = d
head_value d (x ∷ xs) = x.1

module _ {S : Type 0} where
  -- what a slot that is in its place says of its word
  at_home : (more stage : ℕ) (cell : Cell S) (word : ℕ) (there : Option S) → Stands more stage cell word there → word ≡ 0
      → (x : S) × (cell ≡ home x) × (there ≡ some x) × (more ≡ 0 → stage < 2)
  at_home more stage no_slot word there is e = absurd is
  at_home more stage (home x) word there is e = (x, refl, is.1, is.2)
  at_home more stage (out a x) word there is e = ⊎_elim (λ t. let w = t.0 in absurd (omega (arith, w, e))) (λ t. let w = t.0 in absurd (omega (arith, w, e))) is

  away : (more stage : ℕ) (cell : Cell S) (word : ℕ) (there : Option S) → Stands more stage cell word there → word ≢ 0
      → (a : ℕ) × (x : S) × (cell ≡ out a x) × (((word ≡ 1) × (more ≡ 0 → stage < 2)) ⊎ ((word ≡ 2) × (0 < stage) × (more ≡ 0 → stage ≡ 2)))
  away more stage no_slot word there is ne = absurd is
  away more stage (home x) word there is ne = absurd (ne is.0)
  away more stage (out a x) word there is ne = (a, x, refl, ⊎_elim (λ t. inl (t.0, t.2)) (λ t. inr t) is)

  -- a later stage changes nothing of how a slot stands
  later_stage : (more stage stage' : ℕ) (cell : Cell S) (word : ℕ) (there : Option S) → (0 < stage → (0 < stage') × (stage ≡ 2 → stage' ≡ 2))
      → (more ≡ 0 → stage < 2 → stage' < 2) → Stands more stage cell word there
      → Stands more stage' cell word there
  later_stage more stage stage' no_slot word there up low is = is
  later_stage more stage stage' (home x) word there up low is = (is.0, is.1, λ m. low m (is.2 m))
  later_stage more stage stage' (out a x) word there up low is = ⊎_elim (λ t. inl (t.0, t.1, λ m. low m (t.2 m))) (λ t. let u = up t.1 in inr (t.0, u.0, λ last. u.1 (t.2 last))) is

  module _ (ends : Ends S) (opened : List S) where
    abbrev pub R : State S (Knows S) → Type 0
    R = Holds ends opened

    abbrev more_of : ℕ → ℕ
    more_of n = length opened - (n + 1)

    -- a slot that a step didn't touch
    untouched : (log : List (Event S)) (s : State S (Knows S)) (n i w : ℕ) (hs : List (Option S)) (vs : List (Knows S)) → n ≢ i → get_elem? hs n ≡ get_elem? s.homes n
        → HasSlot opened log s n → HasSlot opened log record { words = set s.words i w; homes = hs; views = vs } n
    untouched log s n i w hs vs ne same it = record {
      word = it.word;
      there = it.there;
      word_at = set_else s.words i n w ne ∙ it.word_at;
      there_at = same ∙ it.there_at;
      stands = it.stands;
    }

    -- a slot as it stands in another log
    standing : (before log : List (Event S)) (s : State S (Knows S)) (n : ℕ) (it : HasSlot opened before s n)
        → Stands (more_of n) (stage_of log) (cell_of opened log n) it.word it.there → HasSlot opened log s n
    standing before log s n it stands = record { word = it.word; there = it.there; word_at = it.word_at; there_at = it.there_at; stands = stands }

    -- a slot beside one whose word was read
    read : (before log : List (Event S)) (s : State S (Knows S)) (n m : ℕ) (vs : List (Knows S)) (it : HasSlot opened before s m)
        → Stands (more_of m) (stage_of log) (cell_of opened log m) it.word it.there
        → HasSlot opened log record { words = set s.words n (get_or s.words n 0); homes = s.homes; views = vs } m
    read before log s n m vs it stands = record {
      word = it.word;
      there = it.there;
      word_at = ap (λ ws. get_elem? ws m) (set-get_or s.words n 0) ∙ it.word_at;
      there_at = it.there_at;
      stands = stands;
    }

    -- a slot whose word and value were set
    placed : (before log : List (Event S)) (s : State S (Knows S)) (n word : ℕ) (there : Option S) (vs : List (Knows S)) → HasSlot opened before s n
        → Stands (more_of n) (stage_of log) (cell_of opened log n) word there
        → HasSlot opened log record { words = set s.words n word; homes = set s.homes n there; views = vs } n
    placed before log s n word there vs it stands = record {
      word = word;
      there = there;
      word_at = set_here s.words n word (inside s.words n it.word it.word_at);
      there_at = set_here s.homes n there (inside s.homes n it.there it.there_at);
      stands = stands;
    }

    -- The log goes on by one event of a view's first author.
    written : (s s' : State S (Knows S)) (h : R s) (id : ℕ) (v : Knows S) (a : ℕ) (deed : Deed S) → get_elem? s.views id ≡ some v → WritesAs v.authors a
        → MayFollow ends opened h.log a deed → ((n : ℕ) → n < length opened → HasSlot opened (event a deed ∷ h.log) s' n)
        → s'.views ≡ set s.views id (knows v.authors v.opened (event a deed ∷ h.log)) → R s'
    written s s' h id v a deed at writes may slots views =
        let log : List (Event S) = event a deed ∷ h.log in
        let old = h.each id v at in
        let mine : h.writer a ≡ id = (old.alone a (has_first v.authors a writes)).0 in
        let w : Knows S = knows v.authors v.opened log in
        let new : IsTrueView opened log h.writer id w = record {
          opened_is = old.opened_is;
          seen = goes_on_self log;
          alone = λ b has. ((old.alone b has).0, refl);
        } in record {
          log = log;
          writer = h.writer;
          legal = (may, h.legal);
          slots = slots;
          each = λ j u there. ⊎_elim
              (λ t. subst (IsTrueView opened log h.writer j) t.1 (rw (← t.0) at new))
              (λ t. let it = h.each j u t.1 in record {
                opened_is = it.opened_is;
                seen = goes_on_one h.log u.log (event a deed) it.seen;
                alone = λ b has. let one = it.alone b has in
                    (one.0, by_other b (event a deed) h.log (λ e. t.0 (sym one.0 ∙ ap h.writer e ∙ mine)) ∙ one.1);
              })
              (at_set s.views id j w u (rw views at there));
        }

    -- The view of a seat sees the log as it is.
    looked : (s s' : State S (Knows S)) (h : R s) (id : ℕ) (v : Knows S) → get_elem? s.views id ≡ some v → ((n : ℕ) → n < length opened → HasSlot opened h.log s' n)
        → s'.views ≡ set s.views id (knows v.authors v.opened h.log) → R s'
    looked s s' h id v at slots views =
        let old = h.each id v at in
        let w : Knows S = knows v.authors v.opened h.log in
        let new : IsTrueView opened h.log h.writer id w = record {
          opened_is = old.opened_is;
          seen = goes_on_self h.log;
          alone = λ b has. ((old.alone b has).0, refl);
        } in record {
          log = h.log;
          writer = h.writer;
          legal = h.legal;
          slots = slots;
          each = λ j u there. ⊎_elim
              (λ t. subst (IsTrueView opened h.log h.writer j) t.1 (rw (← t.0) at new))
              (λ t. h.each j u t.1)
              (at_set s.views id j w u (rw views at there));
        }

    was_log : (s : State S (Knows S)) (h : R s) (id : ℕ) (v : Knows S) → get_elem? s.views id ≡ some v → WasLog ends v h.log
    was_log s h id v at = let it = h.each id v at in record {
      legal = rw (← it.opened_is) at h.legal;
      seen = it.seen;
      alone = λ a has. (it.alone a has).1;
    }

    has_done : (s : State S (Knows S)) (h : R s) (id : ℕ) (v : Knows S) (a : ℕ) (deed : Deed S) (carried : List (ℕ × S)) → get_elem? s.views id ≡ some v → WritesAs v.authors a
        → MayFollow ends opened h.log a deed → HasDone ends deed carried v (knows v.authors v.opened (event a deed ∷ h.log), carried)
    has_done s h id v a deed carried at writes may = let it = h.each id v at in record {
      log = h.log;
      author = a;
      writes = writes;
      was = was_log s h id v at;
      legal = subst (λ o. IsLog ends o (event a deed ∷ h.log)) (sym it.opened_is) (may, h.legal);
      now = refl;
    }

    -- what a view's first author has out is out in the log as it is
    out_now : (s : State S (Knows S)) (h : R s) (id : ℕ) (v : Knows S) (a n : ℕ) (x : S) → get_elem? s.views id ≡ some v → WritesAs v.authors a → n < length opened
        → cell_of v.opened v.log n ≡ out a x → (cell_of opened h.log n ≡ out a x) × (stage_of v.log ≡ 0 → stage_of h.log ≡ 0) × (0 < stage_of v.log → 0 < stage_of h.log)
    out_now s h id v a n x at writes below is =
        let it = h.each id v at in
        let was : cell_of opened v.log n ≡ out a x = rw it.opened_is at is in
        let legal : IsLog ends opened (it.seen.0 ++ v.log) = subst (IsLog ends opened) it.seen.1 h.legal in
        let same : by a (it.seen.0 ++ v.log) ≡ by a v.log = ap (by a) (sym it.seen.1) ∙ (it.alone a (has_first v.authors a writes)).1 in
        let stays = stays_out ends opened v.log it.seen.0 a n x legal same was below in (
          ap (λ l. cell_of opened l n) it.seen.1 ∙ stays.out_still,
          λ e. ap stage_of it.seen.1 ∙ stays.open_still e,
          λ some'. rw (← it.seen.1) at (stays_closed ends opened v.log it.seen.0 legal some'),
        )

    -- While an author has the last slot out, nobody else empties the table.
    not_emptied : (s : State S (Knows S)) (h : R s) (id : ℕ) (v : Knows S) (a n : ℕ) (x : S) → get_elem? s.views id ≡ some v → WritesAs v.authors a → n + 1 ≡ length opened
        → cell_of v.opened v.log n ≡ out a x → stage_of v.log ≡ 1 → stage_of h.log ≡ 1
    not_emptied s h id v a n x at writes last is one' =
        let it = h.each id v at in
        let was : cell_of opened v.log n ≡ out a x = rw it.opened_is at is in
        let legal : IsLog ends opened (it.seen.0 ++ v.log) = subst (IsLog ends opened) it.seen.1 h.legal in
        let same : by a (it.seen.0 ++ v.log) ≡ by a v.log = ap (by a) (sym it.seen.1) ∙ (it.alone a (has_first v.authors a writes)).1 in
        ap stage_of it.seen.1 ∙ stays_one ends opened v.log it.seen.0 a n x legal same was last one'

    pub begins : (slots id : ℕ) (me : Mine S) (n : ℕ) → n < length opened → ((a : ℕ) × WritesAs me.0.authors a)
        → Allows R slots id me n (λ v. either (eqb v 0) 1 v) (λ found me'. HasTried ends n found me me')
    unfolding has_done
    begins slots id me n below writes s h long at _ =
        let it = h.slots n below in
        let found : ℕ = get_or s.words n 0 in
        let is : found ≡ it.word = at_index s.words n it.word 0 it.word_at in
        let stands : Stands (more_of n) (stage_of h.log) (cell_of opened h.log n) found it.there =
        rw (← is) at it.stands in
        let old = h.each id me.0 at in
        exchanged found 0 1
        (λ z. (w : Knows S) × (a : Act S) × Valid s.homes me.1 a × R (stepped s n z id me.1 w a) × HasTried ends n found me (w, carried_after me.1 a))
        (λ e.
        let there = at_home (more_of n) (stage_of h.log) (cell_of opened h.log n) found it.there stands e in
        let x : S = there.0 in let a : ℕ = writes.0 in let deed : Deed S = Began n in
        let may : MayFollow ends opened h.log a deed = (x, there.1) in
        let w : Knows S = knows me.0.authors me.0.opened (event a deed ∷ h.log) in
        let home_at : get_elem? s.homes n ≡ some (some x) = it.there_at ∙ ap some there.2 in (
          w,
          takes n x,
          home_at,
          written s (stepped s n 1 id me.1 w (takes n x)) h id me.0 a deed at writes.1 may
              (λ m lower. dite (ℕ_discrete m n)
              (λ q. subst (HasSlot opened (event a deed ∷ h.log) (stepped s n 1 id me.1 w (takes n x))) (sym q)
              (placed h.log (event a deed ∷ h.log) s n 1 none (set s.views id w) it (subst (λ c. Stands (more_of n) (stage_of h.log) c 1 none)
              (sym (where_same n n (lent a (cell_of opened h.log n)) (cell_of opened h.log n) refl ∙ ap (lent a) there.1)) (inl (refl, refl, there.3)))))
              (λ ne.
              let before = untouched h.log s m n 1 (set s.homes n none) (set s.views id w) ne (set_else s.homes n m none ne) (h.slots m lower) in
              standing h.log (event a deed ∷ h.log) (stepped s n 1 id me.1 w (takes n x)) m before
              (rw (← where_other n m (lent a (cell_of opened h.log m)) (cell_of opened h.log m) (λ q. ne (sym q))) at before.stands)))
              refl,
          record {
            hit = λ _. (x, has_done s h id me.0 a deed ((n, x) ∷ me.1) at writes.1 may, subst (λ o. cell_of o h.log n ≡ home x) (sym old.opened_is) there.1);
            miss = λ ne. absurd (ne e);
          },
        ))
        (λ ne.
        let gone = away (more_of n) (stage_of h.log) (cell_of opened h.log n) found it.there stands ne in
        let w : Knows S = knows me.0.authors me.0.opened h.log in (
          w,
          keeps,
          tt,
          looked s (stepped s n found id me.1 w keeps) h id me.0 at
              (λ m lower. let before = h.slots m lower in read h.log h.log s n m (set s.views id w) before before.stands) refl,
          record {
            hit = λ e. absurd (ne e);
            miss = λ _. record {
              looked = record { log = h.log; was = was_log s h id me.0 at; now = refl };
              author = gone.0;
              x = gone.1;
              away = subst (λ o. cell_of o h.log n ≡ out gone.0 gone.1) (sym old.opened_is) gone.2;
              why = ⊎_elim (λ t. inl (t.0, λ last. t.1 (let q : n + 1 ≡ length opened = last ∙ ap length old.opened_is in omega (arith, q))))
                  (λ t. inr (t.0, t.1, λ last. t.2 (let q : n + 1 ≡ length opened = last ∙ ap length old.opened_is in omega (arith, q)))) gone.3;
            };
          },
        ))

    -- A slot that a seat took last is given back under a word, and its event, if any, is in the log.
    given : (before log : List (Event S)) (s : State S (Knows S)) (n m word : ℕ) (y : S) (vs : List (Knows S)) → n < length opened → HasSlot opened before s n
        → Stands (more_of n) (stage_of log) (cell_of opened log n) word (some y) → ((m ≢ n) → HasSlot opened log s m)
        → HasSlot opened log record { words = set s.words n word; homes = set s.homes n (some y); views = vs } m
    given before log s n m word y vs below it stands others = dite (ℕ_discrete m n)
        (λ q. subst (HasSlot opened log record { words = set s.words n word; homes = set s.homes n (some y); views = vs }) (sym q)
        (placed before log s n word (some y) vs it stands))
        (λ ne. untouched log s m n word (set s.homes n (some y)) vs ne (set_else s.homes n m (some y) ne) (others ne))

    pub ends_so : (slots id : ℕ) (me : Mine S) (n : ℕ) → n < length opened → CanEnd ends n me → Allows R slots id me n (λ _. 0) (λ _ me'. EndsSo ends n me me')
    unfolding has_done
    ends_so slots id me n below can s h long at _ =
        let old = h.each id me.0 at in
        let a : ℕ = can.out_there.0 in let writes = can.out_there.1 in
        let now = out_now s h id me.0 a n can.x at writes below can.out_there.2 in
        let deed : Deed S = Ended n can.x can.y in
        let may : MayFollow ends opened h.log a deed =
        (let it = can.ends_so h.log a writes (was_log s h id me.0 at) in (now.0, rw old.opened_is at it.0, it.1)) in
        let log : List (Event S) = event a deed ∷ h.log in
        let w : Knows S = knows me.0.authors me.0.opened log in
        let hs : List (Option S) = set s.homes n (some can.y) in
        let back : put_back s.homes me.1 ≡ hs = ap (put_back s.homes) can.carried in (
          w,
          gives,
          tt,
          rw (← back) at (written s record { words = set s.words n 0; homes = hs; views = set s.views id w } h id me.0 a deed at writes may
              (λ m lower.
              let on : (k : ℕ) → (k ≢ n) → k < length opened → HasSlot opened log s k =
              λ k ne less.
              let before = h.slots k less in
              standing h.log log s k before (rw (← where_other n k (home can.y) (cell_of opened h.log k) (λ q. ne (sym q))) at before.stands) in
              dite (ℕ_discrete m n)
              (λ q. subst (HasSlot opened log record { words = set s.words n 0; homes = hs; views = set s.views id w }) (sym q)
              (placed h.log log s n 0 (some can.y) (set s.views id w) (h.slots n below)
              (rw (where_same n n (home can.y) (cell_of opened h.log n) refl) (refl, refl, λ _. may.2))))
              (λ ne. untouched log s m n 0 hs (set s.views id w) ne (set_else s.homes n m (some can.y) ne) (on m ne lower)))
              refl),
          λ x y it carried.
              let same_a : it.0 ≡ a = same_first me.0.authors it.0 a it.1 writes in
              let same_x : x ≡ can.x = out_value it.0 a x can.x (sym it.2 ∙ can.out_there.2) in
              let same_y : y ≡ can.y = ap (λ l. head_value can.y l) (sym carried ∙ can.carried) in
              subst (λ z. HasDone ends (Ended n z y) (rest me.1) me.0 (w, rest me.1)) (sym same_x)
              (subst (λ z. HasDone ends (Ended n can.x z) (rest me.1) me.0 (w, rest me.1)) (sym same_y) (has_done s h id me.0 a deed (rest me.1) at writes may)),
        )

    -- All slots are out with one seat, for good.
    pub closes : (slots id : ℕ) (me : Mine S) → CanClose me → Allows R slots id me 0 (λ v. v) (λ _ me'. HasClosed ends me me')
    unfolding has_done
    closes slots id me can s h long at _ =
        let old = h.each id me.0 at in
        let a : ℕ = can.author in
        let long_is : length me.0.opened ≡ length opened = ap length old.opened_is in
        let all : (n : ℕ) → n < length opened → (x : S) × (cell_of me.0.opened me.0.log n ≡ out a x) = λ n lower. can.all n (omega (arith, lower, long_is)) in
        let first : 0 < length opened = (let z = can.some in omega (arith, z, long_is)) in
        let nought = all 0 first in
        let zero' : stage_of h.log ≡ 0 = (out_now s h id me.0 a 0 nought.0 at can.writes first nought.1).1 can.opened in
        let may : MayFollow ends opened h.log a Closed =
        (zero', λ n lower. let it = all n lower in (it.0, (out_now s h id me.0 a n it.0 at can.writes lower it.1).0)) in
        let log : List (Event S) = event a Closed ∷ h.log in
        let w : Knows S = knows me.0.authors me.0.opened log in (
          w,
          keeps,
          tt,
          written s (stepped s 0 (get_or s.words 0 0) id me.1 w keeps) h id me.0 a Closed at can.writes may
              (λ m lower.
              let before = h.slots m lower in
              read h.log log s 0 m (set s.views id w) before (later_stage (more_of m) (stage_of h.log) 1 (cell_of opened h.log m) before.word before.there
              (λ some'. absurd (omega (arith, some', zero'))) (λ _ _. omega arith) before.stands))
              refl,
          has_done s h id me.0 a Closed me.1 at can.writes may,
        )

    pub leaves : (slots id : ℕ) (me : Mine S) (n : ℕ) → n < length opened → CanLeave n me → Allows R slots id me n (λ _. 2) (λ _ me'. HasLeft ends me me')
    leaves slots id me n below can s h long at _ =
        let old = h.each id me.0 at in
        let long_is : length me.0.opened ≡ length opened = ap length old.opened_is in
        let now = out_now s h id me.0 can.out_there.0 n can.x at can.out_there.1 below can.out_there.2 in
        let w : Knows S = knows me.0.authors me.0.opened h.log in
        let hs : List (Option S) = set s.homes n (some can.y) in
        let back : put_back s.homes me.1 ≡ hs = ap (put_back s.homes) can.carried in (
          w,
          gives,
          tt,
          rw (← back) at (looked s record { words = set s.words n 2; homes = hs; views = set s.views id w } h id me.0 at
              (λ m lower. given h.log h.log s n m 2 can.y (set s.views id w) below (h.slots n below)
              (rw now.0 (inr (refl, now.2 can.closed, λ none'. let z = can.more in absurd (omega (arith, z, none', long_is)))))
              (λ _. h.slots m lower))
              refl),
          record { log = h.log; was = was_log s h id me.0 at; now = refl },
        )

    pub empties : (slots id : ℕ) (me : Mine S) (n : ℕ) → CanEmpty n me → Allows R slots id me n (λ _. 2) (λ _ me'. HasEmptied ends me me')
    unfolding has_done
    empties slots id me n can s h long at _ =
        let old = h.each id me.0 at in
        let a : ℕ = can.out_there.0 in let writes = can.out_there.1 in
        let last : n + 1 ≡ length opened = can.last ∙ ap length old.opened_is in
        let below : n < length opened = omega (arith, last) in
        let now = out_now s h id me.0 a n can.x at writes below can.out_there.2 in
        let some' : 0 < stage_of h.log = now.2 (let z = can.closed in omega (arith, z)) in
        let one' : stage_of h.log ≡ 1 = not_emptied s h id me.0 a n can.x at writes last can.out_there.2 can.closed in
        let may : MayFollow ends opened h.log a Emptied = (one', λ k q. let same : k ≡ n = omega (arith, q, last) in (can.x, rw (← same) at now.0)) in
        let log : List (Event S) = event a Emptied ∷ h.log in
        let w : Knows S = knows me.0.authors me.0.opened log in
        let hs : List (Option S) = set s.homes n (some can.y) in
        let back : put_back s.homes me.1 ≡ hs = ap (put_back s.homes) can.carried in
        let on : (k : ℕ) → (k ≢ n) → k < length opened → HasSlot opened log s k =
        λ k ne less.
        let before = h.slots k less in
        standing h.log log s k before (later_stage (more_of k) (stage_of h.log) 2 (cell_of opened h.log k) before.word before.there (λ _. (omega arith, λ _. refl))
        (λ none' _. absurd (omega (arith, none', less, last, ne))) before.stands) in (
          w,
          gives,
          tt,
          rw (← back) at (written s record { words = set s.words n 2; homes = hs; views = set s.views id w } h id me.0 a Emptied at writes may
              (λ m lower. given h.log log s n m 2 can.y (set s.views id w) below (h.slots n below)
              (rw now.0 (inr (refl, omega arith, λ _. refl)))
              (λ ne. on m ne lower))
              refl),
          has_done s h id me.0 a Emptied (rest me.1) at writes may,
        )

    pub recalls : (slots id : ℕ) (me : Mine S) (n : ℕ) → Allows R slots id me n (λ v. v) (λ _ me'. HasSeen ends me.1 me.0 me')
    recalls slots id me n s h long at _ =
        let w : Knows S = knows me.0.authors me.0.opened h.log in (
          w,
          keeps,
          tt,
          looked s (stepped s n (get_or s.words n 0) id me.1 w keeps) h id me.0 at
              (λ m lower. let before = h.slots m lower in read h.log h.log s n m (set s.views id w) before before.stands) refl,
          record { log = h.log; was = was_log s h id me.0 at; now = refl },
        )
