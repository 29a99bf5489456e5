-- New seats keep the rule: the first one, one that looks, and one that is split off.
use Rattle.std.proofs.Common.{◌≡◌, ◌≢◌, ◌+◌, ◌-◌, ◌<◌, ◌≤◌, ◌++◌, ◌∷◌, ◌∙◌, ◌⊎◌, ℕ, zero, suc, List, [], Some, ap, arith, eq-eqb, eqb, inl, inr, length, map}
use Rattle.std.proofs.Common.{ne_eqb, refl, replicate, set, subst, sym, ⊎_elim}
use Rattle.std.specs.Prelude.{slice_get}
use mathlib.Core.Logic.{dite}
use mathlib.Core.Option.{some, some-injective, some-ne-none}
use native.Mathlib.Decide.{ℕ_discrete}
use prog.Atomic.{either}
use lib.ListN.{get_elem?}
use Rattle.atomic_table.specs.Table.{Enters as NewSeat, Splits, State, opening}
use Rattle.atomic_table.proofs.Lists.{at_set, at_snoc}
use Rattle.call_log.specs.declared.log.Authors.{Authors}
use Rattle.call_log.specs.declared.log.Authors.TheVariants.{AllFrom, Nobody, One}
use Rattle.call_log.specs.declared.log.Knows.{Knows}
use Rattle.call_log.specs.Logs.{Ends, HasAuthor, IsLog, first_cell}
use Rattle.call_log.specs.Rule.{Holds, IsTrueView, Stands, all_of, knows}
use Rattle.call_log.specs.Steps.{Looks, one, one_of, others, rest_of}
use Rattle.call_log.proofs.Logs.{goes_on_self}

snoc_at : {A : Type 0} (l : List A) (a b : A) (j : ℕ) → get_elem? (l ++ a ∷ []) j ≡ some b → (get_elem? l j ≡ some b) ⊎ ((j ≡ length l) × (a ≡ b))
snoc_at [] a b zero e = inr (refl, some-injective a b e)
snoc_at [] a b (suc j) e = absurd (some-ne-none b (sym e))
snoc_at (x ∷ xs) a b zero e = inl e
snoc_at (x ∷ xs) a b (suc j) e = ⊎_elim (λ t. inl t) (λ t. inr (ap suc t.0, t.1)) (snoc_at xs a b j e)

set_longer : {A : Type 0} (l : List A) (i : ℕ) (a : A) → length (set l i a) ≡ length l
set_longer [] i a = refl
set_longer (x ∷ xs) zero a = refl
set_longer (x ∷ xs) (suc i) a = ap suc (set_longer xs i a)

picked : (m first a b : ℕ) (F : ℕ → Type 0) → (m ≡ first → F a) → (m ≢ first → F b) → F (either (eqb m first) a b)
picked m first a b F hit miss = dite (ℕ_discrete m first) (λ e. subst (λ t. F (either t a b)) (sym (eq-eqb m first e)) (hit e))
    (λ ne. subst (λ t. F (either t a b)) (sym (ne_eqb m first ne)) (miss ne))

placed : {A : Type 0} (l : List A) (n : ℕ) → n < length l → (x : A) × (slice_get l n ≡ Some x) × (get_elem? (map some l) n ≡ some (some x))
placed [] n h = absurd (omega (arith, h))
placed (x ∷ xs) zero h = (x, refl, refl)
placed (x ∷ xs) (suc n) h = placed xs n (omega (arith, h))

zero_at : (n i : ℕ) → i < n → get_elem? {A = ℕ} (replicate n 0) i ≡ some 0
zero_at zero i h = absurd (omega (arith, h))
zero_at (suc n) zero h = refl
zero_at (suc n) (suc i) h = zero_at n i (omega (arith, h))

-- a view's first author is another one's from now on
abbrev parted_writer : Authors → ℕ → (ℕ → ℕ) → ℕ → ℕ
parted_writer Nobody k writer a = writer a
parted_writer (One n) k writer a = either (eqb a n) k (writer a)
parted_writer (AllFrom n) k writer a = either (eqb a n) k (writer a)

parted_rest : (authors : Authors) (id k : ℕ) (writer : ℕ → ℕ) → ((a : ℕ) → HasAuthor authors a → writer a ≡ id) → (a : ℕ) → HasAuthor (rest_of authors) a
    → (parted_writer authors k writer a ≡ id) × HasAuthor authors a
parted_rest Nobody id k writer own a has = absurd has
parted_rest (One n) id k writer own a has = absurd has
parted_rest (AllFrom n) id k writer own a has =
    let more : n ≤ a = omega (arith, has) in (picked a n k (writer a) (λ z. z ≡ id) (λ q. absurd (omega (arith, q, has))) (λ ne. own a more), more)

parted_one : (authors : Authors) (k : ℕ) (writer : ℕ → ℕ) (a : ℕ) → HasAuthor (one_of authors) a → (parted_writer authors k writer a ≡ k) × HasAuthor authors a
parted_one Nobody k writer a has = absurd has
parted_one (One n) k writer a has = (picked a n k (writer a) (λ z. z ≡ k) (λ q. refl) (λ ne. absurd (ne has)), has)
parted_one (AllFrom n) k writer a has = (picked a n k (writer a) (λ z. z ≡ k) (λ q. refl) (λ ne. absurd (ne has)), omega (arith, has))

parted_else : (authors : Authors) (id k : ℕ) (writer : ℕ → ℕ) → ((a : ℕ) → HasAuthor authors a → writer a ≡ id) → (a j : ℕ) → j ≢ id → writer a ≡ j → parted_writer authors k writer a ≡ j
parted_else Nobody id k writer own a j ne is = is
parted_else (One n) id k writer own a j ne is = picked a n k (writer a) (λ z. z ≡ j) (λ q. absurd (ne (sym is ∙ ap writer q ∙ own n refl))) (λ _. is)
parted_else (AllFrom n) id k writer own a j ne is = picked a n k (writer a) (λ z. z ≡ j) (λ q. absurd (ne (sym is ∙ ap writer q ∙ own n (omega arith)))) (λ _. is)

module _ {S : Type 0} (ends : Ends S) (opened : List S) where
  abbrev pub R : State S (Knows S) → Type 0
  R = Holds ends opened

  opens_each : (i : ℕ) (view : Knows S) → get_elem? (all_of opened ∷ []) i ≡ some view → IsTrueView opened [] (λ n. 0) i view
  opens_each zero view at = subst (IsTrueView opened [] (λ n. 0) 0) (some-injective (all_of opened) view at) (record {
    opened_is = refl;
    seen = goes_on_self [];
    alone = λ a has. (refl, refl);
  })
  opens_each (suc i) view at = absurd (some-ne-none view (sym at))

  pub opens : (words : List ℕ) → words ≡ replicate (length opened) 0 → R (opening words opened (all_of opened))
  opens words is = record {
    log = [];
    writer = λ n. 0;
    legal = tt;
    slots = λ n lower. let it = placed opened n lower in record {
      word = 0;
      there = some it.0;
      word_at = ap (λ ws. get_elem? ws n) is ∙ zero_at (length opened) n lower;
      there_at = it.2;
      stands = rw it.1 (refl, refl, λ _. omega arith);
    };
    each = opens_each;
  }

  pub looks : (slots : ℕ) → NewSeat R slots 0 (λ n w. Looks ends (all_of opened, []) n (w, []))
  looks slots s h _ _ =
      let w : Knows S = knows Nobody opened h.log in (
        w,
        record {
          log = h.log;
          writer = h.writer;
          legal = h.legal;
          slots = λ n lower. let it = h.slots n lower in record { word = it.word; there = it.there; word_at = it.word_at; there_at = it.there_at; stands = it.stands };
          each = λ j u there. ⊎_elim (λ t. h.each j u t)
              (λ e. subst (IsTrueView opened h.log h.writer j) e (record { opened_is = refl; seen = goes_on_self h.log; alone = λ a has. absurd has }))
              (at_snoc s.views w u j there);
        },
        λ asked e. let is : opened ≡ asked = ap (λ (k : Knows S). k.opened) e in
            (h.log, rw is at h.legal, λ i. (knows Nobody (is i) h.log, [])),
      )

  -- A view has fewer authors, and a new one has the first of them.
  pub parts : (id : ℕ) (v : Knows S) → Splits R id v (others v) (one v)
  parts id v s h at =
      let old = h.each id v at in
      let own : (a : ℕ) → HasAuthor v.authors a → h.writer a ≡ id = λ a has. (old.alone a has).0 in
      let k : ℕ = length s.views in
      let writer : ℕ → ℕ = parted_writer v.authors k h.writer in
      let l : IsTrueView opened h.log writer id (others v) = record {
        opened_is = old.opened_is;
        seen = old.seen;
        alone = λ a has. let it = parted_rest v.authors id k h.writer own a has in (it.0, (old.alone a it.1).1);
      } in
      let r : IsTrueView opened h.log writer k (one v) = record {
        opened_is = old.opened_is;
        seen = old.seen;
        alone = λ a has. let it = parted_one v.authors k h.writer a has in (it.0, (old.alone a it.1).1);
      } in record {
        log = h.log;
        writer = writer;
        legal = h.legal;
        slots = λ n lower. let it = h.slots n lower in record { word = it.word; there = it.there; word_at = it.word_at; there_at = it.there_at; stands = it.stands };
        each = λ j u there. ⊎_elim
            (λ t. ⊎_elim
            (λ e. subst (IsTrueView opened h.log writer j) e.1 (subst (λ i. IsTrueView opened h.log writer i (others v)) (sym e.0) l))
            (λ e. let fits = h.each j u e.1 in record {
              opened_is = fits.opened_is;
              seen = fits.seen;
              alone = λ a has. let it = fits.alone a has in (parted_else v.authors id k h.writer own a j e.0 it.0, it.1);
            })
            (at_set s.views id j (others v) u t))
            (λ t. subst (IsTrueView opened h.log writer j) t.1 (subst (λ i. IsTrueView opened h.log writer i (one v)) (sym (t.0 ∙ set_longer s.views id (others v))) r))
            (snoc_at (set s.views id (others v)) (one v) u j there);
      }
