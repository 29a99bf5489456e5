-- The seats of a closed tree are gathered.
use Rattle.std.proofs.Common.{◌≡◌, ◌<◌, ◌∷◌, ◌∙◌, ℕ, zero, suc, List, [], Some, ap, arith, length, refl, subst, sym, ⊎_elim}
use Rattle.std.specs.Prelude.{slice_get}
use Rattle.std.proofs.lemmas.Option.{same_Some}
use mathlib.Core.Logic.{dite}
use native.Mathlib.Decide.{ℕ_discrete}
use Rattle.call_log.specs.declared.log.Deed.{Deed}
use Rattle.call_log.specs.declared.log.Deed.TheVariants.{Began, Closed, Emptied, Ended}
use Rattle.call_log.specs.declared.log.Event.{Event}
use Rattle.call_log.specs.Logs.{IsLog, MayFollow, cell_of, cell_on, home, lent}
use Rattle.call_log.proofs.Logs.{where_other, where_same}
use Rattle.tree_limits.specs.declared.limits.Limits.{Limits}
use Rattle.running_tree.specs.Seats.{Seat}
use Rattle.bw_tree_c.specs.Slots.{AreSlots, IsPutBack, first_seat, seat_of}
use Rattle.bw_tree_c.specs.Left.{HaveOneTree}
use Rattle.bw_tree_c.specs.declared.handle.slots.Inside.{Inside}
use Rattle.bw_tree_c.proofs.Outs.{goes_seat, has_seat, lent_seat}

-- Of the same table and limits.
pub record IsAlike (one other : Seat) : Type 0 where
  pub table : other.table ≡ one.table
  pub limits : other.limits ≡ one.limits

pub in_list : (xs : List Seat) (n : ℕ) (x : Seat) → slice_get xs n ≡ Some x → n < length xs
in_list [] n x e = cc
in_list (y ∷ xs) zero x e = omega arith
in_list (y ∷ xs) (suc n) x e = let r = in_list xs n x e in omega (arith, r)

module _ (opened : List Inside) (limits : Limits) (own : AreSlots limits opened) where
  Before : ℕ → List (Event Inside) → Seat → Type 0
  Before n log s = (r : Seat) × (seat_of (cell_of opened log n) ≡ Some r) × IsAlike r s

  alike_self : (n : ℕ) (log : List (Event Inside)) (s : Seat) → seat_of (cell_of opened log n) ≡ Some s → Before n log s
  unfolding Before
  alike_self n log s is = (s, is, record { table = refl; limits = refl })

  seat_before : (n : ℕ) → n < limits.actors → (log : List (Event Inside)) (b : ℕ) (deed : Deed Inside) → IsLog IsPutBack opened log → MayFollow IsPutBack opened log b deed → (s : Seat)
      → seat_of (cell_on b deed n (cell_of opened log n)) ≡ Some s → Before n log s
  unfolding Before
  seat_before n below log b (Began m) legal may s is = dite (ℕ_discrete m n)
      (λ e. alike_self n log s (sym (lent_seat b (cell_of opened log n)) ∙ ap seat_of (sym (where_same m n (lent b (cell_of opened log n)) (cell_of opened log n) e)) ∙ is))
      (λ ne. alike_self n log s (ap seat_of (sym (where_other m n (lent b (cell_of opened log n)) (cell_of opened log n) ne)) ∙ is))
  seat_before n below log b (Ended m x y) legal may s is = dite (ℕ_discrete m n)
      (λ e. ⊎_elim
      (λ t.
      let was = has_seat opened limits own n below log legal in
      let goes = goes_seat x y was.0 t.1 (ap seat_of (sym may.0 ∙ ap (cell_of opened log) e) ∙ was.1) in
      let same : goes.0 ≡ s = same_Some goes.0 s (sym goes.1 ∙ ap seat_of (sym (where_same m n (home y) (cell_of opened log n) e)) ∙ is) in
      (was.0, was.1, subst (IsAlike was.0) same (record { table = goes.2.same.table; limits = goes.2.same.limits })))
      (λ t. let last = t.1 in let count = own.count in absurd (omega (arith, last, count, e, below)))
      may.1)
      (λ ne. alike_self n log s (ap seat_of (sym (where_other m n (home y) (cell_of opened log n) ne)) ∙ is))
  seat_before n below log b Closed legal may s is = alike_self n log s is
  seat_before n below log b Emptied legal may s is = alike_self n log s is

  -- Each seat is as the one with which the tree was opened.
  pub as_first : (n : ℕ) → n < limits.actors → (log : List (Event Inside)) → IsLog IsPutBack opened log → (s : Seat) → seat_of (cell_of opened log n) ≡ Some s
      → (f : Seat) × (first_seat opened n ≡ Some f) × IsAlike f s
  unfolding Before
  as_first n below [] legal s is = (s, is, record { table = refl; limits = refl })
  as_first n below (event ∷ log) legal s is =
      let before = seat_before n below log event.author event.deed legal.1 legal.0 s is in
      let it = as_first n below log legal.1 before.0 before.1 in
      (it.0, it.1, record { table = before.2.table ∙ it.2.table; limits = before.2.limits ∙ it.2.limits })

  pub one_table : (m n : ℕ) → m < limits.actors → n < limits.actors → (log : List (Event Inside)) → IsLog IsPutBack opened log → (one other : Seat) → seat_of (cell_of opened log m) ≡ Some one
      → seat_of (cell_of opened log n) ≡ Some other → other.table ≡ one.table
  one_table m n m_below n_below log legal one other at_m at_n =
      let a = as_first m m_below log legal one at_m in
      let b = as_first n n_below log legal other at_n in
      b.2.table ∙ own.alike m n a.0 b.0 a.1 b.1 ∙ sym a.2.table

  pub of_limits : (n : ℕ) → n < limits.actors → (log : List (Event Inside)) → IsLog IsPutBack opened log → (s : Seat) → seat_of (cell_of opened log n) ≡ Some s → s.limits ≡ limits
  of_limits n below log legal s is = let it = as_first n below log legal s is in it.2.limits ∙ own.own n it.0 it.1

  -- So the seats that a log has are of one tree.
  pub have_one : (log : List (Event Inside)) → IsLog IsPutBack opened log → (seats : List Seat) → length seats ≡ limits.actors
      → ((n : ℕ) (seat : Seat) → slice_get seats n ≡ Some seat → seat_of (cell_of opened log n) ≡ Some seat) → HaveOneTree limits seats
  have_one log legal seats count each = record {
    alike = λ m n one other at_m at_n. one_table m n (let a = in_list seats m one at_m in omega (arith, a, count)) (let b = in_list seats n other at_n in omega (arith, b, count)) log legal
        one other (each m one at_m) (each n other at_n);
    each = λ n seat at. of_limits n (let a = in_list seats n seat at in omega (arith, a, count)) log legal seat (each n seat at);
    count = count;
  }
