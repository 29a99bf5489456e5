-- The slots of a new tree.
use Rattle.std.proofs.Common.{◌≡◌, ◌+◌, ◌<◌, ◌≤◌, ◌++◌, ◌∷◌, ◌∙◌, ℕ, zero, suc, List, [], None, Some, ap, arith, length, refl, subst, sym}
use Rattle.std.specs.Prelude.{Option, slice_get}
use Rattle.std.proofs.Math.Decide.{dec_le}
use Rattle.std.proofs.lemmas.List.{length-append}
use Rattle.std.proofs.lemmas.Option.{same_Some}
use mathlib.Core.Logic.{dite}
use Rattle.call_log.specs.Logs.{first_cell}
use Rattle.tree_limits.specs.declared.limits.Limits.{Limits}
use Rattle.running_tree.specs.Seats.{Seat}
use Rattle.running_tree.specs.Trees.{AreSeatsOf, Tree}
use Rattle.bw_tree_c.specs.Left.{HaveOneTree}
use Rattle.bw_tree_c.specs.Slots.{AreSlots, HaveSeats, first_seat, seat_in, seat_of}
use Rattle.bw_tree_c.specs.declared.handle.slots.Inside.{Inside}
use Rattle.bw_tree_c.specs.declared.handle.slots.Inside.TheVariants as inside

stays : {X : Type 0} (xs ys : List X) (n : ℕ) (x : X) → slice_get xs n ≡ Some x → slice_get (xs ++ ys) n ≡ Some x
stays [] ys n x e = cc
stays (y ∷ xs) ys zero x e = e
stays (y ∷ xs) ys (suc n) x e = stays xs ys n x e

pub is_last : {X : Type 0} (xs : List X) (x : X) → slice_get (xs ++ x ∷ []) (length xs) ≡ Some x
is_last [] x = refl
is_last (y ∷ xs) x = is_last xs x

pub pushed_at : {X : Type 0} (P : ℕ → X → Type 0) (xs : List X) (last : X) → ((n : ℕ) (x : X) → slice_get xs n ≡ Some x → P n x) → P (length xs) last
    → (n : ℕ) (x : X) → slice_get (xs ++ last ∷ []) n ≡ Some x → P n x
pushed_at P [] last all one zero x e = subst (P 0) (same_Some last x e) one
pushed_at P [] last all one (suc n) x e = cc
pushed_at P (first ∷ xs) last all one zero x e = all zero x e
pushed_at P (first ∷ xs) last all one (suc n) x e = pushed_at (λ m y. P (suc m) y) xs last (λ m y h. all (suc m) y h) one n x e

there_is : {X : Type 0} (xs : List X) (n : ℕ) → n < length xs → (x : X) × (slice_get xs n ≡ Some x)
there_is [] n below = absurd (omega (arith, below))
there_is (x ∷ xs) zero below = (x, refl)
there_is (x ∷ xs) (suc n) below = there_is xs n (omega (arith, below))

none_there : {X : Type 0} (xs : List X) (n : ℕ) → length xs ≤ n → slice_get xs n ≡ None
none_there [] n beyond = refl
none_there (x ∷ xs) zero beyond = absurd (omega (arith, beyond))
none_there (x ∷ xs) (suc n) beyond = none_there xs n (omega (arith, beyond))

none_of : {s : Seat} → None ≡ Some s → ⊥
none_of e = cc

some_slot : (o : Option Inside) (s : Seat) → seat_of (first_cell o) ≡ Some s → (x : Inside) × (o ≡ Some x)
some_slot None s e = cc
some_slot (Some x) s e = (x, refl)

more_slots : (slots more : List Inside) (n : ℕ) (s : Seat) → first_seat slots n ≡ Some s → first_seat (slots ++ more) n ≡ Some s
more_slots slots more n s e = let it = some_slot (slice_get slots n) s e in
    ap (λ o. seat_of (first_cell o)) (stays slots more n it.0 it.1) ∙ ap (λ o. seat_of (first_cell o)) (sym it.1) ∙ e

-- So many seats are in their slots.
pub record HasFilled (seats : List Seat) (slots : List Inside) : Type 0 where
  pub count : length slots ≡ length seats
  pub each : (n : ℕ) (seat : Seat) → slice_get seats n ≡ Some seat → first_seat slots n ≡ Some seat

pub none_filled : (slots : List Inside) → slots ≡ [] → HasFilled [] slots
none_filled slots is = record { count = ap length is; each = λ n seat e. cc }

pub one_filled : (seats : List Seat) (slots new : List Inside) (seat : Seat) (x : Inside) → HasFilled seats slots → new ≡ slots ++ x ∷ [] → seat_in x ≡ Some seat → HasFilled (seats ++ seat ∷ []) new
one_filled seats slots new seat x h is at = subst (HasFilled (seats ++ seat ∷ [])) (sym is) (record {
  count = length-append slots (x ∷ []) ∙ ap (λ n. n + 1) h.count ∙ sym (length-append seats (seat ∷ []));
  each = pushed_at (λ n s. first_seat (slots ++ x ∷ []) n ≡ Some s) seats seat (λ n s e. more_slots slots (x ∷ []) n s (h.each n s e))
      (ap (λ n. first_seat (slots ++ x ∷ []) n) (sym h.count) ∙ ap (λ o. seat_of (first_cell o)) (is_last slots x) ∙ at);
})

pub all_filled : (seats yielded : List Seat) (slots new : List Inside) → HasFilled yielded slots → yielded ≡ seats → new ≡ slots ++ inside.Nothing ∷ [] → HaveSeats new seats
all_filled seats yielded slots new h all is = subst (λ s. HaveSeats s seats) (sym is) (subst (HaveSeats (slots ++ inside.Nothing ∷ [])) all (record {
  are = record {
    count = length-append slots (inside.Nothing ∷ []) ∙ ap (λ n. n + 1) h.count;
    each = λ n s e. more_slots slots (inside.Nothing ∷ []) n s (h.each n s e);
  };
  last = ap (λ n. slice_get (slots ++ inside.Nothing ∷ []) n) (sym h.count) ∙ is_last slots inside.Nothing;
}))

pub one_tree : (tree : Tree) (limits : Limits) (seats : List Seat) → tree.limits ≡ limits → length seats ≡ tree.limits.actors → AreSeatsOf tree seats → HaveOneTree limits seats
one_tree tree limits seats is count own = record {
  alike = λ m n one other at_m at_n. (own n other at_n).table ∙ sym (own m one at_m).table;
  each = λ n seat at. (own n seat at).limits ∙ is;
  count = count ∙ ap (λ (l : Limits). l.actors) is;
}

module _ (limits : Limits) (slots : List Inside) (seats : List Seat) (have : HaveSeats slots seats) (one : HaveOneTree limits seats) where
  no_seat_else : (n : ℕ) (s : Seat) → length seats ≤ n → first_seat slots n ≡ Some s → ⊥
  no_seat_else n s beyond e = dite (dec_le (length slots) n)
      (λ far. none_of (sym (ap (λ o. seat_of (first_cell o)) (none_there slots n far)) ∙ e))
      (λ near. none_of (sym (ap (λ o. seat_of (first_cell o)) (ap (slice_get slots) (let a = have.are.count in (omega (arith, a, near, beyond))) ∙ have.last)) ∙ e))

  seat_there : (n : ℕ) (s : Seat) → first_seat slots n ≡ Some s → slice_get seats n ≡ Some s
  seat_there n s e = dite (dec_le (n + 1) (length seats))
      (λ below. let it = there_is seats n (omega (arith, below)) in it.1 ∙ sym (have.are.each n it.0 it.1) ∙ e)
      (λ beyond. absurd (no_seat_else n s (omega (arith, beyond)) e))

  pub are_slots : AreSlots limits slots
  are_slots = record {
    count = have.are.count ∙ ap (λ n. n + 1) one.count;
    each = λ n below none. let count = one.count in let it = there_is seats n (omega (arith, below, count)) in none_of (sym none ∙ have.are.each n it.0 it.1);
    alike = λ m n a b at_m at_n. one.alike m n a b (seat_there m a at_m) (seat_there n b at_n);
    own = λ n s at. one.each n s (seat_there n s at);
    last = ap (slice_get slots) (sym one.count) ∙ have.last;
  }
