-- What is out in the log of a handle, what stays so, and which seats are in its slots.
use Rattle.std.proofs.Common.{◌≡◌, ◌≢◌, ◌<◌, ◌++◌, ◌∷◌, ◌∙◌, ℕ, List, [], None, Some, ap, arith, refl, subst, sym, ⊎_elim}
use Rattle.std.specs.Prelude.{Option}
use Rattle.std.proofs.lemmas.Option.{same_Some}
use mathlib.Core.Logic.{dite}
use native.Mathlib.Decide.{ℕ_discrete}
use Rattle.call_log.specs.declared.log.Authors.{Authors}
use Rattle.call_log.specs.declared.log.Deed.{Deed}
use Rattle.call_log.specs.declared.log.Deed.TheVariants.{Began, Closed, Emptied, Ended}
use Rattle.call_log.specs.declared.log.Event.{Event}
use Rattle.call_log.specs.Logs.{Cell, GoesOn, IsLog, MayFollow, WroteNoMore, by, cell_of, cell_on, home, lent, no_slot, out, stage_of, stage_on}
use Rattle.call_log.proofs.Logs.{none_by, stays_closed, where_other, where_same}
use Rattle.tree_limits.specs.declared.limits.Limits.{Limits}
use Rattle.running_tree.specs.Seats.{Seat}
use Rattle.bw_tree_c.specs.Handles.{HasNothingOut}
use Rattle.bw_tree_c.specs.Seats.{IsLater}
use Rattle.bw_tree_c.specs.Slots.{AreSlots, GoesOnTo, HasLaterSeat, IsOutForGood, IsPutBack, first_seat, seat_in, seat_of}
use Rattle.bw_tree_c.specs.declared.handle.slots.Inside.{Inside}
use Rattle.bw_tree_c.specs.declared.handle.slots.Inside.TheVariants as inside

pub home_not_out : (P : Type 0) (x : Inside) (a : ℕ) (y : Inside) → home x ≡ out a y → P
home_not_out P x a y e = cc

pub out_author : (a b : ℕ) (x y : Inside) → out a x ≡ out b y → a ≡ b
out_author a b x y e = cc

joined : (xs ys zs : List (Event Inside)) → xs ++ (ys ++ zs) ≡ (xs ++ ys) ++ zs
joined [] ys zs = refl
joined (x ∷ xs) ys zs = ap (λ l. x ∷ l) (joined xs ys zs)

pub on_from : (a b c : List (Event Inside)) → GoesOn a b → GoesOn b c → GoesOn a c
on_from a b c g h = (g.0 ++ h.0, g.1 ∙ ap (λ l. g.0 ++ l) h.1 ∙ joined g.0 h.0 c)

some_of : (o : Option Seat) → (o ≡ None → ⊥) → (s : Seat) × (o ≡ Some s)
some_of None some = absurd (some refl)
some_of (Some s) some = (s, refl)

later_in : (s : Seat) (o : Option Seat) → HasLaterSeat s o → (t : Seat) × (o ≡ Some t) × IsLater s t
later_in s None h = absurd h
later_in s (Some t) h = (t, refl, h)

pub goes_seat : (x y : Inside) (s : Seat) → GoesOnTo x y → seat_in x ≡ Some s → (t : Seat) × (seat_in y ≡ Some t) × IsLater s t
goes_seat inside.Nothing y s goes is = cc
goes_seat (inside.Pairs pairs) y s goes is = cc
goes_seat (inside.Whole whole) y s goes is = cc
goes_seat (inside.Seat place) y s goes is = subst (λ z. (t : Seat) × (seat_in y ≡ Some t) × IsLater z t) (same_Some place.value.seat s is) (later_in place.value.seat (seat_in y) goes)

pub lent_seat : (b : ℕ) (cell : Cell Inside) → seat_of (lent b cell) ≡ seat_of cell
lent_seat b no_slot = refl
lent_seat b (home x) = refl
lent_seat b (out a x) = refl

module _ (opened : List Inside) where
  -- what another author did leaves what this one has out
  was_on : (log : List (Event Inside)) (b : ℕ) (deed : Deed Inside) (a n : ℕ) (x : Inside) → a ≢ b → MayFollow IsPutBack opened log b deed → cell_on b deed n (cell_of opened log n) ≡ out a x
      → cell_of opened log n ≡ out a x
  was_on log b (Began m) a n x ne may is = dite (ℕ_discrete m n)
      (λ e. absurd (ne (sym (out_author b a may.0 x
      (sym (ap (lent b) (sym (ap (cell_of opened log) e) ∙ may.1)) ∙ sym (where_same m n (lent b (cell_of opened log n)) (cell_of opened log n) e) ∙ is)))))
      (λ no. sym (where_other m n (lent b (cell_of opened log n)) (cell_of opened log n) no) ∙ is)
  was_on log b (Ended m y z) a n x ne may is = dite (ℕ_discrete m n)
      (λ e. home_not_out _ z a x (sym (where_same m n (home z) (cell_of opened log n) e) ∙ is))
      (λ no. sym (where_other m n (home z) (cell_of opened log n) no) ∙ is)
  was_on log b Closed a n x ne may is = is
  was_on log b Emptied a n x ne may is = is

  was_out : (log more : List (Event Inside)) (a n : ℕ) (x : Inside) → IsLog IsPutBack opened (more ++ log) → by a (more ++ log) ≡ by a log → cell_of opened (more ++ log) n ≡ out a x
      → cell_of opened log n ≡ out a x
  was_out log [] a n x legal same is = is
  was_out log (event ∷ more) a n x legal same is =
      let none = none_by a event more log same in
      was_out log more a n x legal.1 none.1 (was_on (more ++ log) event.author event.deed a n x none.0 legal.0 is)

  -- and so it was out before
  pub was_out_in : (log before : List (Event Inside)) (a n : ℕ) (x : Inside) → GoesOn log before → IsLog IsPutBack opened log → by a log ≡ by a before → cell_of opened log n ≡ out a x
      → cell_of opened before n ≡ out a x
  was_out_in log before a n x goes legal same is = was_out before goes.0 a n x (subst (IsLog IsPutBack opened) goes.1 legal) (ap (by a) (sym goes.1) ∙ same)
      (ap (λ l. cell_of opened l n) (sym goes.1) ∙ is)

  two_on : (log : List (Event Inside)) (b : ℕ) (deed : Deed Inside) → MayFollow IsPutBack opened log b deed → stage_of log ≡ 2 → stage_on deed (stage_of log) ≡ 2
  two_on log b (Began m) may two = two
  two_on log b (Ended m y z) may two = two
  two_on log b Closed may two = let none = may.0 in absurd (omega (arith, none, two))
  two_on log b Emptied may two = refl

  two_stays : (log more : List (Event Inside)) → IsLog IsPutBack opened (more ++ log) → stage_of log ≡ 2 → stage_of (more ++ log) ≡ 2
  two_stays log [] legal two = two
  two_stays log (event ∷ more) legal two = two_on (more ++ log) event.author event.deed legal.0 (two_stays log more legal.1 two)

  -- what is gone stays so
  pub gone_on : (log before : List (Event Inside)) (n : ℕ) → GoesOn log before → IsLog IsPutBack opened log → IsOutForGood opened before n → IsOutForGood opened log n
  gone_on log before n goes legal gone = let legal' = subst (IsLog IsPutBack opened) goes.1 legal in (
    subst (λ l. 0 < stage_of l) (sym goes.1) (stays_closed IsPutBack opened before goes.0 legal' gone.0),
    λ last. ap stage_of goes.1 ∙ two_stays before goes.0 legal' (gone.1 last),
  )

  -- Authors who wrote nothing have nothing out.
  pub nothing_out : (authors : Authors) (log before : List (Event Inside)) → GoesOn log before → IsLog IsPutBack opened log → WroteNoMore authors before log
      → HasNothingOut opened authors before → HasNothingOut opened authors log
  nothing_out authors log before goes legal only none a n x has is =
      gone_on log before n goes legal (none a n x has (was_out_in log before a n x goes legal (only a has) is))

  module _ (limits : Limits) (own : AreSlots limits opened) (n : ℕ) (below : n < limits.actors) where
    Has : Cell Inside → Type 0
    Has cell = (s : Seat) × (seat_of cell ≡ Some s)

    seat_on : (log : List (Event Inside)) (b : ℕ) (deed : Deed Inside) → MayFollow IsPutBack opened log b deed → (s : Seat) → seat_of (cell_of opened log n) ≡ Some s
        → (t : Seat) × (seat_of (cell_on b deed n (cell_of opened log n)) ≡ Some t)
    seat_on log b (Began m) may s is = dite (ℕ_discrete m n)
        (λ e. (s, ap seat_of (where_same m n (lent b (cell_of opened log n)) (cell_of opened log n) e) ∙ lent_seat b (cell_of opened log n) ∙ is))
        (λ no. (s, ap seat_of (where_other m n (lent b (cell_of opened log n)) (cell_of opened log n) no) ∙ is))
    seat_on log b (Ended m y z) may s is = dite (ℕ_discrete m n)
        (λ e. ⊎_elim
        (λ t. let it = goes_seat y z s t.1 (ap seat_of (sym may.0 ∙ ap (cell_of opened log) e) ∙ is) in
        (it.0, ap seat_of (where_same m n (home z) (cell_of opened log n) e) ∙ it.1))
        (λ t. let last = t.1 in let count = own.count in absurd (omega (arith, last, count, e, below)))
        may.1)
        (λ no. (s, ap seat_of (where_other m n (home z) (cell_of opened log n) no) ∙ is))
    seat_on log b Closed may s is = (s, is)
    seat_on log b Emptied may s is = (s, is)

    -- The slot of a seat has a seat.
    pub has_seat : (log : List (Event Inside)) → IsLog IsPutBack opened log → (s : Seat) × (seat_of (cell_of opened log n) ≡ Some s)
    has_seat [] legal = some_of (first_seat opened n) (own.each n below)
    has_seat (event ∷ log) legal = let it = has_seat log legal.1 in seat_on log event.author event.deed legal.0 it.0 it.1

    -- and it is out once the tree is closed
    out_on : (log : List (Event Inside)) (b : ℕ) (deed : Deed Inside) → MayFollow IsPutBack opened log b deed → (0 < stage_of log → (a : ℕ) × (x : Inside) × (cell_of opened log n ≡ out a x))
        → 0 < stage_on deed (stage_of log) → (a : ℕ) × (x : Inside) × (cell_on b deed n (cell_of opened log n) ≡ out a x)
    out_on log b (Began m) may was some = let it = was some in dite (ℕ_discrete m n)
        (λ e. home_not_out _ may.0 it.0 it.1 (sym may.1 ∙ ap (cell_of opened log) e ∙ it.2))
        (λ no. (it.0, it.1, where_other m n (lent b (cell_of opened log n)) (cell_of opened log n) no ∙ it.2))
    out_on log b (Ended m y z) may was some = let it = was some in dite (ℕ_discrete m n)
        (λ e. ⊎_elim
        (λ t. let none = t.0 in absurd (omega (arith, none, some)))
        (λ t. let last = t.1 in let count = own.count in absurd (omega (arith, last, count, e, below)))
        may.1)
        (λ no. (it.0, it.1, where_other m n (home z) (cell_of opened log n) no ∙ it.2))
    out_on log b Closed may was some = let it = may.1 n (let count = own.count in omega (arith, count, below)) in (b, it.0, it.1)
    out_on log b Emptied may was some = was (let one = may.0 in omega (arith, one))

    pub closed_out : (log : List (Event Inside)) → IsLog IsPutBack opened log → 0 < stage_of log → (a : ℕ) × (x : Inside) × (cell_of opened log n ≡ out a x)
    closed_out [] legal some = absurd (omega (arith, some))
    closed_out (event ∷ log) legal some = out_on log event.author event.deed legal.0 (closed_out log legal.1) some

    pub open_home : (log : List (Event Inside)) (x : Inside) → IsLog IsPutBack opened log → cell_of opened log n ≡ home x → stage_of log ≡ 0
    open_home log x legal is = dite (ℕ_discrete (stage_of log) 0)
        (λ e. e)
        (λ ne. let it = closed_out log legal (omega (arith, ne)) in home_not_out _ x it.0 it.1 (sym is ∙ it.2))

pub goes_on_to : (x y : Inside) (s t : Seat) → seat_in x ≡ Some s → seat_in y ≡ Some t → IsLater s t → GoesOnTo x y
goes_on_to inside.Nothing y s t is at later = cc
goes_on_to (inside.Pairs pairs) y s t is at later = cc
goes_on_to (inside.Whole whole) y s t is at later = cc
goes_on_to (inside.Seat place) y s t is at later = subst (HasLaterSeat place.value.seat) (sym at) (subst (λ z. IsLater z t) (sym (same_Some place.value.seat s is)) later)
