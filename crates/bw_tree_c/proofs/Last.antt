-- What is in the last slot of a log, and what waits there.
use Rattle.std.proofs.Common.{◌≡◌, ◌<◌, ◌++◌, ◌∷◌, ◌∙◌, ◌⊎◌, ℕ, List, [], None, ap, arith, inl, inr, refl, subst, sym, ⊎_elim}
use mathlib.Core.Logic.{dite}
use native.Mathlib.Decide.{ℕ_discrete}
use Rattle.call_log.specs.declared.log.Deed.{Deed}
use Rattle.call_log.specs.declared.log.Deed.TheVariants.{Began, Closed, Emptied, Ended}
use Rattle.call_log.specs.declared.log.Event.{Event}
use Rattle.call_log.specs.Logs.{Cell, GoesOn, IsLog, MayFollow, cell_of, cell_on, first_cell, home, lent, no_slot, out, stage_of}
use Rattle.call_log.proofs.Logs.{stays_closed, where_other, where_same}
use Rattle.tree_limits.specs.declared.limits.Limits.{Limits}
use Rattle.running_tree.specs.Seats.{Seat}
use Rattle.bw_tree_c.specs.Slots.{AreSeats, AreSlots, GoesOnTo, IsPutBack, LeavesPairs, WaitsFrom, seat_in, seat_of}
use Rattle.bw_tree_c.specs.declared.handle.slots.Inside.{Inside}
use Rattle.bw_tree_c.specs.declared.handle.slots.Inside.TheVariants as inside
use Rattle.bw_tree_c.proofs.Gathered.{in_list}
use Rattle.bw_tree_c.proofs.Outs.{lent_seat}

module _ (opened : List Inside) (limits : Limits) (own : AreSlots limits opened) where
  -- a closed tree's seats stay as they are
  kept_on : (n : ℕ) → n < limits.actors → (log : List (Event Inside)) (b : ℕ) (deed : Deed Inside) → MayFollow IsPutBack opened log b deed → 0 < stage_of log
      → seat_of (cell_on b deed n (cell_of opened log n)) ≡ seat_of (cell_of opened log n)
  kept_on n below log b (Began m) may some = dite (ℕ_discrete m n)
      (λ e. ap seat_of (where_same m n (lent b (cell_of opened log n)) (cell_of opened log n) e) ∙ lent_seat b (cell_of opened log n))
      (λ ne. ap seat_of (where_other m n (lent b (cell_of opened log n)) (cell_of opened log n) ne))
  kept_on n below log b (Ended m x y) may some = dite (ℕ_discrete m n)
      (λ e. ⊎_elim
      (λ t. let none = t.0 in absurd (omega (arith, none, some)))
      (λ t. let last = t.1 in let count = own.count in absurd (omega (arith, last, count, e, below)))
      may.1)
      (λ ne. ap seat_of (where_other m n (home y) (cell_of opened log n) ne))
  kept_on n below log b Closed may some = refl
  kept_on n below log b Emptied may some = refl

  kept_after : (n : ℕ) → n < limits.actors → (log more : List (Event Inside)) → IsLog IsPutBack opened (more ++ log) → 0 < stage_of log
      → seat_of (cell_of opened (more ++ log) n) ≡ seat_of (cell_of opened log n)
  kept_after n below log [] legal some = refl
  kept_after n below log (event ∷ more) legal some =
      kept_on n below (more ++ log) event.author event.deed legal.0 (stays_closed IsPutBack opened log more legal.1 some) ∙ kept_after n below log more legal.1 some

  module _ (log later : List (Event Inside)) (goes : GoesOn later log) (legal : IsLog IsPutBack opened later) (some : 0 < stage_of log) where
    pub kept : (n : ℕ) → n < limits.actors → seat_of (cell_of opened later n) ≡ seat_of (cell_of opened log n)
    kept n below = ap (λ l. seat_of (cell_of opened l n)) goes.1 ∙ kept_after n below log goes.0 (subst (IsLog IsPutBack opened) goes.1 legal) some

    pub seats_on : (seats : List Seat) → AreSeats opened log seats → AreSeats opened later seats
    seats_on seats are = record {
      count = are.count;
      each = λ n seat at. kept n (let a = are.count in let b = own.count in let c = in_list seats n seat at in omega (arith, a, b, c)) ∙ are.each n seat at;
    }

    pub pairs_on : (pairs : List (List ℕ × List ℕ)) → LeavesPairs opened log pairs → LeavesPairs opened later pairs
    pairs_on pairs it = record { seats = it.seats; are = seats_on it.seats it.are; left = it.left }

    pub waits_on : (x : Inside) → WaitsFrom opened log x → WaitsFrom opened later x
    waits_on inside.Nothing h = h
    waits_on (inside.Seat place) h = h
    waits_on (inside.Pairs pairs) h = pairs_on pairs.items h
    waits_on (inside.Whole whole) h = record { are = seats_on whole.value.seats.items h.are; all = h.all }

  -- What is in the last slot: nothing, while the tree is open; then what waits.
  abbrev Fits : List (Event Inside) → Cell Inside → Type 0
  Fits log no_slot = ⊥
  Fits log (home x) = ((stage_of log ≡ 0) × (x ≡ inside.Nothing)) ⊎ ((stage_of log ≡ 1) × WaitsFrom opened log x)
  Fits log (out a x) = stage_of log ≡ 0 → x ≡ inside.Nothing

  abbrev L : ℕ
  L = limits.actors

  lent_fits : (log later : List (Event Inside)) (b : ℕ) (cell : Cell Inside) → stage_of later ≡ stage_of log → Fits log cell → Fits later (lent b cell)
  lent_fits log later b no_slot same h = h
  lent_fits log later b (home x) same h = λ none. ⊎_elim (λ t. t.1) (λ t. let one = t.0 in absurd (omega (arith, one, none, same))) h
  lent_fits log later b (out a x) same h = λ none. h (sym same ∙ none)

  on_fits : (log later : List (Event Inside)) (cell : Cell Inside) → GoesOn later log → IsLog IsPutBack opened later → stage_of later ≡ stage_of log → Fits log cell → Fits later cell
  on_fits log later no_slot goes legal same h = h
  on_fits log later (home x) goes legal same h = ⊎_elim
      (λ t. inl (same ∙ t.0, t.1))
      (λ t. inr (same ∙ t.0, waits_on log later goes legal (let one = t.0 in omega (arith, one)) x t.1))
      h
  on_fits log later (out a x) goes legal same h = λ none. h (sym same ∙ none)

  goes_nothing : (x y : Inside) → x ≡ inside.Nothing → GoesOnTo x y → y ≡ inside.Nothing
  goes_nothing x y is goes = subst (λ z. GoesOnTo z y) is goes

  out_fits : (log later : List (Event Inside)) (cell : Cell Inside) (a : ℕ) (x : Inside) → cell ≡ out a x → (stage_of later ≡ 0 → ⊥) → Fits later cell
  out_fits log later no_slot a x e some = cc
  out_fits log later (home y) a x e some = cc
  out_fits log later (out b y) a x e some = λ none. absurd (some none)

  fits_on : (log : List (Event Inside)) (b : ℕ) (deed : Deed Inside) → (legal : IsLog IsPutBack opened (record { author = b; deed = deed } ∷ log)) → Fits log (cell_of opened log L)
      → Fits (record { author = b; deed = deed } ∷ log) (cell_on b deed L (cell_of opened log L))
  fits_on log b (Began m) legal h = let later : List (Event Inside) = record { author = b; deed = Began m } ∷ log in dite (ℕ_discrete m L)
      (λ e. subst (Fits later) (sym (where_same m L (lent b (cell_of opened log L)) (cell_of opened log L) e)) (lent_fits log later b (cell_of opened log L) refl h))
      (λ ne. subst (Fits later) (sym (where_other m L (lent b (cell_of opened log L)) (cell_of opened log L) ne))
      (on_fits log later (cell_of opened log L) (record { author = b; deed = Began m } ∷ [], refl) legal refl h))
  fits_on log b (Ended m x y) legal h = let later : List (Event Inside) = record { author = b; deed = Ended m x y } ∷ log in dite (ℕ_discrete m L)
      (λ e. subst (Fits later) (sym (where_same m L (home y) (cell_of opened log L) e)) (⊎_elim
      (λ t. inl (t.0, goes_nothing x y (subst (Fits log) (ap (cell_of opened log) (sym e) ∙ legal.0.0) h t.0) t.1))
      (λ t. inr (t.0, waits_on log later (record { author = b; deed = Ended m x y } ∷ [], refl) legal (let one = t.0 in omega (arith, one)) y t.2))
      legal.0.1))
      (λ ne. subst (Fits later) (sym (where_other m L (home y) (cell_of opened log L) ne))
      (on_fits log later (cell_of opened log L) (record { author = b; deed = Ended m x y } ∷ [], refl) legal refl h))
  fits_on log b Closed legal h = let it = legal.0.1 L (let count = own.count in omega (arith, count)) in
      out_fits log (record { author = b; deed = Closed } ∷ log) (cell_of opened log L) b it.0 it.1 (λ e. omega (arith, e))
  fits_on log b Emptied legal h = let it = legal.0.1 L (sym own.count) in
      out_fits log (record { author = b; deed = Emptied } ∷ log) (cell_of opened log L) b it.0 it.1 (λ e. omega (arith, e))

  last_fits : (log : List (Event Inside)) → IsLog IsPutBack opened log → Fits log (cell_of opened log L)
  last_fits [] legal = subst (λ o. Fits [] (first_cell o)) (sym own.last) (inl (refl, refl))
  last_fits (event ∷ log) legal = fits_on log event.author event.deed legal (last_fits log legal.1)

  pub last_home : (log : List (Event Inside)) (x : Inside) → IsLog IsPutBack opened log → cell_of opened log L ≡ home x
      → ((stage_of log ≡ 0) × (x ≡ inside.Nothing)) ⊎ ((stage_of log ≡ 1) × WaitsFrom opened log x)
  last_home log x legal is = subst (Fits log) is (last_fits log legal)

pub waiting_no_seat : (opened : List Inside) (log : List (Event Inside)) (x : Inside) → WaitsFrom opened log x → seat_in x ≡ None
waiting_no_seat opened log inside.Nothing h = absurd h
waiting_no_seat opened log (inside.Seat place) h = absurd h
waiting_no_seat opened log (inside.Pairs pairs) h = refl
waiting_no_seat opened log (inside.Whole whole) h = refl
