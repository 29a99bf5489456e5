-- The seats that a closing has out are gathered, one after the other.
use Rattle.std.proofs.Common.{◌≡◌, ◌+◌, ◌*◌, ◌<◌, ◌≤◌, ◌++◌, ◌∷◌, ◌∙◌, ℕ, List, [], None, Some, ap, arith, length, refl, subst, sym}
use Rattle.std.specs.Prelude.{MatchOption, Option, slice_get}
use Rattle.std.specs.Arc.{arc_value}
use Rattle.std.specs.Vec.{vec_capacity}
use Rattle.std.proofs.lemmas.List.{length-append}
use mathlib.Core.Logic.{dite}
use native.Mathlib.Decide.{ℕ_discrete}
use Rattle.atomic_table.specs.Table.{rest}
use Rattle.call_log.specs.declared.log.Deed.{Deed}
use Rattle.call_log.specs.declared.log.Event.{Event}
use Rattle.call_log.specs.Logs.{GoesOn, IsLog, cell_of, out, stage_of}
use Rattle.call_log.specs.Steps.{HasLeft}
use Rattle.running_tree.specs.Seats.{Seat, unfinished_command}
use Rattle.running_tree.specs.Trees.{AreSeatsOf, IsSeatOf}
use Rattle.bw_tree_c.specs.Closing.{LooksOn, RunsNothing}
use Rattle.bw_tree_c.specs.Handles.{MayCall, opened_in}
use Rattle.bw_tree_c.specs.Receipts.{SeatHand}
use Rattle.bw_tree_c.specs.Shutting.{AreAllIdle, AreIdleBelow, Carries, IsInside, MayGather}
use Rattle.bw_tree_c.specs.Slots.{HasAllOf, IsPutBack, seat_in, seat_of}
use Rattle.bw_tree_c.specs.declared.closing.whole.Whole.{Whole}
use Rattle.bw_tree_c.specs.declared.handle.shared.Shared.{Shared}
use Rattle.bw_tree_c.specs.declared.handle.slots.Inside.{Inside}
use Rattle.bw_tree_c.specs.declared.receipt.Receipt.{Receipt}
use Rattle.bw_tree_c.proofs.Calling.{first_inside}
use Rattle.bw_tree_c.proofs.Filling.{is_last, pushed_at}
use Rattle.bw_tree_c.proofs.Gathered.{have_one, in_list}
use Rattle.bw_tree_c.proofs.Last.{kept}
use Rattle.bw_tree_c.proofs.Outs.{has_seat}
use Rattle.bw_tree_c.proofs.Shut.{carried_head}

-- So many seats are gathered, as the log has them.
pub record HasGathered (shared : Shared) (n : ℕ) (hand : SeatHand) (old whole : Whole) : Type 0 where
  pub count : length whole.seats.items ≡ n
  pub each : (m : ℕ) (seat : Seat) → slice_get whole.seats.items m ≡ Some seat → seat_of (cell_of (opened_in shared) hand.me.0.log m) ≡ Some seat
  pub room : whole.room ≡ old.room
  pub capacity : vec_capacity whole.seats ≡ vec_capacity old.seats
  pub own : 0 < n → MatchOption whole.share ⊥ (λ share. (m : ℕ) × (seat : Seat) × (slice_get whole.seats.items m ≡ Some seat) × IsSeatOf (arc_value share) seat)
  pub idle : AreIdleBelow shared shared.limits.actors hand

if_some : {X : Type 0} (A B : X → Type 0) (o : Option X) → ((x : X) → A x → B x) → MatchOption o ⊥ A → MatchOption o ⊥ B
if_some A B None f h = absurd h
if_some A B (Some x) f h = f x h

nothing_at : (xs : List Seat) (n : ℕ) (x : Seat) (P : Type 0) → xs ≡ [] → slice_get xs n ≡ Some x → P
nothing_at xs n x P is at = absurd (let below = in_list xs n x at in let none = ap length is in omega (arith, below, none))

pub none_gathered : (shared : Shared) (hand : SeatHand) (whole : Whole) → whole.seats.items ≡ [] → AreIdleBelow shared shared.limits.actors hand → HasGathered shared 0 hand whole whole
none_gathered shared hand whole none idle = record {
  count = ap length none;
  each = λ m seat at. nothing_at whole.seats.items m seat _ none at;
  room = refl;
  capacity = refl;
  own = λ some. absurd (omega (arith, some));
  idle = idle;
}

-- Two logs that have the same slots out have them as they are carried.
same_cells : (opened : List Inside) (k l : List (Event Inside)) (author n : ℕ) (xs : List (ℕ × Inside)) → Carries opened k author n xs → Carries opened l author n xs → (m : ℕ) → n ≤ m
    → m + 1 < length opened → cell_of opened l m ≡ cell_of opened k m
same_cells opened k l author n [] h g m more below = absurd (omega (arith, h, more, below))
same_cells opened k l author n (it ∷ xs) h g m more below = dite (ℕ_discrete n m)
    (λ e. ap (cell_of opened l) (sym e) ∙ g.1.away ∙ ap (out author) (sym (g.1.same (omega (arith, e, below))) ∙ h.1.same (omega (arith, e, below))) ∙ sym h.1.away ∙ ap (cell_of opened k) e)
    (λ ne. same_cells opened k l author (n + 1) xs h.2 g.2 m (omega (arith, more, ne)) below)

idle_in : (opened : List Inside) (log : List (Event Inside)) (author n : ℕ) (xs : List (ℕ × Inside)) → Carries opened log author n xs → AreAllIdle xs → (m : ℕ) → n ≤ m → m + 1 < length opened
    → (seat : Seat) → seat_of (cell_of opened log m) ≡ Some seat → unfinished_command seat ≡ None
idle_in opened log author n [] h idle m more below seat is = absurd (omega (arith, h, more, below))
idle_in opened log author n (it ∷ xs) h idle m more below seat is = dite (ℕ_discrete n m)
    (λ e. idle.0 seat (ap seat_in (h.1.same (omega (arith, e, below))) ∙ ap seat_of (sym h.1.away) ∙ ap (λ k. seat_of (cell_of opened log k)) e ∙ is))
    (λ ne. idle_in opened log author (n + 1) xs h.2 idle.1 m (omega (arith, more, ne)) below seat is)

module _ (shared : Shared) (since : Receipt) (may : MayCall shared since) (last : Inside) where
  -- The seats that are out are those that the log has.
  pub idle_below : (h : SeatHand) → IsInside shared since may 0 0 LooksOn last h → AreAllIdle h.me.1 → AreIdleBelow shared shared.limits.actors h
  idle_below h mid idle n seat below is = idle_in (opened_in shared) mid.log may.author 0 mid.carried mid.at.carries (subst AreAllIdle (ap (λ m. m.1) mid.me) idle) n (omega arith)
      (let count = shared.own.count in omega (arith, count, below)) seat (ap (λ m. seat_of (cell_of (opened_in shared) m.0.log n)) (sym mid.me) ∙ is)

  -- Once the tree is closed its seats are as they were.
  pub idle_closed : (h h1 : SeatHand) → IsInside shared since may 0 0 LooksOn last h → IsInside shared since may 0 1 RunsNothing last h1 → h1.me.1 ≡ h.me.1
      → AreIdleBelow shared shared.limits.actors h → AreIdleBelow shared shared.limits.actors h1
  idle_closed h h1 mid mid1 same idle n seat below is =
      let xs : mid.carried ≡ mid1.carried = sym (ap (λ m. m.1) mid.me) ∙ sym same ∙ ap (λ m. m.1) mid1.me in
      let cells = same_cells (opened_in shared) mid.log mid1.log may.author 0 mid1.carried
      (subst (Carries (opened_in shared) mid.log may.author 0) xs mid.at.carries) mid1.at.carries n (omega arith) (let count = shared.own.count in omega (arith, count, below)) in
      idle n seat below (ap (λ m. seat_of (cell_of (opened_in shared) m.0.log n)) mid.me ∙ ap seat_of (sym cells) ∙ ap (λ m. seat_of (cell_of (opened_in shared) m.0.log n)) (sym mid1.me) ∙ is)

  module _ (n : ℕ) (below : n < shared.limits.actors) (h : SeatHand) (mid : IsInside shared since may n 1 RunsNothing last h) (y : Inside) (got : h.me.1 ≡ (n, y) ∷ rest h.me.1) where
    cell_is : seat_of (cell_of (opened_in shared) h.me.0.log n) ≡ seat_in y
    cell_is =
        let it = carried_head (opened_in shared) mid.log may.author n mid.carried (let count = shared.own.count in omega (arith, count, below)) mid.at.carries in
        let is : it.0 ≡ y = ap first_inside (sym (ap (λ m. m.1) mid.me ∙ it.2) ∙ got) in
        ap (λ m. seat_of (cell_of (opened_in shared) m.0.log n)) mid.me ∙ ap seat_of it.3.away
        ∙ ap seat_in (sym (it.3.same (let count = shared.own.count in omega (arith, count, below))) ∙ is)

    -- There is a seat.
    pub some_there : (s : Seat) × (seat_in y ≡ Some s)
    some_there =
        let was = has_seat (opened_in shared) shared.limits shared.own n below h.me.0.log (subst (λ m. IsLog IsPutBack (opened_in shared) m.0.log) (sym mid.me) mid.at.legal) in
        (was.0, sym cell_is ∙ was.1)

    pub one_gathered : (h2 : SeatHand) → GoesOn h2.me.0.log h.me.0.log → IsLog IsPutBack (opened_in shared) h2.me.0.log → (s : Seat) → seat_in y ≡ Some s → (old w1 w2 : Whole)
        → HasGathered shared n h old w1 → w2.seats.items ≡ w1.seats.items ++ s ∷ [] → vec_capacity w2.seats ≡ vec_capacity w1.seats → w2.room ≡ w1.room
        → MatchOption w2.share ⊥ (λ share. IsSeatOf (arc_value share) s) → HasGathered shared (n + 1) h2 old w2
    one_gathered h2 goes legal s at old w1 w2 g seats capacity room tree =
        let some : 0 < stage_of h.me.0.log = (let is = ap (λ m. stage_of m.0.log) mid.me ∙ mid.at.stage in omega (arith, is)) in
        let stays = kept (opened_in shared) shared.limits shared.own h.me.0.log h2.me.0.log goes legal some in
        let here : slice_get w2.seats.items n ≡ Some s = ap (λ xs. slice_get xs n) seats ∙ ap (slice_get (w1.seats.items ++ s ∷ [])) (sym g.count) ∙ is_last w1.seats.items s in record {
          count = ap length seats ∙ length-append w1.seats.items (s ∷ []) ∙ ap (λ k. k + 1) g.count;
          each = λ m seat here. pushed_at (λ k x. seat_of (cell_of (opened_in shared) h2.me.0.log k) ≡ Some x) w1.seats.items s
              (λ k x is. stays k (let a = in_list w1.seats.items k x is in let b = g.count in omega (arith, a, b, below)) ∙ g.each k x is)
              (ap (λ k. seat_of (cell_of (opened_in shared) h2.me.0.log k)) g.count ∙ stays n below ∙ cell_is ∙ at)
              m seat (ap (λ xs. slice_get xs m) (sym seats) ∙ here);
          room = room ∙ g.room;
          capacity = capacity ∙ g.capacity;
          own = λ _. if_some (λ share. IsSeatOf (arc_value share) s) _ w2.share (λ share is. (n, s, here, is)) tree;
          idle = λ k seat under is. g.idle k seat under (sym (stays k under) ∙ is);
        }

-- All of them are gathered.
pub all_gathered : (shared : Shared) (n : ℕ) (hand : SeatHand) (old whole : Whole) → HasGathered shared n hand old whole → n ≡ shared.limits.actors → MayGather shared.limits old
    → IsLog IsPutBack (opened_in shared) hand.me.0.log → HasAllOf (opened_in shared) hand.me.0.log whole
all_gathered shared n hand old whole g is may legal =
    let some : 0 < shared.limits.actors = (let a = shared.limits.allowed.some_actor in omega (arith, a)) in
    let one = have_one (opened_in shared) shared.limits shared.own hand.me.0.log legal whole.seats.items (g.count ∙ is) g.each in record {
      are = record { count = shared.own.count ∙ ap (λ k. k + 1) (sym (g.count ∙ is)); each = g.each };
      all = record {
        own = if_some _ (λ share. AreSeatsOf (arc_value share) whole.seats.items) whole.share
            (λ share it. λ m seat at. record {
              table = one.alike it.0 m it.1 seat it.2 at ∙ it.3.table;
              limits = one.each m seat at ∙ sym (one.each it.0 it.1 it.2) ∙ it.3.limits;
            }) (g.own (omega (arith, some, is)));
        idle = λ m seat at. g.idle m seat (let a = in_list whole.seats.items m seat at in let b = g.count in omega (arith, a, b, is)) (g.each m seat at);
        limits = shared.limits;
        one = one;
        some = (let a = g.count in omega (arith, a, is, some));
        empty = ap (λ r. r.items) g.room ∙ may.empty;
        room = subst (λ r. 24 * shared.limits.pids ≤ vec_capacity r) (sym g.room) may.room;
      };
    }

-- What was left goes on.
pub left_on : (h1 h2 : SeatHand) (h : SeatHand) (y : Inside) (n : ℕ) → h1.me ≡ (h.me.0, (n, y) ∷ rest h.me.1) → HasLeft IsPutBack h1.me h2.me → GoesOn h2.me.0.log h.me.0.log
left_on h1 h2 h y n is left = subst (λ l. GoesOn l h.me.0.log) (sym (ap (λ m. m.0.log) left.now)) (subst (GoesOn left.log) (ap (λ m. m.0.log) is) left.was.seen)

pub legal_in : (shared : Shared) (since : Receipt) (may : MayCall shared since) (last : Inside) (from far : ℕ) (such : Deed Inside → Type 0) (h : SeatHand)
    → IsInside shared since may from far such last h → IsLog IsPutBack (opened_in shared) h.me.0.log
legal_in shared since may last from far such h mid = subst (λ m. IsLog IsPutBack (opened_in shared) m.0.log) (sym mid.me) mid.at.legal
