-- A call takes its seat out of its slot, or finds it away, and puts it back.
use Rattle.std.proofs.Common.{◌≡◌, ◌≢◌, ◌<◌, ◌∷◌, ◌∙◌, ℕ, List, [], None, Some, Box, Global, ap, arith, eqb, inl, inr, length, refl, subst, sym, ⊎_elim}
use Rattle.std.specs.Prelude.{Option, if◌then◌else◌, slice_get}
use mathlib.Core.Logic.{dite}
use native.Mathlib.Decide.{ℕ_discrete}
use Rattle.atomic_table.specs.Table.{rest}
use Rattle.call_log.specs.declared.log.Authors.TheVariants.{AllFrom}
use Rattle.call_log.specs.declared.log.Deed.TheVariants.{Began, Ended}
use Rattle.call_log.specs.declared.log.Event.{Event}
use Rattle.call_log.specs.declared.log.Knows.{Knows}
use Rattle.call_log.specs.Logs.{GoesOn, IsLog, WritesAs, WroteNoMore, by, cell_of, first_cell, home, lent, out, stage_of}
use Rattle.call_log.specs.Rule.{knows}
use Rattle.call_log.specs.Steps.{CanEnd, EndsSo, HasBegun, HasDone, HasMissed, HasOut, HasTried, WasLog, event}
use Rattle.call_log.proofs.Logs.{goes_on_one, has_first, same_first, stays_out, where_other, where_same}
use Rattle.running_tree.specs.Seats.{Seat}
use Rattle.bw_tree_c.specs.Handles.{HasNothingOut, HasWritten, IsAway, IsCallOn, IsReceipt, MayCall, MayCallOn, OnSeat, opened_in}
use Rattle.bw_tree_c.specs.Receipts.{SeatHand}
use Rattle.bw_tree_c.specs.Seats.{IsLater}
use Rattle.bw_tree_c.specs.Slots.{IsPutBack, seat_in, seat_of}
use Rattle.bw_tree_c.specs.Taken.{CanFinish, HasObserved, HasTakenOut, IsFinished}
use Rattle.bw_tree_c.specs.declared.handle.shared.Shared.{Shared}
use Rattle.bw_tree_c.specs.declared.handle.slots.Inside.{Inside}
use Rattle.bw_tree_c.specs.declared.handle.slots.Inside.TheVariants as inside
use Rattle.bw_tree_c.specs.declared.place.Place.{Place}
use Rattle.bw_tree_c.specs.declared.receipt.Receipt.{Receipt}
use Rattle.bw_tree_c.specs.declared.receipt.Told.{Told}
use Rattle.bw_tree_c.specs.declared.statuses.TheConstants.{BUSY, CLOSED}
use Rattle.bw_tree_c.proofs.Outs.{goes_on_to, gone_on, has_seat, home_not_out, nothing_out, on_from, open_home, was_out_in}

-- Whoever made a call may make another one with its receipt.
pub written_may : (shared : Shared) (author : ℕ) (mine : List (Event Inside)) (since it : Receipt) → HasWritten shared author mine since it → MayCall shared it
written_may shared author mine since it w = record { authors = w.authors; log = w.after; author = author; seen = w.has; writes = w.writes; nothing = w.back }

first_not_out : (o : Option Inside) (a : ℕ) (x : Inside) → first_cell o ≡ out a x → ⊥
first_not_out None a x e = cc
first_not_out (Some y) a x e = cc

-- So may whoever opened the tree.
pub opened_may : (kept : Option Shared) (it : Receipt) → IsReceipt kept (AllFrom 0) [] it → MayCallOn kept it
opened_may None it h = absurd h
opened_may (Some shared) it h = record {
  authors = AllFrom 0;
  log = [];
  author = 0;
  seen = h;
  writes = refl;
  nothing = λ a n x has is. absurd (first_not_out (slice_get (opened_in shared) n) a x is);
}

abbrev pub first_inside : List (ℕ × Inside) → Inside
first_inside [] = inside.Nothing
first_inside (x ∷ xs) = x.1

pub not_seat : (x : Inside) (s : Seat) → ((place : Box Place Global) → x ≡ inside.Seat place → ⊥) → seat_in x ≡ Some s → ⊥
not_seat inside.Nothing s none is = cc
not_seat (inside.Seat place) s none is = none place refl
not_seat (inside.Pairs pairs) s none is = cc
not_seat (inside.Whole whole) s none is = cc

-- A hand that has seen what the caller had.
module _ (shared : Shared) (since : Receipt) (may : MayCall shared since) (h0 h1 : SeatHand) (seen : HasObserved shared since h0) where
  pub view : h0.me ≡ (knows may.authors (opened_in shared) may.log, [])
  view = (λ i. (seen.sees may.authors may.log may.seen i, seen.none i))

  pub may_begin : (author : ℕ) × WritesAs h0.me.0.authors author
  may_begin = (may.author, subst (λ m. WritesAs m.0.authors may.author) (sym view) may.writes)

  module _ (n : ℕ) (below : n < shared.limits.actors) (same1 : h1.table_id ≡ h0.table_id) where
    table1 : h1.table_id ≡ shared.table.shared.table_id
    table1 = same1 ∙ seen.table

    tried_so : (found : ℕ) → HasTried IsPutBack n found h0.me h1.me → HasTried IsPutBack n found (knows may.authors (opened_in shared) may.log, []) h1.me
    tried_so found tried = subst (λ m. HasTried IsPutBack n found m h1.me) view tried

    begun_so : (found : ℕ) → found ≡ 0 → HasTried IsPutBack n found h0.me h1.me → HasBegun IsPutBack n (knows may.authors (opened_in shared) may.log, []) h1.me
    begun_so found zero' tried = (tried_so found tried).hit zero'

    module _ (found : ℕ) (hit : found ≡ 0) (tried : HasTried IsPutBack n found h0.me h1.me) (x : Inside) (got : h1.me.1 ≡ (n, x) ∷ rest h1.me.1) where
      begins : HasBegun IsPutBack n (knows may.authors (opened_in shared) may.log, []) h1.me
      begins = begun_so found hit tried

      is_x : begins.0 ≡ x
      is_x = ap first_inside (sym (ap (λ m. m.1) begins.1.now) ∙ got)

      pub there : (s : Seat) × (seat_in x ≡ Some s)
      there = let it = has_seat (opened_in shared) shared.limits shared.own n below begins.1.log begins.1.was.legal in
          (it.0, ap seat_in (sym is_x) ∙ ap seat_of (sym begins.2) ∙ it.1)

      pub taken : (h2 : SeatHand) → h2.table_id ≡ h1.table_id → h2.me ≡ (h1.me.0, (n, inside.Nothing) ∷ rest h1.me.1) → (s : Seat) → seat_in x ≡ Some s → HasTakenOut shared n since h2 s
      taken h2 same2 me2 s is = record {
        below = below;
        authors = may.authors;
        before = may.log;
        log = begins.1.log;
        author = begins.1.author;
        old = begins.0;
        had = may.seen;
        nothing = may.nothing;
        writes = begins.1.writes;
        table = same2 ∙ table1;
        me = me2 ∙ ap (λ m. (m.0, (n, inside.Nothing) ∷ rest m.1)) begins.1.now;
        legal = begins.1.legal;
        on = begins.1.was.seen;
        only = begins.1.was.alone;
        at = begins.2;
        found = ap seat_in is_x ∙ is;
      }

    pub away : (found : ℕ) → found ≢ 0 → HasTried IsPutBack n found h0.me h1.me → (told : Told) → told.receipt.table_id ≡ h1.table_id → told.receipt.views ≡ h1.me.0 ∷ []
        → (found ≡ 1 → told.status ≡ BUSY) → (found ≡ 2 → told.status ≡ CLOSED) → IsAway shared n since told
    away found ne tried told same views busy closed =
        let miss : HasMissed IsPutBack n found (knows may.authors (opened_in shared) may.log, []) h1.me = (tried_so found tried).miss ne in record {
          below = below;
          author = may.author;
          written = record {
            authors = may.authors;
            before = may.log;
            after = miss.looked.log;
            had = may.seen;
            has = record { table = same ∙ table1; view = views ∙ ap (λ m. m.0 ∷ []) miss.looked.now; legal = miss.looked.was.legal };
            writes = may.writes;
            on = miss.looked.was.seen;
            only = miss.looked.was.alone;
            back = nothing_out (opened_in shared) may.authors miss.looked.log may.log miss.looked.was.seen miss.looked.was.legal miss.looked.was.alone may.nothing;
          };
          by = miss.author;
          x = miss.x;
          away = miss.away;
          why = ⊎_elim (λ one. inl (busy one.0)) (λ two. inr (closed two.0, two.1)) miss.why;
        }

    pub empty : (found : ℕ) → found ≢ 0 → HasTried IsPutBack n found h0.me h1.me → h1.me.1 ≡ []
    empty found ne tried = let miss : HasMissed IsPutBack n found (knows may.authors (opened_in shared) may.log, []) h1.me = (tried_so found tried).miss ne in ap (λ m. m.1) miss.looked.now

-- The seat is put back.
module _ (shared : Shared) (n : ℕ) (since : Receipt) (h h1 : SeatHand) (first seat : Seat) (new : Inside) (has : seat_in new ≡ Some seat) (taken : HasTakenOut shared n since h first)
    (later : IsLater first seat) (me1 : h1.me ≡ (h.me.0, (n, new) ∷ rest h.me.1)) where
  abbrev B : Event Inside
  B = event taken.author (Began n)

  abbrev E : Event Inside
  E = event taken.author (Ended n taken.old new)

  abbrev V : Knows Inside
  V = knows taken.authors (opened_in shared) (B ∷ taken.log)

  is1 : h1.me ≡ (V, (n, new) ∷ [])
  is1 = me1 ∙ ap (λ m. (m.0, (n, new) ∷ rest m.1)) taken.me

  out_now : cell_of (opened_in shared) (B ∷ taken.log) n ≡ out taken.author taken.old
  out_now = where_same n n _ (cell_of (opened_in shared) taken.log n) refl ∙ ap (λ c. lent taken.author c) taken.at

  has_out : HasOut V n taken.old
  has_out = (taken.author, taken.writes, out_now)

  below' : n < length (opened_in shared)
  below' = let count = shared.own.count in let b = taken.below in omega (arith, count, b)

  open_log : (log : List (Event Inside)) → WasLog IsPutBack V log → stage_of log ≡ 0
  open_log log was =
      let goes = was.seen in
      let zero' = open_home (opened_in shared) shared.limits shared.own n taken.below taken.log taken.old taken.legal.1 taken.at in
      let it = stays_out IsPutBack (opened_in shared) (B ∷ taken.log) goes.0 taken.author n taken.old (subst (IsLog IsPutBack (opened_in shared)) goes.1 was.legal)
      (ap (by taken.author) (sym goes.1) ∙ was.alone taken.author (has_first taken.authors taken.author taken.writes)) out_now below' in
      ap stage_of goes.1 ∙ it.open_still zero'

  ends_there : CanEnd IsPutBack n (V, (n, new) ∷ [])
  ends_there = record {
    x = taken.old;
    y = new;
    out_there = has_out;
    carried = refl;
    ends_so = λ log author writes was. let none = open_log log was in (
      inl (none, goes_on_to taken.old new first seat taken.found has later),
      omega (arith, none),
    );
  }

  pub can_end : CanEnd IsPutBack n h1.me
  can_end = subst (CanEnd IsPutBack n) (sym is1) ends_there

  module _ (h2 : SeatHand) (ended : EndsSo IsPutBack n h1.me h2.me) where
    abbrev done : HasDone IsPutBack (Ended n taken.old new) [] V h2.me
    done = subst (λ m. EndsSo IsPutBack n m h2.me) is1 ended taken.old new has_out refl

    same_author : done.author ≡ taken.author
    same_author = same_first taken.authors done.author taken.author done.writes taken.writes

    now : h2.me ≡ (knows taken.authors (opened_in shared) (E ∷ done.log), [])
    now = done.now ∙ ap (λ a. (knows taken.authors (opened_in shared) (event a (Ended n taken.old new) ∷ done.log), [])) same_author

    legal : IsLog IsPutBack (opened_in shared) (E ∷ done.log)
    legal = subst (λ a. IsLog IsPutBack (opened_in shared) (event a (Ended n taken.old new) ∷ done.log)) same_author done.legal

    on : GoesOn (E ∷ done.log) taken.before
    on = goes_on_one done.log taken.before E (on_from done.log (B ∷ taken.log) taken.before done.was.seen (goes_on_one taken.log taken.before B taken.on))

    only : WroteNoMore taken.authors (E ∷ B ∷ taken.before) (E ∷ done.log)
    only b has = ap (λ l. if eqb b taken.author then E ∷ l else l) (done.was.alone b has ∙ ap (λ l. if eqb b taken.author then B ∷ l else l) (taken.only b has))

    back : HasNothingOut (opened_in shared) taken.authors (E ∷ done.log)
    back b m x has is = dite (ℕ_discrete n m)
        (λ e. home_not_out _ new b x (sym (where_same n m (home new) (cell_of (opened_in shared) done.log m) e) ∙ is))
        (λ ne.
        let a = sym (where_other n m (home new) (cell_of (opened_in shared) done.log m) ne) ∙ is in
        let c = was_out_in (opened_in shared) done.log (B ∷ taken.log) b m x done.was.seen done.was.legal (done.was.alone b has) a in
        let d = sym (where_other n m _ (cell_of (opened_in shared) taken.log m) ne) ∙ c in
        let e = was_out_in (opened_in shared) taken.log taken.before b m x taken.on taken.legal.1 (taken.only b has) d in
        gone_on (opened_in shared) (E ∷ done.log) taken.before m on legal (taken.nothing b m x has e))

    pub empty_now : h2.me.1 ≡ []
    empty_now = ap (λ m. m.1) now

    pub finished : (same1 : h1.table_id ≡ h.table_id) → h2.table_id ≡ h1.table_id → (it : Receipt) → it.table_id ≡ h2.table_id → it.views ≡ h2.me.0 ∷ []
        → IsCallOn shared n since it (λ before after. (before ≡ first) × (after ≡ seat))
    finished same1 same2 it same views = record {
      below = taken.below;
      author = taken.author;
      old = taken.old;
      new = new;
      written = record {
        authors = taken.authors;
        before = taken.before;
        after = E ∷ done.log;
        had = taken.had;
        has = record { table = same ∙ same2 ∙ same1 ∙ taken.table; view = views ∙ ap (λ m. m.0 ∷ []) now; legal = legal };
        writes = taken.writes;
        on = on;
        only = only;
        back = back;
      };
      rest = done.log;
      last = refl;
      before = first;
      after = seat;
      found = taken.found;
      left = has;
      later = later;
      runs = (refl, refl);
    }

pub runs_on : (shared : Shared) (n : ℕ) (since it : Receipt) (first seat : Seat) (ran : Seat → Seat → Type 0) → IsCallOn shared n since it (λ before after. (before ≡ first) × (after ≡ seat))
    → ran first seat → IsCallOn shared n since it ran
runs_on shared n since it first seat ran on is = record {
  below = on.below;
  author = on.author;
  old = on.old;
  new = on.new;
  written = on.written;
  rest = on.rest;
  last = on.last;
  before = on.before;
  after = on.after;
  found = on.found;
  left = on.left;
  later = on.later;
  runs = subst (λ s. ran s on.after) (sym on.runs.0) (subst (ran first) (sym on.runs.1) is);
}

-- A call ran on the seat that was taken out.
module _ (shared : Shared) (n : ℕ) (since : Receipt) (hand : SeatHand) (place lent ran : Place) (lends : lent ≡ place) (taken : HasTakenOut shared n since hand place.seat)
    (later : IsLater lent.seat ran.seat) where
  lent_taken : HasTakenOut shared n since hand lent.seat
  lent_taken = subst (λ (p : Place). HasTakenOut shared n since hand p.seat) (sym lends) taken

  pub can_finish : CanFinish shared n hand ran.seat
  can_finish = record { since = since; first = lent.seat; taken = lent_taken; later = later }

  pub on_seat : (told : Told) (rest : Type 0) (does : Seat → Seat → Type 0) → does lent.seat ran.seat → IsFinished shared n hand ran.seat told.receipt → OnSeat (Some shared) n since told rest does
  on_seat told rest does runs done = inr (runs_on shared n since told.receipt lent.seat ran.seat does (done since lent.seat lent_taken later) runs)
