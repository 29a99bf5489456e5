-- A closing goes on: slots are taken out, put back and left.
use Rattle.std.proofs.Common.{◌≡◌, ◌≢◌, ◌+◌, ◌<◌, ◌≤◌, ◌∷◌, ◌∙◌, ◌⊎◌, ℕ, zero, suc, List, [], None, ap, arith, eqb, inl, inr, length, refl, subst, sym, ⊎_elim}
use Rattle.std.specs.Prelude.{if◌then◌else◌}
use mathlib.Core.Logic.{dite}
use native.Mathlib.Decide.{ℕ_discrete}
use Rattle.std.proofs.Math.Decide.{dec_le}
use Rattle.atomic_table.specs.Table.{rest}
use Rattle.call_log.specs.declared.log.Deed.{Deed}
use Rattle.call_log.specs.declared.log.Deed.TheVariants.{Began, Closed, Emptied, Ended}
use Rattle.call_log.specs.declared.log.Event.{Event}
use Rattle.call_log.specs.declared.log.Knows.{Knows}
use Rattle.call_log.specs.Logs.{Cell, GoesOn, HasAuthor, IsLog, MayFollow, WritesAs, by, cell_of, cell_on, home, lent, no_slot, out, stage_of}
use Rattle.call_log.specs.Rule.{knows}
use Rattle.call_log.specs.Steps.{CanClose, CanEmpty, CanEnd, CanLeave, EndsSo, HasBegun, HasClosed, HasDone, HasEmptied, HasLeft, HasMissed, HasOut, HasSeen, HasTried, WasLog, event}
use Rattle.call_log.proofs.Logs.{goes_on_one, goes_on_self, has_first, same_first, stays_one, stays_out, where_other, where_same}
use Rattle.bw_tree_c.specs.Closing.{AreBy, IsOutElsewhere, LooksOn, RunsNothing}
use Rattle.bw_tree_c.specs.Handles.{HasWritten, MayCall, opened_in}
use Rattle.bw_tree_c.specs.Receipts.{SeatHand}
use Rattle.bw_tree_c.specs.Shutting.{Carries, HasBegunAs, IsClosingAt, IsCarried, IsEmptiedAs, IsBusyIn, IsTakenLast, IsInside, IsKeptAs, IsRefusedClosing, HasStoppedClosing}
use Rattle.bw_tree_c.specs.Taken.{HasObserved}
use Rattle.bw_tree_c.specs.declared.statuses.TheConstants.{BUSY, CLOSED}
use Rattle.bw_tree_c.specs.declared.receipt.Told.{Told}
use Rattle.bw_tree_c.specs.Slots.{GoesOnTo, HasLaterSeat, IsPutBack, WaitsFrom, seat_in, seat_of}
use Rattle.bw_tree_c.specs.declared.handle.shared.Shared.{Shared}
use Rattle.bw_tree_c.specs.declared.handle.slots.Inside.{Inside}
use Rattle.bw_tree_c.specs.declared.handle.slots.Inside.TheVariants as inside
use Rattle.bw_tree_c.specs.declared.receipt.Receipt.{Receipt}
use Rattle.bw_tree_c.specs.declared.refusal.Refusal.{Refusal}
use Rattle.bw_tree_c.specs.declared.refusal.Refusal.TheVariants.{Busy, Unfinished}
use Rattle.bw_tree_c.proofs.Calling.{first_inside}
use Rattle.bw_tree_c.proofs.Last.{last_home, waiting_no_seat, waits_on}
use Rattle.bw_tree_c.proofs.Later.{later_self}
use Rattle.bw_tree_c.proofs.Outs.{gone_on, home_not_out, nothing_out, on_from, was_out_in}

out_no_slot : (P : Type 0) (a : ℕ) (x : Inside) → no_slot ≡ out a x → P
out_no_slot P a x e = cc

lent_none : (b : ℕ) (cell : Cell Inside) → cell ≡ no_slot → lent b cell ≡ no_slot
lent_none b cell e = ap (lent b) e

-- a slot that is there
module _ (opened : List Inside) (n : ℕ) (beyond : length opened ≤ n) where
  none_on : (log : List (Event Inside)) (b : ℕ) (deed : Deed Inside) → MayFollow IsPutBack opened log b deed → cell_of opened log n ≡ no_slot → cell_on b deed n (cell_of opened log n) ≡ no_slot
  none_on log b (Began m) may is = dite (ℕ_discrete m n)
      (λ e. where_same m n (lent b (cell_of opened log n)) (cell_of opened log n) e ∙ lent_none b (cell_of opened log n) is)
      (λ no. where_other m n (lent b (cell_of opened log n)) (cell_of opened log n) no ∙ is)
  none_on log b (Ended m y z) may is = dite (ℕ_discrete m n)
      (λ e. out_no_slot _ b y (sym is ∙ ap (cell_of opened log) (sym e) ∙ may.0))
      (λ no. where_other m n (home z) (cell_of opened log n) no ∙ is)
  none_on log b Closed may is = is
  none_on log b Emptied may is = is

  none_at : (xs : List Inside) (k : ℕ) → length xs ≤ k → cell_of xs [] k ≡ no_slot
  none_at [] k h = refl
  none_at (x ∷ xs) zero h = absurd (omega (arith, h))
  none_at (x ∷ xs) (suc k) h = none_at xs k (omega (arith, h))

  none_there : (log : List (Event Inside)) → IsLog IsPutBack opened log → cell_of opened log n ≡ no_slot
  none_there [] legal = none_at opened n beyond
  none_there (event ∷ log) legal = none_on log event.author event.deed legal.0 (none_there log legal.1)

pub is_there : (opened : List Inside) (n : ℕ) (log : List (Event Inside)) (a : ℕ) (x : Inside) → IsLog IsPutBack opened log → cell_of opened log n ≡ out a x → n < length opened
is_there opened n log a x legal is = dite (dec_le (n + 1) (length opened)) (λ e. omega (arith, e)) (λ other. out_no_slot _ a x (sym (none_there opened n (omega (arith, other)) log legal) ∙ is))

looks_run : (deed : Deed Inside) → LooksOn deed → RunsNothing deed
looks_run (Began n) h = tt
looks_run (Ended n x y) h = h
looks_run Closed h = absurd h
looks_run Emptied h = absurd h

pub all_run : (author : ℕ) (mine : List (Event Inside)) → AreBy author LooksOn mine → AreBy author RunsNothing mine
all_run author [] h = tt
all_run author (it ∷ mine) h = (h.0, looks_run it.deed h.1, all_run author mine h.2)

module _ (opened : List Inside) (author : ℕ) (log later : List (Event Inside)) where
  carried_as : (n : ℕ) (now : Inside) → ((x : Inside) → cell_of opened log n ≡ out author x → cell_of opened later n ≡ out author x) → IsCarried opened log author n now
      → IsCarried opened later author n now
  carried_as n now still it = record { x = it.x; away = still it.x it.away; same = it.same; empty = it.empty }

  -- the slots stay out
  carries_as : (n : ℕ) (xs : List (ℕ × Inside)) → ((m : ℕ) (x : Inside) → n ≤ m → cell_of opened log m ≡ out author x → cell_of opened later m ≡ out author x) → Carries opened log author n xs
      → Carries opened later author n xs
  carries_as n [] still h = h
  carries_as n (it ∷ xs) still h = (
    h.0,
    carried_as n it.1 (λ x is. still n x (omega arith) is) h.1,
    carries_as (n + 1) xs (λ m x more is. still m x (omega (arith, more)) is) h.2,
  )

module _ (shared : Shared) (since : Receipt) (may : MayCall shared since) (far : ℕ) (last : Inside) where
  abbrev O : List Inside
  O = opened_in shared

  abbrev V : List (Event Inside) → Knows Inside
  V log = knows may.authors O log

  mine_has : HasAuthor may.authors may.author
  mine_has = has_first may.authors may.author may.writes

  last_is : shared.limits.actors + 1 ≡ length O
  last_is = sym shared.own.count

  -- Others went on.
  module _ (from : ℕ) (such : Deed Inside → Type 0) (log mine : List (Event Inside)) (carried : List (ℕ × Inside)) (at : IsClosingAt shared since may from far such last log mine carried) where
    still : (later : List (Event Inside)) → WasLog IsPutBack (V log) later → (m : ℕ) (x : Inside) → cell_of O log m ≡ out may.author x → cell_of O later m ≡ out may.author x
    still later was m x is =
        let goes = was.seen in
        let it = stays_out IsPutBack O log goes.0 may.author m x (subst (IsLog IsPutBack O) goes.1 was.legal) (ap (by may.author) (sym goes.1) ∙ was.alone may.author mine_has) is
        (is_there O m log may.author x at.legal is) in
        ap (λ l. cell_of O l m) goes.1 ∙ it.out_still

    stage_still : (later : List (Event Inside)) → WasLog IsPutBack (V log) later → stage_of later ≡ far
    stage_still later was =
        let goes = was.seen in
        let legal = subst (IsLog IsPutBack O) goes.1 was.legal in
        let same = ap (by may.author) (sym goes.1) ∙ was.alone may.author mine_has in
        let near = at.near in
        dite (ℕ_discrete far 0)
        (λ none.
        let it = stays_out IsPutBack O log goes.0 may.author shared.limits.actors last legal same at.last_out (is_there O shared.limits.actors log may.author last at.legal at.last_out) in
        ap stage_of goes.1 ∙ it.open_still (at.stage ∙ none) ∙ sym none)
        (λ some.
        let one : far ≡ 1 = omega (arith, near, some) in
        ap stage_of goes.1 ∙ stays_one IsPutBack O log goes.0 may.author shared.limits.actors last legal same at.last_out last_is (at.stage ∙ one) ∙ sym one)

    pub moved : (later : List (Event Inside)) → WasLog IsPutBack (V log) later → IsClosingAt shared since may from far such last later mine carried
    moved later was = record {
      legal = was.legal;
      on = on_from later log may.log was.seen at.on;
      only = λ b has. was.alone b has ∙ at.only b has;
      did = at.did;
      stage = stage_still later was;
      near = at.near;
      carries = carries_as O may.author log later from carried (λ m x more is. still later was m x is) at.carries;
      last_out = still later was shared.limits.actors last at.last_out;
      no_seat = at.no_seat;
      below = λ a n x has is. ⊎_elim
          (λ more. inl more)
          (λ gone. inr (gone_on O later log n was.seen was.legal gone))
          (at.below a n x has (was_out_in O later log a n x was.seen was.legal (was.alone a has) is));
    }

pub goes_self : (x y : Inside) → y ≡ x → GoesOnTo x y
goes_self inside.Nothing y is = is
goes_self (inside.Pairs pairs) y is = is
goes_self (inside.Whole whole) y is = is
goes_self (inside.Seat place) y is = subst (λ z. HasLaterSeat place.value.seat (seat_in z)) (sym is) (later_self place.value.seat)

-- the slot that was taken last
pub carried_head : (opened : List Inside) (log : List (Event Inside)) (author n : ℕ) (xs : List (ℕ × Inside)) → n < length opened → Carries opened log author n xs
    → (y : Inside) × (more : List (ℕ × Inside)) × (xs ≡ (n, y) ∷ more) × IsCarried opened log author n y × Carries opened log author (n + 1) more
carried_head opened log author n [] below h = absurd (omega (arith, below, h))
carried_head opened log author n (it ∷ xs) below h = (it.1, xs, (λ i. (h.0 i, it.1) ∷ xs), h.1, h.2)

-- A slot of a seat is taken out, or is away; or the one that was taken last is put back as it was.
module _ (shared : Shared) (since : Receipt) (may : MayCall shared since) (last : Inside) (n : ℕ) (below : n < shared.limits.actors) (h h' : SeatHand) (same : h'.table_id ≡ h.table_id) where
  abbrev Q : List Inside
  Q = opened_in shared

  abbrev U : List (Event Inside) → Knows Inside
  U log = knows may.authors Q log

  pub inside_n : n < length Q
  inside_n = let count = shared.own.count in omega (arith, count, below)

  not_last : n ≢ shared.limits.actors
  not_last e = omega (arith, e, below)

  module _ (mid : IsInside shared since may (n + 1) 0 LooksOn last h) (found : ℕ) (tried : HasTried IsPutBack n found h.me h'.me) where
    tried_so : HasTried IsPutBack n found (U mid.log, mid.carried) h'.me
    tried_so = subst (λ m. HasTried IsPutBack n found m h'.me) mid.me tried

    pub took : found ≡ 0 → IsInside shared since may n 0 LooksOn last h'
    took hit =
        let begins : HasBegun IsPutBack n (U mid.log, mid.carried) h'.me = tried_so.hit hit in
        let done = begins.1 in
        let who : done.author ≡ may.author = same_first may.authors done.author may.author done.writes may.writes in
        let L : List (Event Inside) = done.log in
        let E : Event Inside = event may.author (Began n) in
        let at = moved shared since may 0 last (n + 1) LooksOn mid.log mid.mine mid.carried mid.at L done.was in record {
          log = E ∷ L;
          mine = E ∷ mid.mine;
          carried = (n, begins.0) ∷ mid.carried;
          table = same ∙ mid.table;
          me = done.now ∙ ap (λ a. (U (event a (Began n) ∷ L), (n, begins.0) ∷ mid.carried)) who;
          at = record {
            legal = subst (λ a. IsLog IsPutBack Q (event a (Began n) ∷ L)) who done.legal;
            on = goes_on_one L may.log E at.on;
            only = λ b has. ap (λ l. if eqb b may.author then E ∷ l else l) (at.only b has);
            did = (refl, tt, at.did);
            stage = at.stage;
            near = at.near;
            carries = (
              refl,
              record {
                x = begins.0;
                away = where_same n n (lent may.author (cell_of Q L n)) (cell_of Q L n) refl ∙ ap (lent may.author) begins.2;
                same = λ _. refl;
                empty = λ e. absurd (let count = shared.own.count in omega (arith, e, count, below));
              },
              carries_as Q may.author L (E ∷ L) (n + 1) mid.carried
                  (λ m x more is. where_other n m (lent may.author (cell_of Q L m)) (cell_of Q L m) (λ e. omega (arith, e, more)) ∙ is) at.carries,
            );
            last_out = where_other n shared.limits.actors (lent may.author (cell_of Q L shared.limits.actors)) (cell_of Q L shared.limits.actors) not_last ∙ at.last_out;
            no_seat = at.no_seat;
            below = λ a m x has is. dite (ℕ_discrete n m)
                (λ e. inl (omega (arith, e)))
                (λ ne. ⊎_elim
                (λ more. inl (omega (arith, more)))
                (λ gone. inr gone)
                (at.below a m x has (sym (where_other n m (lent may.author (cell_of Q L m)) (cell_of Q L m) ne) ∙ is)));
          };
        }

    pub miss : found ≢ 0 → HasMissed IsPutBack n found (U mid.log, mid.carried) h'.me
    miss ne = tried_so.miss ne

    abbrev pub stays : found ≢ 0 → IsInside shared since may (n + 1) 0 LooksOn last h'
    stays ne = let it = miss ne in record {
      log = it.looked.log;
      mine = mid.mine;
      carried = mid.carried;
      table = same ∙ mid.table;
      me = it.looked.now;
      at = moved shared since may 0 last (n + 1) LooksOn mid.log mid.mine mid.carried mid.at it.looked.log it.looked.was;
    }

    pub elsewhere : (ne : found ≢ 0) → IsOutElsewhere Q may.author (stays ne).log
    elsewhere ne = let it = miss ne in let at = (stays ne).at in record {
      stage = let stage = at.stage in omega (arith, stage);
      n = n;
      by = it.author;
      x = it.x;
      away = it.away;
      another = λ e. ⊎_elim
          (λ more. omega (arith, more))
          (λ gone. let stage = at.stage in let some = gone.0 in omega (arith, stage, some))
          (at.below may.author n it.x (has_first may.authors may.author may.writes) (subst (λ a. cell_of Q it.looked.log n ≡ out a it.x) e it.away));
    }

  module _ (mid : IsInside shared since may n 0 LooksOn last h) where
    abbrev head : (y : Inside) × (more : List (ℕ × Inside)) × (mid.carried ≡ (n, y) ∷ more) × IsCarried Q mid.log may.author n y × Carries Q mid.log may.author (n + 1) more
    head = carried_head Q mid.log may.author n mid.carried inside_n mid.at.carries

    here : h.me ≡ (U mid.log, (n, head.0) ∷ head.1)
    here = mid.me ∙ ap (λ c. (U mid.log, c)) head.2

    at_here : IsClosingAt shared since may n 0 LooksOn last mid.log mid.mine ((n, head.0) ∷ head.1)
    at_here = subst (IsClosingAt shared since may n 0 LooksOn last mid.log mid.mine) head.2 mid.at

    as_was : head.0 ≡ head.3.x
    as_was = head.3.same (let count = shared.own.count in omega (arith, count, below))

    has_it : HasOut (U mid.log) n head.3.x
    has_it = (may.author, may.writes, head.3.away)

    pub can_give : CanEnd IsPutBack n h.me
    can_give = subst (CanEnd IsPutBack n) (sym here) (record {
      x = head.3.x;
      y = head.0;
      out_there = has_it;
      carried = refl;
      ends_so = λ later author writes was. let none = (moved shared since may 0 last n LooksOn mid.log mid.mine ((n, head.0) ∷ head.1) at_here later was).stage in (
        inl (none, goes_self head.3.x head.0 as_was),
        omega (arith, none),
      );
    })

    pub gave : EndsSo IsPutBack n h.me h'.me → (new : IsInside shared since may (n + 1) 0 LooksOn last h') × GoesOn new.log mid.log
    gave ends =
        let done : HasDone IsPutBack (Ended n head.3.x head.0) head.1 (U mid.log) h'.me = subst (λ m. EndsSo IsPutBack n m h'.me) here ends head.3.x head.0 has_it refl in
        let who : done.author ≡ may.author = same_first may.authors done.author may.author done.writes may.writes in
        let L : List (Event Inside) = done.log in
        let D : Deed Inside = Ended n head.3.x head.0 in
        let E : Event Inside = event may.author D in
        let at = moved shared since may 0 last n LooksOn mid.log mid.mine ((n, head.0) ∷ head.1) at_here L done.was in (
          record {
            log = E ∷ L;
            mine = E ∷ mid.mine;
            carried = head.1;
            table = same ∙ mid.table;
            me = done.now ∙ ap (λ a. (U (event a D ∷ L), head.1)) who;
            at = record {
              legal = subst (λ a. IsLog IsPutBack Q (event a D ∷ L)) who done.legal;
              on = goes_on_one L may.log E at.on;
              only = λ b has. ap (λ l. if eqb b may.author then E ∷ l else l) (at.only b has);
              did = (refl, ap seat_in as_was, at.did);
              stage = at.stage;
              near = at.near;
              carries = carries_as Q may.author L (E ∷ L) (n + 1) head.1
                  (λ m x more is. where_other n m (home head.0) (cell_of Q L m) (λ e. omega (arith, e, more)) ∙ is) at.carries.2;
              last_out = where_other n shared.limits.actors (home head.0) (cell_of Q L shared.limits.actors) not_last ∙ at.last_out;
              no_seat = at.no_seat;
              below = λ a m x has is. dite (ℕ_discrete n m)
                  (λ e. home_not_out _ head.0 a x (sym (where_same n m (home head.0) (cell_of Q L m) e) ∙ is))
                  (λ ne. ⊎_elim
                  (λ more. inl (omega (arith, more, ne)))
                  (λ gone. inr gone)
                  (at.below a m x has (sym (where_other n m (home head.0) (cell_of Q L m) ne) ∙ is)));
            };
          },
          goes_on_one L mid.log E done.was.seen,
        )

pub same_hand : (shared : Shared) (since : Receipt) (may : MayCall shared since) (from far : ℕ) (such : Deed Inside → Type 0) (last : Inside) (h h' : SeatHand)
    → IsInside shared since may from far such last h → h'.table_id ≡ h.table_id → h'.me ≡ h.me → IsInside shared since may from far such last h'
same_hand shared since may from far such last h h' mid same me = record { log = mid.log; mine = mid.mine; carried = mid.carried; table = same ∙ mid.table; me = me ∙ mid.me; at = mid.at }

pub writes_inside : (shared : Shared) (since : Receipt) (may : MayCall shared since) (from far : ℕ) (such : Deed Inside → Type 0) (last : Inside) (h : SeatHand)
    → IsInside shared since may from far such last h → (author : ℕ) × WritesAs h.me.0.authors author
writes_inside shared since may from far such last h mid = (may.author, subst (λ m. WritesAs m.0.authors may.author) (sym mid.me) may.writes)

pub here_inside : (shared : Shared) (since : Receipt) (may : MayCall shared since) (n far : ℕ) (such : Deed Inside → Type 0) (last : Inside) (h : SeatHand) → n < length (opened_in shared)
    → IsInside shared since may n far such last h → IsTakenLast n h
here_inside shared since may n far such last h below mid =
    let it = carried_head (opened_in shared) mid.log may.author n mid.carried below mid.at.carries in
    let me = ap (λ m. m.1) mid.me ∙ it.2 in (it.0, me ∙ ap (λ r. (n, it.0) ∷ r) (sym (ap rest me)))

-- The closing stops.
module _ (shared : Shared) (since : Receipt) (may : MayCall shared since) (last : Inside) (n : ℕ) (below : n < shared.limits.actors) (h h' : SeatHand) (same : h'.table_id ≡ h.table_id) where
  pub stops_busy : (mid : IsInside shared since may (n + 1) 0 LooksOn last h) (found : ℕ) (tried : HasTried IsPutBack n found h.me h'.me) → found ≢ 0
      → HasStoppedClosing shared since may (n + 1) LooksOn last Busy h'
  stops_busy mid found tried ne = let it = stays shared since may last n below h h' same mid found tried ne in record {
    mid = it;
    log = it.log;
    since_then = it.at.on;
    upto = goes_on_self it.log;
    why = inl (refl, elsewhere shared since may last n below h h' same mid found tried ne);
  }

  pub stops_unfinished : (mid : IsInside shared since may n 0 LooksOn last h) → EndsSo IsPutBack n h.me h'.me → IsBusyIn n h → HasStoppedClosing shared since may (n + 1) LooksOn last Unfinished h'
  stops_unfinished mid ends busy =
      let gives = gave shared since may last n below h h' same mid ends in
      let it = carried_head (opened_in shared) mid.log may.author n mid.carried (let count = shared.own.count in omega (arith, count, below)) mid.at.carries in
      let me = ap (λ m. m.1) mid.me ∙ it.2 in
      let is : it.0 ≡ busy.0 = ap first_inside (sym me ∙ busy.2) in record {
        mid = gives.0;
        log = mid.log;
        since_then = mid.at.on;
        upto = gives.1;
        why = inr (
          refl,
          record {
            n = n;
            seat = busy.1;
            at = ap seat_of it.3.away ∙ ap seat_in (sym (it.3.same (let count = shared.own.count in omega (arith, count, below))) ∙ is) ∙ busy.3;
            busy = busy.4;
            stage = mid.at.stage;
          },
        );
      }

  pub stops_so : (refusal : Refusal) → (stopped : HasStoppedClosing shared since may n LooksOn last refusal h) → EndsSo IsPutBack n h.me h'.me
      → HasStoppedClosing shared since may (n + 1) LooksOn last refusal h'
  stops_so refusal stopped ends = let gives = gave shared since may last n below h h' same stopped.mid ends in record {
    mid = gives.0;
    log = stopped.log;
    since_then = stopped.since_then;
    upto = on_from gives.0.log stopped.mid.log stopped.log gives.1 stopped.upto;
    why = stopped.why;
  }

-- The tree is closed, and slots are left for good.
module _ (shared : Shared) (since : Receipt) (may : MayCall shared since) (last : Inside) (h h' : SeatHand) (same : h'.table_id ≡ h.table_id) where
  abbrev W : List (Event Inside) → Knows Inside
  W log = knows may.authors (opened_in shared) log

  module _ (mid : IsInside shared since may 0 0 LooksOn last h) where
    out_all : (log : List (Event Inside)) (n : ℕ) (xs : List (ℕ × Inside)) → Carries (opened_in shared) log may.author n xs → (m : ℕ) → n ≤ m → m < length (opened_in shared)
        → (x : Inside) × (cell_of (opened_in shared) log m ≡ out may.author x)
    out_all log n [] h m more below = absurd (omega (arith, h, more, below))
    out_all log n (it ∷ xs) h m more below = dite (ℕ_discrete n m)
        (λ e. (h.1.x, ap (cell_of (opened_in shared) log) (sym e) ∙ h.1.away))
        (λ ne. out_all log (n + 1) xs h.2 m (omega (arith, more, ne)) below)

    pub can_close : CanClose h.me
    can_close = subst CanClose (sym mid.me) (record {
      author = may.author;
      writes = may.writes;
      some = let count = shared.own.count in omega (arith, count);
      opened = mid.at.stage;
      all = λ m below. out_all mid.log 0 mid.carried mid.at.carries m (omega arith) below;
    })

    pub close : HasClosed IsPutBack h.me h'.me → IsInside shared since may 0 1 RunsNothing last h'
    close closes =
        let done : HasDone IsPutBack Closed mid.carried (W mid.log) h'.me = subst (λ m. HasClosed IsPutBack m h'.me) mid.me closes in
        let who : done.author ≡ may.author = same_first may.authors done.author may.author done.writes may.writes in
        let L : List (Event Inside) = done.log in
        let E : Event Inside = event may.author Closed in
        let at = moved shared since may 0 last 0 LooksOn mid.log mid.mine mid.carried mid.at L done.was in
        let legal : IsLog IsPutBack (opened_in shared) (E ∷ L) = subst (λ a. IsLog IsPutBack (opened_in shared) (event a Closed ∷ L)) who done.legal in record {
          log = E ∷ L;
          mine = E ∷ mid.mine;
          carried = mid.carried;
          table = same ∙ mid.table;
          me = done.now ∙ ap (λ a. (W (event a Closed ∷ L), mid.carried)) who;
          at = record {
            legal = legal;
            on = goes_on_one L may.log E at.on;
            only = λ b has. ap (λ l. if eqb b may.author then E ∷ l else l) (at.only b has);
            did = (refl, tt, all_run may.author mid.mine at.did);
            stage = refl;
            near = omega arith;
            carries = carries_as (opened_in shared) may.author L (E ∷ L) 0 mid.carried (λ m x more is. is) at.carries;
            last_out = at.last_out;
            no_seat = at.no_seat;
            below = λ a m x has is. inl (omega arith);
          };
        }

  module _ (n : ℕ) (below : n < shared.limits.actors) (mid : IsInside shared since may n 1 RunsNothing last h) where
    pub n_there : n < length (opened_in shared)
    n_there = let count = shared.own.count in omega (arith, count, below)

    abbrev first_one : (y : Inside) × (more : List (ℕ × Inside)) × (mid.carried ≡ (n, y) ∷ more) × IsCarried (opened_in shared) mid.log may.author n y
        × Carries (opened_in shared) mid.log may.author (n + 1) more
    first_one = carried_head (opened_in shared) mid.log may.author n mid.carried n_there mid.at.carries

    pub it_is : h.me ≡ (W mid.log, (n, first_one.0) ∷ first_one.1)
    it_is = mid.me ∙ ap (λ c. (W mid.log, c)) first_one.2

    -- what was exchanged is what the log has there
    pub was_there : first_one.0 ≡ first_one.3.x
    was_there = first_one.3.same (let count = shared.own.count in omega (arith, count, below))

    module _ (h1 : SeatHand) (same1 : h1.table_id ≡ h.table_id) (y : Inside) (me1 : h1.me ≡ (h.me.0, (n, y) ∷ rest h.me.1)) where
      one_is : h1.me ≡ (W mid.log, (n, y) ∷ first_one.1)
      one_is = me1 ∙ ap (λ m. (m.0, (n, y) ∷ rest m.1)) it_is

      pub can_leave : CanLeave n h1.me
      can_leave = subst (CanLeave n) (sym one_is) (record {
        x = first_one.3.x;
        y = y;
        out_there = (may.author, may.writes, first_one.3.away);
        carried = refl;
        closed = let stage = mid.at.stage in omega (arith, stage);
        more = let count = shared.own.count in omega (arith, count, below);
      })

      pub leave : h'.table_id ≡ h1.table_id → HasLeft IsPutBack h1.me h'.me → IsInside shared since may (n + 1) 1 RunsNothing last h'
      leave same' leaves =
          let seen : HasSeen IsPutBack first_one.1 (W mid.log) h'.me = subst (λ m. HasLeft IsPutBack m h'.me) one_is leaves in
          let L : List (Event Inside) = seen.log in
          let at0 : IsClosingAt shared since may n 1 RunsNothing last mid.log mid.mine ((n, first_one.0) ∷ first_one.1)
          = subst (IsClosingAt shared since may n 1 RunsNothing last mid.log mid.mine) first_one.2 mid.at in
          let at = moved shared since may 1 last n RunsNothing mid.log mid.mine ((n, first_one.0) ∷ first_one.1) at0 L seen.was in record {
            log = L;
            mine = mid.mine;
            carried = first_one.1;
            table = same' ∙ same1 ∙ mid.table;
            me = seen.now;
            at = record {
              legal = at.legal;
              on = at.on;
              only = at.only;
              did = at.did;
              stage = at.stage;
              near = at.near;
              carries = at.carries.2;
              last_out = at.last_out;
              no_seat = at.no_seat;
              below = λ a m x has is. ⊎_elim
                  (λ more. dite (ℕ_discrete n m)
                  (λ e. inr (
                    (let stage = at.stage in omega (arith, stage)),
                    λ l. absurd (let count = shared.own.count in omega (arith, l, e, count, below)),
                  ))
                  (λ ne. inl (omega (arith, more, ne))))
                  (λ gone. inr gone)
                  (at.below a m x has is);
            };
          }

-- The last slot is taken out.
module _ (shared : Shared) (since : Receipt) (may : MayCall shared since) (h0 h1 : SeatHand) (seen : HasObserved shared since h0) (same1 : h1.table_id ≡ h0.table_id) (found : ℕ)
    (tried : HasTried IsPutBack shared.limits.actors found h0.me h1.me) where
  abbrev T : ℕ
  T = shared.limits.actors

  abbrev K : List (Event Inside) → Knows Inside
  K log = knows may.authors (opened_in shared) log

  tried_last : HasTried IsPutBack T found (K may.log, []) h1.me
  tried_last = subst (λ m. HasTried IsPutBack T found m h1.me) (λ i. (seen.sees may.authors may.log may.seen i, seen.none i)) tried

  module _ (hit : found ≡ 0) (h2 : SeatHand) (same2 : h2.table_id ≡ h1.table_id) (y : Inside) (got : h1.me.1 ≡ (T, y) ∷ rest h1.me.1)
      (me2 : h2.me ≡ (h1.me.0, (T, inside.Nothing) ∷ rest h1.me.1)) where
    abbrev begins : HasBegun IsPutBack T (K may.log, []) h1.me
    begins = tried_last.hit hit

    abbrev M : List (Event Inside)
    M = begins.1.log

    abbrev G : Event Inside
    G = event may.author (Began T)

    author_is : begins.1.author ≡ may.author
    author_is = same_first may.authors begins.1.author may.author begins.1.writes may.writes

    legal_now : IsLog IsPutBack (opened_in shared) (G ∷ M)
    legal_now = subst (λ a. IsLog IsPutBack (opened_in shared) (event a (Began T) ∷ M)) author_is begins.1.legal

    is_y : begins.0 ≡ y
    is_y = ap first_inside (sym (ap (λ m. m.1) begins.1.now) ∙ got)

    was_home : cell_of (opened_in shared) M T ≡ home y
    was_home = begins.2 ∙ ap home is_y

    what : ((stage_of M ≡ 0) × (y ≡ inside.Nothing)) ⊎ ((stage_of M ≡ 1) × WaitsFrom (opened_in shared) M y)
    what = last_home (opened_in shared) shared.limits shared.own M y begins.1.was.legal was_home

    no_seat_there : seat_in y ≡ None
    no_seat_there = ⊎_elim (λ t. ap seat_in t.1) (λ t. waiting_no_seat (opened_in shared) M y t.1) what

    me_now : h2.me ≡ (K (G ∷ M), (T, inside.Nothing) ∷ [])
    me_now = me2 ∙ ap (λ m. (m.0, (T, inside.Nothing) ∷ rest m.1)) (begins.1.now ∙ ap (λ a. (K (event a (Began T) ∷ M), (T, begins.0) ∷ [])) author_is)

    pub begun_closing : HasBegunAs shared since may y h2
    begun_closing = record {
      far = stage_of M;
      closing = record {
        log = G ∷ M;
        mine = G ∷ [];
        carried = (T, inside.Nothing) ∷ [];
        table = same2 ∙ same1 ∙ seen.table;
        me = me_now;
        at = record {
          legal = legal_now;
          on = goes_on_one M may.log G begins.1.was.seen;
          only = λ b has. ap (λ l. if eqb b may.author then G ∷ l else l) (begins.1.was.alone b has);
          did = (refl, tt, tt);
          stage = refl;
          near = ⊎_elim (λ t. let e = t.0 in omega (arith, e)) (λ t. let e = t.0 in omega (arith, e)) what;
          carries = (
            refl,
            record {
              x = y;
              away = where_same T T (lent may.author (cell_of (opened_in shared) M T)) (cell_of (opened_in shared) M T) refl ∙ ap (lent may.author) was_home;
              same = λ more. absurd (let count = shared.own.count in omega (arith, more, count));
              empty = λ _. refl;
            },
            sym shared.own.count,
          );
          last_out = where_same T T (lent may.author (cell_of (opened_in shared) M T)) (cell_of (opened_in shared) M T) refl ∙ ap (lent may.author) was_home;
          no_seat = no_seat_there;
          below = λ a n x has is. dite (ℕ_discrete T n)
              (λ e. inl (omega (arith, e)))
              (λ ne. inr (gone_on (opened_in shared) (G ∷ M) may.log n (goes_on_one M may.log G begins.1.was.seen) legal_now
              (may.nothing a n x has (was_out_in (opened_in shared) M may.log a n x begins.1.was.seen begins.1.was.legal (begins.1.was.alone a has)
              (sym (where_other T n (lent may.author (cell_of (opened_in shared) M n)) (cell_of (opened_in shared) M n) ne) ∙ is)))));
        };
      };
      what = ⊎_elim
          (λ t. inl t)
          (λ t. inr (
            t.0,
            subst (λ l. WaitsFrom (opened_in shared) l y) (sym (ap (λ m. m.0.log) me_now))
                (waits_on (opened_in shared) shared.limits shared.own M (G ∷ M) (G ∷ [], refl) legal_now (let e = t.0 in omega (arith, e)) y t.1),
          ))
          what;
    }

  pub refused_closing : found ≢ 0 → (told : Told) → told.receipt.table_id ≡ h1.table_id → told.receipt.views ≡ h1.me.0 ∷ [] → (found ≡ 1 → told.status ≡ BUSY)
      → (found ≡ 2 → told.status ≡ CLOSED) → IsRefusedClosing shared since told
  refused_closing ne told same views busy closed =
      let miss : HasMissed IsPutBack T found (K may.log, []) h1.me = tried_last.miss ne in
      let written : HasWritten shared may.author [] since told.receipt = record {
        authors = may.authors;
        before = may.log;
        after = miss.looked.log;
        had = may.seen;
        has = record { table = same ∙ same1 ∙ seen.table; view = views ∙ ap (λ m. m.0 ∷ []) miss.looked.now; legal = miss.looked.was.legal };
        writes = may.writes;
        on = miss.looked.was.seen;
        only = miss.looked.was.alone;
        back = nothing_out (opened_in shared) may.authors miss.looked.log may.log miss.looked.was.seen miss.looked.was.legal miss.looked.was.alone may.nothing;
      } in
      ⊎_elim
      (λ one. inl (
        busy one.0,
        record {
          author = may.author;
          mine = [];
          written = written;
          deeds = tt;
          log = miss.looked.log;
          from = miss.looked.was.seen;
          upto = goes_on_self miss.looked.log;
          why = record {
            stage = one.1 (sym shared.own.count);
            n = T;
            by = miss.author;
            x = miss.x;
            away = miss.away;
            another = λ e.
                let has = has_first may.authors may.author may.writes in
                let gone = may.nothing may.author T miss.x has (was_out_in (opened_in shared) miss.looked.log may.log may.author T miss.x miss.looked.was.seen miss.looked.was.legal
                (miss.looked.was.alone may.author has) (subst (λ a. cell_of (opened_in shared) miss.looked.log T ≡ out a miss.x) e miss.away)) in
                let later = (gone_on (opened_in shared) miss.looked.log may.log T miss.looked.was.seen miss.looked.was.legal gone).1 (sym shared.own.count) in
                let most = one.1 (sym shared.own.count) in omega (arith, later, most);
          };
        },
        record {
          author = may.author;
          mine = [];
          written = written;
          deeds = tt;
          log = miss.looked.log;
          from = miss.looked.was.seen;
          upto = goes_on_self miss.looked.log;
          why = one.1 (sym shared.own.count);
        },
      ))
      (λ gone. inr (closed gone.0, record { author = may.author; written = written; stage = gone.2 (sym shared.own.count) }))
      miss.why

none_more : (opened : List Inside) (log : List (Event Inside)) (author n : ℕ) (xs : List (ℕ × Inside)) → Carries opened log author n xs → n ≤ length opened
none_more opened log author n [] h = omega (arith, h)
none_more opened log author n (it ∷ xs) h = let r = none_more opened log author (n + 1) xs h.2 in omega (arith, r)

no_more : (opened : List Inside) (log : List (Event Inside)) (author n : ℕ) (xs : List (ℕ × Inside)) → length opened ≤ n → Carries opened log author n xs → xs ≡ []
no_more opened log author n [] beyond h = refl
no_more opened log author n (it ∷ xs) beyond h = let r = none_more opened log author (n + 1) xs h.2 in absurd (omega (arith, r, beyond))

-- The last slot is left for good, or put back.
module _ (shared : Shared) (since : Receipt) (may : MayCall shared since) (far : ℕ) (such : Deed Inside → Type 0) (last : Inside) (h : SeatHand)
    (mid : IsInside shared since may shared.limits.actors far such last h) where
  abbrev Z : ℕ
  Z = shared.limits.actors

  abbrev Y : List (Event Inside) → Knows Inside
  Y log = knows may.authors (opened_in shared) log

  z_there : Z < length (opened_in shared)
  z_there = let count = shared.own.count in omega (arith, count)

  abbrev head_one : (y : Inside) × (more : List (ℕ × Inside)) × (mid.carried ≡ (Z, y) ∷ more) × IsCarried (opened_in shared) mid.log may.author Z y
      × Carries (opened_in shared) mid.log may.author (Z + 1) more
  head_one = carried_head (opened_in shared) mid.log may.author Z mid.carried z_there mid.at.carries

  alone : mid.carried ≡ (Z, inside.Nothing) ∷ []
  alone = head_one.2 ∙ (λ i. (Z, head_one.3.empty (sym shared.own.count) i)
      ∷ no_more (opened_in shared) mid.log may.author (Z + 1) head_one.1 (let count = shared.own.count in omega (arith, count)) head_one.4 i)

  pub only_last : h.me ≡ (Y mid.log, (Z, inside.Nothing) ∷ [])
  only_last = mid.me ∙ ap (λ c. (Y mid.log, c)) alone

  at_last : IsClosingAt shared since may Z far such last mid.log mid.mine ((Z, inside.Nothing) ∷ [])
  at_last = subst (IsClosingAt shared since may Z far such last mid.log mid.mine) alone mid.at

  later_at : (later : List (Event Inside)) → WasLog IsPutBack (Y mid.log) later → IsClosingAt shared since may Z far such last later mid.mine ((Z, inside.Nothing) ∷ [])
  later_at later was = moved shared since may far last Z such mid.log mid.mine ((Z, inside.Nothing) ∷ []) at_last later was

  log_is : h.me.0.log ≡ mid.log
  log_is = ap (λ m. m.0.log) mid.me

  out_last : HasOut (Y mid.log) Z last
  out_last = (may.author, may.writes, mid.at.last_out)

  -- It is put back with this.
  module _ (y : Inside) (h1 : SeatHand) (same1 : h1.table_id ≡ h.table_id) (me1 : h1.me ≡ (h.me.0, (Z, y) ∷ rest h.me.1))
      (puts : (later : List (Event Inside)) → WasLog IsPutBack (Y mid.log) later → stage_of later ≡ far → IsPutBack (opened_in shared) later Z last y) (does : such (Ended Z last y)) where
    me_one : h1.me ≡ (Y mid.log, (Z, y) ∷ [])
    me_one = me1 ∙ ap (λ m. (m.0, (Z, y) ∷ rest m.1)) only_last

    pub can_keep : CanEnd IsPutBack Z h1.me
    can_keep = subst (CanEnd IsPutBack Z) (sym me_one) (record {
      x = last;
      y = y;
      out_there = out_last;
      carried = refl;
      ends_so = λ later author writes was. let at = later_at later was in (
        puts later was at.stage,
        let stage = at.stage in let near = at.near in omega (arith, stage, near),
      );
    })

    module _ (h2 : SeatHand) (same2 : h2.table_id ≡ h1.table_id) (ends : EndsSo IsPutBack Z h1.me h2.me) where
      abbrev ended : HasDone IsPutBack (Ended Z last y) [] (Y mid.log) h2.me
      ended = subst (λ m. EndsSo IsPutBack Z m h2.me) me_one ends last y out_last refl

      abbrev J : List (Event Inside)
      J = ended.log

      abbrev F : Event Inside
      F = event may.author (Ended Z last y)

      ended_by : ended.author ≡ may.author
      ended_by = same_first may.authors ended.author may.author ended.writes may.writes

      me_two : h2.me ≡ (Y (F ∷ J), [])
      me_two = ended.now ∙ ap (λ a. (Y (event a (Ended Z last y) ∷ J), [])) ended_by

      pub kept_empty : h2.me.1 ≡ []
      kept_empty = ap (λ m. m.1) me_two

      legal_two : IsLog IsPutBack (opened_in shared) (F ∷ J)
      legal_two = subst (λ a. IsLog IsPutBack (opened_in shared) (event a (Ended Z last y) ∷ J)) ended_by ended.legal

      at_two : IsClosingAt shared since may Z far such last J mid.mine ((Z, inside.Nothing) ∷ [])
      at_two = later_at J ended.was

      pub is_kept : (it : Receipt) → it.table_id ≡ h2.table_id → it.views ≡ h2.me.0 ∷ [] → IsKeptAs shared since such h y it
      is_kept it same views = record {
        author = may.author;
        mine = F ∷ mid.mine;
        written = record {
          authors = may.authors;
          before = may.log;
          after = F ∷ J;
          had = may.seen;
          has = record { table = same ∙ same2 ∙ same1 ∙ mid.table; view = views ∙ ap (λ m. m.0 ∷ []) me_two; legal = legal_two };
          writes = may.writes;
          on = goes_on_one J may.log F at_two.on;
          only = λ b has. ap (λ l. if eqb b may.author then F ∷ l else l) (at_two.only b has);
          back = λ a m x has is. dite (ℕ_discrete Z m)
              (λ e. home_not_out _ y a x (sym (where_same Z m (home y) (cell_of (opened_in shared) J m) e) ∙ is))
              (λ ne.
              let was = sym (where_other Z m (home y) (cell_of (opened_in shared) J m) ne) ∙ is in ⊎_elim
              (λ more. absurd (let there = is_there (opened_in shared) m J a x at_two.legal was in let count = shared.own.count in omega (arith, there, count, more, ne)))
              (λ gone. gone)
              (at_two.below a m x has was));
        };
        deeds = (refl, does, at_two.did);
        waits = where_same Z Z (home y) (cell_of (opened_in shared) J Z) refl;
        stage = at_two.stage ∙ sym mid.at.stage ∙ ap stage_of (sym log_is);
        upto = subst (GoesOn (F ∷ J)) (sym log_is) (goes_on_one J mid.log F ended.was.seen);
      }

  -- It is left for good.
  module _ (is_far : far ≡ 1) where
    pub can_empty : CanEmpty Z h.me
    can_empty = subst (CanEmpty Z) (sym only_last) (record {
      x = last;
      y = inside.Nothing;
      out_there = out_last;
      carried = refl;
      closed = mid.at.stage ∙ is_far;
      last = sym shared.own.count;
    })

    module _ (h2 : SeatHand) (same2 : h2.table_id ≡ h.table_id) (empties : HasEmptied IsPutBack h.me h2.me) where
      abbrev over : HasDone IsPutBack Emptied [] (Y mid.log) h2.me
      over = subst (λ m. HasEmptied IsPutBack m h2.me) only_last empties

      abbrev X : Event Inside
      X = event may.author Emptied

      over_by : over.author ≡ may.author
      over_by = same_first may.authors over.author may.author over.writes may.writes

      me_over : h2.me ≡ (Y (X ∷ over.log), [])
      me_over = over.now ∙ ap (λ a. (Y (event a Emptied ∷ over.log), [])) over_by

      pub over_empty : h2.me.1 ≡ []
      over_empty = ap (λ m. m.1) me_over

      pub is_emptied : (runs : AreBy may.author such mid.mine → AreBy may.author RunsNothing mid.mine) (it : Receipt) → it.table_id ≡ h2.table_id → it.views ≡ h2.me.0 ∷ []
          → IsEmptiedAs shared since h it
      is_emptied runs it same views = let at = later_at over.log over.was in record {
        closed = record {
          author = may.author;
          mine = mid.mine;
          written = record {
            authors = may.authors;
            before = may.log;
            after = X ∷ over.log;
            had = may.seen;
            has = record {
              table = same ∙ same2 ∙ mid.table;
              view = views ∙ ap (λ m. m.0 ∷ []) me_over;
              legal = subst (λ a. IsLog IsPutBack (opened_in shared) (event a Emptied ∷ over.log)) over_by over.legal;
            };
            writes = may.writes;
            on = goes_on_one over.log may.log X at.on;
            only = λ b has. ap (λ l. if eqb b may.author then X ∷ l else l) (at.only b has);
            back = λ a m x has is. (omega arith, λ _. refl);
          };
          deeds = runs mid.at.did;
          rest = over.log;
          last = refl;
        };
        upto = subst (GoesOn (X ∷ over.log)) (sym log_is) (goes_on_one over.log mid.log X over.was.seen);
      }
