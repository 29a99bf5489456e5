-- A change that goes on names no number that has no place.
use Rattle.change_machine.proofs.Words.{◌≡◌, ◌<◌, ◌≤◌, ◌+◌, ◌*◌, ◌∙◌, ℕ, zero, suc, [], ◌∷◌, ◌++◌, length, take, Bool, true, false, Option, Some, None, refl, sym, ap, subst, arith, ltb, near_after}
use Rattle.change_machine.proofs.Words.{is_some, not, ◌&&◌, if◌then◌else◌, ltb-true, trailing_zeros, w64, Limits, Answer, Record, Fits, FitsWord, Knowledge, AreEnough, Change, IsNeededNext}
use Rattle.change_machine.proofs.Words.{IsSameChange, IsSoundChange, IsTarget, needed_from, wanted_step, wanted_at, clears, needs_pid, rows_needed, Moved, after_ready, after_taking}
use Rattle.change_machine.proofs.Words.{decided_by, first_state, has_rows, next_move, moved_by, spares_left, wanted_from, whether_in, with_number, HaveRoom, Spares, begun_at, count_of}
use Rattle.change_machine.proofs.Words.{found_after, from_of, kind_of, wanted_number, words_end, End, State, Plan, Install, Root, Unlink, Found, Not, Full, Kind, Pid, Row, Bits, Take}
use Rattle.std.proofs.Common.{◌/◌, ◌-◌, length-append, length-take-le}
use Rattle.std.specs.Prelude.{IfNone, IfSome, ⊤, ◌%◌}
use Rattle.std.proofs.Math.Nat.{mod-lt}
use Rattle.std.proofs.lemmas.List.Elements.{All-push, All-take}
use Rattle.std.proofs.lemmas.Nat.Bits.{bit_at-trailing_zeros}
use Rattle.bw_model.specs.declared.step.Answer.TheVariants as answer
use Rattle.deltas.specs.Spellable.{IsPid}
use Rattle.change_machine.specs.Changes.{IsSoundState}
use Rattle.change_machine.specs.Taking.{IsSoundFound, IsSoundTaking, words_until}
use Rattle.change_machine.specs.declared.change.State.TheVariants as state
use Rattle.structure_changes.specs.declared.plan.Plan.TheVariants.{Split}
use Rattle.change_machine.specs.declared.taking.Found.TheVariants.{Taken}
use Rattle.change_machine.specs.declared.taking.Taking.{Taking}
use Rattle.change_machine.proofs.RowNeeds.{Adds, adds, has_all, stacked_push, stacked_take, wanted_there}

-- the lowest free number of a word is there
lowest_below : (limit word bits : ℕ) → FitsWord limit word (suc bits) → 64 * word + trailing_zeros w64 (suc bits) < limit
lowest_below limit word bits fits =
    let lowest = bit_at-trailing_zeros w64 (suc bits) (omega arith) fits.fits in
    (fits.below (trailing_zeros w64 (suc bits)) lowest.0 lowest.1).1

some_numbers : (limits : Limits) (kind : Kind) → 64 * 0 < count_of limits kind
some_numbers limits Pid = let some = limits.allowed.some_pids in omega (arith, some)
some_numbers limits Row = let some = limits.allowed.some_rows in omega (arith, some)

-- the words of a taking are there, its first one among them
pub until_there : (limits : Limits) (kind : Kind) (from : ℕ) → 64 * from < count_of limits kind → (from < words_until limits kind from) × (64 * words_until limits kind from ≤ count_of limits kind)
until_there limits Pid from there = let whole = limits.allowed.whole_pids in (omega (arith, there, whole), omega (arith, whole))
until_there limits Row from there = go (ltb from (limits.narrow_rows / 64)) refl (ltb from (limits.wide_from / 64)) refl
  where
    ordered : limits.narrow_rows ≤ limits.wide_from
    ordered = limits.widths.ordered

    some : limits.wide_from < limits.rows
    some = limits.widths.some_wide

    go : (narrow : Bool) → ltb from (limits.narrow_rows / 64) ≡ narrow → (page : Bool) → ltb from (limits.wide_from / 64) ≡ page
        → (from < (if narrow then limits.narrow_rows / 64 else if page then limits.wide_from / 64 else limits.rows / 64))
        × (64 * (if narrow then limits.narrow_rows / 64 else if page then limits.wide_from / 64 else limits.rows / 64) ≤ limits.rows)
    go true e page f = let below = ltb-true from (limits.narrow_rows / 64) e in let o = ordered in let w = some in (below, omega (arith, o, w))
    go false e true f = let below = ltb-true from (limits.wide_from / 64) f in let w = some in (below, omega (arith, w))
    go false e false f = let whole = limits.allowed.whole_rows in (omega (arith, there, whole), omega (arith, whole))

end_there : (limits : Limits) (kind : Kind) (from : ℕ) (whole : Bool) → 64 * from < count_of limits kind → 64 * words_end limits kind from whole ≤ count_of limits kind
end_there limits kind from true there = omega arith
end_there limits kind from false there = (until_there limits kind from there).1

-- a taking begins at a word that is there
begun_there : (limits : Limits) (kind : Kind) (from near : ℕ) → 64 * from < count_of limits kind → IsSoundTaking limits (begun_at limits kind from near)
begun_there limits kind from near there = go limits.is_large
  where
    go : (large : Bool) → (from ≤ from + (if large then near % (words_until limits kind from - from) else 0))
        × (64 * (from + (if large then near % (words_until limits kind from - from) else 0)) < count_of limits kind)
    go false = (omega arith, omega (arith, there))
    go true =
        let until = until_there limits kind from there in
        let some = until.0 in
        let few = until.1 in
        let below = mod-lt near {m = words_until limits kind from - from} (omega (arith, some)) in
        (omega arith, omega (arith, below, some, few))

-- the kind of what is found, or to be found
abbrev pub IsFoundOf : Kind → Found → Type 0
IsFoundOf kind (Not taking) = kind_of taking ≡ kind
IsFoundOf kind (Taken other number) = other ≡ kind
IsFoundOf kind (Full other) = ⊤

pub found_of : (limits : Limits) (taking : Taking) (told : Answer Record) → IsFoundOf (kind_of taking) (found_after limits taking told)
found_of limits (Bits kind from word whole) (answer.Number zero) = go (ltb (suc word) (words_end limits kind from whole)) whole
  where
    go : (more whole : Bool) → IsFoundOf kind (if more then Not (Bits kind from (suc word) whole) else if whole then Full kind else Not (Bits kind from from true))
    go true whole = refl
    go false true = tt
    go false false = refl
found_of limits (Bits kind from word whole) (answer.Number (suc bits)) = refl
found_of limits (Take kind from number whole) (answer.Whether true) = refl
found_of limits (Take kind from number whole) (answer.Whether false) = refl
found_of limits other others = tt

-- what a taking finds is there
found_sound : (limits : Limits) (k : Knowledge) (taking : Taking) (told : Answer Record) → Fits limits k (wanted_number taking) told
    → IsSoundTaking limits taking → IsSoundFound limits (from_of taking) (found_after limits taking told)
found_sound limits k (Bits kind from word whole) (answer.Number zero) fits sound = go (ltb (suc word) (words_end limits kind from whole)) refl whole
  where
    there : 64 * from < count_of limits kind
    there = let low = sound.0 in let below = sound.1 in omega (arith, low, below)

    go : (more : Bool) → ltb (suc word) (words_end limits kind from whole) ≡ more → (all : Bool)
        → IsSoundFound limits from (if more then Not (Bits kind from (suc word) all) else if all then Full kind else Not (Bits kind from from true))
    go true is all =
        let some = ltb-true (suc word) (words_end limits kind from whole) is in
        let few = end_there limits kind from whole there in
        let low = sound.0 in
        ((omega (arith, low), omega (arith, some, few)), refl)
    go false is true = tt
    go false is false = ((omega arith, there), refl)
found_sound limits k (Bits Pid from word whole) (answer.Number (suc bits)) fits sound = ((let low = sound.0 in omega (arith, low), lowest_below limits.pids word bits fits), refl)
found_sound limits k (Bits Row from word whole) (answer.Number (suc bits)) fits sound = ((let low = sound.0 in omega (arith, low), lowest_below limits.rows word bits fits), refl)
found_sound limits k (Take Pid from number whole) (answer.Whether true) fits sound = (fits.some, fits.below, sound.0)
found_sound limits k (Take Row from number whole) (answer.Whether true) fits sound = (fits.some, fits.below, sound.0)
found_sound limits k (Take kind from number whole) (answer.Whether false) fits sound = let low = sound.0 in let below = sound.1 in ((omega (arith, low), omega (arith, below)), refl)
found_sound limits k other others fits sound = tt

module _ (limits : Limits) (plan : Plan) where
  -- a number that was taken is a spare that there is
  room_taken : (spares : Spares) (kind : Kind) (number : ℕ) → HaveRoom limits spares → IsNeededNext limits plan spares kind
      → (0 < number) × (number < count_of limits kind) × (64 * needed_from limits plan spares kind ≤ number) → HaveRoom limits (with_number kind number spares)
  room_taken spares Pid pid room missing there = record {
    pid = ((there.0, (let few = limits.allowed.few_pids in let below = there.1 in omega (arith, few, below))), there.1);
    rows = room.rows;
    few = room.few;
    alike = room.alike;
    stacked = room.stacked;
  }
  room_taken spares Row row room missing there = record {
    pid = room.pid;
    rows = All-push (λ row. row < limits.rows) spares.rows row room.rows there.1;
    few = (let more = long in let three = added.few in omega (arith, more, three));
    alike = λ some. added.alike (let more = long in omega (arith, more, some));
    stacked = stacked_push limits 0 spares.rows row room.stacked (let same : 0 + length spares.rows ≡ length spares.rows = omega arith in rw same added.least);
  }
    where
      long : length (spares.rows ++ row ∷ []) ≡ length spares.rows + 1
      long = length-append spares.rows (row ∷ [])

      added : Adds limits plan row spares.rows
      added = adds limits plan row spares.rows room.stacked room.few room.alike missing.0
          (let same = (wanted_there limits plan spares.rows).0 in let least = there.2 in omega (arith, same, least))

  -- there is a place for a row that is taken
  pub row_place : (spares : Spares) (number : ℕ) → HaveRoom limits spares → IsNeededNext limits plan spares Row → 64 * needed_from limits plan spares Row ≤ number → length spares.rows < 4
  row_place spares number room missing least =
      let added = adds limits plan number spares.rows room.stacked room.few room.alike missing.0 (let same = (wanted_there limits plan spares.rows).0 in omega (arith, same, least)) in
      let three = added.few in
      omega (arith, three)

  -- what is left where a change has won
  room_unused : (spares : Spares) → HaveRoom limits spares → HaveRoom limits (spares_left plan spares)
  room_unused spares room = record {
    pid = pid_kept (needs_pid plan);
    rows = All-take (λ row. row < limits.rows) (length spares.rows - rows_needed plan) spares.rows room.rows;
    few = (let few = room.few in let less = shorter in omega (arith, less, few));
    alike = λ some. room.alike (let less = shorter in omega (arith, less, some));
    stacked = stacked_take limits (length spares.rows - rows_needed plan) 0 spares.rows room.stacked;
  }
    where
      shorter : length (take (length spares.rows - rows_needed plan) spares.rows) ≤ length spares.rows
      shorter = let less = length-take-le (length spares.rows - rows_needed plan) spares.rows (omega arith) in omega (arith, less)

      pid_kept : (needs : Bool) → IfSome (if needs then None else spares.pid) (λ pid. IsPid pid × (pid < limits.pids))
      pid_kept true = tt
      pid_kept false = room.pid

  -- the first state is one of the plan's
  pub first_sound : (spares : Spares) (near : ℕ) → IsTarget limits plan → IsSoundState limits plan spares (first_state limits plan spares near)
  first_sound spares near target = at_first (needs_pid plan && not (is_some spares.pid)) refl (has_rows limits plan spares.rows) refl
    where
      missing_pid : (needs : Bool) (pid : Option ℕ) → (needs && not (is_some pid)) ≡ true → (needs ≡ true) × (pid ≡ None)
      missing_pid false pid e = cc
      missing_pid true None e = (refl, refl)
      missing_pid true (Some pid) e = cc

      some_pid : (needs : Bool) (pid : Option ℕ) → (needs && not (is_some pid)) ≡ false → needs ≡ true → is_some pid ≡ true
      some_pid false pid e i = cc
      some_pid true None e i = cc
      some_pid true (Some pid) e i = refl

      at_place : (other : Plan) → other ≡ plan → AreEnough limits plan spares → IsSoundState limits plan spares (after_taking other)
      at_place (Install pid head content) is enough = (enough, rw (← is) (rw (← is) at target).page)
      at_place (Split pid plan) is enough = (enough, rw (← is) refl)
      at_place (Root left root) is enough = (enough, rw (← is) refl)
      at_place (Unlink pid head unterm removal) is enough = (enough, rw (← is) (rw (← is) at target).0.page)

      at_first : (pid : Bool) → (needs_pid plan && not (is_some spares.pid)) ≡ pid → (row : Bool) → has_rows limits plan spares.rows ≡ row
          → IsSoundState limits plan spares (if pid then state.Taking (begun_at limits Pid 0 near) else if row then after_taking plan else state.Taking
          (begun_at limits Row (wanted_from limits plan spares.rows / 64) near))
      at_first true pid row e = (begun_there limits Pid 0 near (some_numbers limits Pid), missing_pid (needs_pid plan) spares.pid pid, refl)
      at_first false pid false e = (
        begun_there limits Row (wanted_from limits plan spares.rows / 64) near (wanted_there limits plan spares.rows).1,
        (e, some_pid (needs_pid plan) spares.pid pid),
        refl,
      )
      at_first false pid true e =
          let all = has_all limits plan spares.rows e in
          at_place plan refl (record { pid = some_pid (needs_pid plan) spares.pid pid; rows = all.0; upper = all.1; lower = all.2 })

  -- such a state is one of the plan's, if the change goes on, and there is room for its spares
  abbrev pub StaysSound : Moved → Type 0
  StaysSound now = HaveRoom limits now.spares × IfNone now.end (IsSoundState limits plan now.spares now.state)

  found_stays : (spares : Spares) (near : ℕ) (state : State) (found : Found) → HaveRoom limits spares → (kind : Kind) → IsNeededNext limits plan spares kind
      → IsTarget limits plan → IsSoundFound limits (needed_from limits plan spares kind) found → IsFoundOf kind found → StaysSound (moved_by limits plan spares near state found)
  found_stays spares near state (Not taking) room kind missing target sound of = (room, (sound.0, rw of missing, sound.1 ∙ ap (needed_from limits plan spares) (sym of)))
  found_stays spares near state (Taken other number) room kind missing target sound of =
      let there = room_taken spares other number room (rw of missing) (sound.0, sound.1, rw of sound.2) in
      (there, first_sound (with_number other number spares) near target)
  found_stays spares near state (Full other) room kind missing target sound of = (room, tt)

  after_ready_sound : (spares : Spares) (other : Plan) → other ≡ plan → IsTarget limits other → AreEnough limits plan spares → needs_pid other ≡ true
      → IsSoundState limits plan spares (after_ready other)
  after_ready_sound spares (Install pid head content) is target enough needs = cc
  after_ready_sound spares (Split pid plan) is target enough needs = (enough, rw (← is) target.page)
  after_ready_sound spares (Root left root) is target enough needs = enough
  after_ready_sound spares (Unlink pid head unterm removal) is target enough needs = cc

  stays_at : (spares : Spares) (near : ℕ) (state : State) (told : Answer Record) (k : Knowledge) → Fits limits k (wanted_at limits plan spares state) told
      → HaveRoom limits spares → IsSoundState limits plan spares state → IsTarget limits plan → StaysSound (next_move limits plan spares near state told)
  stays_at spares near (state.Taking taking) told k fits room sound target =
      found_stays spares (near_after near taking told) (state.Taking taking) (found_after limits taking told) room (kind_of taking) sound.1 target
      (rw (← sound.2) (found_sound limits k taking told fits sound.0)) (found_of limits taking told)
  stays_at spares near state.Base told k fits room sound target = (room, sound)
  stays_at spares near state.Ready told k fits room sound target = (room, after_ready_sound spares plan refl target sound.0 sound.1)
  stays_at spares near state.Place told k fits room sound target = (room, sound.0)
  stays_at spares near state.Link told k fits room sound target = by_answer (whether_in told)
    where
      by_need : (needs : Bool) → needs_pid plan ≡ needs → StaysSound (decided_by plan spares false)
      by_need true is = rw is (room, (sound, is))
      by_need false is = rw is (room, tt)

      by_clearing : (clearing : Bool) → clears plan ≡ clearing → StaysSound (decided_by plan spares true)
      by_clearing true is = rw is (room_unused spares room, is)
      by_clearing false is = rw is (room_unused spares room, tt)

      by_answer : (won : Bool) → StaysSound (decided_by plan spares won)
      by_answer true = by_clearing (clears plan) refl
      by_answer false = by_need (needs_pid plan) refl
  stays_at spares near state.Undo told k fits room sound target = (room, tt)
  stays_at spares near state.Clear told k fits room sound target = (room, tt)

-- there is a place for a row that a taking has found
pub keeps_place : (change : Change) (spares : Spares) (taking : Taking) (told : Answer Record) (kind : Kind) (number : ℕ) → change.state ≡ state.Taking taking → IsSoundChange change spares
    → found_after change.limits taking told ≡ Taken kind number → IsSoundFound change.limits (from_of taking) (Taken kind number) → kind ≡ Row → length spares.rows < 4
keeps_place change spares taking told kind number at sound found there row =
    let state : IsSoundState change.limits change.plan spares (state.Taking taking) = rw at at sound.state in
    let of : kind ≡ kind_of taking = subst (IsFoundOf (kind_of taking)) found (found_of change.limits taking told) in
    let is : kind_of taking ≡ Row = sym of ∙ row in
    let missing : IsNeededNext change.limits change.plan spares Row = rw is at state.1 in
    let from : from_of taking ≡ needed_from change.limits change.plan spares Row = rw is at state.2 in
    row_place change.limits change.plan spares number sound.room missing (rw from at there.2)

module _ (old new : Change) (had has : Spares) (told : Answer Record) (end : Option End)
    (is : next_move old.limits old.plan had old.near old.state told ≡ record { state = new.state; spares = has; end = end }) (same : IsSameChange old new) (k : Knowledge)
    (fits : Fits old.limits k (wanted_step old had) told) (sound : IsSoundChange old had) (target : IsTarget old.limits old.plan) where
  stays : HaveRoom old.limits has × IfNone end (IsSoundState old.limits old.plan has new.state)
  stays = rw is at (stays_at old.limits old.plan had old.near old.state told k fits sound.room sound.state target)

  pub room_stays : HaveRoom old.limits has
  room_stays = stays.0

  pub sound_stays : IfNone end (IsSoundChange new has)
  sound_stays = by_end end stays.1
    where
      by_end : (end : Option End) → IfNone end (IsSoundState old.limits old.plan has new.state) → IfNone end (IsSoundChange new has)
      by_end None h = record { room = rw same.limits stays.0; state = rw (same.limits, same.plan) h }
      by_end (Some end) h = tt
