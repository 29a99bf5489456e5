-- What a change's steps leave it.
use Rattle.change_machine.proofs.Words.{◌≡◌, ◌<◌, ◌≤◌, ◌∙◌, ◌*◌, ◌+◌, inl, inr, ℕ, zero, suc, Bool, true, false, Option, Some, None, refl, sym, ap, arith, ltb, is_some, not, ◌&&◌, near_after}
use Rattle.change_machine.proofs.Words.{if◌then◌else◌, trailing_zeros, w64, Limits, Answer, Record, Fits, FitsWord, Knowledge, AreEnough, Change, IsNeededNext, IsSameChange, IsSoundChange}
use Rattle.change_machine.proofs.Words.{linked_number, needed_from, wanted_step, wanted_at, clears, head_of, needs_pid, slot_of, Moved, after_ready, after_taking, decided_by, first_state}
use Rattle.change_machine.proofs.Words.{has_rows, next_move, moved_by, spares_left, wanted_from, whether_in, with_number, HaveRoom, Spares, pid_of, begun_at, count_of, found_after, from_of}
use Rattle.change_machine.proofs.Words.{kind_of, wanted_number, words_end, End, State, Plan, Install, Root, Unlink, Not, Full, Kind, Pid, Row, Bits, Take, replaced_same, replaced_other}
use Rattle.std.proofs.Common.{◌≢◌, ◌/◌, ◌%◌}
use Rattle.std.specs.Prelude.{◌==◌, ◌-◌}
use Rattle.std.proofs.Math.Nat.{mul-le-mul_left, mul-suc}
use Rattle.std.specs.Int.{bit_at}
use Rattle.bw_model.specs.declared.step.Answer.TheVariants as answer
use Rattle.traces.specs.discipline.Recalled.{Recalled, WasFree, WasHead, recall}
use Rattle.change_machine.specs.Bounded.{IsApart, RecallsAt, Spends, SpendsTo, few_steps, steps_left_at, numbers_missing, pid_taken, pids_missing}
use Rattle.change_machine.specs.Taking.{IsSoundTaking, first_word, most_reads, most_words, recalled_words}
use Rattle.change_machine.specs.declared.change.State.TheVariants as state
use Rattle.structure_changes.specs.declared.plan.Plan.TheVariants.{Split}
use Rattle.change_machine.specs.declared.taking.Taking.{Taking}
use Rattle.change_machine.proofs.Answered.{only_state}
use Rattle.change_machine.proofs.Following.{some_pid}
use Rattle.change_machine.proofs.Learning.{went}
use Rattle.change_machine.proofs.RowNeeds.{fewer_rows, missing_few, missing_some, wanted_there}
use Rattle.change_machine.proofs.Taken.{in_word}
use Rattle.change_machine.proofs.Making.{bare_at, sound_bare, spends_bare}

-- a word of either kind is one of 256
few_words : (limits : Limits) (kind : Kind) (word : ℕ) → 64 * word < count_of limits kind → word < most_words limits
few_words limits Pid word below = let whole = limits.allowed.whole_pids in omega (arith, below, whole)
few_words limits Row word below = let whole = limits.allowed.whole_rows in omega (arith, below, whole)

-- one number less is missing once it is taken
fewer_missing : (limits : Limits) (plan : Plan) (spares : Spares) (kind : Kind) (number : ℕ) → IsNeededNext limits plan spares kind
    → 64 * needed_from limits plan spares kind ≤ number → suc (numbers_missing limits plan (with_number kind number spares)) ≡ numbers_missing limits plan spares
fewer_missing limits plan spares Pid number missing least = rw (missing.0, missing.1) (omega arith)
fewer_missing limits plan spares Row number missing least =
    let less = fewer_rows limits plan number spares.rows missing.0 (let same = (wanted_there limits plan spares.rows).0 in omega (arith, same, least)) in
    omega (arith, less)

-- a change that clears a page has no new one
clears_apart : (plan : Plan) (pid : Option ℕ) → clears plan ≡ true → IsApart plan pid
clears_apart (Split page plan) pid is = cc
clears_apart other pid is = tt

-- a taking goes over all words twice at most
few_left : (limits : Limits) (word : ℕ) (whole : Bool) → (if whole then suc (most_words limits) - word else most_reads limits - word) ≤ most_reads limits
unfolding most_reads
few_left limits word true = omega arith
few_left limits word false = omega arith

reads_are : (limits : Limits) → most_reads limits ≡ 2 * most_words limits + 2
unfolding most_reads
reads_are limits = refl

-- of one number more
reads_more : (limits : Limits) (n : ℕ) → 1 ≤ n → most_reads limits * (n - 1) + most_reads limits ≡ most_reads limits * n
reads_more limits zero some = absurd (omega arith)
reads_more limits (suc n) some = let e : suc n - 1 ≡ n = omega arith in rw e (sym (mul-suc (most_reads limits) n))

reads_same : (limits : Limits) (m n : ℕ) → suc m ≡ n → most_reads limits * m ≡ most_reads limits * (n - 1)
reads_same limits m n e = let same : m ≡ n - 1 = omega (arith, e) in ap (λ k. most_reads limits * k) same

-- at most three numbers are missing
few_missing : (limits : Limits) (plan : Plan) (spares : Spares) → numbers_missing limits plan spares ≤ 3
few_missing limits plan spares = let one = one_pid (needs_pid plan) spares.pid in let two = missing_few limits plan spares.rows in omega (arith, one, two)
  where
    one_pid : (needs : Bool) (pid : Option ℕ) → pids_missing needs pid ≤ 1
    one_pid false pid = omega arith
    one_pid true None = omega arith
    one_pid true (Some pid) = omega arith

-- how many steps a change takes at most from its first state on
pub left_first : (limits : Limits) (after : ℕ) (plan : Plan) (spares : Spares) (near : ℕ)
    → steps_left_at limits after plan spares (first_state limits plan spares near) ≤ most_reads limits * numbers_missing limits plan spares + 5
left_first limits after plan spares near = at_first (needs_pid plan && not (is_some spares.pid)) refl (has_rows limits plan spares.rows) refl
  where
    some_missing : (needs : Bool) (pid : Option ℕ) → (needs && not (is_some pid)) ≡ true → pids_missing needs pid ≡ 1
    some_missing false pid e = cc
    some_missing true None e = refl
    some_missing true (Some pid) e = cc

    at_place : (plan : Plan) → steps_left_at limits after plan spares (after_taking plan) ≤ 4
    at_place (Install pid head content) = omega arith
    at_place other = omega arith

    at_first : (pid : Bool) → (needs_pid plan && not (is_some spares.pid)) ≡ pid → (row : Bool) → has_rows limits plan spares.rows ≡ row
        → steps_left_at limits after plan spares (if pid then state.Taking (begun_at limits Pid 0 near) else if row then after_taking plan else state.Taking
        (begun_at limits Row (wanted_from limits plan spares.rows / 64) near))
        ≤ most_reads limits * numbers_missing limits plan spares + 5
    at_first true pid row e =
        let one = some_missing (needs_pid plan) spares.pid pid in
        let few = few_left limits (first_word limits Pid 0 near) (first_word limits Pid 0 near == 0) in
        let more = reads_more limits (numbers_missing limits plan spares) (omega (arith, one)) in
        omega (arith, one, few, more)
    at_first false pid false e =
        let some = missing_some limits plan spares.rows e in
        let from = wanted_from limits plan spares.rows / 64 in
        let few = few_left limits (first_word limits Row from near) (first_word limits Row from near == from) in
        let more = reads_more limits (numbers_missing limits plan spares) (omega (arith, some)) in
        omega (arith, some, few, more)
    at_first false pid true e = let few = at_place plan in omega (arith, few)

pub few_first : (limits : Limits) (after : ℕ) (plan : Plan) (spares : Spares) (near : ℕ) → steps_left_at limits after plan spares (first_state limits plan spares near) ≤ few_steps limits
few_first limits after plan spares near =
    let first = left_first limits after plan spares near in
    let three = mul-le-mul_left (most_reads limits) (few_missing limits plan spares) in
    omega (arith, first, three)

-- at its first state it recalls the slot that decides
pub recalls_first : (limits : Limits) (r : Recalled) (plan : Plan) (spares : Spares) (near : ℕ) → WasHead r (slot_of plan) (head_of plan) → RecallsAt r plan (first_state limits plan spares near)
recalls_first limits r plan spares near h = at_first (needs_pid plan && not (is_some spares.pid)) (has_rows limits plan spares.rows)
  where
    at_place : (other : Plan) → RecallsAt r plan (after_taking other)
    at_place (Install pid head content) = h
    at_place other = h

    at_first : (pid row : Bool)
        → RecallsAt r plan (if pid then state.Taking (begun_at limits Pid 0 near) else if row then after_taking plan else state.Taking
        (begun_at limits Row (wanted_from limits plan spares.rows / 64) near))
    at_first true row = h
    at_first false true = at_place plan
    at_first false false = h

module _ (limits : Limits) (plan : Plan) (spares : Spares) (after : ℕ) (r : Recalled) (apart : IsApart plan spares.pid) where
  abbrev change : State → Change
  change state = bare_at limits plan state

  abbrev pub SpendsSo : State → Answer Record → Moved → Type 0
  SpendsSo state told now = SpendsTo after r (change state) spares told (change now.state) now.spares now.end

  -- a word was read
  word_head : (kind : Kind) (from word : ℕ) (whole : Bool) (bits : ℕ) → WasHead r (slot_of plan) (head_of plan)
      → WasHead (recall r (wanted_number (Bits kind from word whole)) (answer.Number bits)) (slot_of plan) (head_of plan)
  word_head Pid from word whole bits h = h
  word_head Row from word whole bits h = h

  empty_word : (near : ℕ) (kind : Kind) (from word : ℕ) (whole : Bool) → IsSoundTaking limits (Bits kind from word whole) → WasHead r (slot_of plan) (head_of plan)
      → SpendsSo (state.Taking (Bits kind from word whole)) (answer.Number 0)
      (moved_by limits plan spares near (state.Taking (Bits kind from word whole)) (found_after limits (Bits kind from word whole) (answer.Number 0)))
  empty_word near kind from word whole sound h = go (ltb (suc word) (words_end limits kind from whole)) whole
    where
      after_word : Bool → Bool → Moved
      after_word more all =
          moved_by limits plan spares near (state.Taking (Bits kind from word all)) (if more then Not (Bits kind from (suc word) all) else if all then Full kind else Not (Bits kind from from true))

      few : word < most_words limits
      few = few_words limits kind word sound.1

      go : (more all : Bool) → SpendsSo (state.Taking (Bits kind from word all)) (answer.Number 0) (after_word more all)
      go true true = (record { at = word_head kind from word true 0 h; apart = apart }, inl (let f = few in omega (arith, f)))
      go true false = (record { at = word_head kind from word false 0 h; apart = apart }, inl (let f = few in let are = reads_are limits in omega (arith, f, are)))
      go false true = let f = few in omega (arith, f)
      go false false = (record { at = word_head kind from word false 0 h; apart = apart }, inl (let f = few in let are = reads_are limits in omega (arith, f, are)))

  free_then : (kind : Kind) (from word : ℕ) (whole : Bool) (bits number : ℕ) → number / 64 ≡ word → bit_at bits (number % 64) ≡ 1
      → WasFree (recalled_words (recall r (wanted_number (Bits kind from word whole)) (answer.Number bits)) kind) number
  free_then Pid from word whole bits number place free = (bits, rw place (replaced_same word (Some bits) r.pids), free)
  free_then Row from word whole bits number place free = (bits, rw place (replaced_same word (Some bits) r.rows), free)

  some_word : (near : ℕ) (kind : Kind) (from word : ℕ) (whole : Bool) (bits : ℕ) → 64 * word < count_of limits kind → FitsWord (count_of limits kind) word (suc bits)
      → WasHead r (slot_of plan) (head_of plan)
      → SpendsSo (state.Taking (Bits kind from word whole)) (answer.Number (suc bits))
      (moved_by limits plan spares near (state.Taking (Bits kind from word whole)) (found_after limits (Bits kind from word whole) (answer.Number (suc bits))))
  some_word near kind from word whole bits below fits h =
      let few = few_words limits kind word below in
      let lowest = in_word (count_of limits kind) word bits fits in (
        record {
          at = (word_head kind from word whole (suc bits) h, free_then kind from word whole (suc bits) (64 * word + trailing_zeros w64 (suc bits)) lowest.0 lowest.1);
          apart = apart;
        },
        inl (more_left whole few),
      )
    where
      more_left : (all : Bool) → word < most_words limits
          → steps_left_at limits after plan spares (state.Taking (Take kind from (64 * word + trailing_zeros w64 (suc bits)) all)) < steps_left_at limits after plan
          spares (state.Taking (Bits kind from word all))
      more_left true few = omega (arith, few)
      more_left false few = let are = reads_are limits in omega (arith, few, are)

  missed : (near : ℕ) (kind : Kind) (from number : ℕ) (whole : Bool) → WasHead r (slot_of plan) (head_of plan) → WasFree (recalled_words r kind) number
      → SpendsSo (state.Taking (Take kind from number whole)) (answer.Whether false)
      (moved_by limits plan spares near (state.Taking (Take kind from number whole)) (found_after limits (Take kind from number whole) (answer.Whether false)))
  missed near Pid from number true h free = (record { at = h; apart = apart }, inr (free, (let few = few_left limits (number / 64) true in omega (arith, few))))
  missed near Pid from number false h free = (record { at = h; apart = apart }, inr (free, (let few = few_left limits (number / 64) false in omega (arith, few))))
  missed near Row from number true h free = (record { at = h; apart = apart }, inr (free, (let few = few_left limits (number / 64) true in omega (arith, few))))
  missed near Row from number false h free = (record { at = h; apart = apart }, inr (free, (let few = few_left limits (number / 64) false in omega (arith, few))))

  took : (near : ℕ) (kind : Kind) (from number : ℕ) (whole : Bool) → IsNeededNext limits plan spares kind → 64 * needed_from limits plan spares kind ≤ number
      → WasHead r (slot_of plan) (head_of plan) → IsApart plan (pid_taken (wanted_number (Take kind from number whole)) (answer.Whether true))
      → SpendsSo (state.Taking (Take kind from number whole)) (answer.Whether true)
      (moved_by limits plan spares near (state.Taking (Take kind from number whole)) (found_after limits (Take kind from number whole) (answer.Whether true)))
  took near Pid from number whole missing least h far =
      let less = fewer_missing limits plan spares Pid number missing least in
      let first = left_first limits after plan (with_number Pid number spares) near in (
        record
            { at = recalls_first limits (recall r (wanted_number (Take Pid from number whole)) (answer.Whether true)) plan (with_number Pid number spares) near h; apart = far },
        inl (let same = reads_same limits _ _ less in omega (arith, less, first, same)),
      )
  took near Row from number whole missing least h far =
      let less = fewer_missing limits plan spares Row number missing least in
      let first = left_first limits after plan (with_number Row number spares) near in (
        record
            { at = recalls_first limits (recall r (wanted_number (Take Row from number whole)) (answer.Whether true)) plan (with_number Row number spares) near h; apart = apart },
        inl (let same = reads_same limits _ _ less in omega (arith, less, first, same)),
      )

  takes : (near : ℕ) (taking : Taking) (told : Answer Record) → (k : Knowledge) → Fits limits k (wanted_number taking) told → IsSoundTaking limits taking
      → IsNeededNext limits plan spares (kind_of taking) → from_of taking ≡ needed_from limits plan spares (kind_of taking)
      → RecallsAt r plan (state.Taking taking) → IsApart plan (pid_taken (wanted_number taking) told)
      → SpendsSo (state.Taking taking) told (moved_by limits plan spares near (state.Taking taking) (found_after limits taking told))
  takes near (Bits kind from word whole) (answer.Number zero) k fits sound missing needed h far = empty_word near kind from word whole sound h
  takes near (Bits Pid from word whole) (answer.Number (suc bits)) k fits sound missing needed h far = some_word near Pid from word whole bits sound.1 fits h
  takes near (Bits Row from word whole) (answer.Number (suc bits)) k fits sound missing needed h far = some_word near Row from word whole bits sound.1 fits h
  takes near (Take kind from number whole) (answer.Whether true) k fits sound missing needed h far = took near kind from number whole missing (rw needed at sound.0) h.0 far
  takes near (Take kind from number whole) (answer.Whether false) k fits sound missing needed h far = missed near kind from number whole h.0 h.1
  takes near (Bits Pid from word whole) told k fits sound missing needed h far = absurd fits
  takes near (Take Pid from number whole) told k fits sound missing needed h far = absurd fits
  takes near taking told k fits sound missing needed h far = absurd fits

  -- the new page isn't the slot that decides
  slot_apart : (plan : Plan) → needs_pid plan ≡ true → IsApart plan (Some (pid_of spares)) → 0 < pid_of spares → slot_of plan ≢ pid_of spares
  slot_apart (Install pid head content) needs far some = cc
  slot_apart (Unlink pid head unterm removal) needs far some = cc
  slot_apart (Split pid plan) needs far some = λ e. far (sym e)
  slot_apart (Root left root) needs far some = λ e. let is : 0 ≡ pid_of spares = e in omega (arith, some, is)

  set : AreEnough limits plan spares → needs_pid plan ≡ true → HaveRoom limits spares → (told : Answer Record) → WasHead r (slot_of plan) (head_of plan)
      → SpendsSo state.Ready told (record { state = after_ready plan; spares = spares; end = None })
  set enough needs room told h =
      let is = some_pid spares.pid (enough.pid needs) in
      let some = (rw is at room.pid).0.0 in
      let other = slot_apart plan needs (rw is at apart) some in
      let still : WasHead (recall r (wanted_at limits plan spares state.Ready) told) (slot_of plan) (head_of plan) = (h.0, replaced_other (pid_of spares) None r.heads (slot_of plan) other ∙ h.1) in
      (record { at = at_next plan still; apart = apart }, inl (less plan))
    where
      at_next : (other : Plan) → WasHead (recall r (wanted_at limits plan spares state.Ready) told) (slot_of plan) (head_of plan)
          → RecallsAt (recall r (wanted_at limits plan spares state.Ready) told) plan (after_ready other)
      at_next (Install pid head content) h = h
      at_next other h = h

      less : (other : Plan) → steps_left_at limits after plan spares (after_ready other) < 3
      less (Install pid head content) = omega arith
      less other = omega arith

  decided : (won : Bool) → WasHead r (slot_of plan) (head_of plan) → SpendsSo state.Link (answer.Whether won) (decided_by plan spares won)
  decided true h = won (clears plan) refl
    where
      won : (clearing : Bool) → clears plan ≡ clearing → SpendsSo state.Link (answer.Whether true) (decided_by plan spares true)
      won true is = rw is (record { at = tt; apart = clears_apart plan (spares_left plan spares).pid is }, inr (h, omega arith))
      won false is = rw is (inl h)
  decided false h = lost (needs_pid plan) refl
    where
      lost : (needs : Bool) → needs_pid plan ≡ needs → SpendsSo state.Link (answer.Whether false) (decided_by plan spares false)
      lost true is = rw is (record { at = tt; apart = apart }, inr (h, omega arith))
      lost false is = rw is (inl h)

  spends_at : (near : ℕ) (state : State) (told : Answer Record) (k : Knowledge) → Fits limits k (wanted_at limits plan spares state) told → IsSoundChange (change state) spares
      → RecallsAt r plan state → IsApart plan (pid_taken (wanted_at limits plan spares state) told) → SpendsSo state told (next_move limits plan spares near state told)
  spends_at near (state.Taking taking) told k fits sound h far = takes (near_after near taking told) taking told k fits sound.state.0 sound.state.1 sound.state.2 h far
  spends_at near state.Base told k fits sound h far = (record { at = h; apart = apart }, inl (omega arith))
  spends_at near state.Ready told k fits sound h far = set sound.state.0 sound.state.1 sound.room told h
  spends_at near state.Place told k fits sound h far = (record { at = h; apart = apart }, inl (omega arith))
  spends_at near state.Link told k fits sound h far = let is = went k limits (slot_of plan) (head_of plan) (linked_number limits plan spares) told fits in rw is (decided (whether_in told) h)
  spends_at near state.Undo told k fits sound h far = inr (omega arith)
  spends_at near state.Clear told k fits sound h far = inr (sound.state, omega arith)

module _ (old new : Change) (had has : Spares) (told : Answer Record) (end : Option End)
    (is : next_move old.limits old.plan had old.near old.state told ≡ record { state = new.state; spares = has; end = end }) (same : IsSameChange old new) where
  pub spends : (k : Knowledge) → Fits old.limits k (wanted_step old had) told → IsSoundChange old had → Spends old had told new has end
  spends k fits sound = λ after r h far.
      let at_state = spends_at old.limits old.plan had after r h.apart old.near old.state told k fits (sound_bare old had sound) h.at far in
      spends_bare after r old had told new has end
      (rw (only_state old new had has told end is same) (rw is at at_state))
