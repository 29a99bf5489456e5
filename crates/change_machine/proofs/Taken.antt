-- What the answers of a taking leave known.
use Rattle.change_machine.proofs.Words.{◌≡◌, ◌<◌, ◌≤◌, ◌∙◌, ◌*◌, ◌+◌, inl, inr, ℕ, zero, suc, subst, Bool, true, false, None, Some, refl, sym, ap, arith, ltb, is_some, not, ◌&&◌, if◌then◌else◌}
use Rattle.change_machine.proofs.Words.{cases_eq, ltb-false, trailing_zeros, w64, Limits, Answer, replaced_at, Record, Fits, FitsWord, Knowledge, Empty, learn, Change, Follows, IsLike}
use Rattle.change_machine.proofs.Words.{IsNeededNext, KeepsSpare, MayChange, Shows, needs_pid, Moved, after_taking, first_state, has_rows, moved_by, wanted_from, with_number}
use Rattle.change_machine.proofs.Words.{AreTheSpares, AreUnset, Spares, begun_at, count_of, found_after, from_of, kind_of, wanted_number, words_end, State, Plan, Install, Root, Unlink, Not}
use Rattle.change_machine.proofs.Words.{Full, Kind, Pid, Row, Bits, Take, replaced_same, replaced_other}
use Rattle.std.proofs.Common.{◌/◌, ◌%◌}
use Rattle.std.specs.Prelude.{◌==◌}
use Rattle.std.proofs.lemmas.Bool.{eqb-true}
use Rattle.std.specs.Int.{bit_at}
use Rattle.std.proofs.lemmas.Nat.Bits.{bit_at-trailing_zeros}
use Rattle.bw_model.specs.declared.step.Answer.TheVariants as answer
use Rattle.traces.specs.discipline.Fitting.{FitsTaken, FitsTakenPid}
use Rattle.traces.specs.discipline.Knowledge.{Ready}
use Rattle.change_machine.specs.Changes.{ShowsState}
use Rattle.change_machine.specs.Taking.{AreFull, first_word, least_word, word_read}
use Rattle.change_machine.specs.declared.change.State.TheVariants as state
use Rattle.structure_changes.specs.declared.plan.Plan.TheVariants.{Split}
use Rattle.change_machine.specs.declared.taking.Taking.{Taking}
use Rattle.change_machine.proofs.Following.{like_self, still_may, unlinked}
use Rattle.change_machine.proofs.SpareLaws.{pid_taken, row_taken}
use Rattle.change_machine.proofs.Making.{bare_at}

-- a word that was read as 0 adds to those below it
none_free : (words : ℕ → Bool) (word below : ℕ) → below ≤ word → (below < word → words below ≡ true) → replaced_at word true words below ≡ true
none_free words word below le full = elim (cases_eq below word) [
  | inl same ↦ ap (replaced_at word true words) same ∙ replaced_same word true words
  | inr other ↦ replaced_other word true words below other ∙ full (omega (arith, le, other))
]

-- the lowest free number of a word is of the word, at a bit that is set
pub in_word : (limit word bits : ℕ) → FitsWord limit word (suc bits)
    → ((64 * word + trailing_zeros w64 (suc bits)) / 64 ≡ word) × (bit_at (suc bits) ((64 * word + trailing_zeros w64 (suc bits)) % 64) ≡ 1)
in_word limit word bits fits =
    let lowest = bit_at-trailing_zeros w64 (suc bits) (omega arith) fits.fits in
    let within = lowest.0 in
    let place : (64 * word + trailing_zeros w64 (suc bits)) % 64 ≡ trailing_zeros w64 (suc bits) = omega (arith, within) in
    (omega (arith, within), rw place lowest.1)

-- nothing was read before the first word
none_below : (word from : ℕ) → ◌≡◌ {A = ℕ} (if word == from then word else from) from
none_below word from = by_test (word == from) refl
  where
    by_test : (none : Bool) → (word == from) ≡ none → ◌≡◌ {A = ℕ} (if none then word else from) from
    by_test true is = eqb-true word from is
    by_test false is = refl

-- a taking that begins has read no word
none_read : (limits : Limits) (k : Knowledge) (kind : Kind) (from near : ℕ) → AreFull k.asked kind from (word_read (begun_at limits kind from near))
none_read limits k kind from near = λ below least lt. absurd (let none = none_below (first_word limits kind from near) from in omega (arith, least, lt, none))

-- where all that is known stands, a change begins with the first number that is missing, or with its first place
pub shows_first : (actor : ℕ) (limits : Limits) (k : Knowledge) (plan : Plan) (spares : Spares) (near : ℕ) → MayChange actor k plan → KeepsSpare plan spares.pid
    → AreTheSpares k.own spares → AreUnset k.own → Shows actor (bare_at limits plan (first_state limits plan spares near)) spares k
shows_first actor limits k plan spares near may keeps are bare = record
    { may = may; keeps = keeps; are = are; stands = at_first (needs_pid plan && not (is_some spares.pid)) (has_rows limits plan spares.rows) }
  where
    at_place : (plan : Plan) → ShowsState limits plan spares k (after_taking plan)
    at_place (Install pid head content) = bare
    at_place plan = bare

    at_first : (pid row : Bool)
        → ShowsState limits plan spares k (if pid then state.Taking (begun_at limits Pid 0 near) else if row then after_taking plan else state.Taking
        (begun_at limits Row (wanted_from limits plan spares.rows / 64) near))
    at_first true row = (bare, none_read limits k Pid 0 near)
    at_first false true = at_place plan
    at_first false false = (bare, none_read limits k Row (wanted_from limits plan spares.rows / 64) near)

module _ (actor : ℕ) (limits : Limits) (k : Knowledge) (plan : Plan) (spares : Spares) (near : ℕ) (may : MayChange actor k plan) (keeps : KeepsSpare plan spares.pid)
    (are : AreTheSpares k.own spares) (bare : AreUnset k.own) where
  abbrev pub change : State → Change
  change state = bare_at limits plan state

  -- what follows an answer of a taking
  abbrev pub Finds : Taking → Answer Record → Type 0
  Finds taking told =
      let now = moved_by limits plan spares near (state.Taking taking) (found_after limits taking told) in
      Follows actor k (learn k (wanted_number taking) told) (change (state.Taking taking)) told (change now.state) now.spares now.end

  like_word : (kind : Kind) (from word : ℕ) (whole : Bool) (bits : ℕ) → IsLike k.asked.linked k (learn k (wanted_number (Bits kind from word whole)) (answer.Number bits))
  like_word Pid from word whole bits = record { inside = refl; read = refl; command = refl; linked_now = refl }
  like_word Row from word whole bits = record { inside = refl; read = refl; command = refl; linked_now = refl }

  own_word : (kind : Kind) (from word : ℕ) (whole : Bool) (bits : ℕ) → (learn k (wanted_number (Bits kind from word whole)) (answer.Number bits)).own ≡ k.own
  own_word Pid from word whole bits = refl
  own_word Row from word whole bits = refl

  full_then : (kind : Kind) (from word : ℕ) (whole : Bool) → AreFull k.asked kind from (if whole then word else from)
      → AreFull (learn k (wanted_number (Bits kind from word whole)) (answer.Number 0)).asked kind from (if whole then suc word else from)
  full_then Pid from word true full = λ below least lt. none_free k.asked.no_pids word below (omega (arith, lt)) (full below least)
  full_then Row from word true full = λ below least lt. none_free k.asked.no_rows word below (omega (arith, lt)) (full below least)
  full_then kind from word false full = λ below least lt. absurd (omega (arith, least, lt))

  full_still : (kind : Kind) (from word : ℕ) (whole : Bool) (bits up : ℕ) → AreFull k.asked kind from up
      → AreFull (learn k (wanted_number (Bits kind from word whole)) (answer.Number (suc bits))).asked kind from up
  full_still Pid from word whole bits up full = full
  full_still Row from word whole bits up full = full

  -- a word was read as 0, and there is a next one, or none
  pub empty_word : (kind : Kind) (from word : ℕ) (whole : Bool) → IsNeededNext limits plan spares kind → from ≤ least_word limits kind
      → AreFull k.asked kind from (if whole then word else from) → Finds (Bits kind from word whole) (answer.Number 0)
  empty_word kind from word whole missing low full = go (ltb (suc word) (words_end limits kind from whole)) refl whole refl
    where
      now : Knowledge
      now = learn k (wanted_number (Bits kind from word whole)) (answer.Number 0)

      after : Bool → Bool → Moved
      after more all =
          moved_by limits plan spares near (state.Taking (Bits kind from word whole))
          (if more then Not (Bits kind from (suc word) whole) else if all then Full kind else Not (Bits kind from from true))

      goes_on : (next : ℕ) (all : Bool) → AreFull now.asked kind from (if all then next else from)
          → Follows actor k now (change (state.Taking (Bits kind from word whole))) (answer.Number 0) (change (state.Taking (Bits kind from next all))) spares None
      goes_on next all so_far = record {
        shows = record {
          may = still_may actor k now plan (like_word kind from word whole 0) may;
          keeps = keeps;
          are = rw (own_word kind from word whole 0) are;
          stands = (rw (own_word kind from word whole 0) bare, so_far);
        };
        like = like_word kind from word whole 0;
      }

      go : (more : Bool) → ltb (suc word) (words_end limits kind from whole) ≡ more → (all : Bool) → all ≡ whole
          → Follows actor k now (change (state.Taking (Bits kind from word whole))) (answer.Number 0) (change (after more all).state) (after more all).spares (after more all).end
      go true is all same = goes_on (suc word) whole (full_then kind from word whole full)
      go false is false same = goes_on from true (λ below least lt. absurd (omega (arith, least, lt)))
      go false is true same = record {
        like = rw ((unlinked plan k.asked.linked).1 kind) (like_word kind from word whole 0);
        rest = rw (own_word kind from word whole 0) (record { are = are; unset = bare });
        decided = (missing, λ below least lt. all_read below (omega (arith, low, least)) lt);
      }
        where
          last : count_of limits kind / 64 ≤ suc word
          last = ltb-false (suc word) (count_of limits kind / 64) (rw (← same) at is)

          all_read : AreFull now.asked kind from (count_of limits kind / 64)
          all_read below least lt =
              subst (λ (b : Bool). AreFull now.asked kind from (if b then suc word else from)) (sym same) (full_then kind from word whole full) below least
              (let end = last in omega (arith, lt, end))

  -- a word with a free number
  pub some_word : (kind : Kind) (from word : ℕ) (whole : Bool) (bits : ℕ) → (64 * word + trailing_zeros w64 (suc bits)) / 64 ≡ word
      → AreFull k.asked kind from (if whole then word else from) → Finds (Bits kind from word whole) (answer.Number (suc bits))
  some_word kind from word whole bits place full = record {
    shows = record {
      may = still_may actor k (learn k (wanted_number (Bits kind from word whole)) (answer.Number (suc bits))) plan (like_word kind from word whole (suc bits)) may;
      keeps = keeps;
      are = rw (own_word kind from word whole (suc bits)) are;
      stands = (rw (own_word kind from word whole (suc bits)) bare, rw place (full_still kind from word whole bits (if whole then word else from) full));
    };
    like = like_word kind from word whole (suc bits);
  }

  -- another actor came before
  pub missed : (kind : Kind) (from number : ℕ) (whole : Bool) → AreFull k.asked kind from (if whole then number / 64 else from) → Finds (Take kind from number whole) (answer.Whether false)
  missed Pid from number whole full = record { shows = record { may = may; keeps = keeps; are = are; stands = (bare, full) }; like = like_self k }
  missed Row from number whole full = record { shows = record { may = may; keeps = keeps; are = are; stands = (bare, full) }; like = like_self k }

  -- a free number was taken
  pub taken_pid : (from pid : ℕ) (whole : Bool) → IsNeededNext limits plan spares Pid → FitsTakenPid limits k pid → Finds (Take Pid from pid whole) (answer.Whether true)
  taken_pid from pid whole missing fits = record {
    shows = shows_first actor limits now plan (with_number Pid pid spares) near (still_may actor k now plan like may) (keeps_none plan missing.0)
        (pid_taken k.own spares are pid fits.some missing.1) unset;
    like = like;
  }
    where
      now : Knowledge
      now = learn k (wanted_number (Take Pid from pid whole)) (answer.Whether true)

      like : IsLike k.asked.linked k now
      like = record { inside = refl; read = refl; command = refl; linked_now = refl }

      keeps_none : (plan : Plan) → needs_pid plan ≡ true → KeepsSpare plan (Some pid)
      keeps_none (Install page head content) needs = cc
      keeps_none (Split page plan) needs = tt
      keeps_none (Root left root) needs = tt
      keeps_none (Unlink pid head unterm removal) needs = cc

      unset : AreUnset now.own
      unset = λ page row e. elim (cases_eq page pid) [
        | inl same ↦ (let i : Empty ≡ Ready row = sym (replaced_same pid Empty k.own.pages) ∙ ap (replaced_at pid Empty k.own.pages) (sym same) ∙ e in cc)
        | inr other ↦ bare page row (sym (replaced_other pid Empty k.own.pages page other) ∙ e)
      ]

  pub taken_row : (from row : ℕ) (whole : Bool) → FitsTaken limits k row → Finds (Take Row from row whole) (answer.Whether true)
  taken_row from row whole fits = record {
    shows = shows_first actor limits now plan (with_number Row row spares) near (still_may actor k now plan like may) keeps (row_taken k.own spares are row fits.some fits.foreign) bare;
    like = like;
  }
    where
      now : Knowledge
      now = learn k (wanted_number (Take Row from row whole)) (answer.Whether true)

      like : IsLike k.asked.linked k now
      like = record { inside = refl; read = refl; command = refl; linked_now = refl }

  -- whatever the answer, the taking goes on as it says
  pub finds : (taking : Taking) (told : Answer Record) → IsNeededNext limits plan spares (kind_of taking) → from_of taking ≤ least_word limits (kind_of taking)
      → AreFull k.asked (kind_of taking) (from_of taking) (word_read taking) → Fits limits k (wanted_number taking) told → Finds taking told
  finds (Bits kind from word whole) (answer.Number zero) missing low full fits = empty_word kind from word whole missing low full
  finds (Bits Pid from word whole) (answer.Number (suc bits)) missing low full fits = some_word Pid from word whole bits (in_word limits.pids word bits fits).0 full
  finds (Bits Row from word whole) (answer.Number (suc bits)) missing low full fits = some_word Row from word whole bits (in_word limits.rows word bits fits).0 full
  finds (Take Pid from pid whole) (answer.Whether true) missing low full fits = taken_pid from pid whole missing fits
  finds (Take Row from row whole) (answer.Whether true) missing low full fits = taken_row from row whole fits
  finds (Take kind from number whole) (answer.Whether false) missing low full fits = missed kind from number whole full
  finds (Bits Pid from word whole) told missing low full fits = absurd fits
  finds (Take Pid from number whole) told missing low full fits = absurd fits
  finds taking told missing low full fits = absurd fits
