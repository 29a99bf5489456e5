-- Where a spare PID comes from.
use Rattle.change_machine.proofs.Words.{◌≡◌, inl, inr, ℕ, zero, suc, Bool, true, false, Option, Some, None, refl, ap}
use Rattle.change_machine.proofs.Words.{ltb, if◌then◌else◌, Limits, Answer, Record, Change, wanted_step, wanted_at, near_after}
use Rattle.change_machine.proofs.Words.{Moved, decided_by, next_move, moved_by, whether_in, Spares, found_after, wanted_number, words_end, State, Plan, Install, Root, Unlink, Found, Not, Full}
use Rattle.change_machine.proofs.Words.{Pid, Row, Bits, Take}
use Rattle.bw_model.specs.declared.step.Answer.TheVariants.{Number, Whether}
use Rattle.change_machine.specs.Bounded.{IsPidFrom, pid_taken}
use Rattle.change_machine.specs.declared.change.State.TheVariants as state
use Rattle.structure_changes.specs.declared.plan.Plan.TheVariants.{Split}
use Rattle.change_machine.specs.declared.taking.Found.TheVariants.{Taken}
use Rattle.change_machine.specs.declared.taking.Taking.{Taking}

same_pid : (o taken : Option ℕ) → IsPidFrom o taken o
same_pid None taken = tt
same_pid (Some pid) taken = inl refl

abbrev number_in : Found → ℕ
number_in (Taken kind number) = number
number_in found = 0

-- a PID that was found was taken
is_taken : (limits : Limits) (taking : Taking) (told : Answer Record) (n : ℕ) → found_after limits taking told ≡ Taken Pid n → pid_taken (wanted_number taking) told ≡ Some n
is_taken limits (Take Pid from m whole) (Whether true) n e = ap (λ f. Some (number_in f)) e
is_taken limits (Take Row from m whole) (Whether true) n e = cc
is_taken limits (Take kind from m whole) (Whether false) n e = cc
is_taken limits (Bits kind from word whole) (Number zero) n e = go (ltb (suc word) (words_end limits kind from whole)) whole e
  where
    go : (t whole : Bool) → (if t then Not (Bits kind from (suc word) whole) else if whole then Full kind else Not (Bits kind from from true)) ≡ Taken Pid n
        → pid_taken (wanted_number (Bits kind from word whole)) (Number zero) ≡ Some n
    go true whole f = cc
    go false true f = cc
    go false false f = cc
is_taken limits (Bits kind from word whole) (Number (suc bits)) n e = cc
is_taken limits taking told n e = cc

by_found : (limits : Limits) (plan : Plan) (spares : Spares) (near : ℕ) (at : State) (taken : Option ℕ) (found : Found) → ((n : ℕ) → found ≡ Taken Pid n → taken ≡ Some n)
    → IsPidFrom spares.pid taken (moved_by limits plan spares near at found).spares.pid
by_found limits plan spares near at taken (Taken Pid n) new = inr (new n refl)
by_found limits plan spares near at taken found new = same_pid spares.pid taken

by_deciding : (plan : Plan) (spares : Spares) (taken : Option ℕ) (won : Bool) → IsPidFrom spares.pid taken (decided_by plan spares won).spares.pid
by_deciding (Install pid head content) spares taken true = same_pid spares.pid taken
by_deciding (Split pid plan) spares taken true = tt
by_deciding (Root left root) spares taken true = tt
by_deciding (Unlink pid head unterm removal) spares taken true = same_pid spares.pid taken
by_deciding plan spares taken won = same_pid spares.pid taken

by_state : (limits : Limits) (plan : Plan) (spares : Spares) (near : ℕ) (at : State) (told : Answer Record)
    → IsPidFrom spares.pid (pid_taken (wanted_at limits plan spares at) told) (next_move limits plan spares near at told).spares.pid
by_state limits plan spares near (state.Taking taking) told =
    by_found limits plan spares (near_after near taking told) (state.Taking taking) (pid_taken (wanted_number taking) told) (found_after limits taking told) (is_taken limits taking told)
by_state limits plan spares near state.Link told = by_deciding plan spares _ (whether_in told)
by_state limits plan spares near at told = same_pid spares.pid _

-- what a change's next step makes of the spare PID
pub pid_from : (old : Change) (spares : Spares) (told : Answer Record) (now : Moved) → next_move old.limits old.plan spares old.near old.state told ≡ now
    → IsPidFrom spares.pid (pid_taken (wanted_step old spares) told) now.spares.pid
pid_from old spares told now is = rw (← is) (by_state old.limits old.plan spares old.near old.state told)
