-- By which step a change comes to its end, or to where its exchange was taken.
use Rattle.change_machine.proofs.Words.{◌≡◌, inl, inr, Bool, true, false, None, Some, refl, sym, ◌∙◌, if◌then◌else◌, ◌&&◌, not, is_some, Limits, Answer, Record, clears, needs_pid, near_after, ℕ}
use Rattle.change_machine.proofs.Words.{Plan, Install, Moved, after_ready, after_taking, decided_by, first_state, has_rows, moved_by, next_move, spares_left, wanted_from, whether_in}
use Rattle.change_machine.proofs.Words.{with_number, Spares, begun_at, found_after, State, Found, Pid, Row}
use Rattle.std.specs.Prelude.{◌/◌}
use Rattle.change_machine.specs.Changes.{CanDecide, EndsByDeciding, has_decided}
use Rattle.change_machine.specs.declared.change.End.TheVariants as end
use Rattle.change_machine.specs.declared.change.State.TheVariants.{Taking, Base, Ready, Place, Link, Undo, Clear}
use Rattle.change_machine.specs.declared.taking.Found.TheVariants as found
use Rattle.change_machine.specs.declared.taking.Taking.{Taking as TakingOf}

after_open : (plan : Plan) → has_decided (after_taking plan) ≡ false
after_open (Install pid head content) = refl
after_open plan = refl

ready_open : (plan : Plan) → has_decided (after_ready plan) ≡ false
ready_open (Install pid head content) = refl
ready_open plan = refl

either_open : (b c : Bool) (one two : TakingOf) (rest : State) → has_decided rest ≡ false → has_decided (if b then Taking one else if c then rest else Taking two) ≡ false
either_open true c one two rest opens = refl
either_open false true one two rest opens = opens
either_open false false one two rest opens = refl

-- a change begins before that exchange
pub first_open : (limits : Limits) (plan : Plan) (spares : Spares) (near : ℕ) → has_decided (first_state limits plan spares near) ≡ false
first_open limits plan spares near = either_open (needs_pid plan && not (is_some spares.pid)) (has_rows limits plan spares.rows)
    (begun_at limits Pid 0 near) (begun_at limits Row (wanted_from limits plan spares.rows / 64) near)
    (after_taking plan) (after_open plan)

-- what goes on before it hasn't decided
open_yet : (old new : State) → (CanDecide old → ⊥) → has_decided new ≡ false → (has_decided new ≡ true → CanDecide old) × (CanDecide old → has_decided new ≡ true)
open_yet old new none opens = ((λ e. let both : true ≡ false = sym e ∙ opens in absurd cc), (λ can. absurd (none can)))

taken_on : (limits : Limits) (plan : Plan) (spares : Spares) (near : ℕ) (taking : TakingOf) (f : Found)
    → EndsByDeciding (Taking taking) (moved_by limits plan spares near (Taking taking) f).state (moved_by limits plan spares near (Taking taking) f).end
taken_on limits plan spares near taking (found.Not next) = open_yet (Taking taking) (Taking next) (λ can. elim can [ inl e ↦ cc e | inr e ↦ cc e ]) refl
taken_on limits plan spares near taking (found.Taken kind number) = open_yet (Taking taking) (first_state limits plan (with_number kind number spares) near)
    (λ can. elim can [ inl e ↦ cc e | inr e ↦ cc e ]) (first_open limits plan (with_number kind number spares) near)
taken_on limits plan spares near taking (found.Full kind) = tt

abbrev EndsAt : State → Moved → Type 0
EndsAt old moved = EndsByDeciding old moved.state moved.end

decided_on : (plan : Plan) (spares : Spares) (won : Bool) → EndsAt Link (decided_by plan spares won)
decided_on plan spares true = by_clears (clears plan)
  where
    by_clears : (b : Bool) → EndsAt Link (if b then record { state = Clear; spares = spares_left plan spares; end = None } else
        record { state = Link; spares = spares_left plan spares; end = Some end.Won })
    by_clears true = ((λ e. inl refl), (λ can. refl))
    by_clears false = inl refl
decided_on plan spares false = by_pid (needs_pid plan)
  where
    by_pid : (b : Bool) → EndsAt Link (if b then record { state = Undo; spares = spares; end = None } else record { state = Link; spares = spares; end = Some end.Lost })
    by_pid true = ((λ e. inl refl), (λ can. refl))
    by_pid false = inl refl

pub turns : (limits : Limits) (plan : Plan) (spares : Spares) (near : ℕ) (state : State) (told : Answer Record)
    → EndsByDeciding state (next_move limits plan spares near state told).state (next_move limits plan spares near state told).end
turns limits plan spares near (Taking taking) told = taken_on limits plan spares (near_after near taking told) taking (found_after limits taking told)
turns limits plan spares near Base told = open_yet Base Ready (λ can. elim can [ inl e ↦ cc e | inr e ↦ cc e ]) refl
turns limits plan spares near Ready told = open_yet Ready (after_ready plan) (λ can. elim can [ inl e ↦ cc e | inr e ↦ cc e ]) (ready_open plan)
turns limits plan spares near Place told = open_yet Place Link (λ can. elim can [ inl e ↦ cc e | inr e ↦ cc e ]) refl
turns limits plan spares near Link told = decided_on plan spares (whether_in told)
turns limits plan spares near Undo told = inr refl
turns limits plan spares near Clear told = inr refl
