-- Which steps a change's actor may take.
use Rattle.op_machine.proofs.Words.{◌≡◌, ◌<◌, ℕ, zero, suc, List, length, refl, sym, ap, ◌∙◌, Limits, Exchange, Record, IsChainFrom, SplitPlan, IsUseful, wanted_number, Plan, Bits}
use Rattle.op_machine.proofs.Words.{Take, IsUsefulOver, IsUsefulPlan, AreHalves, IsHalved, Task}
use Rattle.base_page.specs.Pages.{Page}
use Rattle.deltas.specs.declared.record.Record.TheVariants as kind
use Rattle.traces.specs.discipline.Discipline.{HasRead, May, MayFree}
use Rattle.traces.specs.discipline.Knowledge.{Knowledge, Written, Ready as Set}
use Rattle.deltas.specs.declared.record.Split.{Split as SplitOf}
use Rattle.structure_changes.specs.Splits.{split_to}
use Rattle.round_model.specs.Visits.{ReadsWithin}
use Rattle.change_machine.specs.Changes as change
use Rattle.structure_changes.specs.Plans.{cleared_page, cleared_row}
use Rattle.change_machine.specs.Spares.{Spares, last_row, pid_of}
use Rattle.change_machine.specs.declared.change.State.{State}
use Rattle.change_machine.specs.declared.change.State.TheVariants.{Taking, Base, Ready, Place, Link, Undo, Clear}
use Rattle.structure_changes.specs.declared.plan.Plan.TheVariants.{Install, Split, Root, Unlink}
use Rattle.change_machine.specs.declared.taking.Kind.TheVariants.{Pid}
use Rattle.change_machine.specs.declared.taking.Taking as taken
use Rattle.rounds.specs.Descents.{asked_step}
use Rattle.rounds.specs.declared.asked.Asked.{Asked}
use Rattle.rounds.specs.declared.asked.Asked.TheVariants.{Slot as SlotOf, Row as RowOf}
use Rattle.op_machine.specs.machine.Shows.{MayStep}

-- a change frees nothing
pub freely : (limits own : Limits) (actor : ℕ) (k : Knowledge) (plan : Plan) (spares : Spares) (state : State) → MayFree limits actor k (change.wanted_at own plan spares state)
freely limits own actor k plan spares (Taking taking) = of_taking taking
  where
    of_taking : (t : taken.Taking) → MayFree limits actor k (wanted_number t)
    of_taking (Bits Pid from word whole) = tt
    of_taking (Take Pid from number whole) = tt
    of_taking t = tt
freely limits own actor k plan spares other = tt

-- an exchange that puts a base over a row only where its chain has deltas
exchanges : (k : Knowledge) (slot old new : ℕ) → ((basis : HasRead k slot old) (page : Page) → k.own.rows new ≡ Written (kind.Base page) → 1 < length basis.chain) → IsUseful k (Exchange slot old new)
exchanges k (suc slot) (suc old) (suc new) h = h
exchanges k other others rest h = tt

-- the slot of a new page is set and emptied
readies : (k : Knowledge) (slot new : ℕ) → IsUseful k (Exchange slot 0 new)
readies k zero new = tt
readies k (suc slot) new = tt

empties : (k : Knowledge) (slot old : ℕ) → IsUseful k (Exchange slot old 0)
empties k zero old = tt
empties k (suc slot) zero = tt
empties k (suc slot) (suc old) = tt

over : (k : Knowledge) (pid head row : ℕ) (content : Record) → IsUsefulOver k head content → k.own.rows row ≡ Written content
    → (basis : HasRead k pid head) (page : Page) → k.own.rows row ≡ Written (kind.Base page) → 1 < length basis.chain
over k pid head row (kind.Base other) useful placed basis page is = useful basis.chain basis.read
over k pid head row content useful placed basis page is = let e = sym placed ∙ is in cc

pub usefully : (limits : Limits) (k : Knowledge) (plan : Plan) (spares : Spares) (state : State) → IsUsefulPlan k plan
    → change.ShowsState limits plan spares k state → IsUseful k (change.wanted_at limits plan spares state)
usefully limits k plan spares (Taking taking) useful shows = of_taking taking
  where
    of_taking : (t : taken.Taking) → IsUseful k (wanted_number t)
    of_taking (Bits Pid from word whole) = tt
    of_taking (Take Pid from number whole) = tt
    of_taking t = tt
usefully limits k plan spares Base useful shows = tt
usefully limits k plan spares Ready useful shows = readies k (pid_of spares) (change.base_row limits plan spares)
usefully limits k plan spares Place useful shows = tt
usefully limits k (Install pid head content) spares Link useful shows = exchanges k pid head (last_row spares) (over k pid head (last_row spares) content useful shows.1)
usefully limits k (Split pid plan) spares Link useful shows = exchanges k pid plan.next (change.record_row limits (Split pid plan) spares) (λ basis page is. let e = sym shows.1 ∙ is in cc)
usefully limits k (Root left root) spares Link useful shows = tt
usefully limits k (Unlink pid head unterm removal) spares Link useful shows = exchanges k pid head (last_row spares) (λ basis page is. let e = sym shows.1 ∙ is in cc)
usefully limits k plan spares Undo useful shows = empties k (pid_of spares) (change.base_row limits plan spares)
usefully limits k plan spares Clear useful shows = empties k (cleared_page plan) (cleared_row plan)

-- a split is linked where it leaves items enough on both sides
no_split : (k : Knowledge) (slot old new : ℕ) → ((split : SplitOf) → k.own.rows new ≡ Written (kind.Split split) → ⊥) → IsHalved k (Exchange slot old new)
no_split k (suc slot) (suc old) (suc new) never = λ basis split row base is ready written. absurd (never split is)
no_split k other others rest never = tt

halves : (k : Knowledge) (slot old right new base_row : ℕ) (plan : SplitPlan) → plan.next ≡ old → ((chain : List Record) → IsChainFrom k.read.seen plan.next chain → AreHalves chain plan.upper.items)
    → k.own.rows new ≡ Written (kind.Split (split_to plan right)) → k.own.pages right ≡ Set base_row → k.own.rows base_row ≡ Written (kind.Base plan.upper) → IsHalved k (Exchange slot old new)
halves k (suc slot) (suc old) right (suc new) base_row plan over useful placed stands based = λ basis split row base is ready written.
    let e : Written (kind.Split (split_to plan right)) ≡ Written (kind.Split split) = sym placed ∙ is in
    let page : right ≡ split.page = cc in
    let at : Set base_row ≡ Set row = sym stands ∙ ap k.own.pages page ∙ ready in
    let row_is : base_row ≡ row = cc in
    let w : Written (kind.Base plan.upper) ≡ Written (kind.Base base) = sym based ∙ ap k.own.rows row_is ∙ written in
    let same : plan.upper ≡ base = cc in
    rw (← same) (useful basis.chain (rw over basis.read))
halves k other others right rest base_row plan over useful placed stands based = tt

never_over : (k : Knowledge) (head row : ℕ) (content : Record) → IsUsefulOver k head content → k.own.rows row ≡ Written content → (split : SplitOf) → k.own.rows row ≡ Written (kind.Split split) → ⊥
never_over k head row (kind.Split other) useful placed split is = useful
never_over k head row content useful placed split is = let e = sym placed ∙ is in cc

halved_ready : (k : Knowledge) (slot new : ℕ) → IsHalved k (Exchange slot 0 new)
halved_ready k zero new = tt
halved_ready k (suc slot) new = tt

halved_empty : (k : Knowledge) (slot old : ℕ) → IsHalved k (Exchange slot old 0)
halved_empty k zero old = tt
halved_empty k (suc slot) zero = tt
halved_empty k (suc slot) (suc old) = tt

pub halved : (limits : Limits) (k : Knowledge) (plan : Plan) (spares : Spares) (state : State) → IsUsefulPlan k plan
    → change.ShowsState limits plan spares k state → IsHalved k (change.wanted_at limits plan spares state)
halved limits k plan spares (Taking taking) useful shows = of_taking taking
  where
    of_taking : (t : taken.Taking) → IsHalved k (wanted_number t)
    of_taking (Bits Pid from word whole) = tt
    of_taking (Take Pid from number whole) = tt
    of_taking t = tt
halved limits k plan spares Ready useful shows = halved_ready k (pid_of spares) (change.base_row limits plan spares)
halved limits k (Install pid head content) spares Link useful shows = no_split k pid head (last_row spares) (never_over k head (last_row spares) content useful shows.1)
halved limits k (Split pid plan) spares Link useful shows = halves k pid plan.next (pid_of spares) (change.record_row limits (Split pid plan) spares)
    (change.base_row limits (Split pid plan) spares) plan refl useful shows.1 shows.0.0 shows.0.1
halved limits k (Unlink pid head unterm removal) spares Link useful shows = no_split k pid head (last_row spares) (λ split is. let e = sym shows.1 ∙ is in cc)
halved limits k plan spares Undo useful shows = halved_empty k (pid_of spares) (change.base_row limits plan spares)
halved limits k plan spares Clear useful shows = halved_empty k (cleared_page plan) (cleared_row plan)
halved limits k other spares others useful shows = tt

-- a read frees nothing
pub steps_reading : (task : Task) (k : Knowledge) (asked : Asked) → ReadsWithin task.limits (asked_step asked) → May task.actor k (asked_step asked) → MayStep task k (asked_step asked)
steps_reading task k (SlotOf pid) within may = record { within = within; may = may; frees = tt; useful = tt; halved = tt }
steps_reading task k (RowOf row) within may = record { within = within; may = may; frees = tt; useful = tt; halved = tt }
