-- An operation that has made of an answer what its round makes of it, and of the round's end what follows, goes to the left of a removed page.
use Rattle.op_machine.proofs.Words.{◌≡◌, ◌∙◌, inl, inr, ℕ, List, Bool, true, false, Option, Some, None, refl, sym, ap, subst, arith, Answer, Record, next_row, is_removed}
use Rattle.op_machine.proofs.Words.{Version, WriteGoal, ReadEnd, Sees, DueChange, WriteEnd, Task}
use Rattle.std.specs.Coded.{le_prop}
use Rattle.bw_model.specs.declared.step.Answer.TheVariants as answer
use Rattle.deltas.specs.Spellable.{IsPid, IsRow}
use Rattle.round_model.specs.Courses as goal
use Rattle.round_model.specs.Descents.{Descent, Finds, Page, Responds as Moves, Root, WayState}
use Rattle.round_model.specs.ReadEnds as read_end
use Rattle.round_model.specs.ReadLegs.{IsPlain, Round, above_of}
use Rattle.round_model.specs.ReadRounds.{ReadsForTheSame, ReadRound, TreatsRead, reading}
use Rattle.round_model.specs.Visits.{Row, Sight, Slot, Empty, Visit, VisitState, Whole}
use Rattle.round_model.specs.WriteEnds as write_end
use Rattle.round_model.specs.WriteResponses.{EndsBy, TreatsWrite, writing}
use Rattle.round_model.specs.WriteRounds.{SeeksLeaf, WriteRound}
use Rattle.op_machine.specs.machine.GoesLeft.{GoesLeft, TurnsLeft, write_left_of}
use Rattle.op_machine.specs.machine.RoundSteps.{AfterReading, AfterWriting, StepsInRound, StepsReading, StepsWriting}
use Rattle.op_machine.specs.machine.States.{State, Read, Write}

-- pages with the same number, row and chain are one

abbrev version_of : (pid head : ℕ) → List Record → IsPid pid → IsRow head → Version
version_of pid head chain is_pid is_row = record { pid = pid; head = head; chain = chain; is_pid = is_pid; is_row = is_row }

pid_prop : (pid : ℕ) → IsProp (IsPid pid)
pid_prop pid = hlevel le_prop

row_prop : (row : ℕ) → IsProp (IsRow row)
row_prop row = hlevel le_prop

same_page : (a b : Version) → b.pid ≡ a.pid → b.head ≡ a.head → b.chain ≡ a.chain → a ≡ b
same_page a b pids heads chains =
    subst (λ n. (p : IsPid n) (r : IsRow a.head) → version_of n a.head a.chain p r ≡ b) pids (λ p.
    rw (← heads) (λ r.
    rw (← chains) (
    ap (λ (x : IsPid b.pid). version_of b.pid b.head b.chain x r) (pid_prop b.pid p b.is_pid) ∙ ap (λ (y : IsRow b.head). version_of b.pid b.head b.chain b.is_pid y) (row_prop b.head r b.is_row)
    ))) a.is_pid a.is_row

-- a page is whole with the answer
module _ (old : Descent) (told : Answer Record) (version : Version) (whole : Finds old told (Whole version)) where
  abbrev content_of : Answer Record → Record
  content_of (answer.Content content) = content
  content_of other = whole.responds.content

  abbrev visit_of : WayState → Visit
  visit_of Root = whole.visit
  visit_of (Page visit) = visit

  abbrev head_of : VisitState → ℕ
  head_of Slot = 0
  head_of (Row head row) = head

  same_visit : (visit : Visit) → old.state ≡ Page visit → visit ≡ whole.visit
  same_visit visit is = ap visit_of (sym is ∙ whole.asked)

  -- then it doesn't go on,
  stops : (new : Descent) → Moves old told new None → ⊥
  stops new moves = elim moves [
    | inl starts ↦ (let clash : Root ≡ Page whole.visit = sym starts.asked ∙ whole.asked in cc)
    | inr visits ↦ elim visits.responds [
      | inl head ↦
          (let same = same_visit visits.visit visits.asked in let clash : Slot ≡ Row version.head whole.responds.row = sym head.asked ∙ ap (λ (v : Visit). v.state) same ∙ whole.responds.asked in cc)
      | inr on ↦
          let same : on.content ≡ whole.responds.content = ap content_of (sym on.is ∙ whole.responds.is) in
          let clash : Some on.under ≡ None = sym on.more ∙ ap next_row same ∙ whole.responds.last in
          cc
    ]
  ]

  -- and has found that page
  found : (sight : Sight) → Finds old told sight → sight ≡ Whole version
  found Empty finds = let clash : answer.Number 0 ≡ answer.Content whole.responds.content = sym finds.responds.is ∙ whole.responds.is in cc
  found (Whole other) finds =
      let same = same_visit finds.visit finds.asked in
      let content : whole.responds.content ≡ finds.responds.content = ap content_of (sym whole.responds.is ∙ finds.responds.is) in
      let heads : version.head ≡ other.head = ap head_of (sym whole.responds.asked ∙ sym (ap (λ (v : Visit). v.state) same) ∙ finds.responds.asked) in
      let pids : version.pid ≡ other.pid = whole.responds.pid ∙ sym (ap (λ (v : Visit). v.pid) same) ∙ sym finds.responds.pid in
      let chains : version.chain ≡ other.chain = rw (whole.responds.chain, finds.responds.chain, same, content) refl in
      ap Whole (same_page other version pids heads chains)

-- what isn't removed is none of the removed pages
kept_and_gone : (b : Bool) → b ≡ true → b ≡ false → ⊥
kept_and_gone b gone alive = let clash : true ≡ false = sym gone ∙ alive in cc

module _ (task : Task) (old next : ReadRound) (removed : Version) (gone : is_removed removed.chain ≡ true) (same : ReadsForTheSame old next) (new : State) where
  abbrev stays : is_removed removed.chain ≡ false → TurnsLeft task old removed new
  stays alive = absurd (kept_and_gone (is_removed removed.chain) gone alive)

  not_round : (first : Version) → old.leg ≡ Round first → IsPlain old.leg → ⊥
  not_round first is plain = subst IsPlain is plain

  read_turns : (end : Option ReadEnd) → TreatsRead old removed next end → AfterReading task next end new → TurnsLeft task old removed new
  read_turns None t goes = elim t [
    | inl right ↦ stays right.alive
    | inr (inl down) ↦ stays down.alive
    | inr (inr (inl beyond)) ↦ stays beyond.left.alive
    | inr (inr (inr (inl past))) ↦ stays past.left.alive
    | inr (inr (inr (inr (inl round)))) ↦ record {
      leaf = λ plain is. (absurd (omega (arith, is)));
      index = λ plain index. inl (next, round, goes);
      second = λ first is. (let clash : None ≡ Some round.above = sym (ap above_of is) ∙ round.is_above in cc);
    }
    | inr (inr (inr (inr (inr (inl nearer))))) ↦ stays nearer.left.alive
    | inr (inr (inr (inr (inr (inr (inl through)))))) ↦ stays through.left.alive
    | inr (inr (inr (inr (inr (inr (inr (inl right))))))) ↦ stays right.there.left.alive
    | inr (inr (inr (inr (inr (inr (inr (inr down))))))) ↦ stays down.there.left.alive
  ]
  read_turns (Some read_end.Again) t goes = elim t [
    | inl lost ↦ record {
      leaf = λ plain is. (absurd (omega (arith, is)));
      index = λ plain index. inr (lost, goes);
      second = λ first is. goes;
    }
    | inr off ↦ record {
      leaf = λ plain is. absurd (not_round off.removed off.leg plain);
      index = λ plain index. absurd (not_round off.removed off.leg plain);
      second = λ first is. goes;
    }
  ]
  read_turns (Some (read_end.Removed other)) t goes = record {
    leaf = λ plain is. goes ∙ rw (t.is, same.limits, same.key) refl;
    index = λ plain index. (absurd (omega (arith, index)));
    second = λ first is. absurd (not_round first is t.plain);
  }
  read_turns (Some (read_end.Leaf leaf)) t goes = elim t [ inl end ↦ stays end.alive | inr merged ↦ stays merged.left.alive ]
  read_turns (Some (read_end.Beside left other)) t goes = stays t.at_left.alive

module _ (task : Task) (old next : WriteRound) (removed : Version) (seeks : SeeksLeaf old.goal) (gone : is_removed removed.chain ≡ true) (new : State) where
  abbrev Left : Type 0
  Left = new ≡ Write (write_left_of task.limits removed)

  abbrev remains : is_removed removed.chain ≡ false → Left
  remains alive = absurd (kept_and_gone (is_removed removed.chain) gone alive)

  abbrev again : (other : WriteGoal) → old.goal ≡ other → SeeksLeaf other
  again other is = subst SeeksLeaf is seeks

  by_change : (change : DueChange) → EndsBy old removed change → Left
  by_change (write_end.Term parent term) due = remains due.plan.can.alive
  by_change (write_end.Root left root) due = remains due.plan.can.alive
  by_change (write_end.Merge left other merge) due = absurd (again (goal.Merge left) due.goal)
  by_change (write_end.Unterm parent left other unterm) due = absurd (again (goal.Unterm parent left) due.goal)
  by_change other due = remains due.here.alive

  write_turns : (end : Option WriteEnd) → TreatsWrite old removed next end → AfterWriting task next end new → Left
  write_turns None t goes = elim t [
    | inl right ↦ remains right.alive
    | inr (inl down) ↦ remains down.here.alive
    | inr (inr (inl merge)) ↦ remains merge.left.here.alive
    | inr (inr (inr cut)) ↦ remains cut.left.here.alive
  ]
  write_turns (Some write_end.Again) t goes = remains t.here.alive
  write_turns (Some write_end.Done) t goes = elim t [
    | inl clean ↦ remains clean.left.here.alive
    | inr (inl unmerged) ↦ absurd (again (goal.Merge unmerged.left) unmerged.goal)
    | inr (inr uncut) ↦ absurd (again (goal.Unterm uncut.parent uncut.left) uncut.goal)
  ]
  write_turns (Some (write_end.Removed other)) t goes = goes ∙ ap (λ (v : Version). Write (write_left_of task.limits v)) t.is
  write_turns (Some (write_end.Due plan after)) t goes = by_change t.change t.due
  write_turns (Some (write_end.Leaf parent leaf)) t goes = remains t.here.alive

read_left : (task : Task) (old : ReadRound) (told : Answer Record) (new : State) → StepsReading task old told new → GoesLeft task (Read old) told new
read_left task old told new steps removed meets = elim steps.responds [
  | inl way ↦ absurd (stops (reading.way old) told removed meets.whole (reading.way steps.next) way.on)
  | inr from ↦
      let sees : Sees reading old (Whole removed) steps.next steps.end = rw (found (reading.way old) told removed meets.whole from.sight from.finds) at from.sees in
      read_turns task old steps.next removed meets.gone steps.same new steps.end sees steps.goes
]

write_left : (task : Task) (old : WriteRound) (told : Answer Record) (new : State) → StepsWriting task old told new → GoesLeft task (Write old) told new
write_left task old told new steps removed meets = elim steps.responds [
  | inl way ↦ absurd (stops (writing.way old) told removed meets.whole (writing.way steps.next) way.on)
  | inr from ↦
      let sees : Sees writing old (Whole removed) steps.next steps.end = rw (found (writing.way old) told removed meets.whole from.sight from.finds) at from.sees in
      write_turns task old steps.next removed meets.seeks meets.gone new steps.end sees steps.goes
]

pub goes_left : (task : Task) (old : State) (told : Answer Record) (new : State) → StepsInRound task old told new → GoesLeft task old told new
goes_left task (Read round) told new steps = read_left task round told new steps
goes_left task (Write round) told new steps = write_left task round told new steps
goes_left task old told new steps = tt
