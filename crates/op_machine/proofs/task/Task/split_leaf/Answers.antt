use Rattle.op_machine.proofs.Words.{◌≡◌, ◌∙◌, inl, inr, ap, refl, PlacedWrite, seen_is_read, IsChainFrom-unique}
use Rattle.structure_changes.specs.Splits.{IsSplitPlan}
use Rattle.op_machine.proofs.Dues.{split_there}
use Rattle.op_machine.proofs.Halves.{halves}
use Rattle.op_machine.proofs.task.Task.split_leaf.Goals as goal

pub plan_split-requires : goal.plan_split-requires
plan_split-requires g c =
    let (k, r, h, there) = c.requires.faced in
    rw (c.page-leaf.ensures, c.writer.ensures)
    (record { read = seen_is_read (g.R.Rows.has c.args.rows.now c.args.pass.now) k c.args.places.now.writer.page h.page.in_hand.seen there })

pub begin_planned-requires : goal.begin_planned-requires
begin_planned-requires g c =
    let (k, r, h, there) = c.requires.faced in
    let leaf = c.args.places.now.writer.page in
    let leaf_is : c.page-leaf.result.now ≡ leaf = c.page-leaf.ensures ∙ ap (λ (w : PlacedWrite). w.page) c.writer.ensures in
    let plan : IsSplitPlan leaf c.in-Some.split = rw leaf_is at c.in-Some.ensures.plan in
    let due = split_there c.args.self.now.limits k r leaf c.in-Some.split h.page plan in
    rw (c.pid.ensures, leaf_is) (record { target = due.0; spells = due.1; room = h.seeks.spare.room })

pub returns-clause-stands : goal.returns-clause-stands
returns-clause-stands g c k r h =
    let leaf = c.args.places.now.writer.page in
    let split = c.in-Some.split in
    let leaf_is : c.page-leaf.result.now ≡ leaf = c.page-leaf.ensures ∙ ap (λ (w : PlacedWrite). w.page) c.writer.ensures in
    let plan : IsSplitPlan leaf split = rw leaf_is at c.in-Some.ensures.plan in
    let seen = h.page.in_hand.seen in
    c.begin_planned.ensures.begun.stands k r (rw (c.pid.ensures, leaf_is, c.copied-separator.ensures, c.low.ensures) (record {
      seeks = h.seeks;
      writer = h.writer;
      may = record { inside = h.seeks.inside; links = c.plans_may_be_linked.ensures.split c.args.self.now.actor k leaf split seen plan };
      keeps = tt;
      brings = (leaf.pid, split, refl, refl);
      useful = λ chain read. rw (← (IsChainFrom-unique k.read.seen leaf.head leaf.chain chain seen.read (rw plan.over at read))) (halves leaf split plan h.page.in_hand.sound.is_chain.fitted);
      split = rw plan.over seen.head;
      recalled = rw plan.over h.page.recalled;
    }))

pub returns-clause-few : goal.returns-clause-few
returns-clause-few g c = c.begin_planned.ensures.begun.few

pub returns-clause-asks : goal.returns-clause-asks
returns-clause-asks g c = c.begin_planned.ensures.begun.asks

pub returns-clause-have : goal.returns-clause-have
returns-clause-have g c = record { reader = rw c.begin_planned.ensures.reader c.requires.have.reader; writer = rw c.begin_planned.ensures.writer c.requires.have.writer }

pub returns-clause-goes : goal.returns-clause-goes
returns-clause-goes g c parent =
    let leaf_is : c.page-leaf.result.now ≡ c.args.places.now.writer.page = c.page-leaf.ensures ∙ ap (λ (w : PlacedWrite). w.page) c.writer.ensures in
    let plan : IsSplitPlan c.args.places.now.writer.page c.in-Some.split = rw leaf_is at c.in-Some.ensures.plan in
    inr (inr (_, c.begin_planned.ensures.begun.begins, inl (rw (c.pid.ensures, leaf_is) refl, plan.over)))
