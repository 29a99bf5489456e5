use Rattle.op_machine.proofs.Words.{◌≡◌, ◌<◌, ◌∙◌, inl, inr, None, Some, true, false, length, refl, sym, ap}
use Rattle.op_machine.proofs.Words.{is_some, arith, command_key, reply_of, update_of, content_in, chain_value, PlacedWrite, of_made}
use Rattle.op_machine.proofs.Words.{update_over, seen_is_read}
use Rattle.base_page.specs.Pages.{content_at}
use Rattle.traces.specs.discipline.Discipline.{value_of}
use Rattle.structure_changes.specs.Reads.{chain_of}
use Rattle.structure_changes.specs.Sizes.{HasFewItems}
use Rattle.op_machine.proofs.Commands.{change_is, over_fits, over_kept, over_links, over_next, over_spells, over_useful, update_due, value_same}
use Rattle.op_machine.proofs.Executing.{answers_there, room_there, within}
use Rattle.op_machine.proofs.Plans.{over_page}
use Rattle.op_machine.proofs.Tidying.{may_call}
use Rattle.op_machine.proofs.task.Task.execute_at_leaf.Goals as goal

pub find-old-requires : goal.find-old-requires
find-old-requires g c =
    let (k, r, h, there) = c.requires.faced in
    rw (c.chain.ensures, c.page-leaf.ensures, c.writer.ensures)
    (record { read = seen_is_read (g.R.Rows.has c.args.rows.now c.args.pass.now) k c.args.places.now.writer.page h.page.in_hand.seen there })

pub update_over-update-requires : goal.update_over-update-requires
update_over-update-requires g c = rw (c.as_ref-4.ensures.value, ← c.as_ref-2.ensures.value, ← c.command-3.ensures, ← c.changes.ensures) c.if-not-changes.false

pub begin_update-requires : goal.begin_update-requires
begin_update-requires g c =
    let (k, r, h, there) = c.requires.faced in
    let task = c.args.self.now in
    let leaf = c.args.places.now.writer.page in
    let leaf_is : c.page-leaf.result.now ≡ leaf = c.page-leaf.ensures ∙ ap (λ (w : PlacedWrite). w.page) c.writer.ensures in
    let old = c.find-old.result in
    rw (c.update_over-update.ensures, c.as_ref-4.ensures.value, c.head.ensures, leaf_is) (record {
      target = over_page task.limits k r leaf (update_over task.command old leaf.head) h.page (over_next task.command old leaf.head);
      spells = over_spells task.command old leaf.head leaf.is_row;
      room = h.seeks.spare.room;
    })

pub splits_first-requires : goal.splits_first-requires
splits_first-requires g c =
    let (k, r, h, there) = c.requires.faced in
    record { page = rw (c.find-old.ensures.same, c.writer-2.ensures) (seen_is_read (g.R.Rows.has c.args.rows.now c.args.pass.now) k c.args.places.now.writer.page h.page.in_hand.seen there) }

pub split_leaf-requires : goal.split_leaf-requires
split_leaf-requires g c =
    let (k, r, h, there) = c.requires.faced in
    let many = rw c.writer-2.ensures at (c.splits_first.ensures.many c.if-splits_first.true) in
    rw (c.splits_first.ensures.looks, c.find-old.ensures.same)
    (record { have = c.requires.have; faced = c.requires.faced; can = record { alive = h.page.alive; short = h.short; wide = many } })

pub returns-then-splits_first-clause-stands : goal.returns-then-splits_first-clause-stands
returns-then-splits_first-clause-stands g c parent k r below idle = c.split_leaf.ensures.stands k r below.at

pub returns-clause-stands : goal.returns-clause-stands
returns-clause-stands g c parent k r below idle =
    let h = below.at in
    let task = c.args.self.now in
    let leaf = c.args.places.now.writer.page in
    let key = command_key task.command in
    let old = chain_value leaf.chain key in
    let leaf_is : c.page-leaf.result.now ≡ leaf = c.page-leaf.ensures ∙ ap (λ (w : PlacedWrite). w.page) c.writer.ensures in
    let chain_is : c.chain.result.now ≡ chain_of leaf = c.chain.ensures ∙ ap chain_of leaf_is in
    let key_is : c.of-key.result ≡ key = c.of-key.ensures ∙ c.key.ensures ∙ ap command_key c.command.ensures in
    let old_is : c.find-old.result ≡ old = (rw (chain_is, key_is) at c.find-old.ensures.value) ∙ value_same (content_in leaf.chain key) in
    let replies : reply_of task.command old ≡ Some c.in-Some.reply = rw (← old_is, ← c.as_ref.ensures.value, ← c.command-2.ensures) (sym c.of.ensures ∙ c.in-Some.is) in
    let some : is_some (update_of 0 task.command old) ≡ true = rw (← old_is, ← c.as_ref-2.ensures.value, ← c.command-3.ensures, ← c.changes.ensures) c.if-not-changes.false in
    let made = c.chains_make_pages.ensures leaf.chain h.page.in_hand.sound.is_chain in
    let page = made.0 in
    let makes = made.1 in
    let ruled = made.2 in
    let due = update_due task.actor 0 task.command old some in
    let covered = within task c.args.spares.now k r leaf h c.requires.last in
    let room : old ≡ None → HasFewItems leaf.chain = room_there task c.args.spares.now k r leaf h c.requires.last (λ large none many.
    c.splits_first.ensures.few c.if-splits_first.false large (c.as_ref-3.ensures.value ∙ old_is ∙ none) (rw c.writer-2.ensures many)) in
    let few : content_at page.items key ≡ None → length page.items < 16 =
    λ absent. of_made leaf.chain page (λ items. length items < 16) makes (room (ap value_of (sym (makes.items.contents key) ∙ absent))) in
    let alive = h.page in
    let fits = over_fits leaf.chain page makes alive.alive h.level h.short (λ put. c.updates_fit.ensures.put leaf.chain page put makes ruled)
    (λ delete. c.updates_fit.ensures.delete leaf.chain page delete makes ruled)
    task.command old leaf.head some leaf.is_row covered few in
    c.begin_update.ensures.begun.stands k r (rw (c.update_over-update.ensures, c.as_ref-4.ensures.value, old_is, c.head.ensures, leaf_is) (record {
      seeks = h.seeks;
      writer = h.writer;
      may = record {
        inside = h.seeks.inside;
        links = c.plans_may_be_linked.ensures.update task.actor k leaf (update_over task.command old leaf.head) alive.in_hand.seen alive.alive
            (record {
              leaf = h.level;
              command = task.command;
              going = h.seeks.asked.going;
              unlinked = h.seeks.asked.unlinked;
              covers = covered;
              update = due.0;
              due = due.1;
              is = change_is task.actor task.command old due.0 leaf.head due.1;
            })
            fits;
      };
      keeps = over_kept task.command old leaf.head _;
      brings = record {
        pid = leaf.pid;
        head = leaf.head;
        content = update_over task.command old leaf.head;
        is = refl;
        updates = over_links task.command old leaf.head some;
        chain = leaf.chain;
        read = alive.in_hand.seen.read;
        leaf = h.level;
        short = h.short;
        room = room;
        alive = alive.alive;
        covers = covered;
        replies = replies;
      };
      useful = over_useful k task.command old leaf.head;
      split = tt;
      recalled = alive.recalled;
    }))

pub returns-then-not-changes-clause-stands : goal.returns-then-not-changes-clause-stands
returns-then-not-changes-clause-stands g c parent k r below idle =
    let task = c.args.self.now in
    let leaf = c.args.places.now.writer.page in
    let key = command_key task.command in
    let old = chain_value leaf.chain key in
    let leaf_is : c.page-leaf.result.now ≡ leaf = c.page-leaf.ensures ∙ ap (λ (w : PlacedWrite). w.page) c.writer.ensures in
    let chain_is : c.chain.result.now ≡ chain_of leaf = c.chain.ensures ∙ ap chain_of leaf_is in
    let key_is : c.of-key.result ≡ key = c.of-key.ensures ∙ c.key.ensures ∙ ap command_key c.command.ensures in
    let old_is : c.find-old.result ≡ old = (rw (chain_is, key_is) at c.find-old.ensures.value) ∙ value_same (content_in leaf.chain key) in
    let replies : reply_of task.command old ≡ Some c.in-Some.reply = rw (← old_is, ← c.as_ref.ensures.value, ← c.command-2.ensures) (sym c.of.ensures ∙ c.in-Some.is) in
    let none : is_some (update_of 0 task.command old) ≡ false = rw (← old_is, ← c.as_ref-2.ensures.value, ← c.command-3.ensures, ← c.changes.ensures) c.if-not-changes.true in
    rw c.leave-then-not-changes.ensures (answers_there task c.args.spares.now k r leaf below.at c.requires.last c.in-Some.reply replies none)

pub returns-in_default-clause-stands : goal.returns-in_default-clause-stands
returns-in_default-clause-stands g c parent k r below idle =
    let h = below.at in
    let task = c.args.self.now in
    let leaf = c.args.places.now.writer.page in
    rw (c.leave.ensures, c.bare.ensures) (
      record { inside = h.seeks.inside; spare = h.seeks.spare; going = h.seeks.asked.going },
      may_call task c.args.spares.now k r parent leaf c.find-old.result below idle c.requires.last (rw (← c.as_ref.ensures.value, ← c.command-2.ensures) (sym c.of.ensures ∙ c.in_default.is)),
      (λ is. cc),
    )

pub returns-clause-few : goal.returns-clause-few
returns-clause-few g c = c.begin_update.ensures.begun.few

pub returns-clause-asks : goal.returns-clause-asks
returns-clause-asks g c = c.begin_update.ensures.begun.asks

pub returns-clause-have : goal.returns-clause-have
returns-clause-have g c = record { reader = rw c.begin_update.ensures.reader c.requires.have.reader; writer = rw c.begin_update.ensures.writer c.requires.have.writer }

pub returns-then-not-changes-clause-few : goal.returns-then-not-changes-clause-few
returns-then-not-changes-clause-few g c r = rw c.leave-then-not-changes.ensures (omega arith)

pub returns-then-not-changes-clause-asks : goal.returns-then-not-changes-clause-asks
returns-then-not-changes-clause-asks g c = rw c.leave-then-not-changes.ensures refl

pub returns-then-not-changes-clause-have : goal.returns-then-not-changes-clause-have
returns-then-not-changes-clause-have g c = rw c.leave-then-not-changes.ensures (record { reader = c.requires.have.reader; writer = c.requires.have.writer })

pub returns-in_default-clause-few : goal.returns-in_default-clause-few
returns-in_default-clause-few g c r = rw c.leave.ensures (omega arith)

pub returns-in_default-clause-asks : goal.returns-in_default-clause-asks
returns-in_default-clause-asks g c = rw c.leave.ensures refl

pub returns-in_default-clause-have : goal.returns-in_default-clause-have
returns-in_default-clause-have g c = rw c.leave.ensures (record { reader = c.requires.have.reader; writer = c.requires.have.writer })

pub returns-clause-goes : goal.returns-clause-goes
returns-clause-goes g c parent = inr (inr (_, c.begin_update.ensures.begun.begins, inl (refl, refl)))

pub returns-then-not-changes-clause-goes : goal.returns-then-not-changes-clause-goes
returns-then-not-changes-clause-goes g c parent = rw c.leave-then-not-changes.ensures (inl refl)

pub returns-in_default-clause-goes : goal.returns-in_default-clause-goes
returns-in_default-clause-goes g c parent = rw c.leave.ensures (inl refl)
