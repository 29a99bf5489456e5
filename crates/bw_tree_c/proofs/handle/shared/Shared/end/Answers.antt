use Rattle.std.proofs.Common.{◌∙◌, inr, refl}
use Rattle.bw_tree_c.specs.declared.handle.slots.Inside.TheVariants as inside
use Rattle.bw_tree_c.proofs.Ending.{all_left, all_out, back_now, given_back, held_open, idle_out, mid_n, not_for_memory, refused_busy, refused_unfinished, told_so}
use Rattle.bw_tree_c.proofs.handle.shared.Shared.end.Goals as goal

pub take_out-requires-clause-closing : goal.take_out-requires-clause-closing
take_out-requires-clause-closing c = (c.requires.0, c.requires.1, inside.Nothing, mid_n c.args.self.now c.requires.0 c.requires.1 c.last.result c.last.ensures c.args.hand c.requires.2)

pub stop-requires : goal.stop-requires
stop-requires c = record {
  closing = (
    c.requires.0,
    c.requires.1,
    back_now c.args.self.now c.requires.0 c.requires.1 c.last.result c.last.ensures c.args.hand c.requires.2 c.in-Err.refusal c.take_out.new.hand c.in-Err.ensures.stopped,
  );
}

pub returns-in-Err-clause-told : goal.returns-in-Err-clause-told
returns-in-Err-clause-told c = inr (told_so c.args.self.now c.requires.0 c.requires.1 c.last.result c.last.ensures c.args.hand c.requires.2 c.in-Err.refusal c.take_out.new.hand
    c.in-Err.ensures.stopped c.stop.result.status (c.stop.ensures.status ∙ c.status.ensures))

pub returns-in-Err-clause-memory : goal.returns-in-Err-clause-memory
returns-in-Err-clause-memory c = λ told since may mid. not_for_memory c.args.self.now since may c.last.result c.last.ensures c.args.hand mid c.in-Err.refusal c.take_out.new.hand
    c.in-Err.ensures.stopped c.stop.result.status (c.stop.ensures.status ∙ c.status.ensures) _ told

pub returns-in-Err-clause-busy : goal.returns-in-Err-clause-busy
returns-in-Err-clause-busy c = λ told since may mid. refused_busy c.args.self.now since may c.last.result c.last.ensures c.args.hand mid c.in-Err.refusal c.take_out.new.hand
    c.in-Err.ensures.stopped c.stop.result.status (c.stop.ensures.status ∙ c.status.ensures) c.stop.result.receipt
    (c.stop.ensures.stopped since may (back_now c.args.self.now since may c.last.result c.last.ensures c.args.hand mid c.in-Err.refusal c.take_out.new.hand c.in-Err.ensures.stopped)) told

pub returns-in-Err-clause-unfinished : goal.returns-in-Err-clause-unfinished
returns-in-Err-clause-unfinished c = λ told since may mid. refused_unfinished c.args.self.now since may c.last.result c.last.ensures c.args.hand mid c.in-Err.refusal c.take_out.new.hand
    c.in-Err.ensures.stopped c.stop.result.status (c.stop.ensures.status ∙ c.status.ensures) c.stop.result.receipt
    (c.stop.ensures.stopped since may (back_now c.args.self.now since may c.last.result c.last.ensures c.args.hand mid c.in-Err.refusal c.take_out.new.hand c.in-Err.ensures.stopped)) told

pub give_back-requires : goal.give_back-requires
give_back-requires c = record {
  closing = (
    c.requires.0,
    c.requires.1,
    inside.Nothing,
    all_out c.args.self.now c.requires.0 c.requires.1 c.last.result c.last.ensures c.args.hand c.requires.2 c.take_out.new.hand c.in_default.ensures.ok,
  );
}

pub stop-requires-in_default-with_room : goal.stop-requires-in_default-with_room
stop-requires-in_default-with_room c = record {
  closing = (
    c.requires.0,
    c.requires.1,
    given_back c.args.self.now c.requires.0 c.requires.1 c.last.result c.last.ensures c.args.hand c.requires.2 c.take_out.new.hand c.in_default.ensures.ok c.give_back.new.hand
        c.give_back.ensures.back,
  );
}

pub returns-in_default-with_room-clause-memory : goal.returns-in_default-with_room-clause-memory
returns-in_default-with_room-clause-memory c = λ told since may mid. held_open c.args.self.now since c.give_back.new.hand inside.Nothing c.stop-in_default-with_room.result.receipt
    (c.stop-in_default-with_room.ensures.stopped since may (given_back c.args.self.now since may c.last.result c.last.ensures c.args.hand mid c.take_out.new.hand c.in_default.ensures.ok
    c.give_back.new.hand c.give_back.ensures.back))

pub gather_all-requires-clause-closing : goal.gather_all-requires-clause-closing
gather_all-requires-clause-closing c = (
  c.requires.0,
  c.requires.1,
  inside.Nothing,
  all_out c.args.self.now c.requires.0 c.requires.1 c.last.result c.last.ensures c.args.hand c.requires.2 c.take_out.new.hand c.in_default.ensures.ok,
)

pub gather_all-requires-clause-idle : goal.gather_all-requires-clause-idle
gather_all-requires-clause-idle c = idle_out c.args.self.now c.requires.0 c.requires.1 c.last.result c.last.ensures c.args.hand c.requires.2 c.take_out.new.hand c.in_default.ensures.ok
    (c.in_default.ensures.idle refl)

pub list-requires-clause-closing : goal.list-requires-clause-closing
list-requires-clause-closing c = (
  c.requires.0,
  c.requires.1,
  inside.Nothing,
  all_left c.args.self.now c.requires.0 c.requires.1 c.last.result c.last.ensures c.args.hand c.requires.2 c.take_out.new.hand c.in_default.ensures.ok c.gather_all.new.hand
      c.gather_all.ensures.all,
)

pub returns-clause-ok : goal.returns-clause-ok
returns-clause-ok c = λ told since may mid. c.list.ensures.ok told since may inside.Nothing (all_left c.args.self.now since may c.last.result c.last.ensures c.args.hand mid
    c.take_out.new.hand c.in_default.ensures.ok c.gather_all.new.hand c.gather_all.ensures.all)

pub returns-clause-more : goal.returns-clause-more
returns-clause-more c = λ told since may mid. c.list.ensures.more told since may inside.Nothing (all_left c.args.self.now since may c.last.result c.last.ensures c.args.hand mid
    c.take_out.new.hand c.in_default.ensures.ok c.gather_all.new.hand c.gather_all.ensures.all)

pub returns-clause-memory : goal.returns-clause-memory
returns-clause-memory c = λ told since may mid. c.list.ensures.memory told since may inside.Nothing (all_left c.args.self.now since may c.last.result c.last.ensures c.args.hand mid
    c.take_out.new.hand c.in_default.ensures.ok c.gather_all.new.hand c.gather_all.ensures.all)
