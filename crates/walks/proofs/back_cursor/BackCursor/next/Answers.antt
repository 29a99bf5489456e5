use Rattle.bw_model.specs.declared.command.Command.TheVariants as command
use Rattle.walks.proofs.BackPaging.{back_ascends, back_has_shown, is_paged_back}
use Rattle.walks.proofs.back_cursor.BackCursor.next.Goals as goal

pub unreachable-requires : goal.unreachable-requires
unreachable-requires g c =
    let paged = is_paged_back c.args.self.now _ c.self.view_is c.args.seat.now c.run.new.seat c.in-Some.upto c.args.budget c.run.result c.in-Done.reply c.in-Some.is
    c.run.ensures.same c.requires.ready c.run.ensures.runs c.in-Done.is c.run.ensures.history in
    c.in_default-reply.not-BackPage paged.items paged.below paged.is

pub show-requires : goal.show-requires
show-requires g c = record {
  ascend = back_ascends c.args.self.now _ c.self.view_is c.args.seat.now c.run.new.seat c.in-Some.upto c.args.budget c.run.result c.in-Done.reply c.in-Some.is
      c.run.ensures.same c.requires.ready c.run.ensures.runs c.in-Done.is c.run.ensures.history c.in-BackPage.items c.in-BackPage.next c.in-BackPage.is;
}

pub returns-in-BackPage-clause-next : goal.returns-in-BackPage-clause-next
returns-in-BackPage-clause-next g c =
    back_has_shown c.args.self.now _ c.self.view_is c.args.seat.now c.run.new.seat c.in-Some.upto c.args.budget c.run.result c.in-Done.reply c.in-Some.is
    c.run.ensures.same c.requires.ready c.run.ensures.runs c.in-Done.is c.run.ensures.history c.show.new.self c.in-BackPage.items c.in-BackPage.next c.in-BackPage.is c.show.ensures
