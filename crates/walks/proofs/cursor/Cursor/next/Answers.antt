use Rattle.bw_model.specs.declared.command.Command.TheVariants as command
use Rattle.walks.proofs.Paging.{has_shown, is_paged, items_ascend}
use Rattle.walks.proofs.cursor.Cursor.next.Goals as goal

pub unreachable-requires : goal.unreachable-requires
unreachable-requires g c =
    let paged = is_paged c.args.self.now _ c.self.view_is c.args.seat.now c.run.new.seat c.in-Some.from c.args.budget c.run.result c.in-Done.reply c.in-Some.is
    c.run.ensures.same c.requires.ready c.run.ensures.runs c.in-Done.is c.run.ensures.history in
    c.in_default-reply.not-Page paged.items paged.high paged.is

pub show-requires : goal.show-requires
show-requires g c = record {
  ascend = items_ascend c.args.self.now _ c.self.view_is c.args.seat.now c.run.new.seat c.in-Some.from c.args.budget c.run.result c.in-Done.reply c.in-Some.is
      c.run.ensures.same c.requires.ready c.run.ensures.runs c.in-Done.is c.run.ensures.history c.in-Page.items c.in-Page.next c.in-Page.is;
}

pub returns-in-Page-clause-next : goal.returns-in-Page-clause-next
returns-in-Page-clause-next g c =
    has_shown c.args.self.now _ c.self.view_is c.args.seat.now c.run.new.seat c.in-Some.from c.args.budget c.run.result c.in-Done.reply c.in-Some.is
    c.run.ensures.same c.requires.ready c.run.ensures.runs c.in-Done.is c.run.ensures.history c.show.new.self c.in-Page.items c.in-Page.next c.in-Page.is c.show.ensures
