use Rattle.seats.proofs.Fitting.{done_fits}
use Rattle.workers.proofs.UnderWay.{begun, done, ended, still}
use Rattle.workers.proofs.endings.run_to_end.Goals as goal

pub returns-in-Done-clause-goes : goal.returns-in-Done-clause-goes
returns-in-Done-clause-goes g c = done c.args.seat.now c.call.new.seat c.args.command _ c.call.result c.in-Done.reply c.call.ensures.same c.call.ensures.called c.in-Done.is

pub loop-init : goal.loop-init
loop-init g c = begun c.args.seat.now c.args.command _ c.call.result c.call.new.seat c.call.ensures.same c.call.ensures.called c.in_default.is

pub returns-in-Done-resume-clause-goes : goal.returns-in-Done-resume-clause-goes
returns-in-Done-resume-clause-goes g c =
    ended c.args.seat.now c.loop.seat c.resume.new.seat c.args.command _ c.resume.result c.in-Done-resume.reply c.loop.invariant c.resume.ensures.same c.resume.ensures.resumed c.in-Done-resume.is

pub loop-preserved : goal.loop-preserved
loop-preserved g c = still c.args.seat.now c.loop.seat c.resume.new.seat c.args.command _ c.resume.result c.loop.invariant c.resume.ensures.same c.resume.ensures.resumed c.in_default-resume.is

pub returns-in-Done-clause-fits : goal.returns-in-Done-clause-fits
returns-in-Done-clause-fits g c =
    done_fits c.args.command c.call.result c.in-Done.reply c.in-Done.is
    (c.seats_replies_fit.ensures.called c.args.seat.now c.call.new.seat c.args.command _ c.call.result c.call.ensures.history c.call.ensures.called)

pub returns-in-Done-resume-clause-fits : goal.returns-in-Done-resume-clause-fits
returns-in-Done-resume-clause-fits g c =
    done_fits c.args.command c.resume.result c.in-Done-resume.reply c.in-Done-resume.is
    (c.seats_replies_fit.ensures.resumed c.loop.seat c.resume.new.seat c.args.command _ c.resume.result c.resume.ensures.history c.loop.invariant.busy c.resume.ensures.resumed)
