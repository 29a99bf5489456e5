use Rattle.running_tree.specs.Seats.{unfinished_command}
use Rattle.seats.proofs.Fitting.{each_fits}
use Rattle.seats.proofs.replies.resumed.Goals as goal

pub returns-clause-fits : goal.returns-clause-fits
returns-clause-fits c = each_fits (unfinished_command c.args.seat.now) c.resume.result
    (λ command has. c.seats_replies_fit.ensures.resumed c.args.seat.now c.resume.new.seat command c.args.budget c.resume.result c.resume.ensures.history has c.resume.ensures.resumed)
