use Rattle.running_tree.specs.Calls.{called_if}
use Rattle.running_tree.specs.Seats.{unfinished_command}
use Rattle.seats.proofs.Fitting.{each_fits}
use Rattle.seats.proofs.replies.resumed_in.Goals as goal

pub returns-clause-fits : goal.returns-clause-fits
returns-clause-fits c = let called = called_if c.resume_in.result c.resume_in.new.reply in each_fits (unfinished_command c.args.seat.now) called
    (λ command has. c.seats_replies_fit.ensures.resumed c.args.seat.now c.resume_in.new.seat command c.args.budget called c.resume_in.ensures.history has c.resume_in.ensures.resumed)
