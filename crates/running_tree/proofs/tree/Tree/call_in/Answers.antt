use Rattle.running_tree.specs.Calls.{called_if}
use Rattle.running_tree.proofs.Going.{call_so}
use Rattle.running_tree.proofs.tree.Tree.call_in.Goals as goal

pub returns-clause-called : goal.returns-clause-called
returns-clause-called g c =
    call_so c.args.seat.now c.begin.new.self c.args.command c.begin.ensures.same c.begin.ensures.begins c.args.budget c.requires.some c.go_on-done.new.self
    (called_if c.go_on-done.result c.go_on-done.new.reply) c.go_on-done.ensures.goes
