use Rattle.std.proofs.Common.{◌≡◌, List, ℕ, [], ◌∷◌, Option, Some, None, false, ◌∙◌, sym}
use Rattle.bw_model.specs.declared.command.Command.{Command}
use Rattle.structure_changes.specs.Versions.{Version}
use Rattle.op_machine.specs.machine.Errands.{tends_of}
use Rattle.op_machine.specs.machine.Upkeep.{IsIdleFor}
use Rattle.op_machine.proofs.task.Task.end_at_own_leaf.Goals as goal

-- nothing is due for a command that doesn't tidy
idle : (errands : List (List ℕ)) (command : Command) (parent : Option Version) (leaf : Version) → errands ≡ [] → tends_of errands command ≡ false → IsIdleFor command parent leaf
idle errands command None leaf none e = tt
idle [] command (Some parent) leaf none e = λ is. cc
idle (key ∷ errands) command (Some parent) leaf none e = cc

pub tend_leaf-requires : goal.tend_leaf-requires
tend_leaf-requires g c = record { have = c.requires.have; faced = c.requires.faced; last = c.requires.last }

pub execute_at_leaf-requires : goal.execute_at_leaf-requires
execute_at_leaf-requires g c = let (k, r, h, there) = c.requires.faced in record { have = c.requires.have; faced = (k, r, h.at, there); last = c.requires.last }

pub returns-clause-stands : goal.returns-clause-stands
returns-clause-stands g c k r h =
    let writer = c.args.places.now.writer in
    let task = c.args.self.now in
    c.execute_at_leaf.ensures.stands writer.round.parent k r h (idle task.errands task.command writer.round.parent writer.page c.requires.last (sym c.tends.ensures ∙ c.if-tends.false))

pub returns-clause-goes : goal.returns-clause-goes
returns-clause-goes g c = c.execute_at_leaf.ensures.goes c.args.places.now.writer.round.parent
