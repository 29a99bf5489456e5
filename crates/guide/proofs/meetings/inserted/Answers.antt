use Rattle.std.proofs.Common.{◌≡◌, ◌∙◌, [], Contains, Ok, Some, subst, sym}
use Rattle.std.proofs.lemmas.List.Elements.{Contains-push}
use Rattle.bw_model.specs.declared.command.Command.TheVariants as command
use Rattle.bw_model.specs.declared.command.Reply.{Reply}
use Rattle.running_tree.specs.Calls.{calls_in}
use Rattle.running_tree.specs.Seats.{Seat}
use Rattle.guide.specs.declared.meetings.Inserts.{Inserts}
use Rattle.guide.proofs.Made.{all_have}
use Rattle.guide.proofs.meetings.inserted.Goals as goal

pub returns-in-Ok-clause-made : goal.returns-in-Ok-clause-made
returns-in-Ok-clause-made g c =
    all_have c.in-Ok.ensures.done (λ (work : Inserts) (seat : Seat). (reply : Reply) → work.told ≡ Some (Ok reply) → Contains (calls_in seat) (command.Insert work.key [], Some reply))
    (λ given before done left after does on reply told. subst (λ calls. Contains calls (command.Insert done.key [], Some reply))
    (sym (on.calls ∙ does reply told)) (Contains-push (calls_in before) (command.Insert done.key [], Some reply)))
