use Rattle.std.proofs.Common.{◌<◌, [], ◌∷◌, ◌++◌, List, length, sym, ap, subst, ◌∙◌, arith, rules}
use Rattle.std.proofs.lemmas.List.{map-set, get_or-map, length-map}
use Rattle.std.proofs.lemmas.Iterator.Adapters.{YieldsList-from_vec}
use Rattle.std.proofs.lemmas.Iterator.Consumers.{YieldsList-turn}
use Rattle.bw_model.specs.declared.command.Command.{Command}
use Rattle.shell_lines.specs.declared.race_line.JobCommand.{JobCommand}
use Rattle.race.proofs.Listing.{one_listed}
use Rattle.race.proofs.jobs.lists_of.Goals as goal

pub loop-asks-preserved : goal.loop-asks-preserved
loop-asks-preserved c =
    let turn = YieldsList-turn (YieldsList-from_vec {s = c.into_iter-asks-iterator.result} c.args.asked.items (search rules) (search rules)) c.loop-asks.yielded
    c.loop-asks.asks-iterator c.loop-asks.yielded_by c.next.result c.next.new.self c.in-Some.asks c.in-Some.is c.next.ensures.steps in
    let low : c.in-Some.asks.job < 4096 = subst (λ (a : JobCommand). a.job < 4096) (sym turn.1) (c.requires (length c.loop-asks.yielded) c.in-Some.asks turn.0) in
    let many = length-map c.loop-asks.lists.items (λ list. list.items) in
    let own = ap (λ list. list.items) c.index_mut.ensures.value ∙ sym
    (get_or-map (λ list. list.items) c.loop-asks.lists.items c.in-Some.asks.job c.index_mut.result.now [] (omega (arith, low, many, c.loop-asks.invariant.count)))
    in
    rw (map-set (λ list. list.items) c.loop-asks.lists.items c.in-Some.asks.job c.push.new.self)
    (one_listed c.loop-asks.yielded _ c.in-Some.asks _ c.loop-asks.invariant low (c.in_ok-push.ensures.items ∙ ap (λ (l : List Command). l ++ c.in-Some.asks.command ∷ []) own))
