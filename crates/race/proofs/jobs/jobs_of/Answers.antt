use Rattle.std.proofs.Common.{◌≡◌, ◌<◌, [], map, length, sym, ap, ◌∙◌, arith, rules, slice_index_or, refl}
use Rattle.std.proofs.lemmas.List.{get_or-map, length-map, length_push}
use Rattle.std.proofs.lemmas.Iterator.Adapters.{YieldsList-from_vec}
use Rattle.std.proofs.lemmas.Iterator.Consumers.{YieldsList-turn, YieldsList-end}
use Rattle.race.specs.Jobs.{commands_of}
use Rattle.race.proofs.Grouping.{no_jobs, all_jobs, next_number}
use Rattle.race.proofs.jobs.jobs_of.Goals as goal

pub loop-commands-init : goal.loop-commands-init
loop-commands-init c = record { count = refl; jobs = rw c.new-jobs.ensures.items (no_jobs c.args.asked.items) }

pub loop-commands-preserved : goal.loop-commands-preserved
loop-commands-preserved c =
    let inv = c.loop-commands.invariant in
    let lists = c.in_ok-lists.ensures in
    let turn = YieldsList-turn (YieldsList-from_vec {s = c.into_iter-commands-iterator.result} c.in_ok-lists.lists.items (search rules) (search rules))
    c.loop-commands.yielded c.loop-commands.commands-iterator c.loop-commands.yielded_by c.next.result c.next.new.self c.in-Some.commands c.in-Some.is
    c.next.ensures.steps in
    let many = length-map c.in_ok-lists.lists.items (λ list. list.items) in
    let low : c.loop-commands.number < 4096 = omega (arith, turn.0, many, lists.count, inv.count) in
    let own : c.in-Some.commands.items ≡ commands_of c.loop-commands.number c.args.asked.items =
    ap (λ list. list.items) turn.1
    ∙ sym (get_or-map (λ list. list.items) c.in_ok-lists.lists.items (length c.loop-commands.yielded) c.in-Some.commands [] turn.0)
    ∙ ap (λ n. slice_index_or (map (λ list. list.items) c.in_ok-lists.lists.items) n []) (sym inv.count)
    ∙ lists.each c.loop-commands.number low in
    record {
      count = omega (arith, inv.count, length_push c.loop-commands.yielded c.in-Some.commands);
      jobs = next_number c.args.asked.items c.loop-commands.number c.loop-commands.jobs.items c.in-Some.commands.items _ inv.jobs own (search rules);
    }

pub returns : goal.returns
returns c =
    let inv = c.loop-commands.invariant in
    let end = YieldsList-end (YieldsList-from_vec {s = c.into_iter-commands-iterator.result} c.in_ok-lists.lists.items (search rules) (search rules))
    c.loop-commands.yielded c.loop-commands.commands-iterator c.loop-commands.yielded_by c.next.result c.next.new.self c.in-None.is c.next.ensures.steps
    in
    let many = length-map c.in_ok-lists.lists.items (λ list. list.items) in
    let all : c.loop-commands.number ≡ 4096 = omega (arith, inv.count, end.1, many, c.in_ok-lists.ensures.count) in
    all_jobs c.args.asked.items c.loop-commands.jobs.items (rw all at inv.jobs) c.requires
