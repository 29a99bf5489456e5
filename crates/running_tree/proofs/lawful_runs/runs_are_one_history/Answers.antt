use Rattle.running_tree.proofs.lawful_runs.runs_are_one_history.Goals as goal

pub returns : goal.returns
returns c limits run seen =
    let state = seen.lawful.state in
    let phases = c.keeps_phases.ensures limits run state in
    record {
      linearized = c.is_one_map.ensures limits run state;
      orderly = record {
        phases = phases;
        index = c.index_is_exact.ensures limits run state;
        direct = seen.lawful.direct.direct;
        few_changes = seen.lawful.paid.few;
        progress = c.runs_make_progress.ensures limits run state.run seen.lawful.direct.direct seen.lawful.readers.ends seen.lawful.writers.seldom seen.lawful.paid.few;
        readers = seen.lawful.readers.ends;
        until_removal = c.runs_progress_until_removal.ensures limits run state.run phases seen.lawful.direct.direct seen.lawful.paid.few;
        freed = c.frees_by_rule.ensures limits run state;
      };
      begins = seen.begins;
    }
