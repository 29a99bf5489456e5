use Rattle.running_tree.proofs.lawful_runs.runs_keep_rows_apart.Goals as goal

pub returns : goal.returns
returns c = λ limits. record {
  one_owner = λ actor other row run law own others. (c.rows_are_apart.ensures limits run law.state).one_owner actor other row own.1 others.1;
  unread = λ actor other row run law own learnt. (c.rows_are_apart.ensures limits run law.state).unlearnt actor other row own.1 learnt.1;
  placed = λ actor row run law learnt. (c.rows_are_apart.ensures limits run law.state).placed actor row learnt.1;
  stands = λ actor row content run law seen. (c.rows_are_apart.ensures limits run law.state).stands actor row content seen;
}
