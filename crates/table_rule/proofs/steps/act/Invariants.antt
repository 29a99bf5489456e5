use Rattle.std.specs.Prelude.{option_copied}
use Rattle.bw_model.specs.Lent.{step_of_loan}
use Rattle.table_rule.proofs.steps.act.Given as goal

abbrev pub ghosts-act_told : goal.ghosts-act_told
ghosts-act_told g a = record { step = step_of_loan a.step.now; begun = option_copied a.begun; reply = option_copied a.reply }
