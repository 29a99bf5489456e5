-- What is printed of results.
use Rattle.std.specs.Prelude.{ℕ, List, ◌++◌, decimal}
use Rattle.std.specs.List.{flat_map}
use Rattle.std.specs.Global.{Global}
use Rattle.bw_model.specs.declared.command.Reply.{Reply}
use Rattle.workers.specs.declared.job.JobResult.{JobResult}
use Rattle.bw_shell.specs.Text.{reply_text}

-- a job's number and a reply, on a line
abbrev pub job_reply_text : ℕ → Reply → List ℕ
job_reply_text job reply = decimal job ++ reply_text reply

-- a line for each reply of a job, in the order of its commands
abbrev pub result_text : JobResult Global → List ℕ
result_text result = flat_map (job_reply_text result.job) result.replies.items

abbrev pub results_text : List (JobResult Global) → List ℕ
results_text results = flat_map result_text results
