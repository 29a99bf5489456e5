-- The status of a run.
use Rattle.std.proofs.Common.{◌≡◌, ◌⊎◌, ℕ, List, Bool, Option}
use Rattle.tree_limits.specs.declared.limits.Limits.{Limits}
use Rattle.shell_options.specs.declared.settings.Program.{Program}
use Rattle.shell_options.specs.declared.settings.Program.TheVariants.{Script, Weave, Draw, Film, Race}
use Rattle.bwtree.specs.Runs.{IsProgramRun}

-- Each program ends with 0 or 1.
pub ends_with_0_or_1 : (program : Program) → (limits : Limits) → (in_old in_new : Option (List ℕ)) → (read_failed : Bool) → (out_old out_new : Option (List ℕ))
    → (write_failed : Bool) → (status : ℕ) → IsProgramRun program limits in_old in_new read_failed out_old out_new write_failed status
    → (status ≡ 0) ⊎ (status ≡ 1)
ends_with_0_or_1 Script _ _ _ _ _ _ _ _ run = run.status_else
ends_with_0_or_1 Weave _ _ _ _ _ _ _ _ run = run.status_else
ends_with_0_or_1 Draw _ _ _ _ _ _ _ _ run = run.status_else
ends_with_0_or_1 Film _ _ _ _ _ _ _ _ run = run.status_else
ends_with_0_or_1 Race _ _ _ _ _ _ _ _ run = run.status_else
