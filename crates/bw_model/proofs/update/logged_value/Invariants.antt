use Rattle.std.proofs.Common.{◌≡◌, option_copied, take}
use Rattle.bw_model.specs.Log.{logged_value}
use Rattle.bw_model.proofs.update.logged_value.Given as goal

abbrev pub invariant-loop-update : goal.invariant-loop-update
invariant-loop-update l = option_copied l.found ≡ logged_value (take l.update-index l.log) l.key
