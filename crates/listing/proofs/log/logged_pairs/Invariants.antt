use Rattle.listing.proofs.Words.{◌≡◌, ℕ, List, take, None, option_copied, key_cmp, is_in_range}
use Rattle.std.proofs.Common.{if◌then◌else◌}
use Rattle.std.specs.BTreeMap.{IsOrdered, get}
use Rattle.bw_model.specs.Log.{logged_value}
use Rattle.listing.proofs.log.logged_pairs.Given as goal

abbrev pub invariant-loop-update : goal.invariant-loop-update
invariant-loop-update l = record {
  ordered : IsOrdered key_cmp l.values;
  says : (key : List ℕ) → get key_cmp l.values key ≡ (if is_in_range l.low (option_copied l.high) key then logged_value (take l.update-index l.log) key else None);
}
