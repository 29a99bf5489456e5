use Rattle.std.proofs.Common.{◌≡◌, ◌+◌, ◌*◌, ◌-◌, ◌++◌, drop, length}
use Rattle.widening.specs.Spread.{first_field, spread_fields}
use Rattle.widening.proofs.spread.push_fields.Given as goal

abbrev pub invariant-loop-place : goal.invariant-loop-place
invariant-loop-place l = record {
  written : l.wide.items ++ spread_fields (l.count - l.place) (drop (first_field * l.place) l.words) ≡ l.initial.wide.items ++ spread_fields l.count l.words;
  counts : length l.wide.items ≡ length l.initial.wide.items + 9 * l.place;
}
