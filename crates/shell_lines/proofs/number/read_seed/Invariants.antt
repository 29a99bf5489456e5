use Rattle.std.proofs.Common.{◌≡◌, ◌<◌, ◌^◌, drop}
use Rattle.shell_lines.specs.Number.{number_after}
use Rattle.shell_lines.proofs.number.read_seed.Given as goal

abbrev pub invariant-loop-c : goal.invariant-loop-c
invariant-loop-c l = (number_after l.n (drop l.c-index l.text) ≡ number_after 0 l.text) × (l.n < 2 ^ 64)
