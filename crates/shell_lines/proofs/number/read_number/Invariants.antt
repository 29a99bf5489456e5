use Rattle.std.proofs.Common.{◌≡◌, ℕ, drop}
use Rattle.shell_lines.specs.Number.{number_after, up_to_most}
use Rattle.shell_lines.proofs.number.read_number.Given as goal

abbrev pub invariant-loop-c : goal.invariant-loop-c
invariant-loop-c l = (m : ℕ) × (l.n ≡ up_to_most m) × (number_after m (drop l.c-index l.text) ≡ number_after 0 l.text)
