use Rattle.std.proofs.Common.{◌≡◌, take, drop}
use Rattle.shell_lines.specs.Fields.{fields_of}
use Rattle.shell_lines.proofs.Splits.{prepend}
use Rattle.shell_lines.proofs.fields.next_field.Given as goal

abbrev pub invariant-loop-i : goal.invariant-loop-i
invariant-loop-i l = prepend (take l.i l.text) (fields_of (drop l.i l.text)) ≡ fields_of l.text
