use Rattle.shell_lines.proofs.Splits.{prepend_none}
use Rattle.shell_lines.proofs.fields.next_field.Goals as goal

pub loop-i-init : goal.loop-i-init
loop-i-init c = prepend_none c.in_ok-text.text.now
