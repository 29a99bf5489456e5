use Rattle.std.proofs.Common.{◌∙◌, ap, sym, List, ℕ, [], ◌++◌, append-nil}
use Rattle.std.specs.List.{flat_map}
use Rattle.bw_shell.specs.Lines.{lines_of, with_newline}
use Rattle.bw_shell.proofs.Feeding.{lines_whole, line_last}
use Rattle.bw_shell.proofs.lines.lines_are_exact.Goals as goal

pub returns-clause-whole : goal.returns-clause-whole
returns-clause-whole c = λ lines each. ap lines_of (sym (append-nil (flat_map with_newline lines))) ∙ lines_whole lines [] each ∙ append-nil lines

pub returns-clause-last : goal.returns-clause-last
returns-clause-last c = λ lines part each open_end some. lines_whole lines part each ∙ ap (λ (l : List (List ℕ)). lines ++ l) (line_last part open_end some)
