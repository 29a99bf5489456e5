use Rattle.shell_lines.proofs.Tokens.{printed_means, one_meaning, value_means, means_value}
use Rattle.shell_lines.proofs.token.tokens_are_exact.Goals as goal

pub returns-clause-printed : goal.returns-clause-printed
returns-clause-printed c = printed_means

pub returns-clause-one : goal.returns-clause-one
returns-clause-one c = one_meaning

pub returns-clause-read : goal.returns-clause-read
returns-clause-read c = λ token bytes. (value_means token bytes, means_value token bytes)
