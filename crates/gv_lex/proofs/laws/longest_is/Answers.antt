use Rattle.gv_spelling.specs.Table.{between, inside}
use Rattle.gv_lex.proofs.Turning.{longest-is, is-longest}
use Rattle.gv_lex.proofs.laws.longest_is.Goals as goal

pub returns-clause-between : goal.returns-clause-between
returns-clause-between c = λ operand text what len. (is-longest (between operand) text what len, longest-is (between operand) text what len)

pub returns-clause-inside : goal.returns-clause-inside
returns-clause-inside c = λ quote text what len. (is-longest (inside quote) text what len, longest-is (inside quote) text what len)
