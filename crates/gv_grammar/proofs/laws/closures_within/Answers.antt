use Rattle.gv_grammar.proofs.Places.{expr_within, full_within}
use Rattle.gv_grammar.proofs.laws.closures_within.Goals as goal

pub returns-clause-exprs : goal.returns-clause-exprs
returns-clause-exprs c = λ all x ts rest d. expr_within all d

pub returns-clause-fulls : goal.returns-clause-fulls
returns-clause-fulls c = λ all x ts rest d. full_within all d
