use Rattle.gv_grammar.proofs.Lengths.{of_expr, of_cond, of_unary, of_path, of_primary}
use Rattle.gv_grammar.proofs.laws.takes_tokens.Goals as goal

pub returns-clause-exprs : goal.returns-clause-exprs
returns-clause-exprs c = λ all x ts rest d. of_expr all d

pub returns-clause-conditions : goal.returns-clause-conditions
returns-clause-conditions c = λ all x ts rest d. of_cond all d

pub returns-clause-units : goal.returns-clause-units
returns-clause-units c = λ all x ts rest d. of_unary all d

pub returns-clause-paths : goal.returns-clause-paths
returns-clause-paths c = λ all x ts rest d. of_path all d

pub returns-clause-primaries : goal.returns-clause-primaries
returns-clause-primaries c = λ all x ts rest d. of_primary all d
