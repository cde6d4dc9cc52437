use Rattle.gv_grammar.proofs.Meets.{meet_expr, meet_cond, meet_bin, meet_unary, meet_path}
use Rattle.gv_grammar.proofs.laws.readings_meet.Goals as goal

pub returns-clause-exprs : goal.returns-clause-exprs
returns-clause-exprs c = λ all x y ts us vs d d2. meet_expr all d d2

pub returns-clause-conditions : goal.returns-clause-conditions
returns-clause-conditions c = λ all x y ts us vs d d2. meet_cond all d d2

pub returns-clause-binaries : goal.returns-clause-binaries
returns-clause-binaries c = λ all n x y ts us vs d d2. meet_bin all d d2

pub returns-clause-units : goal.returns-clause-units
returns-clause-units c = λ all x y ts us vs d d2. meet_unary all d d2

pub returns-clause-paths : goal.returns-clause-paths
returns-clause-paths c = λ all x y ts us vs d d2. meet_path all d d2
