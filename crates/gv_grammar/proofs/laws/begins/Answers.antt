use Rattle.gv_grammar.proofs.Firsts.{expr_begins}
use Rattle.gv_grammar.proofs.Starts.{begun}
use Rattle.gv_grammar.proofs.laws.begins.Goals as goal

pub returns-clause-only : goal.returns-clause-only
returns-clause-only c = λ all x t ts rest d. expr_begins all d

pub returns-clause-each : goal.returns-clause-each
returns-clause-each c = λ all t h. begun all t h
