use Rattle.std.proofs.Common.{arith}
use Rattle.gv_grammar.proofs.Lengths.{no_more, of_cond}
use Rattle.gv_exprs.proofs.ResultsOperators.{reads_expr}
use Rattle.gv_exprs.proofs.reader.Exprs.expr.Goals as goal

pub expr_tail-requires-clause-within : goal.expr_tail-requires-clause-within
expr_tail-requires-clause-within g c = let a = no_more (of_cond c.args.self.now.all (c.in_ok-left.ensures.is)) in omega arith

pub returns : goal.returns
returns g c = reads_expr c.args.self.now.all _ _ _ c.expr_tail.result (c.in_ok-left.ensures) c.expr_tail.ensures
