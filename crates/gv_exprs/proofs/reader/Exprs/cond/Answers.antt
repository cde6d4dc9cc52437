use Rattle.std.proofs.Common.{arith}
use Rattle.gv_grammar.proofs.Lengths.{no_more, of_bin}
use Rattle.gv_exprs.proofs.ResultsOperators.{reads_cond}
use Rattle.gv_exprs.proofs.reader.Exprs.cond.Goals as goal

pub cond_tail-requires-clause-within : goal.cond_tail-requires-clause-within
cond_tail-requires-clause-within g c = let a = no_more (of_bin c.args.self.now.all (c.in_ok-left.ensures.is)) in omega arith

pub returns : goal.returns
returns g c = reads_cond c.args.self.now.all _ _ _ c.cond_tail.result (c.in_ok-left.ensures) c.cond_tail.ensures
