use Rattle.std.proofs.Common.{arith}
use Rattle.gv_grammar.proofs.Lengths.{no_more, of_primary}
use Rattle.gv_exprs.proofs.ResultsPaths.{reads_path}
use Rattle.gv_exprs.proofs.reader.Exprs.path.Goals as goal

pub path_tail-requires-clause-within : goal.path_tail-requires-clause-within
path_tail-requires-clause-within g c = let a = no_more (of_primary c.args.self.now.all (c.in_ok-left.ensures.is)) in omega arith

pub returns : goal.returns
returns g c = reads_path c.args.self.now.all _ _ _ c.path_tail.result (c.in_ok-left.ensures) c.path_tail.ensures
