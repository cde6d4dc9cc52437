use Rattle.std.proofs.Common.{arith}
use Rattle.gv_code.proofs.Bounds.{bounded_one_more}
use Rattle.gv_code.proofs.builder.PieceBuilder.guard.Goals as goal

pub invariant_of-result-2 : goal.invariant_of-result-2
invariant_of-result-2 c = bounded_one_more _ _ _ _ c.in_ok-push.ensures.items c.self.invariant (omega arith) (omega (arith, c.len-end.ensures)) (omega (arith, c.len-end.ensures))
