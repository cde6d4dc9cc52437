use Rattle.std.proofs.Common.{arith}
use Rattle.gv_code.proofs.Bounds.{bounded_at}
use Rattle.gv_code.proofs.builder.shift_all.Goals as goal

pub shift-requires-clause-from : goal.shift-requires-clause-from
shift-requires-clause-from c = let h = bounded_at c.args.end c.loop-h.h-index c.args.more.now (record { from = 0; to = 0; class = 0; target = 0; kept = 0 }) c.requires.bounded (omega arith) in omega (arith, h.from)

pub shift-requires-clause-to : goal.shift-requires-clause-to
shift-requires-clause-to c = let h = bounded_at c.args.end c.loop-h.h-index c.args.more.now (record { from = 0; to = 0; class = 0; target = 0; kept = 0 }) c.requires.bounded (omega arith) in omega (arith, h.to)

pub shift-requires-clause-target : goal.shift-requires-clause-target
shift-requires-clause-target c = let h = bounded_at c.args.end c.loop-h.h-index c.args.more.now (record { from = 0; to = 0; class = 0; target = 0; kept = 0 }) c.requires.bounded (omega arith) in omega (arith, h.target)
