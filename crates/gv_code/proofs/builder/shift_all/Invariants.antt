use Rattle.std.proofs.Common.{◌≡◌, take, map, ◌++◌}
use Rattle.gv_code.specs.Pieces.{shifted}
use Rattle.gv_code.proofs.builder.shift_all.Given as goal

abbrev pub invariant-loop-h : goal.invariant-loop-h
invariant-loop-h l = l.handlers.items ≡ l.fn.handlers.items ++ map (shifted l.n) (take l.h-index l.more)
