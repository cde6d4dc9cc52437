use Rattle.std.proofs.Common.{length}
use Rattle.gv_exprs.proofs.top.+top.Given as goal

abbrev pub decreases-top : goal.decreases-top
decreases-top l = length l.tokens.now.rest.now
