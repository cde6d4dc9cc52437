use Rattle.std.proofs.Common.{length}
use Rattle.gv_exprs.proofs.reader.Exprs.+path_tail.Given as goal

abbrev pub decreases-path_tail : goal.decreases-path_tail
decreases-path_tail g l = length l.tokens.now.rest.now
