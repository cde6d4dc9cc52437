use Rattle.std.proofs.Common.{length}
use Rattle.gv_exprs.proofs.reader.Exprs.+names.Given as goal

abbrev pub decreases-names : goal.decreases-names
decreases-names g l = length l.tokens.now.rest.now
