use Rattle.std.proofs.Common.{◌+◌, ◌*◌, length}
use Rattle.gv_exprs.proofs.reader.Exprs.+binary.Given as goal

abbrev pub decreases-binary_tail : goal.decreases-binary_tail
decreases-binary_tail g l = 32 * length l.tokens.now.rest.now + l.tighter

abbrev pub decreases-binary : goal.decreases-binary
decreases-binary g l = 32 * length l.tokens.now.rest.now + l.level + 1
