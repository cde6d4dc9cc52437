use Rattle.std.proofs.Common.{length}
use Rattle.gv_blocks.proofs.TryStmts.{CarriesCatches}
use Rattle.gv_blocks.proofs.reader.Blocks.catches.Given as goal

abbrev pub invariant-loop-catches : goal.invariant-loop-catches
invariant-loop-catches g l = CarriesCatches l.self.values.tokens.now l.catches l.fn.cursor.rest.now l.cursor.rest.now

abbrev pub decreases-loop-catches : goal.decreases-loop-catches
decreases-loop-catches g l = length l.cursor.rest.now
