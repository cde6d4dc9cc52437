use Rattle.std.proofs.Common.{length}
use Rattle.gv_blocks.proofs.SwitchStmts.{CarriesParted, CarriesCases}
use Rattle.gv_blocks.proofs.reader.Blocks.cases.Given as goal

abbrev pub invariant-loop : goal.invariant-loop
invariant-loop g l = CarriesParted l.self.values.tokens.now l.fn.cursor.rest.now l.cursor.rest.now

abbrev pub decreases-loop : goal.decreases-loop
decreases-loop g l = length l.cursor.rest.now

abbrev pub invariant-loop-cases : goal.invariant-loop-cases
invariant-loop-cases g l = CarriesCases l.self.values.tokens.now l.cases l.fn.cursor.rest.now l.cursor.rest.now

abbrev pub decreases-loop-cases : goal.decreases-loop-cases
decreases-loop-cases g l = length l.cursor.rest.now
