use Rattle.std.proofs.Common.{List, length}
use Rattle.gv_lex.specs.declared.token.Token.{Token}
use Rattle.gv_blocks.proofs.TryStmts.{CarriesTypes}
use Rattle.gv_blocks.proofs.catches.may_types.Given as goal

abbrev pub invariant-loop-written : goal.invariant-loop-written
invariant-loop-written l = (tokens : List Token) → CarriesTypes tokens l.types l.fn.cursor.rest.now l.cursor.rest.now

abbrev pub decreases-loop-written : goal.decreases-loop-written
decreases-loop-written l = length l.cursor.rest.now
