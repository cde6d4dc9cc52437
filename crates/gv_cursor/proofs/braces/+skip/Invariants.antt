use Rattle.std.proofs.Common.{length}
use Rattle.gv_cursor.proofs.Skips.{Reaches}
use Rattle.gv_cursor.proofs.braces.+skip.Given as goal

abbrev pub decreases-skip : goal.decreases-skip
decreases-skip l = length l.tokens.now.rest.now

abbrev pub invariant-loop-kind : goal.invariant-loop-kind
invariant-loop-kind l = Reaches l.initial.tokens.rest.now l.tokens.rest.now

abbrev pub decreases-loop-kind : goal.decreases-loop-kind
decreases-loop-kind l = length l.tokens.rest.now
