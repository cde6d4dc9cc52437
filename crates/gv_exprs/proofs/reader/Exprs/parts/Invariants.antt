use Rattle.std.proofs.Common.{length}
use Rattle.gv_exprs.proofs.ResultsStrings.{Completes}
use Rattle.gv_exprs.proofs.reader.Exprs.parts.Given as goal

abbrev pub invariant-loop-parts : goal.invariant-loop-parts
invariant-loop-parts g l = Completes l.self.all l.fn.form l.next l.parts l.initial.tokens.rest.now l.tokens.rest.now

abbrev pub decreases-loop-parts : goal.decreases-loop-parts
decreases-loop-parts g l = length l.tokens.rest.now
