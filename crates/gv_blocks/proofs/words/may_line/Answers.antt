use Rattle.gv_grammar.specs.Stmts.{a_line}
use Rattle.gv_blocks.proofs.WordSteps.{line_ends}
use Rattle.gv_blocks.proofs.words.may_line.Goals as goal

pub loop-preserved : goal.loop-preserved
loop-preserved c = λ after d. c.loop.invariant after (a_line (c.loop-test.ensures) d)

pub returns : goal.returns
returns c = c.loop.invariant _ (line_ends (c.loop-test.ensures.0) (c.loop-test.ensures.1))
