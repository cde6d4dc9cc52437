use Rattle.gv_grammar.specs.Stmts.{by_line}
use Rattle.gv_blocks.proofs.WordSteps.{separated}
use Rattle.gv_blocks.proofs.words.separates.Goals as goal

pub returns-then-eat_line : goal.returns-then-eat_line
returns-then-eat_line c = by_line (c.if-eat_line.ensures)

pub returns : goal.returns
returns c = separated c.eat.result _ (c.if-eat_line.ensures.0) (c.if-eat_line.ensures.1) (c.eat.ensures)
