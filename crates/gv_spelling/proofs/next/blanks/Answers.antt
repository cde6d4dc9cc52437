use Rattle.std.proofs.Common.{arith}
use Rattle.gv_spelling.specs.declared.classes.Class.TheVariants as class
use Rattle.gv_spelling.specs.declared.kinds.Lexeme.TheVariants as lexeme
use Rattle.gv_spelling.specs.Table.{is_in}
use Rattle.gv_spelling.proofs.Longest.{run_longest}
use Rattle.gv_spelling.proofs.next.blanks.Goals as goal

pub returns : goal.returns
returns c = rw (c.past.ensures.value) (run_longest (is_in class.Blank) (λ _. lexeme.Space) 1 c.args.text.now (omega arith) (omega (arith, c.requires)))
