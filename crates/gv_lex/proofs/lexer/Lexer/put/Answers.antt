use Rattle.std.proofs.Common.{refl}
use Rattle.gv_lex.specs.Lexing.{State}
use Rattle.gv_lex.proofs.Putting.{puts_sets}
use Rattle.gv_lex.proofs.lexer.Lexer.put.Goals as goal

pub returns : goal.returns
returns c = λ names named. puts_sets names c.args.self.now c.put_at.new.self _ _ (λ (s : State). record s { operand = c.args.operand }) (c.in_ok-put_at.ensures names named) refl refl refl
