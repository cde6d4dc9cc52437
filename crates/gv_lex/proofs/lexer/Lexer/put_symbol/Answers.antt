use Rattle.std.proofs.lemmas.Result.{on_ok_weaker}
use Rattle.gv_lex.proofs.lexer.Lexer.put_symbol.Goals as goal

pub returns : goal.returns
returns c = on_ok_weaker c.put.result (λ put names. rw c.symbol_ends_operand.ensures at (put names tt)) c.put.ensures
