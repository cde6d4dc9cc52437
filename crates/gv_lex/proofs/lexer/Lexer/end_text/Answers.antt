use Rattle.std.proofs.Common.{ℕ, List, [], ap, refl}
use Rattle.gv_lex.specs.declared.open.Here.TheVariants.{Between}
use Rattle.gv_lex.specs.Lexing.{State}
use Rattle.gv_lex.specs.Steps.{state_of}
use Rattle.gv_lex.proofs.Putting.{puts_sets}
use Rattle.gv_lex.proofs.lexer.Lexer.end_text.Goals as goal

pub returns-clause-follows : goal.returns-clause-follows
returns-clause-follows c =
    let set : List ℕ → State → State = λ so_far s. record s { here = Between; so_far = so_far; operand = c.args.operand } in
    λ later keeps. puts_sets later c.args.self.now c.put_piece.new.self _ _ (set []) (c.in_ok-put_piece.ensures.puts later keeps) refl refl (ap (λ so_far. set so_far (state_of c.put_piece.new.self)) c.clear.ensures.bytes)
