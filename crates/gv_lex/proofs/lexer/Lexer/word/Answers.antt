use Rattle.std.proofs.Common.{refl}
use Rattle.std.proofs.lemmas.Result.{on_ok_weaker}
use Rattle.gv_lex.proofs.Putting.{follows_from}
use Rattle.gv_lex.proofs.lexer.Lexer.word.Goals as goal

pub returns-clause-follows : goal.returns-clause-follows
returns-clause-follows c = on_ok_weaker c.put.result (λ put later keeps.
    let name = c.in_ok-name.ensures.name later keeps in
    follows_from later c.args.self.now _ c.put.new.self _ refl refl (rw (name.text_is, c.ends_operand.ensures) at (put later name.within))) c.put.ensures
