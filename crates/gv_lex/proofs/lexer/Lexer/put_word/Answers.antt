use Rattle.std.proofs.Common.{refl}
use Rattle.std.proofs.lemmas.Result.{on_ok_weaker}
use Rattle.gv_lex.proofs.Putting.{puts_from}
use Rattle.gv_lex.proofs.lexer.Lexer.put_word.Goals as goal

pub returns-clause-puts : goal.returns-clause-puts
returns-clause-puts c = on_ok_weaker c.put_at.result (λ put later keeps.
    let name = c.in_ok-name.ensures.name later keeps in
    puts_from later c.args.self.now _ c.put_at.new.self _ refl refl refl (rw (name.text_is, c.as_word.ensures, c.word_of.ensures) at (put later name.within))) c.put_at.ensures
