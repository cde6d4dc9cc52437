use Rattle.std.proofs.lemmas.Result.{on_ok_weaker}
use Rattle.gv_lex.proofs.lexer.Lexer.put_piece.Goals as goal

pub returns-clause-puts : goal.returns-clause-puts
returns-clause-puts c = on_ok_weaker c.put_at.result (λ put later keeps.
    let name = c.in_ok-name.ensures.name later keeps in
    rw (name.text_is, c.as_str.ensures.value, c.piece_before.ensures, c.unwrap_or-place.ensures) at (put later name.within)) c.put_at.ensures
