use Rattle.std.proofs.Common.{[], Some, refl}
use Rattle.gv_lex.specs.declared.open.Here.TheVariants.{Inside}
use Rattle.gv_lex.specs.Lexing.{State}
use Rattle.gv_lex.specs.Places.{past}
use Rattle.gv_lex.proofs.Putting.{puts_then, puts_sets}
use Rattle.gv_lex.proofs.Told.{keeps_more}
use Rattle.gv_lex.proofs.lexer.Lexer.path.Goals as goal

pub returns-clause-follows : goal.returns-clause-follows
returns-clause-follows c =
    let old = c.args.self.now in
    let new = c.put_at.new.self in
    let behind = past old.place c.args.text.now in
    let set : State → State = λ s. record s { here = Inside (record c.args.opened { behind = Some behind }); so_far = [] } in
    λ later keeps.
    let piece = c.in_ok-put_piece.ensures.puts later (keeps_more c.put_piece.new.names c.put_words.new.names later c.in_ok-put_words.ensures.names keeps) in
    let words = rw (c.next_column-start.ensures, c.back.ensures) at (c.in_ok-put_words.ensures.puts later keeps) in
    let end = rw c.past-behind.ensures.value at (c.in_ok-put_at.ensures later tt) in
    puts_sets later old new _ _ set
    (puts_then later old c.put_piece.new.self new _ _ piece (puts_then later c.put_piece.new.self c.put_words.new.self new _ _ words end))
    refl refl (rw (c.clear.ensures.bytes, c.past-behind.ensures.value) refl)
