use Rattle.std.proofs.Common.{◌≡◌, ◌∙◌, length, ap, refl, arith}
use Rattle.std.proofs.lemmas.List.{length-take-le}
use Rattle.gv_lex.specs.Steps.{state_of}
use Rattle.gv_lex.proofs.Putting.{follows_placed}
use Rattle.gv_lex.proofs.Turning.{turn-inside}
use Rattle.gv_lex.proofs.lexer.Lexer.turn_inside.Goals as goal

pub returns-clause-turns : goal.returns-clause-turns
returns-clause-turns c =
    let text = c.args.text.now in
    let len = c.inside-what.result.1 in
    let short : length c.front-spelling.result.now ≡ len = ap length c.front-spelling.ensures ∙ length-take-le len text c.inside-what.ensures.within in
    record {
      some = c.inside-what.ensures.some;
      within = c.inside-what.ensures.within;
      act = _;
      is_turn = turn-inside (state_of c.args.self.now) c.args.opened text c.inside-what.result.0 len c.requires.here c.inside-what.ensures;
      follows = λ later keeps. follows_placed later c.args.self.now c.inside.new.self _ _ _ (rw c.front-spelling.ensures at (c.in_ok-inside.ensures.follows later keeps)) refl refl (rw (c.past-behind.ensures.value, c.front-spelling.ensures) refl);
      room = record { lines = omega arith; columns = omega arith };
    }
