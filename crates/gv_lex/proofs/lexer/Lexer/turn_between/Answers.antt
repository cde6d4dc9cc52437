use Rattle.std.proofs.Common.{◌≡◌, ◌∙◌, length, ap, refl, arith}
use Rattle.std.proofs.lemmas.List.{length-take-le}
use Rattle.gv_lex.specs.Steps.{state_of}
use Rattle.gv_lex.proofs.Putting.{follows_placed}
use Rattle.gv_lex.proofs.Turning.{turn-between}
use Rattle.gv_lex.proofs.lexer.Lexer.turn_between.Goals as goal

pub returns-clause-turns : goal.returns-clause-turns
returns-clause-turns c =
    let text = c.args.text.now in
    let len = c.between-what.result.1 in
    let short : length c.front-spelling.result.now ≡ len = ap length c.front-spelling.ensures ∙ length-take-le len text c.between-what.ensures.within in
    record {
      some = c.between-what.ensures.some;
      within = c.between-what.ensures.within;
      act = _;
      is_turn = turn-between (state_of c.args.self.now) text c.between-what.result.0 len c.requires.here c.between-what.ensures;
      follows = λ later keeps. follows_placed later c.args.self.now c.between.new.self _ _ _ (rw c.front-spelling.ensures at (c.in_ok-between.ensures.follows later keeps)) refl refl (rw (c.past-behind.ensures.value, c.front-spelling.ensures) refl);
      room = record { lines = omega arith; columns = omega arith };
    }
