use Rattle.std.proofs.Common.{length}
use Rattle.gv_lex.specs.Lexing.{reading, reading_of}
use Rattle.gv_lex.specs.Steps.{state_of, HasRoom, AlwaysCompletes}
use Rattle.gv_lex.specs.Tokens.{KeepsNames}
use Rattle.gv_lex.proofs.file.lex_characters.Given as goal

abbrev pub invariant-turns : goal.invariant-turns
invariant-turns l = record {
  completes : AlwaysCompletes l.names l.lexer (reading (state_of l.lexer) 0 l.rest) (reading_of l.file l.text);
  names : KeepsNames l.initial.names l.names;
  room : HasRoom l.lexer.place (length l.rest);
}

abbrev pub decreases-turns : goal.decreases-turns
decreases-turns l = length l.rest
