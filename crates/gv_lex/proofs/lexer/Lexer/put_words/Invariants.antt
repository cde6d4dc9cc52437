use Rattle.std.proofs.Common.{ℕ, List, length}
use Rattle.gv_lex.specs.declared.lexer.Lexer.{Lexer}
use Rattle.gv_lex.specs.Lexing.{path_tokens, words_of}
use Rattle.gv_lex.specs.Steps.{HasRoom, Puts}
use Rattle.gv_lex.specs.Tokens.{KeepsNames}
use Rattle.gv_lex.proofs.lexer.Lexer.put_words.Given as goal

abbrev pub invariant-words : goal.invariant-words
invariant-words l = record {
  puts : (later : List (List ℕ)) (new : Lexer) → KeepsNames l.names later → Puts later l.self (path_tokens l.here (words_of l.rest)) new
      → Puts later l.initial.self (path_tokens l.initial.here (words_of l.initial.rest)) new;
  names : KeepsNames l.initial.names l.names;
  room : HasRoom l.here (length l.rest);
}

abbrev pub decreases-words : goal.decreases-words
decreases-words l = length l.rest
