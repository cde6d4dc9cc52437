use Rattle.std.proofs.Common.{◌≡◌, ◌+◌, drop}
use Rattle.gv_lex.specs.Steps.{word_len}
use Rattle.gv_lex.proofs.lexer.word_len.Given as goal

abbrev pub invariant-loop-index : goal.invariant-loop-index
invariant-loop-index l = word_len l.path ≡ l.index + word_len (drop l.index l.path)
