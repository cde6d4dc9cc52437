use Rattle.std.proofs.Common.{List, length}
use Rattle.gv_lex.specs.declared.token.Token.{Token}
use Rattle.gv_grammar.specs.Stmts.{MayLine}
use Rattle.gv_blocks.proofs.words.may_line.Given as goal

-- what is passed from here is what is passed
abbrev pub invariant-loop : goal.invariant-loop
invariant-loop l = (after : List Token) → MayLine l.cursor.rest.now after → MayLine l.initial.cursor.rest.now after

abbrev pub decreases-loop : goal.decreases-loop
decreases-loop l = length l.cursor.rest.now
